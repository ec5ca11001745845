-- The extents of the ways after a command.
use Rattle.vc_base.proofs.Common.{◌≡◌, ℕ, ◌+◌, ◌-◌, ◌<◌, ◌≤◌, List, [], false, true, None, length, map, sum, refl, sym, ap, subst, arith, Layout, Outcome, Done, Refused, Put, Pool, best_alloc, best_resize, segment_bytes}
use Rattle.vc_ways.specs.Extents.{bytes_behind, newest_of, with_extents}
use Rattle.vc_ways.specs.LastWay.{LastWay, drop_dead, last_dead, last_put, last_sized}
use Rattle.vc_ways.specs.Live.{LivePlaces}
use Rattle.vc_ways.specs.PoolWay.{cell_free, cell_put, cell_sized, class_of, pool_at}
use Rattle.vc_ways.specs.Regions.{Regions, Stopped, Took, Tried, WayTerms, extent_sums, free_in_each, put_block, size_block, three_ways}
use Rattle.vc_ways.proofs.Grown.{Grown, OnDone, on-done}
use Rattle.vc_ways.proofs.Growth.{PoolsGrow, alloc-grows, cells-grow, dropped, freed-sum, grown-bytes, pool_bytes, resize-grows, sized-grow, way-put-grows, way-sized-grows}

-- what the calls in the three ways gave
record Gave (size : ℕ) (best : Outcome (Put (Layout ℕ))) (last : Outcome (ℕ × LastWay)) (pool : Outcome ((ℕ × ℕ) × List (Pool ℕ))) (t : LivePlaces × Regions) : Type 0 where
  pub b : Put (Layout ℕ)
  pub l : ℕ × LastWay
  pub p : (ℕ × ℕ) × List (Pool ℕ)
  pub best-is : best ≡ Done b
  pub last-is : last ≡ Done l
  pub pool-is : pool ≡ Done p
  pub regions : t.1 ≡ record { best = b.region; last = drop_dead l.1; pools = p.1 }

gave : (size : ℕ) (best : Outcome (Put (Layout ℕ))) (last : Outcome (ℕ × LastWay)) (pool : Outcome ((ℕ × ℕ) × List (Pool ℕ))) (t : LivePlaces × Regions) → three_ways size best last pool ≡ Took t → Gave size best last pool t
gave size (Done b) (Done l) (Done p) t e = record { b = b; l = l; p = p; best-is = refl; last-is = refl; pool-is = refl; regions = sym (took-same _ t e) }
  where
    took-same : (x y : LivePlaces × Regions) → Took x ≡ Took y → x.1 ≡ y.1
    took-same x y h = ap answered h
      where
        answered : Tried (LivePlaces × Regions) → Regions
        answered (Took z) = z.1
        answered (Stopped way why) = x.1
gave size (Done b) (Done l) (Refused why) t e = absurd (cc)
gave size (Done b) (Refused why) pool t e = absurd (cc)
gave size (Refused why) last pool t e = absurd (cc)

-- an extent, by what grew
grown-extent : (before after old new : ℕ) → (old ≤ before) × (after + old ≡ before + new) → after ≡ before - old + new
grown-extent before after old new h = omega (arith, h.0, h.1)

grown-extents : (r : Regions) (class : ℕ) (best : Layout ℕ) (last : LastWay) (pools : List (Pool ℕ)) → Grown r.best.segments best.segments → Grown r.last.region.segments last.region.segments → PoolsGrow r.pools pools class → extent_sums (record { best = best; last = last; pools = pools }) ≡ with_extents (record { best = best; last = last; pools = pools }) class (newest_of r class) (extent_sums r)
grown-extents r class best last pools h k m =
    let first = grown-extent _ _ _ _ (grown-bytes r.best.segments best.segments h) in
    let second = grown-extent _ _ _ _ (grown-bytes r.last.region.segments last.region.segments k) in
    let old = (pool_at r.pools class).layout.segments in
    let one = grown-bytes old (pool_at pools class).layout.segments m.grown in
    let all = m.sum in
    let most = m.most in
    let third : sum (map pool_bytes pools) ≡ sum (map pool_bytes r.pools) - bytes_behind (length old - 1) old + bytes_behind (length old - 1) (pool_at pools class).layout.segments = omega (arith, one.0, one.1, all, most) in
    λ i. record { best = first i; last = second i; pool = third i }

module _ (terms : WayTerms) (r : Regions) (many : length r.pools ≡ 20) (size : ℕ) (few : class_of size < 20) (t : LivePlaces × Regions) where
  by-gave : (best : Outcome (Put (Layout ℕ))) (last : Outcome (ℕ × LastWay)) (pool : Outcome ((ℕ × ℕ) × List (Pool ℕ))) → OnDone (λ b. Grown r.best.segments b.region.segments) best → OnDone (λ (l : ℕ × LastWay). Grown r.last.region.segments l.1.region.segments) last → OnDone (λ (p : (ℕ × ℕ) × List (Pool ℕ)). PoolsGrow r.pools p.1 (class_of size)) pool → three_ways size best last pool ≡ Took t → extent_sums t.1 ≡ with_extents t.1 (class_of size) (newest_of r (class_of size)) (extent_sums r)
  by-gave best last pool h k m e =
      let g = gave size best last pool t e in
      let grown = subst (λ (ss : List (ℕ × ℕ)). Grown r.last.region.segments ss) (sym (dropped g.l.1)) (on-done _ last g.l k g.last-is) in
      subst (λ (x : Regions). extent_sums x ≡ with_extents x (class_of size) (newest_of r (class_of size)) (extent_sums r)) (sym g.regions)
      (grown-extents r (class_of size) g.b.region (drop_dead g.l.1) g.p.1 (on-done _ best g.b h g.best-is) grown (on-done _ pool g.p m g.pool-is))

  -- a block is put
  pub put-extents : put_block terms r size None ≡ Took t → extent_sums t.1 ≡ with_extents t.1 (class_of size) (newest_of r (class_of size)) (extent_sums r)
  put-extents e =
      by-gave (best_alloc terms.best r.best 0 size 32 false) (last_put terms.last r.last size false) (cell_put terms.pools r.pools size false)
      (alloc-grows terms.best r.best 0 size 32 false) (way-put-grows terms.last r.last size false) (first (cell_put terms.pools r.pools size false) (cells-grow terms.pools r.pools many size false few)) e
    where
      first : (o : Outcome ((ℕ × ℕ) × List (Pool ℕ))) → OnDone (λ (p : (ℕ × ℕ) × List (Pool ℕ)). PoolsGrow r.pools p.1 (class_of size) × (length p.1 ≡ 20)) o → OnDone (λ (p : (ℕ × ℕ) × List (Pool ℕ)). PoolsGrow r.pools p.1 (class_of size)) o
      first (Done p) h = h.0
      first (Refused why) h = tt

  -- a block gets another size
  pub size-extents : (live : LivePlaces) → class_of live.size < 20 → size_block terms r live size None ≡ Took t → extent_sums t.1 ≡ with_extents t.1 (class_of size) (newest_of r (class_of size)) (extent_sums r)
  size-extents live few-old e =
      by-gave (best_resize terms.best r.best live.best size true false) (last_sized terms.last r.last live.last size false) (cell_sized terms.pools r.pools live.size live.cell size false)
      (resize-grows terms.best r.best live.best size false) (way-sized-grows terms.last r.last live.last size false) (sized-grow terms.pools r.pools many live.size size live.cell false few-old few) e

-- a block is freed
pub free-extents : (r : Regions) (live : LivePlaces) → length r.pools ≡ 20 → class_of live.size < 20 → extent_sums (free_in_each r live) ≡ extent_sums r
free-extents r live many few =
    let last : segment_bytes (drop_dead (last_dead r.last live.last)).region ≡ segment_bytes r.last.region = ap (λ (ss : List (ℕ × ℕ)). sum (map (λ s. s.1) ss)) (dropped (last_dead r.last live.last)) in
    let pool : sum (map pool_bytes (cell_free r.pools live.size live.cell)) ≡ sum (map pool_bytes r.pools) = freed-sum [] r.pools many r.pools (class_of live.size) live.cell (omega (arith, few, many)) in
    λ i. record { best = segment_bytes r.best; last = last i; pool = pool i }
