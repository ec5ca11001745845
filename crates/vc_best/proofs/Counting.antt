-- The counts of all extents are those of the blocks and of the gaps, and stay in 64 bits.
use Rattle.vc_base.proofs.Common.{◌≡◌, ℕ, suc, ◌+◌, ◌-◌, ◌*◌, ◌≤◌, Bool, true, false, List, [], ◌∷◌, ◌++◌, map, length, All, sum, filter, sym, refl, ap, ◌∙◌, ⊎_elim, arith, length-append, le_prop, ∥∥₁_elim, cases_Bool, All-head, All-map, All-tail, sum_by-append, sum_by-cons, length-map, map-append, bytes_of, Block, lies_before, with_block, block_count, gaps_of, greatest}
use Rattle.vc_best.proofs.Common.{AreExtents, Bytes, Extent, HaveRoom, IsLegal, IsMerged, all_busy, all_extents, block_of, busy_in, busy_sizes, counts_of_none, counts_with, extents, free_in, free_runs, free_spans, in_order, is_busy, is_free, layout_by, pair_of, run_of_extent, tiling}
use Rattle.vc_best.proofs.Counts.{shown-append}
use Rattle.vc_model.specs.Numbers.{block_bytes, gap_bytes, gap_count, greatest_block, greatest_gap}
use Rattle.vc_seg.specs.Tally.{HasRoom, tally_of}
use Rattle.vc_seg.proofs.Tallies.{sizes-most, tallied-order, tally_of-bytes, tally_of-count, tally_of-most}
use Rattle.vc_extent.proofs.Tiled.{inside}
use Rattle.vc_best.proofs.Frees.{gaps-of}
use Rattle.vc_best.proofs.Lies.{Lies, Tiled, lies-tiled}

-- what the extents of a segment count at most
record Few (sizes : List ℕ) (room : ℕ) : Type 0 where
  long : 32 * length sizes ≤ room
  all : sum sizes ≤ room

-- some of the extents, of which each counts what it spans at most
module _ (p : Extent → Bool) (g : Extent → ℕ) (within : (e : Extent) → IsLegal e → g e ≤ e.span) where
  few-in : (stop at : ℕ) (es : List Extent) → Lies stop at es → Few (map g (filter p es)) (stop - at)
  few-in stop at [] h = record { long = omega arith; all = omega arith }
  few-in stop at (e ∷ es) h =
      let r = few-in stop (at + e.span) es h.1 in
      let end = h.0.within in
      let least = h.0.legal.least in
      let long = r.long in
      let all = r.all in
      ⊎_elim
      (λ (t : p e ≡ true). rw t (record { long = omega arith; all = omega (arith, sum_by-cons (λ (m : ℕ). m) (g e) (map g (filter p es)), within e h.0.legal) }))
      (λ (t : p e ≡ false). rw t (record { long = omega arith; all = omega arith }))
      (cases_Bool (p e))

  all-few : (segs : List Bytes) → All Tiled segs → Few (map g (filter p (all_extents (tiling segs)))) (length segs * 33554432)
  all-few [] h = record { long = omega arith; all = omega arith }
  all-few (s ∷ ss) h =
      let tile = All-head Tiled s ss h in
      let r = all-few ss (All-tail Tiled s ss h) in
      let own = few-in (length s.bytes - 16) 16 (extents s.bytes) (lies-tiled s.bytes tile) in
      let most = tile.size.most in
      let xs = map g (filter p (extents s.bytes)) in
      let ys = map g (filter p (all_extents (tiling ss))) in
      rw (shown-append p g (extents s.bytes) (all_extents (tiling ss)))
      (record { long = omega (arith, r.long, own.long, length-append xs ys); all = omega (arith, r.all, own.all, sum_by-append (λ (m : ℕ). m) xs ys) })

-- the sizes of all blocks, as extents stand
sizes-all : (t : List (ℕ × List Extent)) → map (λ b. b.size) (all_busy t) ≡ busy_sizes (all_extents t)
sizes-all [] = refl
sizes-all (s ∷ ss) =
    map-append (λ (b : Block ℕ). b.size) (busy_in s) (all_busy ss)
    ∙ (ap (λ ns. ns ++ map (λ b. b.size) (all_busy ss)) (sizes-in s.0 (filter is_busy s.1))
    ∙ (ap (λ ns. busy_sizes s.1 ++ ns) (sizes-all ss)
    ∙ sym (shown-append is_busy (λ (e : Extent). e.size) s.1 (all_extents ss))))
  where
    sizes-in : (n : ℕ) (es : List Extent) → map (λ b. b.size) (map (block_of n) es) ≡ map (λ (e : Extent). e.size) es
    sizes-in n [] = refl
    sizes-in n (e ∷ es) = ap (λ ns. e.size ∷ ns) (sizes-in n es)

-- the bytes of all free runs
spans-all : (t : List (ℕ × List Extent)) → map bytes_of (free_runs t) ≡ free_spans (all_extents t)
spans-all [] = refl
spans-all (s ∷ ss) =
    map-append bytes_of (free_in s) (free_runs ss)
    ∙ (ap (λ ns. ns ++ map bytes_of (free_runs ss)) (spans-in s.0 (filter is_free s.1))
    ∙ (ap (λ ns. free_spans s.1 ++ ns) (spans-all ss)
    ∙ sym (shown-append is_free (λ (e : Extent). e.span) s.1 (all_extents ss))))
  where
    spans-in : (n : ℕ) (es : List Extent) → map bytes_of (map (run_of_extent n) es) ≡ map (λ (e : Extent). e.span) es
    spans-in n [] = refl
    spans-in n (e ∷ es) =
        let own : e.off - 16 + e.span - (e.off - 16) ≡ e.span = omega arith in
        ap (λ k. k ∷ map bytes_of (map (run_of_extent n) es)) own ∙ ap (λ ns. e.span ∷ ns) (spans-in n es)

-- in whichever order blocks are put
pub with-length : (b : Block ℕ) (bs : List (Block ℕ)) → length (with_block b bs) ≡ suc (length bs)
with-length b [] = refl
with-length b (c ∷ cs) =
    ⊎_elim (λ (t : lies_before b c ≡ true). rw t refl) (λ (t : lies_before b c ≡ false). rw t (ap suc (with-length b cs))) (cases_Bool (lies_before b c))

order-length : (bs : List (Block ℕ)) → length (in_order bs) ≡ length bs
order-length [] = refl
order-length (b ∷ bs) = with-length b (in_order bs) ∙ ap suc (order-length bs)

order-sum : (bs : List (Block ℕ)) → sum (map (λ c. c.size) (in_order bs)) ≡ sum (map (λ c. c.size) bs)
order-sum bs =
    sym (tally_of-bytes (map (λ (b : Block ℕ). b.size) (in_order bs)))
    ∙ ap (λ t. t.bytes) (tallied-order (tally_of []) bs)
    ∙ tally_of-bytes (map (λ (b : Block ℕ). b.size) bs)

order-most : (bs : List (Block ℕ)) → greatest (map (λ c. c.size) (in_order bs)) ≡ greatest (map (λ c. c.size) bs)
order-most bs =
    sym (tally_of-most (map (λ (b : Block ℕ). b.size) (in_order bs)))
    ∙ ap (λ t. t.most) (tallied-order (tally_of []) bs)
    ∙ tally_of-most (map (λ (b : Block ℕ). b.size) bs)

module _ (segs : List Bytes) (index : List ℕ) (k : ∥ AreExtents segs index ∥₁) where
  few : length segs ≤ 1023
  few = ∥∥₁_elim k (hlevel (le_prop)) (λ j. j.segments.few)

  few-of : (p : Extent → Bool) (g : Extent → ℕ) → ((e : Extent) → IsLegal e → g e ≤ e.span) → Few (map g (filter p (all_extents (tiling segs)))) (length segs * 33554432)
  few-of p g within = record { long = ∥∥₁_elim k (hlevel (le_prop)) (λ j. (all-few p g within segs j.tiled).long); all = ∥∥₁_elim k (hlevel (le_prop)) (λ j. (all-few p g within segs j.tiled).all) }

  few-sizes : Few (busy_sizes (all_extents (tiling segs))) (length segs * 33554432)
  few-sizes = few-of is_busy (λ e. e.size) (λ e h. omega (arith, inside e h))

  few-spans : Few (free_spans (all_extents (tiling segs))) (length segs * 33554432)
  few-spans = few-of is_free (λ e. e.span) (λ e h. omega arith)

  pub room-all : HaveRoom counts_of_none (all_extents (tiling segs))
  room-all =
      record {
        blocks = record { count = omega (arith, few, few-sizes.long); bytes = omega (arith, few, few-sizes.all) };
        gaps = record { count = omega (arith, few, few-spans.long); bytes = omega (arith, few, few-spans.all) };
      }

  pub room-segments : HasRoom (tally_of []) (map (λ s. s.1) (map pair_of segs))
  room-segments =
      let all : sum (map (λ (s : ℕ × ℕ). s.1) (map pair_of segs)) ≤ length (map (λ (s : ℕ × ℕ). s.1) (map pair_of segs)) * 33554432 =
      ∥∥₁_elim k (hlevel (le_prop)) (λ j. sizes-most 33554432 (map (λ (s : ℕ × ℕ). s.1) (map pair_of segs)) (All-map (λ (n : ℕ). n ≤ 33554432) (λ (s : ℕ × ℕ). s.1) (map pair_of segs) (All-map (λ (s : ℕ × ℕ). s.1 ≤ 33554432) pair_of segs (λ i d lt. (j.segments.legal i d lt).size.most)))) in
      let long = length-map (map pair_of segs) (λ (s : ℕ × ℕ). s.1) ∙ length-map segs pair_of in
      record { count = omega (arith, few, long); bytes = omega (arith, few, all, long) }

  pub blocks-count : (counts_with counts_of_none (all_extents (tiling segs))).blocks.count ≡ block_count (layout_by segs)
  unfolding layout_by
  blocks-count =
      tally_of-count (busy_sizes (all_extents (tiling segs)))
      ∙ (ap length (sym (sizes-all (tiling segs))) ∙ (length-map (all_busy (tiling segs)) (λ (b : Block ℕ). b.size) ∙ sym (order-length (all_busy (tiling segs)))))

  -- a block takes 32 bytes at least
  pub blocks-few : length (layout_by segs).blocks ≤ 1072693248
  unfolding layout_by
  blocks-few =
      let count : length (in_order (all_busy (tiling segs))) ≡ length (busy_sizes (all_extents (tiling segs))) =
      order-length (all_busy (tiling segs)) ∙ (sym (length-map (all_busy (tiling segs)) (λ (b : Block ℕ). b.size)) ∙ ap length (sizes-all (tiling segs))) in
      omega (arith, few, few-sizes.long, count)

  pub blocks-bytes : (counts_with counts_of_none (all_extents (tiling segs))).blocks.bytes ≡ block_bytes (layout_by segs)
  unfolding layout_by
  blocks-bytes =
      tally_of-bytes (busy_sizes (all_extents (tiling segs))) ∙ (ap sum (sym (sizes-all (tiling segs))) ∙ sym (order-sum (all_busy (tiling segs))))

  pub blocks-most : (counts_with counts_of_none (all_extents (tiling segs))).blocks.most ≡ greatest_block (layout_by segs)
  unfolding layout_by
  blocks-most =
      tally_of-most (busy_sizes (all_extents (tiling segs))) ∙ (ap greatest (sym (sizes-all (tiling segs))) ∙ sym (order-most (all_busy (tiling segs))))

  module _ (merged : IsMerged (tiling segs)) where
    gap-sizes : map bytes_of (gaps_of (layout_by segs)) ≡ free_spans (all_extents (tiling segs))
    gap-sizes = ap (map bytes_of) (gaps-of segs index k merged) ∙ spans-all (tiling segs)

    pub gaps-count : (counts_with counts_of_none (all_extents (tiling segs))).gaps.count ≡ gap_count (layout_by segs)
    gaps-count = tally_of-count (free_spans (all_extents (tiling segs))) ∙ (ap length (sym gap-sizes) ∙ length-map (gaps_of (layout_by segs)) bytes_of)

    pub gaps-bytes : (counts_with counts_of_none (all_extents (tiling segs))).gaps.bytes ≡ gap_bytes (layout_by segs)
    gaps-bytes = tally_of-bytes (free_spans (all_extents (tiling segs))) ∙ ap sum (sym gap-sizes)

    pub gaps-most : (counts_with counts_of_none (all_extents (tiling segs))).gaps.most ≡ greatest_gap (layout_by segs)
    gaps-most = tally_of-most (free_spans (all_extents (tiling segs))) ∙ ap greatest (sym gap-sizes)
