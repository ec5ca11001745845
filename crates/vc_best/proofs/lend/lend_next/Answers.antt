use Rattle.vc_base.proofs.Common.{◌≡◌, ◌≢◌, ℕ, ◌-◌, ◌<◌, ◌⊎◌, true, false, List, [], ◌∷◌, ◌++◌, None, sym, refl, ap, ◌∙◌, subst, ⊎_elim, arith, length, map, length-map, length-replicate, le_prop, ∥∥₁_elim, true≢false, lt-ltb, Terms, Granted, TooMany, ask, lowest_unused, new_segment, numbers}
use Rattle.std.specs.Option.{IsNone}
use Rattle.vc_model.specs.Segments.{growing}
use Rattle.vc_seg.proofs.Grants.{asked-new}
use Rattle.vc_seg.specs.Lend.{IsNoGrant}
use Rattle.vc_seg.specs.Segment.{Bytes, pair_of}
use Rattle.vc_seg.specs.declared.fault.RegionFault.{RegionFault}
use Rattle.vc_seg.specs.declared.fault.RegionFault.TheVariants as code
use Rattle.vc_extent.specs.Tiling.{AreExtents}
use Rattle.vc_extent.specs.Extent.{free_extent, no_links}
use Rattle.vc_best.proofs.Common.{tiling}
use Rattle.vc_best.proofs.lend.lend_next.Goals as goal
use Rattle.vc_best.proofs.lend.lend_next.Goals.{After-lowest_unused, In-Some}
use Rattle.vc_best.proofs.lend.lend_next.Given.{Over}

module _ (terms : Terms) (bytes : ℕ) (ss : List (ℕ × ℕ)) (new : growing terms ss ≡ None) (few : length ss < 1023) where
  granted : ask terms bytes ss false ≡ Granted (new_segment (lowest_unused (numbers ss)) bytes)
  granted = asked-new terms bytes ss false new ∙ rw (lt-ltb (length ss) 1023 few) refl

  not_lent : (e : RegionFault) → (e ≡ code.NoSegment) ⊎ (e ≡ code.OutOfMemory) → IsNoGrant terms bytes ss e
  not_lent e only =
      ⊎_elim
      (λ (t : e ≡ code.NoSegment). subst (IsNoGrant terms bytes ss) (sym t) (asked-new terms bytes ss true new ∙ rw (lt-ltb (length ss) 1023 few) refl))
      (λ (t : e ≡ code.OutOfMemory). subst (IsNoGrant terms bytes ss) (sym t) tt)
      only

  may : ask terms bytes ss false ≢ TooMany
  may many = let other : Granted (new_segment (lowest_unused (numbers ss)) bytes) ≡ TooMany = sym granted ∙ many in absurd (cc)

-- there are fewer than 1,023
few-segments : (xs : List Bytes) (index : List ℕ) → ∥ AreExtents xs index ∥₁ → (length xs ≢ 1023) → length (map pair_of xs) < 1023
few-segments xs index kept other =
    let long = length-map xs pair_of in
    ∥∥₁_elim kept (le_prop) (λ k. let most = k.segments.few in omega (arith, long, most, other))

-- the terms of the discipline, and the segments
abbrev terms : (g : Over) (c : After-lowest_unused g) → Terms
terms g c = ((goal.SegDisc-dyn g (c.args.disc.now.vtable, c.args.disc.now.value)).state c.args.disc.now.value).terms

few : (g : Over) (c : In-Some g) → length (map pair_of c.args.extents.now.segs.items) < 1023
few g c =
    few-segments c.args.extents.now.segs.items c.args.extents.now.index.items c.args.extents.now.kept
    (λ full. true≢false (subst IsNone c.in-Some.is (c.lowest_unused.ensures.none.1 full)))

pub returns-in-Ok-clause-lent : goal.returns-in-Ok-clause-lent
returns-in-Ok-clause-lent g c =
    let at = goal.at.returns-in-Ok-clause-lent g c in
    let segs = c.args.extents.now.segs.items in
    let n = c.in-Some.number in
    let number : c.in-Ok.segment.number ≡ n = ap (λ (s : Bytes). s.number) c.in-Ok.ensures.segment in
    let long : length c.in-Ok.segment.bytes ≡ c.args.bytes = ap (λ (s : Bytes). length s.bytes) c.in-Ok.ensures.segment ∙ length-replicate {A = ℕ} c.args.bytes 0 in
    record {
      granted = granted (terms g at.After-lowest_unused) c.args.bytes (map pair_of segs) c.requires.new (few g at.In-Some) ∙ ap (λ k. Granted (new_segment k c.args.bytes)) (sym c.in-Some.ensures.value);
      extents = c.add.ensures.tiling ∙ ap (λ k. tiling segs ++ (k, free_extent 32 (length c.in-Ok.segment.bytes - 32) no_links ∷ []) ∷ []) number ∙ ap (λ l. tiling segs ++ (n, free_extent 32 (l - 32) no_links ∷ []) ∷ []) long;
      pairs = c.add.ensures.pairs ∙ ap (λ k. map pair_of segs ++ (k, length c.in-Ok.segment.bytes) ∷ []) number ∙ ap (λ l. map pair_of segs ++ (n, l) ∷ []) long;
      first = c.in-Some.ensures.first;
      last = c.in-Some.ensures.last;
      fresh = c.in-Some.ensures.unused;
    }

pub returns-in-Err-clause-fault : goal.returns-in-Err-clause-fault
returns-in-Err-clause-fault g c =
    let at = goal.at.returns-in-Err-clause-fault g c in
    not_lent (terms g at.After-lowest_unused) c.args.bytes (map pair_of c.args.extents.now.segs.items) c.requires.new (few g at.In-Some) c.in-Err.fault c.in-Err.ensures.only

pub returns-in-Err-clause-no_memory : goal.returns-in-Err-clause-no_memory
returns-in-Err-clause-no_memory g c =
    let at = goal.at.returns-in-Err-clause-no_memory g c in
    λ e. may (terms g at.After-lowest_unused) c.args.bytes (map pair_of c.args.extents.now.segs.items) c.requires.new (few g at.In-Some)
