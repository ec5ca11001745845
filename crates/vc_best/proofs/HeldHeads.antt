-- A best region's blocks have heads, whatever shows that its segments are tiled.
use Rattle.vc_base.proofs.Common.{◌≡◌, ℕ, ◌+◌, ◌≤◌, Bool, true, false, ◌&&◌, eqb, ltb, leb, List, get_or, ◌==◌, All, ap, ◌∙◌, inl, inr, ⊎_elim, arith, ltb-false, ltb-true, eq-eqb, le-leb, le_prop, ∥∥₁_elim, ℕ_set, and_from, cases_Bool, list_any_at, Run, Block, footprint, is_usable, IsUsable}
use Rattle.vc_best.proofs.Common.{AreExtents, Bytes, layout_by}
use Rattle.std.proofs.Math.Bool.{Bool-set}
use Rattle.vc_seg.proofs.Resizes.{usable-any}
use Rattle.vc_best.proofs.HaveHeads.{HaveHeads}
use Rattle.vc_best.proofs.Tilings.{heads-of}

-- a run that lies in a segment passes the test
is-usable : (f : Run) (ss : List (ℕ × ℕ)) → IsUsable ss f → is_usable ss f ≡ true
is-usable f ss u =
    let test : ℕ × ℕ → Bool = λ s. (f.seg == s.0) && (leb 16 f.from && leb (f.to + 16) s.1) in
    let here : test u.1 ≡ true =
    and_from (eqb f.seg u.1.0) (leb 16 f.from && leb (f.to + 16) u.1.1) (eq-eqb f.seg u.1.0 u.4.0)
    (and_from (leb 16 f.from) (leb (f.to + 16) u.1.1) (le-leb 16 f.from u.4.1) (le-leb (f.to + 16) u.1.1 u.4.2)) in
    list_any_at test ss u.0 u.1 u.2 (ap test u.3 ∙ here)

module _ (segs : List Bytes) (index : List ℕ) (k : ∥ AreExtents segs index ∥₁) (most : All (λ b. b.size ≤ 16777264) (layout_by segs).blocks) where
  pub held-heads : HaveHeads (layout_by segs)
  held-heads =
      record {
        blocks = λ i d lt.
            let f : Run = footprint (get_or (layout_by segs).blocks i d) in
            record {
              slot = ∥∥₁_elim k (hlevel (le_prop, ℕ_set)) (λ h. ((heads-of segs index h most).blocks i d lt).slot);
              usable = usable-any f (layout_by segs).segments (∥∥₁_elim k (hlevel (Bool-set)) (λ h. is-usable f (layout_by segs).segments ((heads-of segs index h most).blocks i d lt).usable));
            };
        apart = λ i j d lt within.
            let a : Block ℕ = get_or (layout_by segs).blocks i d in
            let b : Block ℕ = get_or (layout_by segs).blocks j d in
            ⊎_elim
            (λ (t : ltb a.seg b.seg ≡ true). inl (ltb-true a.seg b.seg t))
            (λ (t : ltb a.seg b.seg ≡ false).
            let no = ltb-false a.seg b.seg t in
            inr (∥∥₁_elim k (hlevel (ℕ_set, le_prop)) (λ h. ⊎_elim (λ u. absurd (omega (arith, u, no))) (λ u. u) ((heads-of segs index h most).apart i j d lt within))))
            (cases_Bool (ltb a.seg b.seg));
        sizes = ∥∥₁_elim k (hlevel (le_prop, ℕ_set)) (λ h. (heads-of segs index h most).sizes);
        numbered = ∥∥₁_elim k (hlevel (le_prop)) (λ h. (heads-of segs index h most).numbered);
      }
