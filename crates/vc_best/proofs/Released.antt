-- A block that is freed and takes the free extent behind it, before what it is then and the one before it become one.
use Rattle.vc_base.proofs.Common.{◌≡◌, ℕ, Bool, true, false, not, ◌&&◌, eqb, List, [], ◌∷◌, ◌++◌, Some, None, Option, sym, refl, ap, ◌∙◌, subst, ⊎_elim, append_assoc, arith, and_parts, cases_Bool, place_of}
use Rattle.vc_best.proofs.Common.{Extent, GapsChange, HasGapsBy, IsBusy, IsMerged, Tiling, absorb, behind, behind_of, change_at, change_extent, extent_of, extents_of, first_of, free_before, free_extent, free_name, free_next, is_free, is_merged, last_before, mark_free, no_links}
use Rattle.vc_best.specs.Beside.{IsMergedBut}
use Rattle.vc_best.specs.Changes.{leave_out}
use Rattle.vc_gaps.proofs.Named.{extents_of-here}
use Rattle.vc_best.proofs.Cuts.{behind-here, change_at-here}
use Rattle.vc_best.proofs.Known.{IsCut, off-of, then-behind, then-steps}
use Rattle.vc_best.proofs.Merges.{merged-any, merged-at, merged-in, merged-weaker}
use Rattle.vc_best.proofs.Outs.{gaps-group, gaps-swap}
use Rattle.vc_best.proofs.FreeBlocks.{IsAbsorbed, absorbed, both, freed}
use Rattle.vc_best.proofs.FreeGaps.{marked}

-- what stands behind some of these
merged-rest : (xs zs : List Extent) (v : Bool) → is_merged v (xs ++ zs) ≡ true → is_merged false zs ≡ true
merged-rest [] zs v m = merged-any v zs m
merged-rest (x ∷ xs) zs v m = merged-rest xs zs (is_free x) (and_parts (not (v && is_free x)) (is_merged (is_free x) (xs ++ zs)) m).1

-- what may stand behind a free one isn't free
name-behind : (n : ℕ) (ys : List Extent) → is_merged true ys ≡ true → free_name n (first_of ys) ≡ []
name-behind n [] m = refl
name-behind n (y ∷ ys) m =
    let no : not (is_free y) ≡ true = (and_parts (not (true && is_free y)) (is_merged (is_free y) ys) m).0 in
    ⊎_elim
    (λ (t : is_free y ≡ true). absurd (let q : false ≡ true = rw t at no in cc))
    (λ (t : is_free y ≡ false). rw t refl)
    (cases_Bool (is_free y))

-- the extent before one stays where what it is changes
last-freed : (last : Option Extent) (off : ℕ) (es : List Extent) → last_before last off (change_at off freed es) ≡ last_before last off es
last-freed last off [] = refl
last-freed last off (e ∷ es) =
    ⊎_elim
    (λ (t : eqb e.off off ≡ true). rw t (own e es t))
    (λ (t : eqb e.off off ≡ false). rw t (rw t (last-freed (Some e) off es)))
    (cases_Bool (eqb e.off off))
  where
    own : (e : Extent) (ys : List Extent) → eqb e.off off ≡ true → last_before last off (freed e ys) ≡ last
    own e [] t = rw t refl
    own e (y ∷ ys) t =
        ⊎_elim
        (λ (u : is_free y ≡ true). rw (u, t) refl)
        (λ (u : is_free y ≡ false). rw (u, t) refl)
        (cases_Bool (is_free y))

module _ (t t1 t2 : Tiling) (a : ℕ) (c : IsCut t a) (is1 : t1 ≡ change_extent a mark_free t) (is2 : t2 ≡ change_extent a absorb t1) where
  abbrev e : Extent
  e = extent_of t a

  abbrev ys : List Extent
  ys = behind_of t a

  abbrev alone : Extent
  alone = free_extent (extent_of t a).off (extent_of t a).span no_links

  is : t2 ≡ change_extent a freed t
  is = both t t1 t2 a c is1 is2

  pub before-freed : free_before t2 a ≡ free_before t a
  before-freed =
      let n = (place_of a).0 in
      let off = (place_of a).1 in
      ap (λ (s : Tiling). free_name n (last_before None off (extents_of n s))) is
      ∙ (ap (λ (es : List Extent). free_name n (last_before None off es)) (extents_of-here n (change_at off freed) t refl)
      ∙ ap (free_name n) (last-freed None off (extents_of n t)))

  taken : is_merged false (behind_of t a) ≡ true → IsAbsorbed alone (behind_of t a) (freed (extent_of t a) (behind_of t a))
  taken tail = absorbed alone ys refl tail

  own-off : (x : IsAbsorbed alone (behind_of t a) (freed (extent_of t a) (behind_of t a))) → x.first.off ≡ (place_of a).1
  own-off x = x.off ∙ off-of t a c

  pub merged_but-freed : IsMerged t → IsMergedBut t2 a
  merged_but-freed m =
      let off = (place_of a).1 in
      let out : Extent → List Extent → List Extent = λ x zs. change_at off leave_out (freed x zs) in
      let tail : is_merged false ys ≡ true =
      merged-any (is_free e) ys (and_parts (not (false && is_free e)) (is_merged (is_free e) ys) (merged-rest c.cut.before (e ∷ ys) false (ap (is_merged false) (sym c.cut.is) ∙ merged-in (place_of a).0 t m))).1 in
      let x = taken tail in
      let left : out e ys ≡ x.rest = ap (change_at off leave_out) x.is ∙ change_at-here off x.first x.rest (own-off x) leave_out in
      let rest : behind_of t2 a ≡ x.rest = then-behind t t2 a a freed c is refl (omega arith) ∙ (ap (behind off) x.is ∙ behind-here off x.first x.rest (own-off x)) in
      record {
        others =
            subst IsMerged (sym (then-steps t t2 a a freed c is refl (omega arith) (change_extent a leave_out t2) leave_out out refl refl))
            (merged-at t a out c (λ v own. ap (is_merged v) left ∙ merged-weaker v x.rest x.merged) m);
        next = ap (λ zs. free_name (place_of a).0 (first_of zs)) rest ∙ name-behind (place_of a).0 x.rest x.merged;
      }

-- the free extents beside it are out of the tree, and then those that may become one
pub gaps-freed_before : (t t1 t2 : Tiling) (a : ℕ) → t1 ≡ change_extent a mark_free t → IsBusy t a → free_next t1 a ≡ free_next t a → GapsChange t1 t2 (a ∷ free_next t1 a) (a ∷ []) → free_before t2 a ≡ free_before t a →
    GapsChange t t2 (free_before t a ++ free_next t a) (free_before t2 a ++ a ∷ [])
gaps-freed_before t t1 t2 a is1 busy same g2 before u root out h =
    let ps : List ℕ = free_before t a in
    let ns : List ℕ = free_next t a in
    let apart : HasGapsBy u t root (ps ++ (ns ++ out)) = subst (HasGapsBy u t root) (append_assoc ps ns out) h in
    let one : HasGapsBy u t2 root (a ∷ (ps ++ out)) = g2 u root (ps ++ out) (marked t t1 t2 a is1 busy same g2 root (ps ++ out) (gaps-swap t root ps ns out apart)) in
    subst (λ (zs : List ℕ). HasGapsBy u t2 root ((zs ++ a ∷ []) ++ out)) (sym before) (gaps-group t2 root ps (a ∷ []) out (gaps-swap t2 root (a ∷ []) ps out one))
