-- A tree of gaps where an extent that isn't in it changes, or a segment is added.
use Rattle.vc_base.proofs.Common.{◌≡◌, ℕ, ◌+◌, ◌-◌, ◌<◌, ◌≤◌, true, false, cond, not, ◌&&◌, ◌||◌, eqb, ltb, ◌≢◌, List, [], ◌∷◌, sym, refl, ap, ◌∙◌, subst, ⊎_elim, true≢false, arith, ne_eqb, and-false, contains, address, place_of}
use Rattle.vc_gaps.proofs.Common.{Extent, HasGapsBy, IsBusy, Tiling, change_extent, extent_in, extent_of, extents_of, free_extent, is_free, mark_busy, mark_free, no_links, split}
use Rattle.vc_base.proofs.Members.{apart-head, apart-tail, within-head, within-cases}
use Rattle.vc_splay.specs.Tree.{Tree}
use Rattle.vc_gaps.proofs.Carried.{gaps-touched}
use Rattle.vc_gaps.proofs.Named.{behind_of, extent_in-off, extent_of-here, extent_of-other, extent_of-single, off-differs}

-- an address that is out, and one that names no free extent
pub out-of : (t : Tiling) (a : ℕ) (out : List ℕ) → contains out a ≡ true → (is_free t a && not (contains out a)) ≡ false
out-of t a out h = ap (λ z. is_free t a && not z) h ∙ and-false (is_free t a)

pub none-of : (t : Tiling) (a : ℕ) (out : List ℕ) → is_free t a ≡ false → (is_free t a && not (contains out a)) ≡ false
none-of t a out h = ap (λ z. z && not (contains out a)) h

pub busy-none : (t : Tiling) (a : ℕ) → 0 < (extent_of t a).size → is_free t a ≡ false
busy-none t a h = ap (λ z. ltb 0 (extent_of t a).span && z) (ne_eqb (extent_of t a).size 0 (λ z. omega arith)) ∙ and-false (ltb 0 (extent_of t a).span)

pub contains-there : (a b : ℕ) (out : List ℕ) → b ≢ a → contains (a ∷ out) b ≡ contains out b
contains-there a b out ne = ap (λ z. z || contains out b) (ne_eqb a b (λ z. ne (sym z)))

module _ (old new : Tiling) (a : ℕ) (change : Extent → List Extent → List Extent) (e : new ≡ change_extent a change old) where
  module _ (x : Extent) (off : x.off ≡ (place_of a).1) (made : change (extent_of old a) (behind_of old a) ≡ x ∷ behind_of old a) where
    -- it isn't in the tree, before and then
    pub gaps-single : {u : Tree} (root : ℕ) (out after : List ℕ) → ((b : ℕ) → b ≢ a → contains after b ≡ contains out b) → (is_free old a && not (contains out a)) ≡ false → (is_free new a && not (contains after a)) ≡ false → HasGapsBy u old root out → HasGapsBy u new root after
    gaps-single root out after same before then h =
        gaps-touched old new root (a ∷ []) out after
        (λ b apart. let ne : b ≢ a = λ q. apart-head a [] b apart (sym q) in (extent_of-single old new a change e x off made b ne, same b ne))
        (λ b touched.
        ⊎_elim
        (λ (q : a ≡ b). (subst (λ z. (is_free old z && not (contains out z)) ≡ false) q before, subst (λ z. (is_free new z && not (contains after z)) ≡ false) q then))
        (λ (k : contains [] b ≡ true). absurd (true≢false (sym k)))
        (within-cases a [] b touched))
        h

module _ (old new : Tiling) (root a : ℕ) (out : List ℕ) where
  -- a gap that is out becomes busy
  pub gaps-busy : {u : Tree} (size tag : ℕ) (body : List ℕ) → new ≡ change_extent a (mark_busy size tag body) old → 1 ≤ size → 0 < (extent_of old a).span → HasGapsBy u old root (a ∷ out) → HasGapsBy u new root out
  gaps-busy size tag body e some named h =
      let x : Extent = record { off = (extent_of old a).off; span = (extent_of old a).span; size = size; tag = tag; links = no_links; body = body } in
      let off : x.off ≡ (place_of a).1 = extent_in-off (place_of a).1 (extents_of (place_of a).0 old) in
      let now : extent_of new a ≡ x = extent_of-here old new a (mark_busy size tag body) e x (behind_of old a) named off refl in
      gaps-single old new a (mark_busy size tag body) e x off refl root (a ∷ out) out
      (λ b ne. sym (contains-there a b out ne))
      (out-of old a (a ∷ out) (within-head a out))
      (none-of new a out (busy-none new a (subst (λ (z : Extent). 0 < z.size) (sym now) (omega arith))))
      h

  -- a busy extent becomes a gap, which is out
  pub gaps-freed : {u : Tree} → new ≡ change_extent a mark_free old → IsBusy old a → HasGapsBy u old root out → HasGapsBy u new root (a ∷ out)
  gaps-freed e busy h =
      let x : Extent = free_extent (extent_of old a).off (extent_of old a).span no_links in
      gaps-single old new a mark_free e x (extent_in-off (place_of a).1 (extents_of (place_of a).0 old)) refl root out (a ∷ out)
      (λ b ne. contains-there a b out ne)
      (none-of old a out (busy-none old a busy.busy))
      (out-of new a (a ∷ out) (within-head a out))
      h

  -- a busy extent stays busy, with its place
  pub gaps-stay : {u : Tree} (change : Extent → List Extent → List Extent) (x : Extent) → new ≡ change_extent a change old → change (extent_of old a) (behind_of old a) ≡ x ∷ behind_of old a → x.off ≡ (place_of a).1 → 0 < x.size → IsBusy old a
      → HasGapsBy u old root out → HasGapsBy u new root out
  gaps-stay change x e made off some busy h =
      let now : extent_of new a ≡ x = extent_of-here old new a change e x (behind_of old a) busy.named off made in
      gaps-single old new a change e x off made root out out
      (λ b ne. refl)
      (none-of old a out (busy-none old a busy.busy))
      (none-of new a out (busy-none new a (subst (λ (z : Extent). 0 < z.size) (sym now) some)))
      h

  -- a gap that is out becomes two, of which both are
  pub gaps-split : {u : Tree} (span b : ℕ) → new ≡ change_extent a (split span) old → b ≡ address ((place_of a).0, (place_of a).1 + span) → is_free old b ≡ false → HasGapsBy u old root (a ∷ out) → HasGapsBy u new root (a ∷ b ∷ out)
  gaps-split span b e is none h =
      let own : (extent_of old a).off ≡ (place_of a).1 = extent_in-off (place_of a).1 (extents_of (place_of a).0 old) in
      gaps-touched old new root (a ∷ b ∷ []) (a ∷ out) (a ∷ b ∷ out)
      (λ c apart.
      let ne : c ≢ a = λ q. apart-head a (b ∷ []) c apart (sym q) in
      let other : c ≢ b = λ q. apart-head b [] c (apart-tail a (b ∷ []) c apart) (sym q) in (
        extent_of-other old new a (split span) e c ne
            (λ q.
            let differs : (place_of c).1 ≢ (place_of a).1 = off-differs a c ne q in
            let behind : (place_of c).1 ≢ (extent_of old a).off + span = λ z. other (let o = own in omega arith) in
            ap (λ z. cond z (free_extent (extent_of old a).off span no_links) (cond (eqb ((extent_of old a).off + span) (place_of c).1) (free_extent ((extent_of old a).off + span) ((extent_of old a).span - span) no_links) (extent_in (place_of c).1 (behind_of old a)))) (ne_eqb (extent_of old a).off (place_of c).1 (λ z. differs (sym z ∙ own)))
            ∙ ap (λ z. cond z (free_extent ((extent_of old a).off + span) ((extent_of old a).span - span) no_links) (extent_in (place_of c).1 (behind_of old a))) (ne_eqb ((extent_of old a).off + span) (place_of c).1 (λ z. behind (sym z)))
            ∙ sym (ap (λ z. cond z (extent_of old a) (extent_in (place_of c).1 (behind_of old a))) (ne_eqb (extent_of old a).off (place_of c).1 (λ z. differs (sym z ∙ own))))),
        contains-there a c (b ∷ out) ne ∙ contains-there b c out other ∙ sym (contains-there a c out ne),
      ))
      (λ c touched.
      ⊎_elim
      (λ (q : a ≡ c). subst (λ z. ((is_free old z && not (contains (a ∷ out) z)) ≡ false) × ((is_free new z && not (contains (a ∷ b ∷ out) z)) ≡ false)) q (out-of old a (a ∷ out) (within-head a out), out-of new a (a ∷ b ∷ out) (within-head a (b ∷ out))))
      (λ (k : contains (b ∷ []) c ≡ true).
      ⊎_elim
      (λ (q : b ≡ c).
      subst (λ z. ((is_free old z && not (contains (a ∷ out) z)) ≡ false) × ((is_free new z && not (contains (a ∷ b ∷ out) z)) ≡ false)) q
      (none-of old b (a ∷ out) none, out-of new b (a ∷ b ∷ out) (second-here a b out)))
      (λ (j : contains [] c ≡ true). absurd (true≢false (sym j)))
      (within-cases b [] c k))
      (within-cases a (b ∷ []) c touched))
      h
    where
      second-here : (a b : ℕ) (out : List ℕ) → contains (a ∷ b ∷ out) b ≡ true
      second-here a b out = elim (eqb a b) as (λ z. (z || contains (b ∷ out) b) ≡ true) [ true ↦ refl | false ↦ within-head b out ]
