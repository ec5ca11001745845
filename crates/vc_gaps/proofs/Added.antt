-- A tree of gaps where a segment is added or taken out.
use Rattle.vc_base.proofs.Common.{◌≡◌, ℕ, ◌+◌, ◌*◌, ◌/◌, ◌%◌, ◌<◌, true, false, cond, not, ◌&&◌, eqb, ltb, ◌≢◌, List, [], ◌∷◌, ◌++◌, filter, sym, refl, ap, ◌∙◌, subst, ⊎_elim, true≢false, arith, eq-eqb, ne_eqb, eqb-true, cases_Bool, cases_eq, contains, address, place_of}
use Rattle.vc_gaps.proofs.Common.{Bytes, Extent, HasGaps, HasGapsBy, IsFree, IsThere, Tiling, extent_in, extent_of, extents_of, free_extent, is_free, no_links, tiling}
use Rattle.vc_base.proofs.Members.{apart-head, within-head, within-cases}
use Rattle.vc_splay.specs.Tree.{Tree}
use Rattle.vc_gaps.proofs.Carried.{gaps-touched}
use Rattle.vc_gaps.proofs.GapTrees.{gaps-own}
use Rattle.vc_gaps.proofs.Marked.{contains-there, none-of, out-of}

-- the extents of a number that isn't there, and of one that is put behind
extents-none : (n : ℕ) (segs : List Bytes) → (IsThere n segs → ⊥) → extents_of n (tiling segs) ≡ []
extents-none n [] none = refl
extents-none n (s ∷ ss) none =
    ⊎_elim
    (λ (t : eqb s.number n ≡ true). absurd (none (rw t refl)))
    (λ (t : eqb s.number n ≡ false). rw t (extents-none n ss (λ k. none (rw t k))))
    (cases_Bool (eqb s.number n))

extents-new : (n : ℕ) (es : List Extent) (segs : List Bytes) → (IsThere n segs → ⊥) → extents_of n (tiling segs ++ (n, es) ∷ []) ≡ es
extents-new n es [] none = rw (eq-eqb n n refl) refl
extents-new n es (s ∷ ss) none =
    ⊎_elim
    (λ (t : eqb s.number n ≡ true). absurd (none (rw t refl)))
    (λ (t : eqb s.number n ≡ false). rw t (extents-new n es ss (λ k. none (rw t k))))
    (cases_Bool (eqb s.number n))

extents-old : (n m : ℕ) (es : List Extent) (t : Tiling) → m ≢ n → extents_of m (t ++ (n, es) ∷ []) ≡ extents_of m t
extents-old n m es [] ne = rw (ne_eqb n m (λ z. ne (sym z))) refl
extents-old n m es (s ∷ ss) ne = ap (cond (eqb s.0 m) s.1) (extents-old n m es ss ne)

-- those without a number
extents-taken : (n : ℕ) (t : Tiling) → extents_of n (filter (λ s. not (eqb s.0 n)) t) ≡ []
extents-taken n [] = refl
extents-taken n (s ∷ ss) =
    ⊎_elim
    (λ (t : eqb s.0 n ≡ true). rw t (extents-taken n ss))
    (λ (t : eqb s.0 n ≡ false). rw (t, t) (extents-taken n ss))
    (cases_Bool (eqb s.0 n))

extents-left : (n m : ℕ) (t : Tiling) → m ≢ n → extents_of m (filter (λ s. not (eqb s.0 n)) t) ≡ extents_of m t
extents-left n m [] ne = refl
extents-left n m (s ∷ ss) ne =
    ⊎_elim
    (λ (t : eqb s.0 n ≡ true). let z = eqb-true s.0 n t in rw (t, ne_eqb s.0 m (λ q. ne (sym q ∙ z))) (extents-left n m ss ne))
    (λ (t : eqb s.0 n ≡ false). rw t (ap (cond (eqb s.0 m) s.1) (extents-left n m ss ne)))
    (cases_Bool (eqb s.0 n))

-- the address of the first extent of a segment
pub first-place : (n : ℕ) → place_of (address (n, 32)) ≡ (n, 32)
first-place n =
    let seg : (n * 1048576 + 1) / 1048576 ≡ n = omega arith in
    let off : (n * 1048576 + 1) % 1048576 * 32 ≡ 32 = omega arith in
    λ i. (seg i, off i)

-- two tilings that differ at one offset of a segment
module _ (old new : Tiling) (n off : ℕ) (multiple : off % 32 ≡ 0) (same : (m : ℕ) → m ≢ n → extents_of m new ≡ extents_of m old)
    (else : (to : ℕ) → to ≢ off → extent_in to (extents_of n new) ≡ extent_in to (extents_of n old)) where
  other-extent : (b : ℕ) → b ≢ address (n, off) → extent_of new b ≡ extent_of old b
  other-extent b ne =
      ⊎_elim
      (λ (q : b / 1048576 ≡ n).
      ap (λ m. extent_in (place_of b).1 (extents_of m new)) q ∙ else (place_of b).1 (λ z. ne (omega arith)) ∙ ap (λ m. extent_in (place_of b).1 (extents_of m old)) (sym q))
      (λ (q : b / 1048576 ≡ n → ⊥). ap (extent_in (place_of b).1) (same (b / 1048576) q))
      (cases_eq (b / 1048576) n)

  pub gaps-one : {u : Tree} (root : ℕ) (out after : List ℕ) → ((b : ℕ) → b ≢ address (n, off) → contains after b ≡ contains out b)
      → (is_free old (address (n, off)) && not (contains out (address (n, off)))) ≡ false → (is_free new (address (n, off)) && not (contains after (address (n, off)))) ≡ false
      → HasGapsBy u old root out → HasGapsBy u new root after
  gaps-one root out after named before then h =
      gaps-touched old new root (address (n, off) ∷ []) out after
      (λ b apart. let ne : b ≢ address (n, off) = λ q. apart-head (address (n, off)) [] b apart (sym q) in (other-extent b ne, named b ne))
      (λ b touched.
      ⊎_elim
      (λ (q : address (n, off) ≡ b). (subst (λ z. (is_free old z && not (contains out z)) ≡ false) q before, subst (λ z. (is_free new z && not (contains after z)) ≡ false) q then))
      (λ (k : contains [] b ≡ true). absurd (true≢false (sym k)))
      (within-cases (address (n, off)) [] b touched))
      h

not-free : (t : Tiling) (n : ℕ) → extents_of n t ≡ [] → is_free t (address (n, 32)) ≡ false
not-free t n e =
    let none : extent_of t (address (n, 32)) ≡ free_extent 32 0 no_links =
    ap (λ (q : ℕ × ℕ). extent_in q.1 (extents_of q.0 t)) (first-place n) ∙ ap (extent_in 32) e in
    ap (λ (x : Extent). ltb 0 x.span && eqb x.size 0) none

-- an added segment's extent is out
pub gaps-added_by : {u : Tree} (segs : List Bytes) (new : Tiling) (root n span : ℕ) (out : List ℕ) → (IsThere n segs → ⊥) → new ≡ tiling segs ++ (n, free_extent 32 span no_links ∷ []) ∷ []
    → HasGapsBy u (tiling segs) root out → HasGapsBy u new root (address (n, 32) ∷ out)
gaps-added_by segs new root n span out none e h =
    let es : List Extent = free_extent 32 span no_links ∷ [] in
    let own : extents_of n new ≡ es = ap (extents_of n) e ∙ extents-new n es segs none in
    gaps-one (tiling segs) new n 32 refl
    (λ m ne. ap (extents_of m) e ∙ extents-old n m es (tiling segs) ne)
    (λ to ne. ap (extent_in to) own ∙ ap (λ z. cond z (free_extent 32 span no_links) (free_extent to 0 no_links)) (ne_eqb 32 to (λ z. ne (sym z))) ∙ ap (extent_in to) (sym (extents-none n segs none)))
    root out (address (n, 32) ∷ out)
    (λ b ne. contains-there (address (n, 32)) b out ne)
    (none-of (tiling segs) (address (n, 32)) out (not-free (tiling segs) n (extents-none n segs none)))
    (out-of new (address (n, 32)) (address (n, 32) ∷ out) (within-head (address (n, 32)) out))
    h

pub gaps-added : (segs : List Bytes) (new : Tiling) (root n span : ℕ) (out : List ℕ) → (IsThere n segs → ⊥) → new ≡ tiling segs ++ (n, free_extent 32 span no_links ∷ []) ∷ []
    → HasGaps (tiling segs) root out → HasGaps new root (address (n, 32) ∷ out)
gaps-added segs new root n span out none e h = (gaps-added_by segs new root n span out none e (gaps-own (tiling segs) root out h)).gaps

-- it is free
pub free-added : (segs : List Bytes) (new : Tiling) (n span : ℕ) → (IsThere n segs → ⊥) → new ≡ tiling segs ++ (n, free_extent 32 span no_links ∷ []) ∷ [] → 0 < span → IsFree new (address (n, 32))
free-added segs new n span none e some =
    let es : List Extent = free_extent 32 span no_links ∷ [] in
    let own : extents_of n new ≡ es = ap (extents_of n) e ∙ extents-new n es segs none in
    let now : extent_of new (address (n, 32)) ≡ free_extent 32 span no_links =
    ap (λ (q : ℕ × ℕ). extent_in q.1 (extents_of q.0 new)) (first-place n) ∙ ap (extent_in 32) own in
    record { named = subst (λ (x : Extent). 0 < x.span) (sym now) some; free = ap (λ (x : Extent). x.size) now }

-- a segment of one extent, which is out, is taken out
pub gaps-removed : {u : Tree} (old new : Tiling) (root n : ℕ) (x : Extent) (out : List ℕ) → extents_of n old ≡ x ∷ [] → x.off ≡ 32 → new ≡ filter (λ s. not (eqb s.0 n)) old
    → HasGapsBy u old root (address (n, 32) ∷ out) → HasGapsBy u new root out
gaps-removed old new root n x out only off e h =
    let own : extents_of n new ≡ [] = ap (extents_of n) e ∙ extents-taken n old in
    gaps-one old new n 32 refl
    (λ m ne. ap (extents_of m) e ∙ extents-left n m old ne)
    (λ to ne. ap (extent_in to) own ∙ sym (ap (extent_in to) only ∙ ap (λ z. cond z x (free_extent to 0 no_links)) (ne_eqb x.off to (λ z. ne (sym z ∙ off)))))
    root (address (n, 32) ∷ out) out
    (λ b ne. sym (contains-there (address (n, 32)) b out ne))
    (out-of old (address (n, 32)) (address (n, 32) ∷ out) (within-head (address (n, 32)) out))
    (none-of new (address (n, 32)) out (not-free new n own))
    h
