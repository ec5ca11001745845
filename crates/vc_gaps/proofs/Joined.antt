-- A tree of gaps where two gaps that are out are joined; and what lies inside an extent, which no address names.
use Rattle.vc_base.proofs.Common.{◌≡◌, ℕ, ◌+◌, ◌-◌, ◌/◌, ◌<◌, true, false, cond, not, ◌&&◌, eqb, ltb, ◌≢◌, List, [], ◌∷◌, length, get_or, Some, sym, refl, ap, ◌∙◌, subst, ⊎_elim, true≢false, arith, ne_eqb, eqb-true, ∥∥₁_elim, ℕ_set, cases_Bool, eqb-false, contains, address, place_of}
use Rattle.vc_gaps.proofs.Common.{AreExtents, Bytes, Extent, HasGapsBy, IsThere, Tiling, change_extent, extent_in, extent_of, extents, extents_of, first_of, free_extent, is_free, join, next_of, no_links, tiling}
use Rattle.vc_base.proofs.Members.{apart-head, apart-tail, within-head, within-tail, within-cases}
use Rattle.vc_splay.specs.Tree.{Tree}
use Rattle.vc_extent.specs.Tiles.{Tiles}
use Rattle.vc_extent.proofs.Places.{found, named-there}
use Rattle.vc_extent.proofs.Tiled.{named-above, off-at}
use Rattle.vc_gaps.proofs.Carried.{gaps-touched}
use Rattle.vc_gaps.proofs.Named.{extent_in-off}
use Rattle.vc_gaps.proofs.Marked.{contains-there, none-of, out-of}
use Rattle.vc_gaps.proofs.Named.{behind_of, extent_of-other, off-differs}

-- no offset between an extent's own and its end names one
inside-span : (b : List ℕ) (stop p at off to : ℕ) (es : List Extent) → Tiles b stop p at es → 0 < (extent_in off es).span → off < to → to < off + (extent_in off es).span → (extent_in to es).span ≡ 0
inside-span b stop p at off to [] h named low high = refl
inside-span b stop p at off to (e ∷ es) h named low high =
    let o : e.off ≡ at + 16 = ap (λ (x : Extent). x.off) h.0.extent ∙ off-at at b in
    ⊎_elim
    (λ (t : eqb e.off off ≡ true).
    let z = eqb-true e.off off t in
    let high' : to < off + e.span = rw t at high in
    let none : (extent_in to es).span ≡ 0 =
    ⊎_elim
    (λ (u : eqb (extent_in to es).span 0 ≡ true). eqb-true (extent_in to es).span 0 u)
    (λ (u : eqb (extent_in to es).span 0 ≡ false).
    let ne = eqb-false (extent_in to es).span 0 u in
    let above = named-above b stop e.span (at + e.span) to es h.1 (omega arith) in absurd (omega arith))
    (cases_Bool (eqb (extent_in to es).span 0)) in
    ap (λ q. (cond q e (extent_in to es)).span) (ne_eqb e.off to (λ q. omega arith)) ∙ none)
    (λ (t : eqb e.off off ≡ false).
    let named' : 0 < (extent_in off es).span = rw t at named in
    let high' : to < off + (extent_in off es).span = rw t at high in
    let above = named-above b stop e.span (at + e.span) off es h.1 named' in
    let least = h.0.legal.least in
    ap (λ q. (cond q e (extent_in to es)).span) (ne_eqb e.off to (λ q. omega arith)) ∙ inside-span b stop e.span (at + e.span) off to es h.1 named' low high')
    (cases_Bool (eqb e.off off))

-- an address inside an extent names none
pub inside-none : (segs : List Bytes) (index : List ℕ) → ∥ AreExtents segs index ∥₁ → (a b : ℕ) → 0 < (extent_of (tiling segs) a).span → b / 1048576 ≡ a / 1048576
    → (place_of a).1 < (place_of b).1 → (place_of b).1 < (place_of a).1 + (extent_of (tiling segs) a).span → is_free (tiling segs) b ≡ false
inside-none segs index kept a b named seg low high =
    let there : IsThere (place_of a).0 segs = named-there (place_of a).0 (place_of a).1 segs named in
    let f = found 0 (place_of a).0 segs there in
    let d : Bytes = record { number = 0; bytes = [] } in
    let s : Bytes = get_or segs f.i d in
    let es : extents s.bytes ≡ extents_of (place_of a).0 (tiling segs) = f.place.extents d in
    let none : (extent_of (tiling segs) b).span ≡ 0 =
    ∥∥₁_elim kept (hlevel (ℕ_set))
    (λ k.
    let t = (k.tiled f.i d f.place.within).tiles in
    let t' : Tiles s.bytes (length s.bytes - 16) 0 16 (extents_of (place_of a).0 (tiling segs)) = subst (Tiles s.bytes (length s.bytes - 16) 0 16) es t in
    ap (λ n. (extent_in (place_of b).1 (extents_of n (tiling segs))).span) seg
    ∙ inside-span s.bytes (length s.bytes - 16) 0 16 (place_of a).1 (place_of b).1 (extents_of (place_of a).0 (tiling segs)) t' named low high) in
    ap (λ z. ltb 0 z && eqb (extent_of (tiling segs) b).size 0) none

-- the next one is the first of those behind
pub first-cons : (es : List Extent) (y : Extent) → first_of es ≡ Some y → (ys : List Extent) × (es ≡ y ∷ ys)
first-cons [] y e = absurd (cc)
first-cons (x ∷ xs) y e = let same : x ≡ y = cc in (xs, ap (λ z. z ∷ xs) same)

joined-other : (x y : Extent) (es : List Extent) (to : ℕ) → first_of es ≡ Some y → x.off ≢ to → y.off ≢ to → extent_in to (join x es) ≡ extent_in to (x ∷ es)
joined-other x y es to e nx ny =
    let c = first-cons es y e in
    let ys : List Extent = c.0 in
    ap (λ z. extent_in to (join x z)) c.1
    ∙ ap (λ z. cond z (free_extent x.off (x.span + y.span) no_links) (extent_in to ys)) (ne_eqb x.off to nx)
    ∙ sym (ap (λ z. extent_in to (x ∷ z)) c.1 ∙ ap (λ z. cond z x (cond (eqb y.off to) y (extent_in to ys))) (ne_eqb x.off to nx) ∙ ap (λ z. cond z y (extent_in to ys)) (ne_eqb y.off to ny))

-- a gap and the one behind it, which are both out, become one, which is
pub gaps-joined : {u : Tree} (old new : Tiling) (root a b : ℕ) (y : Extent) (out : List ℕ) → new ≡ change_extent a join old → next_of old a ≡ Some y → b ≡ address ((place_of a).0, y.off) → is_free new b ≡ false
    → HasGapsBy u old root (a ∷ b ∷ out) → HasGapsBy u new root (a ∷ out)
gaps-joined old new root a b y out e next is none h =
    let own : (extent_of old a).off ≡ (place_of a).1 = extent_in-off (place_of a).1 (extents_of (place_of a).0 old) in
    let P : ℕ → Type 0 = λ z. ((is_free old z && not (contains (a ∷ b ∷ out) z)) ≡ false) × ((is_free new z && not (contains (a ∷ out) z)) ≡ false) in
    gaps-touched old new root (a ∷ b ∷ []) (a ∷ b ∷ out) (a ∷ out)
    (λ c apart.
    let ne : c ≢ a = λ q. apart-head a (b ∷ []) c apart (sym q) in
    let other : c ≢ b = λ q. apart-head b [] c (apart-tail a (b ∷ []) c apart) (sym q) in (
      extent_of-other old new a join e c ne
          (λ q.
          let differs : (place_of c).1 ≢ (place_of a).1 = off-differs a c ne q in
          joined-other (extent_of old a) y (behind_of old a) (place_of c).1 next (λ z. differs (sym z ∙ own)) (λ z. other (omega arith))),
      contains-there a c out ne ∙ sym (contains-there a c (b ∷ out) ne ∙ contains-there b c out other),
    ))
    (λ c touched.
    ⊎_elim
    (λ (q : a ≡ c). subst P q (out-of old a (a ∷ b ∷ out) (within-head a (b ∷ out)), out-of new a (a ∷ out) (within-head a out)))
    (λ (k : contains (b ∷ []) c ≡ true).
    ⊎_elim
    (λ (q : b ≡ c). subst P q (out-of old b (a ∷ b ∷ out) (within-tail a (b ∷ out) b (within-head b out)), none-of new b (a ∷ out) none))
    (λ (j : contains [] c ≡ true). absurd (true≢false (sym j)))
    (within-cases b [] c k))
    (within-cases a (b ∷ []) c touched))
    h
