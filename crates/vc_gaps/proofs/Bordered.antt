-- A tree of gaps where the border between a busy extent and a gap that is out moves.
use Rattle.vc_base.proofs.Common.{◌≡◌, ℕ, ◌+◌, ◌-◌, ◌/◌, ◌<◌, ◌≤◌, Bool, true, false, cond, not, ◌&&◌, eqb, ◌≢◌, List, [], ◌∷◌, take, Some, sym, refl, ap, ◌∙◌, subst, ⊎_elim, true≢false, arith, eq-eqb, ne_eqb, contains, address, place_of, span}
use Rattle.vc_gaps.proofs.Common.{Extent, HasGapsBy, IsBusy, Tiling, busy_extent, change_extent, extent_in, extent_of, extents_of, free_extent, is_free, next_of, no_links, shrink, stretch}
use Rattle.vc_base.proofs.Members.{apart-head, apart-tail, within-head, within-cases}
use Rattle.vc_splay.specs.Tree.{Tree}
use Rattle.vc_gaps.proofs.Carried.{gaps-touched}
use Rattle.vc_gaps.proofs.Joined.{first-cons}
use Rattle.vc_gaps.proofs.Marked.{busy-none, contains-there, none-of, out-of}
use Rattle.vc_gaps.proofs.Named.{behind_of, extent_in-off, extent_of-here, extent_of-other, off-differs}

-- what another offset names among extents of which the first one or two are others
past : (x : Extent) (es : List Extent) (to : ℕ) → x.off ≢ to → extent_in to (x ∷ es) ≡ extent_in to es
past x es to ne = ap (λ z. cond z x (extent_in to es)) (ne_eqb x.off to ne)

module _ (old new : Tiling) (root a size : ℕ) (out : List ℕ) (busy : IsBusy old a) (some : 1 ≤ size) where
  own : (extent_of old a).off ≡ (place_of a).1
  own = extent_in-off (place_of a).1 (extents_of (place_of a).0 old)

  -- the busy extent's tail becomes a gap, which is out
  pub gaps-shrunk : {u : Tree} (c : ℕ) → new ≡ change_extent a (shrink size) old → c ≡ address ((place_of a).0, (place_of a).1 + span size) → is_free old c ≡ false → HasGapsBy u old root out → HasGapsBy u new root (c ∷ out)
  gaps-shrunk c e is none h =
      let x : Extent = extent_of old a in
      let front : Extent = busy_extent x.off (span size) size x.tag (take size x.body) in
      let tail : Extent = free_extent (x.off + span size) (x.span - span size) no_links in
      let P : ℕ → Type 0 = λ z. ((is_free old z && not (contains out z)) ≡ false) × ((is_free new z && not (contains (c ∷ out) z)) ≡ false) in
      let now : extent_of new a ≡ front = extent_of-here old new a (shrink size) e front (tail ∷ behind_of old a) busy.named own refl in
      gaps-touched old new root (a ∷ c ∷ []) out (c ∷ out)
      (λ b apart.
      let ne : b ≢ a = λ q. apart-head a (c ∷ []) b apart (sym q) in
      let other : b ≢ c = λ q. apart-head c [] b (apart-tail a (c ∷ []) b apart) (sym q) in (
        extent_of-other old new a (shrink size) e b ne
            (λ q.
            let differs : (place_of b).1 ≢ (place_of a).1 = off-differs a b ne q in
            past front (tail ∷ behind_of old a) (place_of b).1 (λ z. differs (sym z ∙ own))
            ∙ past tail (behind_of old a) (place_of b).1 (λ z. other (let o = own in omega arith))
            ∙ sym (past x (behind_of old a) (place_of b).1 (λ z. differs (sym z ∙ own)))),
        contains-there c b out other,
      ))
      (λ b touched.
      ⊎_elim
      (λ (q : a ≡ b). subst P q (none-of old a out (busy-none old a busy.busy), none-of new a (c ∷ out) (busy-none new a (subst (λ (z : Extent). 0 < z.size) (sym now) (omega arith)))))
      (λ (k : contains (c ∷ []) b ≡ true).
      ⊎_elim
      (λ (q : c ≡ b). subst P q (none-of old c out none, out-of new c (c ∷ out) (within-head c out)))
      (λ (j : contains [] b ≡ true). absurd (true≢false (sym j)))
      (within-cases c [] b k))
      (within-cases a (c ∷ []) b touched))
      h

  -- it takes of the gap behind it, which is out: what is left of that is out then, where anything is
  module _ (b : ℕ) (body : List ℕ) (y : Extent) (e : new ≡ change_extent a (stretch size body) old) (next : next_of old a ≡ Some y) (is : b ≡ address ((place_of a).0, y.off)) (gone : is_free new b ≡ false) where
    ys : List Extent
    ys = (first-cons (behind_of old a) y next).0

    cons : behind_of old a ≡ y ∷ ys
    unfolding ys
    cons = (first-cons (behind_of old a) y next).1

    abbrev grown : Extent
    grown = busy_extent (extent_of old a).off (span size) size (extent_of old a).tag body

    abbrev tail : Extent
    tail = free_extent ((extent_of old a).off + span size) ((extent_of old a).span + y.span - span size) no_links

    abbrev left : Bool
    left = eqb ((extent_of old a).span + y.span) (span size)

    grown-busy : is_free new a ≡ false
    grown-busy =
        let now : extent_of new a ≡ grown = extent_of-here old new a (stretch size body) e grown (cond left ys (tail ∷ ys)) busy.named own (ap (stretch size body (extent_of old a)) cons) in
        busy-none new a (subst (λ (z : Extent). 0 < z.size) (sym now) (omega arith))

    -- what another address names, by what stands behind
    grown-other : (d : ℕ) (rest : List Extent) → d ≢ a → d ≢ b → cond left ys (tail ∷ ys) ≡ rest → (d / 1048576 ≡ a / 1048576 → extent_in (place_of d).1 rest ≡ extent_in (place_of d).1 ys) → extent_of new d ≡ extent_of old d
    grown-other d rest na nb r same =
        extent_of-other old new a (stretch size body) e d na
        (λ q.
        let differs : (place_of d).1 ≢ (place_of a).1 = off-differs a d na q in
        ap (λ z. extent_in (place_of d).1 (stretch size body (extent_of old a) z)) cons
        ∙ past grown (cond left ys (tail ∷ ys)) (place_of d).1 (λ z. differs (sym z ∙ own))
        ∙ ap (extent_in (place_of d).1) r
        ∙ same q
        ∙ sym (ap (λ z. extent_in (place_of d).1 (extent_of old a ∷ z)) cons
        ∙ past (extent_of old a) (y ∷ ys) (place_of d).1 (λ z. differs (sym z ∙ own))
        ∙ past y ys (place_of d).1 (λ z. nb (omega arith))))

    pub gaps-stretched : {u : Tree} (c : ℕ) → (extent_of old a).span + y.span ≢ span size → c ≡ address ((place_of a).0, (place_of a).1 + span size) → is_free old c ≡ false → HasGapsBy u old root (b ∷ out) → HasGapsBy u new root (c ∷ out)
    gaps-stretched c more at none h =
        let P : ℕ → Type 0 = λ z. ((is_free old z && not (contains (b ∷ out) z)) ≡ false) × ((is_free new z && not (contains (c ∷ out) z)) ≡ false) in
        gaps-touched old new root (a ∷ b ∷ c ∷ []) (b ∷ out) (c ∷ out)
        (λ d apart.
        let na : d ≢ a = λ q. apart-head a (b ∷ c ∷ []) d apart (sym q) in
        let on : contains (b ∷ c ∷ []) d ≡ false = apart-tail a (b ∷ c ∷ []) d apart in
        let nb : d ≢ b = λ q. apart-head b (c ∷ []) d on (sym q) in
        let nc : d ≢ c = λ q. apart-head c [] d (apart-tail b (c ∷ []) d on) (sym q) in (
          grown-other d (tail ∷ ys) na nb (ap (λ z. cond z ys (tail ∷ ys)) (ne_eqb ((extent_of old a).span + y.span) (span size) more))
              (λ q. past tail ys (place_of d).1 (λ z. nc (let o = own in omega arith))),
          contains-there c d out nc ∙ sym (contains-there b d out nb),
        ))
        (λ d touched.
        ⊎_elim
        (λ (q : a ≡ d). subst P q (none-of old a (b ∷ out) (busy-none old a busy.busy), none-of new a (c ∷ out) grown-busy))
        (λ (k : contains (b ∷ c ∷ []) d ≡ true).
        ⊎_elim
        (λ (q : b ≡ d). subst P q (out-of old b (b ∷ out) (within-head b out), none-of new b (c ∷ out) gone))
        (λ (j : contains (c ∷ []) d ≡ true).
        ⊎_elim
        (λ (q : c ≡ d). subst P q (none-of old c (b ∷ out) none, out-of new c (c ∷ out) (within-head c out)))
        (λ (i : contains [] d ≡ true). absurd (true≢false (sym i)))
        (within-cases c [] d j))
        (within-cases b (c ∷ []) d k))
        (within-cases a (b ∷ c ∷ []) d touched))
        h

    pub gaps-filled : {u : Tree} → (extent_of old a).span + y.span ≡ span size → HasGapsBy u old root (b ∷ out) → HasGapsBy u new root out
    gaps-filled whole h =
        let P : ℕ → Type 0 = λ z. ((is_free old z && not (contains (b ∷ out) z)) ≡ false) × ((is_free new z && not (contains out z)) ≡ false) in
        gaps-touched old new root (a ∷ b ∷ []) (b ∷ out) out
        (λ d apart.
        let na : d ≢ a = λ q. apart-head a (b ∷ []) d apart (sym q) in
        let nb : d ≢ b = λ q. apart-head b [] d (apart-tail a (b ∷ []) d apart) (sym q) in (
          grown-other d ys na nb (ap (λ z. cond z ys (tail ∷ ys)) (eq-eqb ((extent_of old a).span + y.span) (span size) whole)) (λ q. refl),
          sym (contains-there b d out nb),
        ))
        (λ d touched.
        ⊎_elim
        (λ (q : a ≡ d). subst P q (none-of old a (b ∷ out) (busy-none old a busy.busy), none-of new a out grown-busy))
        (λ (k : contains (b ∷ []) d ≡ true).
        ⊎_elim
        (λ (q : b ≡ d). subst P q (out-of old b (b ∷ out) (within-head b out), none-of new b out gone))
        (λ (i : contains [] d ≡ true). absurd (true≢false (sym i)))
        (within-cases b [] d k))
        (within-cases a (b ∷ []) d touched))
        h
