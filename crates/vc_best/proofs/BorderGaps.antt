-- The tree of gaps where the border behind a block moves.
use Rattle.vc_base.proofs.Common.{◌≡◌, ℕ, ◌+◌, ◌-◌, ◌%◌, ◌<◌, ◌≤◌, Bool, true, false, cond, not, ◌&&◌, eqb, ◌≢◌, List, [], ◌∷◌, ◌++◌, map, Some, None, Option, sym, refl, ap, ◌∙◌, subst, ⊎_elim, arith, eq-eqb, ne_eqb, ∥∥₁_elim, ℕ_set, and_parts, cases_Bool, cases_eq, address, place_of, span}
use Rattle.vc_best.proofs.Common.{AreExtents, Bytes, Extent, GapsChange, HasGapsBy, IsBorderMoved, IsBusy, IsMerged, Tiling, absorb, behind, behind_of, busy_extent, change_extent, extent_of, extents_of, first_of, free_bytes, free_extent, free_name, free_next, is_busy, is_free, is_merged, next_of, no_links, pair_of, room_of, set_size, shrink, stretch, tiling}
use Rattle.vc_base.proofs.Sets.{bytes-set}
use Rattle.vc_gaps.specs.GapStore.{is_free as names_free}
use Rattle.vc_gaps.proofs.Bordered.{gaps-filled, gaps-shrunk, gaps-stretched}
use Rattle.vc_gaps.proofs.Joined.{first-cons}
use Rattle.vc_gaps.proofs.Marked.{gaps-stay}
use Rattle.vc_gaps.proofs.Named.{extent_in-off, extent_of-here}
use Rattle.vc_best.proofs.Borders.{border-shrunk, free-free, next-shrunk, rest-next, shrunk-kept, shrunk-len}
use Rattle.vc_best.proofs.Cuts.{behind-here}
use Rattle.vc_best.proofs.Known.{cut-of, off-of, then-behind}
use Rattle.vc_best.proofs.Merges.{merged-in}
use Rattle.vc_best.proofs.Nexts.{next-extent, next-off, next-place}
use Rattle.vc_best.proofs.Outs.{inside-not, next-kept}
use Rattle.vc_best.proofs.FreeBlocks.{busy-free}
use Rattle.vc_best.proofs.Sets.{tiling-set}

-- what stands behind a place where no two free extents stand beside each other
merged-back : (xs zs : List Extent) (b : Bool) → is_merged b (xs ++ zs) ≡ true → (v : Bool) × (is_merged v zs ≡ true)
merged-back [] zs b m = (b, m)
merged-back (x ∷ xs) zs b m = merged-back xs zs (is_free x) (and_parts (not (b && is_free x)) (is_merged (is_free x) (xs ++ zs)) m).1

-- nothing free behind a free one
free-alone : (n : ℕ) (v : Bool) (e y : Extent) (ys : List Extent) → y.size ≡ 0 → is_merged v (e ∷ y ∷ ys) ≡ true → free_name n (first_of ys) ≡ []
free-alone n v e y [] free m = refl
free-alone n v e y (z ∷ zs) free m =
    let one : is_merged (is_free e) (y ∷ z ∷ zs) ≡ true = (and_parts (not (v && is_free e)) (is_merged (is_free e) (y ∷ z ∷ zs)) m).1 in
    let two : is_merged (is_free y) (z ∷ zs) ≡ true = (and_parts (not (is_free e && is_free y)) (is_merged (is_free y) (z ∷ zs)) one).1 in
    let yes : is_free y ≡ true = ap not (busy-free y free) in
    let three : is_merged true (z ∷ zs) ≡ true = subst (λ w. is_merged w (z ∷ zs) ≡ true) yes two in
    ⊎_elim
    (λ (t : is_busy z ≡ true). rw t refl)
    (λ (t : is_busy z ≡ false). absurd (let q : false ≡ true = rw t at three in cc))
    (cases_Bool (is_busy z))

-- the free extent behind one that has room for more
next-free : (o : Option Extent) → 0 < free_bytes o → (y : Extent) × (o ≡ Some y) × (y.size ≡ 0)
next-free None h = absurd (omega arith)
next-free (Some y) h =
    ⊎_elim
    (λ (t : is_busy y ≡ true). absurd (let z : 0 < 0 = rw t at h in omega arith))
    (λ (t : is_busy y ≡ false). (y, refl, zero y t))
    (cases_Bool (is_busy y))
  where
    zero : (y : Extent) → is_busy y ≡ false → y.size ≡ 0
    zero y t = grind arith

module _ (old new : List Bytes) (i j : List ℕ) (k : ∥ AreExtents old i ∥₁) (l : ∥ AreExtents new j ∥₁) (a size : ℕ) (busy : IsBusy (tiling old) a) (some : 1 ≤ size) where
  own : (extent_of (tiling old) a).off ≡ (place_of a).1
  own = extent_in-off (place_of a).1 (extents_of (place_of a).0 (tiling old))

  -- a busy extent alone changes
  module _ (body : List ℕ) (is : tiling new ≡ change_extent a (set_size size body) (tiling old)) where
    abbrev sized : Extent
    sized = busy_extent (extent_of (tiling old) a).off (extent_of (tiling old) a).span size (extent_of (tiling old) a).tag body

    pub gaps-sized : GapsChange (tiling old) (tiling new) [] []
    gaps-sized u root out h = gaps-stay (tiling old) (tiling new) root a out (set_size size body) sized is refl own some busy h

    next-sized : free_next (tiling new) a ≡ free_next (tiling old) a
    next-sized = next-kept old i k (tiling new) a (set_size size body) sized busy.named is refl own

    pub gaps-sized_next : GapsChange (tiling old) (tiling new) (free_next (tiling old) a) (free_next (tiling new) a)
    gaps-sized_next u root out h = subst (λ ns. HasGapsBy u (tiling new) root (ns ++ out)) (sym next-sized) (gaps-sized u root (free_next (tiling old) a ++ out) h)

  -- it takes of the free extent behind it
  module _ (body : List ℕ) (more : (extent_of (tiling old) a).span < span size) (enough : span size ≤ room_of (tiling old) a) (m : IsMerged (tiling old)) (is : tiling new ≡ change_extent a (stretch size body) (tiling old)) where
    second : (y : Extent) × (next_of (tiling old) a ≡ Some y) × (y.size ≡ 0)
    second = next-free (next_of (tiling old) a) (omega arith)

    abbrev y : Extent
    y = second.0

    abbrev b : ℕ
    b = address ((place_of a).0, second.0.off)

    tail : (zs : List Extent) × (behind_of (tiling old) a ≡ second.0 ∷ zs)
    tail = first-cons (behind_of (tiling old) a) second.0 second.1

    room : (extent_of (tiling old) a).span + second.0.span ≡ room_of (tiling old) a
    room = ap (λ n. (extent_of (tiling old) a).span + n) (sym (free-free (next_of (tiling old) a) second.0 second.1 second.2))

    next-at : second.0.off ≡ (place_of a).1 + (extent_of (tiling old) a).span
    next-at = ∥∥₁_elim k (hlevel (ℕ_set)) (λ h. next-off (tiling old) a b second.0 (cut-of old i a h busy.named) second.1 refl)

    multiple : (extent_of (tiling old) a).span % 32 ≡ 0
    multiple = ∥∥₁_elim k (hlevel (ℕ_set)) (λ h. (cut-of old i a h busy.named).cut.here.0.legal.multiple)

    b-place : place_of b ≡ ((place_of a).0, second.0.off)
    b-place = ∥∥₁_elim k (hlevel (ℕ_set)) (λ h. next-place (tiling old) a b second.0 (cut-of old i a h busy.named) second.1 refl)

    b-extent : extent_of (tiling old) b ≡ second.0
    b-extent = ∥∥₁_elim k (hlevel (ℕ_set, bytes-set)) (λ h. next-extent (tiling old) a b second.0 (cut-of old i a h busy.named) second.1 refl)

    abbrev grown : Extent
    grown = busy_extent (extent_of (tiling old) a).off (span size) size (extent_of (tiling old) a).tag body

    abbrev left : List Extent → List Extent
    left zs = cond (eqb ((extent_of (tiling old) a).span + second.0.span) (span size)) zs (free_extent ((extent_of (tiling old) a).off + span size) ((extent_of (tiling old) a).span + second.0.span - span size) no_links ∷ zs)

    grown-extent : extent_of (tiling new) a ≡ grown
    grown-extent = extent_of-here (tiling old) (tiling new) a (stretch size body) is grown (left tail.0) busy.named own (ap (stretch size body (extent_of (tiling old) a)) tail.1)

    grown-span : (extent_of (tiling new) a).span ≡ span size
    grown-span = ap (λ (x : Extent). x.span) grown-extent

    gone : names_free (tiling new) b ≡ false
    gone =
        let s = grown-span in
        let o = next-at in
        inside-not new j l a (omega arith) b second.0.off refl (omega (arith, multiple)) (omega (arith, busy.named)) (omega arith)

    next-left : free_next (tiling new) a ≡ free_name (place_of a).0 (first_of (left tail.0))
    next-left =
        ∥∥₁_elim k (hlevel (bytes-set))
        (λ h.
        let c = cut-of old i a h busy.named in
        let same : behind_of (tiling new) a ≡ left tail.0 =
        then-behind (tiling old) (tiling new) a a (stretch size body) c is refl (omega arith)
        ∙ ap (λ (ys : List Extent). behind (place_of a).1 (stretch size body (extent_of (tiling old) a) ys)) tail.1
        ∙ behind-here (place_of a).1 grown (left tail.0) (off-of (tiling old) a c) in
        ap (λ (ys : List Extent). free_name (place_of a).0 (first_of ys)) same)

    -- all of it
    filled : (extent_of (tiling old) a).span + second.0.span ≡ span size → GapsChange (tiling old) (tiling new) (b ∷ []) (free_next (tiling new) a)
    filled whole u root out h =
        let none : free_name (place_of a).0 (first_of tail.0) ≡ [] =
        ∥∥₁_elim k (hlevel (bytes-set))
        (λ h.
        let c = cut-of old i a h busy.named in
        let split : is_merged false (c.cut.before ++ (extent_of (tiling old) a ∷ second.0 ∷ tail.0)) ≡ true =
        ap (λ ys. is_merged false (c.cut.before ++ (extent_of (tiling old) a ∷ ys))) (sym tail.1) ∙ ap (is_merged false) (sym c.cut.is) ∙ merged-in (place_of a).0 (tiling old) m in
        let back = merged-back c.cut.before (extent_of (tiling old) a ∷ second.0 ∷ tail.0) false split in
        free-alone (place_of a).0 back.0 (extent_of (tiling old) a) second.0 tail.0 second.2 back.1) in
        let name : free_next (tiling new) a ≡ [] =
        next-left
        ∙ ap (λ z. free_name (place_of a).0 (first_of (cond z tail.0 (free_extent ((extent_of (tiling old) a).off + span size) ((extent_of (tiling old) a).span + second.0.span - span size) no_links ∷ tail.0)))) (eq-eqb ((extent_of (tiling old) a).span + second.0.span) (span size) whole)
        ∙ none in
        subst (λ ns. HasGapsBy u (tiling new) root (ns ++ out)) (sym name)
        (gaps-filled (tiling old) (tiling new) root a size out busy some b body second.0 is second.1 refl gone whole h)

    -- a part of it
    stretched : (extent_of (tiling old) a).span + second.0.span ≢ span size → GapsChange (tiling old) (tiling new) (b ∷ []) (free_next (tiling new) a)
    stretched part u root out h =
        let c : ℕ = address ((place_of a).0, (place_of a).1 + span size) in
        let name : free_next (tiling new) a ≡ c ∷ [] =
        next-left
        ∙ ap (λ z. free_name (place_of a).0 (first_of (cond z tail.0 (free_extent ((extent_of (tiling old) a).off + span size) ((extent_of (tiling old) a).span + second.0.span - span size) no_links ∷ tail.0)))) (ne_eqb ((extent_of (tiling old) a).span + second.0.span) (span size) part)
        ∙ ap (λ n. address ((place_of a).0, n + span size) ∷ []) own in
        let place0 : (place_of b).0 ≡ (place_of a).0 = ap (λ (q : ℕ × ℕ). q.0) b-place in
        let place1 : (place_of b).1 ≡ second.0.off = ap (λ (q : ℕ × ℕ). q.1) b-place in
        let spans : (extent_of (tiling old) b).span ≡ second.0.span = ap (λ (x : Extent). x.span) b-extent in
        let none : names_free (tiling old) c ≡ false =
        inside-not old i k b (omega (arith, spans, room, more, enough, part)) c ((place_of a).1 + span size) (ap (λ n. address (n, (place_of a).1 + span size)) (sym place0)) (omega arith)
        (omega (arith, place1, next-at, more)) (omega (arith, place1, next-at, spans, room, enough, part)) in
        subst (λ ns. HasGapsBy u (tiling new) root (ns ++ out)) (sym name)
        (gaps-stretched (tiling old) (tiling new) root a size out busy some b body second.0 is second.1 refl gone c part refl none h)

    pub gaps-grown : GapsChange (tiling old) (tiling new) (free_next (tiling old) a) (free_next (tiling new) a)
    gaps-grown u root out h =
        let name : free_next (tiling old) a ≡ b ∷ [] = ap (free_name (place_of a).0) second.1 ∙ rw (busy-free second.0 second.2) refl in
        let h' : HasGapsBy u (tiling old) root (b ∷ out) = subst (λ ns. HasGapsBy u (tiling old) root (ns ++ out)) name h in
        ⊎_elim
        (λ (t : (extent_of (tiling old) a).span + second.0.span ≡ span size). filled t u root out h')
        (λ (t : (extent_of (tiling old) a).span + second.0.span ≡ span size → ⊥). stretched t u root out h')
        (cases_eq ((extent_of (tiling old) a).span + second.0.span) (span size))

-- its tail becomes free, and one with the free extent behind it
module _ (old mid : List Bytes) (i : List ℕ) (k : ∥ AreExtents old i ∥₁) (new : Tiling) (a size rest : ℕ) (busy : IsBusy (tiling old) a) (some : 1 ≤ size) (less : span size < (extent_of (tiling old) a).span)
    (is : tiling mid ≡ change_extent a (shrink size) (tiling old)) (value : rest ≡ address ((place_of a).0, (place_of a).1 + span size)) where
  pub border-cut : (last : List Bytes) → tiling last ≡ change_extent rest absorb (tiling mid) → map pair_of last ≡ map pair_of mid → map pair_of mid ≡ map pair_of old → IsBorderMoved old last a size
  border-cut last is2 pairs2 pairs1 =
      let t : Tiling = tiling old in
      let l : Tiling = tiling last in
      record {
        border = ∥∥₁_elim k (hlevel (tiling-set)) (λ q. border-shrunk t a size (cut-of old i a q busy.named) (tiling mid) rest busy some less is value l is2);
        len = ∥∥₁_elim k (hlevel (ℕ_set)) (λ q. shrunk-len t a size (cut-of old i a q busy.named) (tiling mid) rest busy some less is value l is2);
        kept = λ n small smaller. ∥∥₁_elim k (hlevel (bytes-set)) (λ q. shrunk-kept t a size (cut-of old i a q busy.named) (tiling mid) rest busy some less is value l is2 n small);
        pairs = pairs2 ∙ pairs1;
      }

  pub gaps-cut : new ≡ change_extent rest absorb (tiling mid) → GapsChange (tiling mid) new (rest ∷ free_next (tiling mid) rest) (rest ∷ []) → GapsChange (tiling old) new (free_next (tiling old) a) (free_next new a)
  gaps-cut is2 g2 u root out h =
      let same : free_next (tiling mid) rest ≡ free_next (tiling old) a =
      ∥∥₁_elim k (hlevel (bytes-set)) (λ q. rest-next (tiling old) a size (cut-of old i a q busy.named) (tiling mid) rest busy some less is value) in
      let name : free_next new a ≡ rest ∷ [] =
      ∥∥₁_elim k (hlevel (bytes-set)) (λ q. next-shrunk (tiling old) a size (cut-of old i a q busy.named) (tiling mid) rest busy some less is value new is2) in
      let none = inside-not old i k a busy.named rest ((place_of a).1 + span size) value (omega arith) (omega arith) (omega arith) in
      let out1 : HasGapsBy u (tiling mid) root (rest ∷ (free_next (tiling old) a ++ out)) = gaps-shrunk (tiling old) (tiling mid) root a size (free_next (tiling old) a ++ out) busy some rest is value none h in
      subst (λ ns. HasGapsBy u new root (ns ++ out)) (sym name) (g2 u root out (subst (λ ns. HasGapsBy u (tiling mid) root (rest ∷ (ns ++ out))) (sym same) out1))
