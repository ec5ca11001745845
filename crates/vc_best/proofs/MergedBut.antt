-- An extent that may stand behind a free one, while no other two free extents stand beside each other.
use Rattle.vc_base.proofs.Common.{◌≡◌, ℕ, ◌+◌, ◌-◌, ◌<◌, true, false, not, ◌&&◌, eqb, ◌≢◌, List, [], ◌∷◌, ◌++◌, map, None, All, sym, refl, ap, ◌∙◌, subst, ⊎_elim, arith, lt-ltb, and_from, and_parts, cases_Bool, All-cons, All-head, All-nil, All-tail, place_of}
use Rattle.vc_best.proofs.Common.{Extent, IsMerged, Tiling, absorb, behind_of, change_at, change_extent, change_in, extent_of, extents_of, first_of, free_extent, free_name, is_busy, is_free, is_merged, no_links, plain, previous_of, without_links}
use Rattle.vc_best.specs.Beside.{IsMergedBut}
use Rattle.vc_best.specs.Changes.{leave_out}
use Rattle.vc_best.proofs.Cuts.{change_at-here, change_at-skip, change_in-none, cut-change, lower-other}
use Rattle.vc_best.proofs.Known.{IsCut, off-of}
use Rattle.vc_best.proofs.Merges.{merged-front, merged-weaker}
use Rattle.vc_best.proofs.FreeBlocks.{busy-free, first-is}
use Rattle.vc_best.proofs.Plain.{merged-stays, next_name-stays}
use Rattle.vc_gaps.specs.GapLaws.{without-off}

abbrev Merged : ℕ × List Extent → Type 0
Merged s = is_merged false s.1 ≡ true

-- one change of a segment in place of another
merged-across : (n : ℕ) (f g : List Extent → List Extent) (t : Tiling) → (is_merged false (f (extents_of n t)) ≡ true → is_merged false (g (extents_of n t)) ≡ true) → IsMerged (change_in n f t) → IsMerged (change_in n g t)
merged-across n f g [] one h = h
merged-across n f g (s ∷ ss) one h =
    ⊎_elim
    (λ (e : eqb s.0 n ≡ true).
    let own : is_merged false (f s.1) ≡ true → is_merged false (g s.1) ≡ true = rw e at one in
    let h' : IsMerged ((s.0, f s.1) ∷ ss) = rw e at h in
    rw e (All-cons Merged (s.0, g s.1) ss (own (All-head Merged (s.0, f s.1) ss h')) (All-tail Merged (s.0, f s.1) ss h')))
    (λ (e : eqb s.0 n ≡ false).
    let later : is_merged false (f (extents_of n ss)) ≡ true → is_merged false (g (extents_of n ss)) ≡ true = rw e at one in
    let h' : IsMerged (s ∷ change_in n f ss) = rw e at h in
    rw e (All-cons Merged s (change_in n g ss) (All-head Merged s (change_in n f ss) h') (merged-across n f g ss later (All-tail Merged s (change_in n f ss) h'))))
    (cases_Bool (eqb s.0 n))

-- extents of which the first isn't free stand behind a free one, too
merged-behind : (n : ℕ) (ys : List Extent) → free_name n (first_of ys) ≡ [] → is_merged false ys ≡ true → is_merged true ys ≡ true
merged-behind n [] none m = refl
merged-behind n (y ∷ ys) none m =
    ⊎_elim
    (λ (t : is_free y ≡ true). absurd (let no : _ = rw t at none in cc))
    (λ (t : is_free y ≡ false). and_from (not (true && is_free y)) (is_merged (is_free y) ys) (ap not t) m)
    (cases_Bool (is_free y))

module _ (t : Tiling) (a : ℕ) (c : IsCut t a) (m : IsMergedBut t a) where
  abbrev n : ℕ
  n = (place_of a).0

  abbrev es : List Extent
  es = extents_of (place_of a).0 t

  same : change_in (place_of a).0 (λ xs. xs) t ≡ t
  same = change_in-none n t (λ xs. xs) refl

  -- with nothing before it
  pub merged-alone : 0 < (extent_of t a).span → previous_of t a ≡ None → IsMerged t
  merged-alone named none =
      let e = extent_of t a in
      let ys = behind_of t a in
      let whole : es ≡ e ∷ ys = first-is (place_of a).1 es named none in
      subst IsMerged same
      (merged-across n (change_at (place_of a).1 leave_out) (λ xs. xs) t
      (λ h.
      let left : change_at (place_of a).1 leave_out es ≡ ys = ap (change_at (place_of a).1 leave_out) whole ∙ change_at-here (place_of a).1 e ys (off-of t a c) leave_out in
      ap (is_merged false) whole ∙ merged-weaker (is_free e) ys (merged-behind n ys m.next (ap (is_merged false) (sym left) ∙ h)))
      m.others)

  -- with one before it
  module _ (b : ℕ) (d : IsCut t b) (seg : (place_of b).0 ≡ (place_of a).0) (lower : (place_of b).1 < (place_of a).1) (rest : behind_of t b ≡ extent_of t a ∷ behind_of t a) where
    abbrev x : Extent
    x = extent_of t b

    abbrev ys : List Extent
    ys = behind_of t a

    xs : List Extent
    xs = d.cut.before

    whole : es ≡ d.cut.before ++ (extent_of t b ∷ extent_of t a ∷ behind_of t a)
    whole = ap (λ (m : ℕ). extents_of m t) (sym seg) ∙ (d.cut.is ∙ ap (λ zs. d.cut.before ++ (x ∷ zs)) rest)

    left : change_at (place_of a).1 leave_out es ≡ d.cut.before ++ (extent_of t b ∷ behind_of t a)
    left =
        let off = (place_of a).1 in
        let e = extent_of t a in
        let own = off-of t b d in
        let others = lower-other (place_of b).1 off d.cut.before (omega (arith, lower)) d.cut.lower in
        let here : All (λ (y : Extent). y.off ≢ off) (x ∷ []) = All-cons (λ (y : Extent). y.off ≢ off) x [] (λ q. omega (arith, own, lower, q)) (All-nil (λ (y : Extent). y.off ≢ off)) in
        ap (change_at off leave_out) whole
        ∙ (change_at-skip off leave_out d.cut.before (x ∷ e ∷ ys) others
        ∙ (ap (λ zs. d.cut.before ++ zs) (change_at-skip off leave_out (x ∷ []) (e ∷ ys) here)
        ∙ ap (λ zs. d.cut.before ++ (x ∷ zs)) (change_at-here off e ys (off-of t a c) leave_out)))

    -- which is busy
    pub merged-behind_busy : 0 < (extent_of t b).size → IsMerged t
    merged-behind_busy busy =
        let yes : is_busy x ≡ true = lt-ltb 0 x.size busy in
        subst IsMerged same
        (merged-across n (change_at (place_of a).1 leave_out) (λ xs. xs) t
        (λ h.
        ap (is_merged false) whole
        ∙ merged-front d.cut.before (x ∷ ys) (x ∷ extent_of t a ∷ ys)
        (λ v own.
        let parts = and_parts (not (v && is_free x)) (is_merged (is_free x) ys) own in
        let tail : is_merged false ys ≡ true = ap (λ w. is_merged (not w) ys) (sym yes) ∙ parts.1 in
        and_from (not (v && is_free x)) (is_merged (is_free x) (extent_of t a ∷ ys)) parts.0
        (ap (λ w. is_merged (not w) (extent_of t a ∷ ys)) yes ∙ merged-weaker (is_free (extent_of t a)) ys (merged-behind n ys m.next tail)))
        false (ap (is_merged false) (sym left) ∙ h))
        m.others)

    -- which is free, and takes it
    pub merged-absorbed : (extent_of t b).size ≡ 0 → (extent_of t a).size ≡ 0 → IsMerged (change_extent b absorb t)
    merged-absorbed first second =
        let none : is_busy x ≡ false = busy-free x first in
        let both : Extent = free_extent x.off (x.span + (extent_of t a).span) no_links in
        let joined : absorb x (behind_of t b) ≡ both ∷ ys = ap (absorb x) rest ∙ rw (busy-free (extent_of t a) second) refl in
        let changed : change_at (place_of b).1 absorb es ≡ d.cut.before ++ (both ∷ ys) =
        ap (λ (m : ℕ). change_at (place_of b).1 absorb (extents_of m t)) (sym seg)
        ∙ (cut-change (d.size - 16) 16 (place_of b).1 (extents_of (place_of b).0 t) d.cut absorb ∙ ap (λ zs. d.cut.before ++ zs) joined) in
        subst (λ (m : ℕ). IsMerged (change_in m (change_at (place_of b).1 absorb) t)) (sym seg)
        (merged-across n (change_at (place_of a).1 leave_out) (change_at (place_of b).1 absorb) t
        (λ h.
        ap (is_merged false) changed
        ∙ merged-front d.cut.before (x ∷ ys) (both ∷ ys)
        (λ v own. ap (λ w. not (v && not w) && is_merged (not w) ys) (sym none) ∙ own)
        false (ap (is_merged false) (sym left) ∙ h))
        m.others)

-- it is so where all but links stays
left-plain : (off : ℕ) (es : List Extent) → map without_links (change_at off leave_out es) ≡ change_at off leave_out (map without_links es)
left-plain off [] = refl
left-plain off (e ∷ es) =
    ⊎_elim
    (λ (t : eqb e.off off ≡ true). rw (without-off e, t) refl)
    (λ (t : eqb e.off off ≡ false). rw (without-off e, t) (ap (λ xs. without_links e ∷ xs) (left-plain off es)))
    (cases_Bool (eqb e.off off))

plain-left : (n off : ℕ) (t : Tiling) → plain (change_in n (change_at off leave_out) t) ≡ change_in n (change_at off leave_out) (plain t)
plain-left n off [] = refl
plain-left n off (s ∷ ss) =
    ⊎_elim
    (λ (t : eqb s.0 n ≡ true). rw t (ap (λ (es : List Extent). (s.0, es) ∷ plain ss) (left-plain off s.1)))
    (λ (t : eqb s.0 n ≡ false). rw t (ap (λ xs. (s.0, map without_links s.1) ∷ xs) (plain-left n off ss)))
    (cases_Bool (eqb s.0 n))

pub merged_but-stays : (old new : Tiling) → plain new ≡ plain old → (a : ℕ) → IsMergedBut old a → IsMergedBut new a
merged_but-stays old new same a m = record {
  others =
      merged-stays (change_extent a leave_out old) (change_extent a leave_out new)
      (plain-left (place_of a).0 (place_of a).1 new ∙ ap (change_in (place_of a).0 (change_at (place_of a).1 leave_out)) same ∙ sym (plain-left (place_of a).0 (place_of a).1 old))
      m.others;
  next = next_name-stays old new same a ∙ m.next;
}
