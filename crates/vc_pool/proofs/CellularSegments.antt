-- What a change of one cell leaves true of a pool's segments.
use Rattle.vc_base.proofs.Common.{◌≡◌, ℕ, zero, suc, ◌+◌, ◌-◌, ◌/◌, ◌<◌, ◌≤◌, true, false, ltb, List, [], ◌∷◌, map, length, get_or, take, drop, set, All, sym, ap, ◌∙◌, subst, ⊎_elim, arith, length-drop, length-set, get_or-drop, get_or-set_other, get_or-set_same, drop-set-lt, ltb-false, ltb-true, cases_Bool, cases_eq, All-head, All-set, All-tail, drop_more, get_or-map, get_or_default, length-map, map-set, IsSegmentSize}
use Rattle.vc_seg.specs.Segment.{AreSegments, Bytes, IsRegionSegment}
use Rattle.vc_pool.specs.Cells.Cells.{Cells, pair_at}
use Rattle.vc_pool.specs.Cells.Kept.{IsCellular, IsFront, IsFull, segment_of}
use Rattle.vc_pool.proofs.OneCell.{ChangesCell}

-- one of several numbered segments is written, and keeps its number and its size
number-set : (i : ℕ) (segs : List Bytes) (new : Bytes) → i < length segs → new.number ≡ (get_or segs i new).number → (k : ℕ) (d : Bytes) → (get_or (set segs i new) k d).number ≡ (get_or segs k d).number
number-set i segs new within e k d =
    ⊎_elim
    (λ (q : k ≡ i).
    subst (λ (j : ℕ). (get_or (set segs i new) j d).number ≡ (get_or segs j d).number) (sym q)
    (ap (λ (b : Bytes). b.number) (get_or-set_same segs i new d within) ∙ (e ∙ ap (λ (b : Bytes). b.number) (get_or_default segs i new d within))))
    (λ (q : k ≡ i → ⊥). ap (λ (b : Bytes). b.number) (get_or-set_other segs i k new d q))
    (cases_eq k i)

bytes-set : (i : ℕ) (segs : List Bytes) (new : Bytes) → i < length segs → new.number ≡ (get_or segs i new).number → IsRegionSegment new → AreSegments segs → AreSegments (set segs i new)
bytes-set i segs new within number legal h =
    let long = length-set segs i new in
    record {
      few = omega (arith, h.few, long);
      legal = All-set IsRegionSegment segs i new legal h.legal;
      distinct = λ j k d lt end e.
          h.distinct j k d lt (omega (arith, end, long))
          (sym (number-set i segs new within number j d) ∙ (e ∙ number-set i segs new within number k d));
    }

-- or gets another legal size
pub segments-sized : (i : ℕ) (segs : List Cells) (new : Cells) → i < length segs → new.number ≡ (get_or segs i new).number → IsSegmentSize (length new.bytes) → AreSegments (map segment_of segs) → AreSegments (map segment_of (set segs i new))
segments-sized i segs new within number size h =
    let own : Bytes = segment_of new in
    let inside : i < length (map segment_of segs) = omega (arith, within, length-map segs segment_of) in
    let at : get_or (map segment_of segs) i own ≡ segment_of (get_or segs i new) = get_or-map segment_of segs i new own within in
    let same : own.number ≡ (get_or (map segment_of segs) i own).number = number ∙ sym (ap (λ (b : Bytes). b.number) at) in
    let was : IsRegionSegment (get_or (map segment_of segs) i own) = h.legal i own inside in
    let legal : IsRegionSegment own =
    record {
      first = subst (λ k. 1 ≤ k) (sym same) was.first;
      last = subst (λ k. k ≤ 1023) (sym same) was.last;
      size = size;
    } in
    subst AreSegments (sym (map-set segment_of segs i new)) (bytes-set i (map segment_of segs) own inside same legal h)

pub segments-set : (i : ℕ) (segs : List Cells) (new : Cells) → i < length segs → new.number ≡ (get_or segs i new).number → length new.bytes ≡ length (get_or segs i new).bytes → AreSegments (map segment_of segs) → AreSegments (map segment_of (set segs i new))
segments-set i segs new within number len h =
    let at : get_or (map segment_of segs) i (segment_of new) ≡ segment_of (get_or segs i new) = get_or-map segment_of segs i new (segment_of new) within in
    let was : IsSegmentSize (length (get_or segs i new).bytes) = subst (λ (b : Bytes). IsSegmentSize (length b.bytes)) at ((h.legal i (segment_of new) (omega (arith, within, length-map segs segment_of))).size) in
    segments-sized i segs new within number (subst IsSegmentSize (sym len) was) h

-- the segments with carved cells stand first still: where as many are carved as before, and where one more is in the first segment that isn't full
pub front-set : (i : ℕ) (segs : List Cells) (new : Cells) → i < length segs → new.carved ≡ (get_or segs i new).carved → length new.pairs ≡ length (get_or segs i new).pairs → IsFront segs → IsFront (set segs i new)
front-set i [] new within carved len h = h
front-set zero (s ∷ ss) new within carved len h = (λ k d lt some. carved ∙ (h.0 k d lt some ∙ sym len), h.1)
front-set (suc i) (s ∷ ss) new within carved len h =
    let P : Cells → Type 0 = λ t. 1 ≤ t.carved → IsFull s in
    let there : P (get_or ss i new) = h.0 i new (omega (arith, within)) in
    (All-set P ss i new (λ some. there (subst (λ k. 1 ≤ k) carved some)) h.0, front-set i ss new (omega (arith, within)) carved len h.1)

pub front-carve : (i : ℕ) (segs : List Cells) (new : Cells) → i < length segs → (get_or segs i new).carved < length (get_or segs i new).pairs → All IsFull (take i segs) → IsFront segs → IsFront (set segs i new)
front-carve i [] new within room full h = h
front-carve zero (s ∷ ss) new within room full h = (λ k d lt some. let all = h.0 k d lt some in absurd (omega (arith, all, room)), h.1)
front-carve (suc i) (s ∷ ss) new within room full h = (λ k d lt some. All-head IsFull s (take i ss) full, front-carve i ss new (omega (arith, within)) room (All-tail IsFull s (take i ss) full) h.1)

-- cells of which none was carved from a count on have no block there
pub live-carved : (cell element index : ℕ) (o : Cells) → IsCellular cell element o → index < length o.pairs → 1 ≤ (pair_at index o).0 → index < o.carved
live-carved cell element index o h listed some =
    ⊎_elim
    (λ (t : ltb index o.carved ≡ true). ltb-true index o.carved t)
    (λ (t : ltb index o.carved ≡ false).
    let k : ℕ = index - o.carved in
    let at : o.carved + k ≡ index = omega (arith, ltb-false index o.carved t) in
    let none : (get_or (drop o.carved o.pairs) k (0, 0)).0 ≡ 0 = h.fresh k (0, 0) (omega (arith, at, listed, length-drop o.carved o.pairs)) in
    let same : (get_or (drop o.carved o.pairs) k (0, 0)).0 ≡ (pair_at index o).0 = ap (λ (p : ℕ × ℕ). p.0) (get_or-drop o.carved o.pairs k (0, 0) ∙ ap (λ j. get_or o.pairs j (0, 0)) at) in
    absurd (omega (arith, none, same, some)))
    (cases_Bool (ltb index o.carved))

module _ (cell element index : ℕ) (o s : Cells) (c : ℕ × ℕ) (h : IsCellular cell element o) (is : ChangesCell cell index c o s) (fits : c.0 ≤ element) (blank : c.0 ≡ 0 → c.1 ≡ 0) where
  long : length s.pairs ≡ length o.pairs
  long = ap length is.pairs ∙ length-set o.pairs index c

  -- the pair of a carved cell changes
  pub cellular-set : index < o.carved → s.carved ≡ o.carved → IsCellular cell element s
  cellular-set low carved =
      let P : ℕ × ℕ → Type 0 = λ p. p.0 ≡ 0 in
      let few = h.few in
      record {
        count = long ∙ (h.count ∙ ap (λ k. (k - 32) / cell) (sym is.len));
        some = let some = h.some in omega (arith, some, long);
        few = omega (arith, few, long, carved);
        fresh = subst (λ (xs : List (ℕ × ℕ)). All P xs) (sym (ap (λ k. drop k s.pairs) carved ∙ (ap (drop o.carved) is.pairs ∙ drop-set-lt o.carved o.pairs index c low))) h.fresh;
        fits = subst (λ (xs : List (ℕ × ℕ)). All (λ p. p.0 ≤ element) xs) (sym is.pairs) (All-set (λ (p : ℕ × ℕ). p.0 ≤ element) o.pairs index c fits h.fits);
        blank = subst (λ (xs : List (ℕ × ℕ)). All (λ p. p.0 ≡ 0 → p.1 ≡ 0) xs) (sym is.pairs) (All-set (λ (p : ℕ × ℕ). p.0 ≡ 0 → p.1 ≡ 0) o.pairs index c blank h.blank);
      }

  -- or that of the lowest one that wasn't carved, which then is
  pub cellular-carve : index ≡ o.carved → o.carved < length o.pairs → s.carved ≡ o.carved + 1 → IsCellular cell element s
  cellular-carve at room carved =
      let P : ℕ × ℕ → Type 0 = λ p. p.0 ≡ 0 in
      let rest : All P (drop (o.carved + 1) o.pairs) = All-tail P (pair_at o.carved o) (drop (o.carved + 1) o.pairs) (subst (λ (xs : List (ℕ × ℕ)). All P xs) (drop_more o.pairs o.carved (0, 0) room) h.fresh) in
      record {
        count = long ∙ (h.count ∙ ap (λ k. (k - 32) / cell) (sym is.len));
        some = let some = h.some in omega (arith, some, long);
        few = omega (arith, room, long, carved);
        fresh = subst (λ (xs : List (ℕ × ℕ)). All P xs) (sym (ap (λ k. drop k s.pairs) carved ∙ (ap (drop (o.carved + 1)) is.pairs ∙ drop-set-lt (o.carved + 1) o.pairs index c (omega (arith, at))))) rest;
        fits = subst (λ (xs : List (ℕ × ℕ)). All (λ p. p.0 ≤ element) xs) (sym is.pairs) (All-set (λ (p : ℕ × ℕ). p.0 ≤ element) o.pairs index c fits h.fits);
        blank = subst (λ (xs : List (ℕ × ℕ)). All (λ p. p.0 ≡ 0 → p.1 ≡ 0) xs) (sym is.pairs) (All-set (λ (p : ℕ × ℕ). p.0 ≡ 0 → p.1 ≡ 0) o.pairs index c blank h.blank);
      }
