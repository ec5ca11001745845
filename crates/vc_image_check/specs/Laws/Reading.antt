-- Bytes with the head of an image are the image of what is read of them.
use Rattle.std.specs.Prelude.{◌≡◌, ℕ, ◌+◌, ◌*◌, ◌≤◌, List, [], ◌∷◌, ◌++◌, length, map, take, drop, flat_map, refl}
use Rattle.vc_base.proofs.Common.{sym, ap, ap₂, ◌∙◌, arith, length-drop, take-add, take_all, length-take-le}
use Rattle.std.proofs.lemmas.List.Sums.{sum_by-cons}
use Rattle.vc_seg.specs.Budget.{bytes_of}
use Rattle.vc_seg.specs.Field.{field_at}
use Rattle.vc_seg.specs.Segment.{Bytes, pair_of}
use Rattle.vc_image_check.specs.Bytes.Contents.{body_in, contents_of_image, dict_row_at, image_dict_count, image_segment_count, items_at, pairs_in, rows_of_image, segment_pair_at, segs_from}
use Rattle.vc_image_check.specs.Bytes.Header.{AreBytes, IsHeader}
use Rattle.vc_image_check.specs.Bytes.Image.{image_of, magic, number_bytes, pair_bytes, row_bytes}
use Rattle.vc_image_check.specs.Laws.Words.{items-back, length-items, number-back, parts}

-- the numbers of a pair and of a dictionary
pub numbers-back : (b : List ℕ) → AreBytes b → (k at : ℕ) → at + 4 * k ≤ length b → flat_map number_bytes (items_at field_at 4 k at b) ≡ take (4 * k) (drop at b)
numbers-back b small k at h = items-back field_at number_bytes 4 b (λ p l. number-back p b small l) k at h

pub pair-back : (b : List ℕ) → AreBytes b → (at : ℕ) → at + 8 ≤ length b → pair_bytes (segment_pair_at at b) ≡ take 8 (drop at b)
pair-back b small at h = numbers-back b small 2 at h

same-row : (at : ℕ) (b : List ℕ) → row_bytes (dict_row_at at b) ≡ flat_map number_bytes (items_at field_at 4 9 at b)
same-row at b =
    let e2 : at + 4 + 4 ≡ at + 8 = omega arith in
    let e3 : at + 8 + 4 ≡ at + 12 = omega arith in
    let e4 : at + 12 + 4 ≡ at + 16 = omega arith in
    let e5 : at + 16 + 4 ≡ at + 20 = omega arith in
    let e6 : at + 20 + 4 ≡ at + 24 = omega arith in
    let e7 : at + 24 + 4 ≡ at + 28 = omega arith in
    let e8 : at + 28 + 4 ≡ at + 32 = omega arith in
    rw (e2, e3, e4, e5, e6, e7, e8) refl

pub row-back : (b : List ℕ) → AreBytes b → (at : ℕ) → at + 36 ≤ length b → row_bytes (dict_row_at at b) ≡ take 36 (drop at b)
row-back b small at h = same-row at b ∙ numbers-back b small 9 at h

-- segments of some numbers and sizes
pub segs-bytes : (ps : List (ℕ × ℕ)) (at : ℕ) (b : List ℕ) → flat_map (λ (s : Bytes). s.bytes) (segs_from ps at b) ≡ take (bytes_of ps) (drop at b)
segs-bytes [] at b = refl
segs-bytes (p ∷ ps) at b =
    ap (λ z. take p.1 (drop at b) ++ z) (segs-bytes ps (at + p.1) b)
    ∙ parts p.1 (bytes_of ps) at b ∙ ap (λ z. take z (drop at b)) (sym (sum_by-cons (λ (s : ℕ × ℕ). s.1) p ps))

pub segs-pairs : (ps : List (ℕ × ℕ)) (at : ℕ) (b : List ℕ) → at + bytes_of ps ≤ length b → map pair_of (segs_from ps at b) ≡ ps
segs-pairs [] at b h = refl
segs-pairs (p ∷ ps) at b h =
    let c : bytes_of (p ∷ ps) ≡ p.1 + bytes_of ps = sum_by-cons (λ (s : ℕ × ℕ). s.1) p ps in
    let l = length-drop at b in
    let long : length (take p.1 (drop at b)) ≡ p.1 = length-take-le p.1 (drop at b) (omega (arith, h, c, l)) in
    ap₂ (λ (n : ℕ) (qs : List (ℕ × ℕ)). (p.0, n) ∷ qs) long (segs-pairs ps (at + p.1) b (omega (arith, h, c)))

pub segs-length : (ps : List (ℕ × ℕ)) (at : ℕ) (b : List ℕ) → length (segs_from ps at b) ≡ length ps
segs-length [] at b = refl
segs-length (p ∷ ps) at b = let r = segs-length ps (at + p.1) b in omega (arith, r)

-- a front and the part behind it
joined : (n at to : ℕ) (b x y : List ℕ) → to ≡ at + n → x ≡ take at b → y ≡ take n (drop at b) → x ++ y ≡ take to b
joined n at to b x y t e f = ap₂ (λ u v. u ++ v) e f ∙ sym (take-add at n b) ∙ ap (λ k. take k b) (sym t)

module _ (b : List ℕ) (small : AreBytes b) (h : IsHeader b) where
  abbrev s : ℕ
  s = image_segment_count b

  abbrev d : ℕ
  d = image_dict_count b

  long : length b ≡ 20 + 8 * s + 36 * d + bytes_of (pairs_in b)
  long = h.size

  abbrev segs : List Bytes
  segs = segs_from (pairs_in b) (body_in b) b

  abbrev numbers : List ℕ
  numbers = length segs ∷ field_at 12 b ∷ length (rows_of_image b) ∷ []

  numbers-are : numbers ≡ items_at field_at 4 3 8 b
  numbers-are =
      ap₂ (λ x y. x ∷ field_at 12 b ∷ y ∷ [])
      (segs-length (pairs_in b) (body_in b) b ∙ length-items segment_pair_at pair_bytes 8 s 20 b)
      (length-items dict_row_at row_bytes 36 d (20 + 8 * s) b)

  counted : magic ++ flat_map number_bytes numbers ≡ take 20 b
  counted = joined 12 8 20 b magic (flat_map number_bytes numbers) refl (sym h.letters) (ap (flat_map number_bytes) numbers-are ∙ numbers-back b small 3 8 (omega (arith, long)))

  paired : magic ++ flat_map number_bytes numbers ++ flat_map pair_bytes (map pair_of segs) ≡ take (20 + 8 * s) b
  paired = joined (8 * s) 20 (20 + 8 * s) b (magic ++ flat_map number_bytes numbers) (flat_map pair_bytes (map pair_of segs)) refl counted
      (ap (flat_map pair_bytes) (segs-pairs (pairs_in b) (body_in b) b (omega (arith, long))) ∙ items-back segment_pair_at pair_bytes 8 b (pair-back b small) s 20 (omega (arith, long)))

  rowed : magic ++ flat_map number_bytes numbers ++ flat_map pair_bytes (map pair_of segs) ++ flat_map row_bytes (rows_of_image b) ≡ take (body_in b) b
  rowed = joined (36 * d) (20 + 8 * s) (body_in b) b (magic ++ flat_map number_bytes numbers ++ flat_map pair_bytes (map pair_of segs)) (flat_map row_bytes (rows_of_image b)) refl paired
      (items-back dict_row_at row_bytes 36 b (row-back b small) d (20 + 8 * s) (omega (arith, long)))

  pub written-back : image_of (contents_of_image b) ≡ b
  unfolding image_of contents_of_image
  written-back =
      joined (bytes_of (pairs_in b)) (body_in b) (body_in b + bytes_of (pairs_in b)) b
      (magic ++ flat_map number_bytes numbers ++ flat_map pair_bytes (map pair_of segs) ++ flat_map row_bytes (rows_of_image b)) (flat_map (λ (x : Bytes). x.bytes) segs) refl rowed
      (segs-bytes (pairs_in b) (body_in b) b)
      ∙ take_all (body_in b + bytes_of (pairs_in b)) b (omega (arith, long))
