-- The sizes of an image's segments, gone over one by one.
use Rattle.vc_base.proofs.Common.{◌≡◌, ℕ, ◌+◌, ◌*◌, ◌%◌, ◌<◌, ◌≤◌, true, false, not, List, [], ◌∷◌, length, map, drop, find, None, Some, option_map, sym, refl, ap, ◌∙◌, arith, ne_eqb, eq-eqb, drop_all, drop_more}
use Rattle.vc_seg.specs.Field.{field_at}
use Rattle.vc_seg.specs.Segment.{pair_of}
use Rattle.vc_image_check.specs.Bytes.Contents.{contents_of_image, image_segment_count, pairs_in, segment_pair_at}
use Rattle.vc_image_check.specs.Bytes.Header.{IsHeader}
use Rattle.vc_image_check.specs.Laws.Pairs.{items-get}
use Rattle.vc_image_check.specs.Laws.Segs.{pairs-are, segs-are, size-is}
use Rattle.vc_image.specs.Lends.Terms.{first_uneven, is_uneven}
use Rattle.vc_image_check.proofs.Each.{many}

pub pairs-of : (b : List ℕ) → IsHeader b → map pair_of (contents_of_image b).segs ≡ pairs_in b
pairs-of b h = ap (map pair_of) (segs-are b) ∙ pairs-are b h

-- the segment at hand, and those behind it
next-pair : (b : List ℕ) (i : ℕ) → i < image_segment_count b → drop i (pairs_in b) ≡ segment_pair_at (20 + 8 * i) b ∷ drop (i + 1) (pairs_in b)
next-pair b i lt =
    let m = many b in
    let p = segment_pair_at (20 + 8 * i) b in
    drop_more (pairs_in b) i p (omega (arith, lt, m)) ∙ ap (λ (q : ℕ × ℕ). q ∷ drop (i + 1) (pairs_in b)) (items-get segment_pair_at 8 b (image_segment_count b) 20 i p lt)

module _ (b : List ℕ) (round i : ℕ) (lt : i < image_segment_count b) (so_far : find (is_uneven round) (pairs_in b) ≡ find (is_uneven round) (drop i (pairs_in b))) (size : ℕ) (is : size ≡ field_at (24 + 8 * i) b) where
  abbrev here : ℕ × ℕ
  here = segment_pair_at (20 + 8 * i) b

  same : here.1 % round ≡ size % round
  same = ap (λ n. n % round) (sym (size-is size i b is))

  pub even-next : size % round ≡ 0 → find (is_uneven round) (pairs_in b) ≡ find (is_uneven round) (drop (i + 1) (pairs_in b))
  even-next zero =
      let no : is_uneven round here ≡ false = ap not (eq-eqb (here.1 % round) 0 (same ∙ zero)) in
      so_far ∙ ap (find (is_uneven round)) (next-pair b i lt) ∙ rw no refl

  pub uneven-here : (size % round ≡ 0 → ⊥) → IsHeader b → (number : ℕ) → number ≡ field_at (20 + 8 * i) b → Some number ≡ first_uneven round (map pair_of (contents_of_image b).segs)
  uneven-here some h number n =
      let yes : is_uneven round here ≡ true = ap not (ne_eqb (here.1 % round) 0 (λ z. some (sym same ∙ z))) in
      let found : find (is_uneven round) (pairs_in b) ≡ Some here = so_far ∙ ap (find (is_uneven round)) (next-pair b i lt) ∙ rw yes refl in
      ap (λ k. Some k) n ∙ sym (ap (first_uneven round) (pairs-of b h) ∙ ap (option_map (λ (p : ℕ × ℕ). p.0)) found)

pub even-all : (b : List ℕ) (round i : ℕ) → IsHeader b → image_segment_count b ≤ i → find (is_uneven round) (pairs_in b) ≡ find (is_uneven round) (drop i (pairs_in b)) → None ≡ first_uneven round (map pair_of (contents_of_image b).segs)
even-all b round i h le so_far =
    let m = many b in
    let none : drop i (pairs_in b) ≡ [] = drop_all i (pairs_in b) (omega (arith, le, m)) in
    sym (ap (first_uneven round) (pairs-of b h) ∙ ap (option_map (λ (p : ℕ × ℕ). p.0)) (so_far ∙ ap (find (is_uneven round)) none))

-- how many segments there are
pub segments-many : (b : List ℕ) → IsHeader b → length (map pair_of (contents_of_image b).segs) ≡ image_segment_count b
segments-many b h = ap length (pairs-of b h) ∙ many b
