-- The segments of an image, one by one.
use Rattle.std.specs.Prelude.{◌≡◌, ◌≢◌, ℕ, zero, suc, ◌+◌, ◌*◌, ◌<◌, ◌≤◌, List, [], ◌∷◌, ◌++◌, All, length, map, get_or, take, drop, refl}
use Rattle.vc_base.proofs.Common.{sym, ap, ap₂, ◌∙◌, subst, arith, length-drop, length-take-le, get_or-map, get_or_default, get_or-take}
use Rattle.std.proofs.lemmas.Grind.{take_at_read}
use Rattle.std.proofs.lemmas.List.Sums.{sum_by-append, sum_by-cons, sum_by-take-drop}
use Rattle.vc_seg.specs.Budget.{bytes_of}
use Rattle.vc_seg.specs.Field.{field_at}
use Rattle.vc_seg.specs.Numbered.{IsRegionPair}
use Rattle.vc_seg.specs.Segment.{AreSegments, Bytes, pair_of}
use Rattle.vc_image_check.specs.Bytes.Contents.{body_in, contents_of_image, image_segment_count, pairs_in, segment_pair_at, segs_from}
use Rattle.vc_image_check.specs.Bytes.Header.{IsHeader}
use Rattle.vc_image_check.specs.Bytes.Image.{pair_bytes}
use Rattle.vc_image_check.specs.Laws.Pairs.{items-get}
use Rattle.vc_image_check.specs.Laws.Reading.{segs-length, segs-pairs}
use Rattle.vc_image_check.specs.Laws.Words.{length-items}

-- the segments of an image
abbrev pub segs_in : List ℕ → List Bytes
segs_in b = segs_from (pairs_in b) (body_in b) b

pub segs-are : (b : List ℕ) → (contents_of_image b).segs ≡ segs_in b
unfolding contents_of_image
segs-are b = refl

-- the segment of a pair, whose bytes lie from a place on
abbrev pub segment_by : ℕ × ℕ → ℕ → List ℕ → Bytes
segment_by p at b = record { number = p.0; bytes = take p.1 (drop at b) }

-- a segment at its place
segs-get : (ps : List (ℕ × ℕ)) (at : ℕ) (b : List ℕ) (i : ℕ) (d : Bytes) (p : ℕ × ℕ) → i < length ps → get_or ps i p ≡ p → get_or (segs_from ps at b) i d ≡ segment_by p (at + bytes_of (take i ps)) b
segs-get [] at b i d p lt e = absurd (omega (arith, lt))
segs-get (q ∷ ps) at b zero d p lt e =
    let same : at ≡ at + bytes_of [] = omega arith in
    ap₂ (λ (r : ℕ × ℕ) (k : ℕ). segment_by r k b) e same
segs-get (q ∷ ps) at b (suc i) d p lt e =
    let c : bytes_of (q ∷ take i ps) ≡ q.1 + bytes_of (take i ps) = sum_by-cons (λ (s : ℕ × ℕ). s.1) q (take i ps) in
    let same : at + q.1 + bytes_of (take i ps) ≡ at + bytes_of (q ∷ take i ps) = omega (arith, c) in
    segs-get ps (at + q.1) b i d p (omega (arith, lt)) e ∙ ap (λ k. segment_by p k b) same

module _ (b : List ℕ) (h : IsHeader b) where
  pub pairs-are : map pair_of (segs_in b) ≡ pairs_in b
  pairs-are = let z = h.size in segs-pairs (pairs_in b) (body_in b) b (omega (arith, z))

  pub segs-many : length (segs_in b) ≡ length (pairs_in b)
  segs-many = segs-length (pairs_in b) (body_in b) b

  pair-get : (k : ℕ) (d : Bytes) → k < length (segs_in b) → get_or (pairs_in b) k (pair_of d) ≡ pair_of (get_or (segs_in b) k d)
  pair-get k d lt = ap (λ z. get_or z k (pair_of d)) (sym pairs-are) ∙ get_or-map pair_of (segs_in b) k d (pair_of d) lt

  pub are-segments : AreSegments (segs_in b)
  are-segments =
      let m = segs-many in
      let few = h.segments.few in
      record {
        few = omega (arith, m, few);
        legal = λ k d lt. subst IsRegionPair (pair-get k d lt) (h.segments.legal k (pair_of d) (omega (arith, lt, m)));
        distinct = λ i j d lt within same.
            h.segments.distinct i j (pair_of d) lt (omega (arith, within, m))
            (ap (λ (p : ℕ × ℕ). p.0) (pair-get i d (omega (arith, lt, within))) ∙ same ∙ sym (ap (λ (p : ℕ × ℕ). p.0) (pair-get j d within)));
      }

-- of the segments of an image so many are passed, and the next one's bytes lie from a place on
module _ (b : List ℕ) (h : IsHeader b) (i at : ℕ) (place : at ≡ body_in b + bytes_of (take i (pairs_in b))) (lt : i < image_segment_count b) where
  abbrev pub pair : ℕ × ℕ
  pair = segment_pair_at (20 + 8 * i) b

  abbrev pub segment : Bytes
  segment = segment_by pair at b

  below : i < length (pairs_in b)
  below = let m = length-items segment_pair_at pair_bytes 8 (image_segment_count b) 20 b in omega (arith, lt, m)

  pub there : i < length (segs_in b)
  there = let m = segs-many b h in let l = below in omega (arith, m, l)

  pair-is : get_or (pairs_in b) i pair ≡ pair
  pair-is = items-get segment_pair_at 8 b (image_segment_count b) 20 i pair lt

  more : take (i + 1) (pairs_in b) ≡ take i (pairs_in b) ++ pair ∷ []
  more = (take_at_read (pairs_in b) i pair below).1 ∙ ap (λ z. take i (pairs_in b) ++ z ∷ []) pair-is

  sums : bytes_of (take (i + 1) (pairs_in b)) ≡ bytes_of (take i (pairs_in b)) + pair.1
  sums = ap bytes_of more ∙ sum_by-append (λ (q : ℕ × ℕ). q.1) (take i (pairs_in b)) (pair ∷ []) ∙ (let one : bytes_of (pair ∷ []) ≡ pair.1 = omega arith in ap (λ z. bytes_of (take i (pairs_in b)) + z) one)

  pub next-place : at + pair.1 ≡ body_in b + bytes_of (take (i + 1) (pairs_in b))
  next-place = let s = sums in let p = place in omega (arith, s, p)

  pub within : at + pair.1 ≤ length b
  within =
      let t = sum_by-take-drop (λ (q : ℕ × ℕ). q.1) (pairs_in b) (i + 1) in
      let u = sums in
      let p = place in
      let z = h.size in
      omega (arith, t, u, p, z)

  pub legal : IsRegionPair pair
  legal = subst IsRegionPair pair-is (h.segments.legal i pair below)

  pub long : length (take pair.1 (drop at b)) ≡ pair.1
  long = let l = length-drop at b in let w = within in length-take-le pair.1 (drop at b) (omega (arith, l, w))

  pub segment-is : get_or (segs_in b) i segment ≡ segment
  segment-is = segs-get (pairs_in b) (body_in b) b i segment pair below pair-is ∙ ap (λ k. segment_by pair k b) (sym place)

  pub segs-more : take (i + 1) (segs_in b) ≡ take i (segs_in b) ++ segment ∷ []
  segs-more = (take_at_read (segs_in b) i segment there).1 ∙ ap (λ z. take i (segs_in b) ++ z ∷ []) segment-is

  -- no segment before it has its number
  pub new-number : (j : ℕ) (d : Bytes) → j < length (take i (segs_in b)) → (get_or (take i (segs_in b)) j d).number ≢ segment.number
  new-number j d low same =
      let l = there in
      let few = length-take-le i (segs_in b) (omega (arith, l)) in
      let front : j < i = omega (arith, low, few) in
      let one : (get_or (segs_in b) j d).number ≡ segment.number = ap (λ (s : Bytes). s.number) (sym (get_or-take i (segs_in b) j d front)) ∙ same in
      let here : (get_or (segs_in b) i d).number ≡ segment.number = ap (λ (s : Bytes). s.number) (get_or_default (segs_in b) i d segment there ∙ segment-is) in
      (are-segments b h).distinct j i d front there (one ∙ sym here)

-- a part of the segment of an image, and a number in it
pub size-is : (w i : ℕ) (b : List ℕ) → w ≡ field_at (24 + 8 * i) b → w ≡ (segment_pair_at (20 + 8 * i) b).1
size-is w i b e = let place : 24 + 8 * i ≡ 20 + 8 * i + 4 = omega arith in e ∙ ap (λ z. field_at z b) place

pub segs-count : (b : List ℕ) → IsHeader b → length (segs_in b) ≡ image_segment_count b
segs-count b h = segs-many b h ∙ length-items segment_pair_at pair_bytes 8 (image_segment_count b) 20 b

-- what holds of each segment holds of the one at a place
pub segs-each : (P : Bytes → Type 0) (b : List ℕ) → All P (contents_of_image b).segs → (i : ℕ) (d : Bytes) → i < length (segs_in b) → P (get_or (segs_in b) i d)
segs-each P b all i d lt = subst (All P) (segs-are b) all i d lt
