-- The segments of an image, one by one.
use Rattle.vc_base.proofs.Common.{◌≡◌, ℕ, zero, suc, ◌+◌, ◌*◌, ◌<◌, ◌≤◌, List, [], ◌∷◌, ◌++◌, Some, length, get_or, take, drop, sym, ap, ap₂, ◌∙◌, subst, arith, All-push, take_all, length-drop, length-take-le}
use Rattle.std.proofs.lemmas.Grind.{take_at_read}
use Rattle.std.proofs.lemmas.List.Sums.{sum_by-append, sum_by-cons, sum_by-take-drop}
use Rattle.std.proofs.lemmas.Option.{slice_get-get_or}
use Rattle.vc_model.specs.Discipline.{IsSegmentSize}
use Rattle.vc_seg.specs.Budget.{bytes_of}
use Rattle.vc_seg.specs.Field.{field_at}
use Rattle.vc_seg.specs.Segment.{Bytes}
use Rattle.vc_image_check.specs.Bytes.Contents.{body_in, contents_of_image, image_segment_count, pairs_in, segment_pair_at, segs_from}
use Rattle.vc_image_check.specs.Bytes.Header.{IsHeader}
use Rattle.vc_image_check.specs.Bytes.Image.{pair_bytes}
use Rattle.vc_image_check.specs.Laws.Pairs.{items-get}
use Rattle.vc_image_check.specs.Laws.Reading.{segs-length}
use Rattle.vc_image_check.specs.Laws.Words.{length-items}
use Rattle.vc_image_check.specs.Segments.Sound.{AreSoundSegments, IsFirstUnsoundSegment, IsSoundSegment}

abbrev Sound : Bytes → Type 0
Sound s = IsSoundSegment s.bytes

-- the segment of a pair, whose bytes lie from a place on
abbrev pub segment_at : ℕ × ℕ → ℕ → List ℕ → Bytes
segment_at p at b = record { number = p.0; bytes = take p.1 (drop at b) }

-- a segment at its place
segs-get : (ps : List (ℕ × ℕ)) (at : ℕ) (b : List ℕ) (i : ℕ) (d : Bytes) (p : ℕ × ℕ) → i < length ps → get_or ps i p ≡ p → get_or (segs_from ps at b) i d ≡ segment_at p (at + bytes_of (take i ps)) b
segs-get [] at b i d p lt e = absurd (omega (arith, lt))
segs-get (q ∷ ps) at b zero d p lt e =
    let same : at ≡ at + bytes_of [] = omega arith in
    ap₂ (λ (r : ℕ × ℕ) (k : ℕ). segment_at r k b) e same
segs-get (q ∷ ps) at b (suc i) d p lt e =
    let c : bytes_of (q ∷ take i ps) ≡ q.1 + bytes_of (take i ps) = sum_by-cons (λ (s : ℕ × ℕ). s.1) q (take i ps) in
    let same : at + q.1 + bytes_of (take i ps) ≡ at + bytes_of (q ∷ take i ps) = omega (arith, c) in
    segs-get ps (at + q.1) b i d p (omega (arith, lt)) e ∙ ap (λ k. segment_at p k b) same

-- the segments before this one are sound, and its bytes lie from a place on
pub record Sofar (b : List ℕ) (i at : ℕ) : Type 0 where
  pub place : at ≡ body_in b + bytes_of (take i (pairs_in b))
  pub sound : AreSoundSegments (take i (segs_from (pairs_in b) (body_in b) b))

pub many : (b : List ℕ) → length (pairs_in b) ≡ image_segment_count b
many b = length-items segment_pair_at pair_bytes 8 (image_segment_count b) 20 b

module _ (b : List ℕ) (h : IsHeader b) (i at : ℕ) (s : Sofar b i at) (lt : i < image_segment_count b) where
  abbrev pub pair : ℕ × ℕ
  pair = segment_pair_at (20 + 8 * i) b

  abbrev segs : List Bytes
  segs = segs_from (pairs_in b) (body_in b) b

  below : i < length (pairs_in b)
  below = let m = many b in omega (arith, lt, m)

  there : i < length segs
  there = let m = segs-length (pairs_in b) (body_in b) b in let l = below in omega (arith, m, l)

  pair-is : get_or (pairs_in b) i pair ≡ pair
  pair-is = items-get segment_pair_at 8 b (image_segment_count b) 20 i pair lt

  pub pair-size : 64 ≤ pair.1
  pair-size = let l = h.segments.legal i pair below in let e = ap (λ (q : ℕ × ℕ). q.1) pair-is in let least = l.size.least in omega (arith, least, e)

  more : take (i + 1) (pairs_in b) ≡ take i (pairs_in b) ++ pair ∷ []
  more = (take_at_read (pairs_in b) i pair below).1 ∙ ap (λ z. take i (pairs_in b) ++ z ∷ []) pair-is

  sums : bytes_of (take (i + 1) (pairs_in b)) ≡ bytes_of (take i (pairs_in b)) + pair.1
  sums = ap bytes_of more ∙ sum_by-append (λ (q : ℕ × ℕ). q.1) (take i (pairs_in b)) (pair ∷ []) ∙ (let one : bytes_of (pair ∷ []) ≡ pair.1 = omega arith in ap (λ z. bytes_of (take i (pairs_in b)) + z) one)

  pub within : at + pair.1 ≤ length b
  within =
      let t = sum_by-take-drop (λ (q : ℕ × ℕ). q.1) (pairs_in b) (i + 1) in
      let u = sums in
      let p = s.place in
      let z = h.size in
      omega (arith, t, u, p, z)

  pub legal : (n : ℕ) → n ≡ pair.1 → IsSegmentSize n
  legal n e = subst IsSegmentSize (ap (λ (q : ℕ × ℕ). q.1) pair-is ∙ sym e) (h.segments.legal i pair below).size

  pub long : length (take pair.1 (drop at b)) ≡ pair.1
  long = let l = length-drop at b in let w = within in length-take-le pair.1 (drop at b) (omega (arith, l, w))

  segment-is : get_or segs i (segment_at pair at b) ≡ segment_at pair at b
  segment-is = segs-get (pairs_in b) (body_in b) b i (segment_at pair at b) pair below pair-is ∙ ap (λ k. segment_at pair k b) (sym s.place)

  pub next : IsSoundSegment (take pair.1 (drop at b)) → Sofar b (i + 1) (at + pair.1)
  next sound =
      let u = sums in
      let p = s.place in
      let one : take (i + 1) segs ≡ take i segs ++ segment_at pair at b ∷ [] = (take_at_read segs i (segment_at pair at b) there).1 ∙ ap (λ z. take i segs ++ z ∷ []) segment-is in
      record { place = omega (arith, u, p); sound = subst AreSoundSegments (sym one) (All-push Sound (take i segs) (segment_at pair at b) s.sound sound) }

  pub first-unsound : (n : ℕ) → n ≡ pair.0 → (IsSoundSegment (take pair.1 (drop at b)) → ⊥) → IsFirstUnsoundSegment n (contents_of_image b).segs
  unfolding contents_of_image
  first-unsound n e bad = record {
    place = i;
    segment = segment_at pair at b;
    there = slice_get-get_or segs i (segment_at pair at b) there ∙ ap (λ z. Some z) segment-is;
    numbered = sym e;
    unsound = bad;
    before = s.sound;
  }

pub sofar-none : (b : List ℕ) (at : ℕ) → at ≡ body_in b → Sofar b 0 at
sofar-none b at e = record { place = omega (arith, e); sound = λ k d lt. absurd (omega (arith, lt)) }

pub sofar-all : (b : List ℕ) (i at : ℕ) → Sofar b i at → i ≡ image_segment_count b → AreSoundSegments (contents_of_image b).segs
unfolding contents_of_image
sofar-all b i at s e =
    let m = many b in
    let l = segs-length (pairs_in b) (body_in b) b in
    subst AreSoundSegments (take_all i (segs_from (pairs_in b) (body_in b) b) (omega (arith, m, l, e))) s.sound

-- the size of a segment and its bytes, as they are read
pub size-is : (w i : ℕ) (b : List ℕ) → w ≡ field_at (24 + 8 * i) b → w ≡ (segment_pair_at (20 + 8 * i) b).1
size-is w i b e = let place : 24 + 8 * i ≡ 20 + 8 * i + 4 = omega arith in e ∙ ap (λ z. field_at z b) place

pub part-is : (w i at : ℕ) (b x : List ℕ) → w ≡ field_at (24 + 8 * i) b → x ≡ take w (drop at b) → x ≡ take (segment_pair_at (20 + 8 * i) b).1 (drop at b)
part-is w i at b x e f = f ∙ ap (λ k. take k (drop at b)) (size-is w i b e)
