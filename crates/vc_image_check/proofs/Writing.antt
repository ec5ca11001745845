-- What is read of an image is what was written.
use Rattle.vc_base.proofs.Common.{◌≡◌, ℕ, ◌+◌, ◌*◌, ◌<◌, ◌^◌, List, [], ◌∷◌, ◌++◌, length, map, take, drop, flat_map, sym, refl, ap, ap₂, ◌∙◌, subst, arith, append_assoc, length-append, take_at, drop_at, length-map}
use Rattle.std.proofs.lemmas.List.Elements.{recursion_from_All}
use Rattle.std.proofs.lemmas.List.Sums.{sum_by-cons}
use Rattle.std.specs.List.{AllByRecursion}
use Rattle.vc_seg.specs.Budget.{bytes_of}
use Rattle.vc_seg.specs.Field.{field_at}
use Rattle.vc_seg.specs.Numbered.{AreNumbered, IsRegionPair}
use Rattle.vc_seg.specs.Segment.{Bytes, pair_of}
use Rattle.vc_seg.proofs.Backs.{AreNumbered-segments}
use Rattle.vc_image_check.specs.Bytes.Contents.{body_in, contents_of_image, dict_row_at, image_dict_count, image_segment_count, items_at, pairs_in, rows_of_image, segment_pair_at, segs_from}
use Rattle.vc_image_check.specs.Bytes.Header.{AreContents, FitsRow, IsHeader}
use Rattle.vc_image_check.specs.Bytes.Image.{DictRow, ImageContents, counts, image_of, magic, number_bytes, pair_bytes, row_bytes}
use Rattle.vc_image_check.specs.Laws.Words.{field-again, items-again, length-numbers}

-- a pair's two numbers fit
record FitsPair (p : ℕ × ℕ) : Type 0 where
  number : p.0 < 2 ^ 32
  size : p.1 < 2 ^ 32

fits-pair : (p : ℕ × ℕ) → IsRegionPair p → FitsPair p
fits-pair p h =
    let last = h.last in
    let most = h.size.most in
    record { number = omega (arith, last); size = omega (arith, most) }

pair-again : (p : ℕ × ℕ) (at : ℕ) (front rest : List ℕ) → FitsPair p → length front ≡ at → segment_pair_at at (front ++ pair_bytes p ++ rest) ≡ p
pair-again p at front rest fits e =
    ap₂ (λ (x y : ℕ). (x, y))
    (field-again at at [] p.0 (p.1 ∷ []) front rest fits.number e (omega arith))
    (field-again (at + 4) at (p.0 ∷ []) p.1 [] front rest fits.size e (omega arith))

abbrev row_by : ℕ → ℕ → ℕ → ℕ → ℕ → ℕ → ℕ → ℕ → ℕ → DictRow
row_by a b c d e f g h i = record { method = a; kind = b; count = c; current = d; first = e; last = f; table = g; slots = h; root = i }

row-again : (r : DictRow) (at : ℕ) (front rest : List ℕ) → FitsRow r → length front ≡ at → dict_row_at at (front ++ row_bytes r ++ rest) ≡ r
row-again r at front rest fits e =
    let m = r.method in let k = r.kind in let n = r.count in let c = r.current in let f = r.first in let l = r.last in let t = r.table in let s = r.slots in let o = r.root in
    let b : List ℕ = front ++ row_bytes r ++ rest in
    let e0 : field_at at b ≡ m = field-again at at [] m (k ∷ n ∷ c ∷ f ∷ l ∷ t ∷ s ∷ o ∷ []) front rest fits.method e (omega arith) in
    let e1 : field_at (at + 4) b ≡ k = field-again (at + 4) at (m ∷ []) k (n ∷ c ∷ f ∷ l ∷ t ∷ s ∷ o ∷ []) front rest fits.kind e (omega arith) in
    let e2 : field_at (at + 8) b ≡ n = field-again (at + 8) at (m ∷ k ∷ []) n (c ∷ f ∷ l ∷ t ∷ s ∷ o ∷ []) front rest fits.count e (omega arith) in
    let e3 : field_at (at + 12) b ≡ c = field-again (at + 12) at (m ∷ k ∷ n ∷ []) c (f ∷ l ∷ t ∷ s ∷ o ∷ []) front rest fits.current e (omega arith) in
    let e4 : field_at (at + 16) b ≡ f = field-again (at + 16) at (m ∷ k ∷ n ∷ c ∷ []) f (l ∷ t ∷ s ∷ o ∷ []) front rest fits.first e (omega arith) in
    let e5 : field_at (at + 20) b ≡ l = field-again (at + 20) at (m ∷ k ∷ n ∷ c ∷ f ∷ []) l (t ∷ s ∷ o ∷ []) front rest fits.last e (omega arith) in
    let e6 : field_at (at + 24) b ≡ t = field-again (at + 24) at (m ∷ k ∷ n ∷ c ∷ f ∷ l ∷ []) t (s ∷ o ∷ []) front rest fits.table e (omega arith) in
    let e7 : field_at (at + 28) b ≡ s = field-again (at + 28) at (m ∷ k ∷ n ∷ c ∷ f ∷ l ∷ t ∷ []) s (o ∷ []) front rest fits.slots e (omega arith) in
    let e8 : field_at (at + 32) b ≡ o = field-again (at + 32) at (m ∷ k ∷ n ∷ c ∷ f ∷ l ∷ t ∷ s ∷ []) o [] front rest fits.root e (omega arith) in
    λ i. record { method = e0 i; kind = e1 i; count = e2 i; current = e3 i; first = e4 i; last = e5 i; table = e6 i; slots = e7 i; root = e8 i }

-- segments behind a front
segs-again : (ss : List Bytes) (at : ℕ) (front : List ℕ) → length front ≡ at → segs_from (map pair_of ss) at (front ++ flat_map (λ (s : Bytes). s.bytes) ss) ≡ ss
segs-again [] at front e = refl
segs-again (s ∷ ss) at front e =
    let more : List ℕ = flat_map (λ (x : Bytes). x.bytes) ss in
    let one : take (length s.bytes) (drop at (front ++ (s.bytes ++ more))) ≡ s.bytes =
    ap (take (length s.bytes)) (drop_at front (s.bytes ++ more) at e) ∙ take_at s.bytes more (length s.bytes) refl in
    let two : front ++ (s.bytes ++ more) ≡ front ++ s.bytes ++ more = sym (append_assoc front s.bytes more) in
    let behind : length (front ++ s.bytes) ≡ at + length s.bytes = let l = length-append front s.bytes in omega (arith, l, e) in
    ap₂ (λ (b : List ℕ) (bs : List Bytes). record { number = s.number; bytes = b } ∷ bs) one
    (ap (segs_from (map pair_of ss) (at + length s.bytes)) two ∙ segs-again ss (at + length s.bytes) (front ++ s.bytes) behind)

-- how many bytes they take
length-pairs : (ps : List (ℕ × ℕ)) → length (flat_map pair_bytes ps) ≡ 8 * length ps
length-pairs [] = refl
length-pairs (p ∷ ps) =
    let l = length-append (pair_bytes p) (flat_map pair_bytes ps) in
    let m : length (pair_bytes p) ≡ 8 = length-numbers (p.0 ∷ p.1 ∷ []) in
    let r = length-pairs ps in
    omega (arith, l, m, r)

length-row : (r : DictRow) → length (row_bytes r) ≡ 36
length-row r = length-numbers (r.method ∷ r.kind ∷ r.count ∷ r.current ∷ r.first ∷ r.last ∷ r.table ∷ r.slots ∷ r.root ∷ [])

length-rows : (rs : List DictRow) → length (flat_map row_bytes rs) ≡ 36 * length rs
length-rows [] = refl
length-rows (r ∷ rs) =
    let l = length-append (row_bytes r) (flat_map row_bytes rs) in
    let m = length-row r in
    let n = length-rows rs in
    omega (arith, l, m, n)

length-segs : (ss : List Bytes) → length (flat_map (λ (s : Bytes). s.bytes) ss) ≡ bytes_of (map pair_of ss)
length-segs [] = refl
length-segs (s ∷ ss) =
    let l = length-append s.bytes (flat_map (λ (x : Bytes). x.bytes) ss) in
    let c : bytes_of (map pair_of (s ∷ ss)) ≡ length s.bytes + bytes_of (map pair_of ss) = sum_by-cons (λ (p : ℕ × ℕ). p.1) (pair_of s) (map pair_of ss) in
    let r = length-segs ss in
    omega (arith, l, c, r)

all-fit : (ps : List (ℕ × ℕ)) → AllByRecursion IsRegionPair ps → AllByRecursion FitsPair ps
all-fit [] h = h
all-fit (p ∷ ps) h = (fits-pair p h.0, all-fit ps h.1)

module _ (c : ImageContents) (h : AreContents c) where
  abbrev A : List ℕ
  A = flat_map number_bytes (counts c)

  abbrev B : List ℕ
  B = flat_map pair_bytes (map pair_of c.segs)

  abbrev C : List ℕ
  C = flat_map row_bytes c.rows

  abbrev D : List ℕ
  D = flat_map (λ (s : Bytes). s.bytes) c.segs

  abbrev img : List ℕ
  img = magic ++ A ++ B ++ C ++ D

  numbered : AreNumbered (map pair_of c.segs)
  numbered = AreNumbered-segments c.segs h.segments

  counted : length c.segs < 2 ^ 32
  counted = let f = h.segments.few in omega (arith, f)

  few : length c.rows < 2 ^ 32
  few = let f = h.few in omega (arith, f)

  -- the numbers behind the letters
  behind-letters : img ≡ magic ++ A ++ (B ++ C ++ D)
  behind-letters = ap (λ z. z ++ D) (append_assoc (magic ++ A) B C) ∙ append_assoc (magic ++ A) (B ++ C) D

  segments-is : image_segment_count img ≡ length c.segs
  segments-is = ap (field_at 8) behind-letters ∙ field-again 8 8 [] (length c.segs) (c.root ∷ length c.rows ∷ []) magic (B ++ C ++ D) counted refl refl

  root-is : field_at 12 img ≡ c.root
  root-is = ap (field_at 12) behind-letters ∙ field-again 12 8 (length c.segs ∷ []) c.root (length c.rows ∷ []) magic (B ++ C ++ D) h.root refl refl

  dicts-is : image_dict_count img ≡ length c.rows
  dicts-is = ap (field_at 16) behind-letters ∙ field-again 16 8 (length c.segs ∷ c.root ∷ []) (length c.rows) [] magic (B ++ C ++ D) few refl refl

  long-A : length (magic ++ A) ≡ 20
  long-A = let l = length-append magic A in let m = length-numbers (counts c) in omega (arith, l, m)

  long-B : length (magic ++ A ++ B) ≡ 20 + 8 * length c.segs
  long-B =
      let l = length-append (magic ++ A) B in
      let m = length-pairs (map pair_of c.segs) in
      let n = length-map c.segs pair_of in
      let a = long-A in
      omega (arith, l, m, n, a)

  long-C : length (magic ++ A ++ B ++ C) ≡ 20 + 8 * length c.segs + 36 * length c.rows
  long-C = let l = length-append (magic ++ A ++ B) C in let m = length-rows c.rows in let a = long-B in omega (arith, l, m, a)

  pairs-are : pairs_in img ≡ map pair_of c.segs
  pairs-are =
      let n : image_segment_count img ≡ length (map pair_of c.segs) = segments-is ∙ sym (length-map c.segs pair_of) in
      ap (λ k. items_at segment_pair_at 8 k 20 img) n
      ∙ ap (items_at segment_pair_at 8 (length (map pair_of c.segs)) 20) (append_assoc (magic ++ A ++ B) C D)
      ∙ items-again segment_pair_at pair_bytes 8 FitsPair (λ p. length-numbers (p.0 ∷ p.1 ∷ [])) pair-again (map pair_of c.segs) 20 (magic ++ A) (C ++ D) (all-fit (map pair_of c.segs) (recursion_from_All IsRegionPair (map pair_of c.segs) numbered.legal)) long-A

  rows-are : rows_of_image img ≡ c.rows
  rows-are =
      ap₂ (λ k m. items_at dict_row_at 36 k (20 + 8 * m) img) dicts-is segments-is
      ∙ items-again dict_row_at row_bytes 36 FitsRow length-row row-again c.rows (20 + 8 * length c.segs) (magic ++ A ++ B) D h.rows long-B

  body-is : body_in img ≡ 20 + 8 * length c.segs + 36 * length c.rows
  body-is = ap₂ (λ k m. 20 + 8 * k + 36 * m) segments-is dicts-is

  segs-are : segs_from (pairs_in img) (body_in img) img ≡ c.segs
  segs-are =
      ap₂ (λ ps at. segs_from ps at img) pairs-are body-is
      ∙ segs-again c.segs (20 + 8 * length c.segs + 36 * length c.rows) (magic ++ A ++ B ++ C) long-C

  pub read-again : contents_of_image (image_of c) ≡ c
  unfolding contents_of_image image_of
  read-again = λ i. record { root = root-is i; segs = segs-are i; rows = rows-are i }

  pub header-of : IsHeader (image_of c)
  unfolding image_of
  header-of = record {
    letters = ap (take 8) (behind-letters ∙ append_assoc magic A (B ++ C ++ D)) ∙ take_at magic (A ++ (B ++ C ++ D)) 8 refl;
    segments = subst AreNumbered (sym pairs-are) numbered;
    dicts = let d = dicts-is in let f = h.few in omega (arith, d, f);
    size =
        let l = length-append (magic ++ A ++ B ++ C) D in
        let a = long-C in
        let m = length-segs c.segs in
        let b = body-is in
        let p : bytes_of (pairs_in img) ≡ bytes_of (map pair_of c.segs) = ap bytes_of pairs-are in
        omega (arith, l, a, m, b, p);
  }
