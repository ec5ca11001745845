-- The lowest uncarved cell is in the first segment that isn't full.
use Rattle.vc_base.proofs.Common.{◌≡◌, ℕ, zero, suc, ◌+◌, ◌-◌, ◌*◌, ◌/◌, ◌%◌, ◌<◌, ◌≤◌, Bool, true, false, ltb, leb, List, [], ◌∷◌, map, length, get_or, take, Some, None, All, Option, option_map, HoldsAt, find, sym, refl, ap, ◌∙◌, subst, ⊎_elim, mul-le-mul_right, arith, take_all, ltb-false, le-ltb, lt-ltb, le-leb, cases_Bool, cases_lt, lt-leb, All-cons, All-head, All-nil, All-tail, length-map, place_of, IsSegmentSize, carved_in, cell_for, cell_offset, uncarved}
use Rattle.vc_model.specs.Pool.{has_uncarved}
use Rattle.vc_pool.specs.Cells.Blocks.{carved_by, pair_of}
use Rattle.vc_pool.specs.Cells.Cells.{Cells, cells_of}
use Rattle.vc_pool.specs.Cells.Kept.{AreCellular, IsCellular, IsFull}
use Rattle.vc_pool.specs.Cells.Place.{cells_in}
use Rattle.vc_pool.specs.declared.cells.segment.PoolSegment.{PoolSegment}
use Rattle.vc_pool.proofs.SegmentList.{cells-get, some-of}
use Rattle.vc_pool.proofs.OneSegment.{numbers-apart}
use Rattle.vc_pool.proofs.BlockPlaces.{all-legal, has-cell}
use Rattle.vc_pool.specs.Cells.Open.{IsFirstOpen, IsOpen, IsOpenFrom}
use Rattle.vc_pool.proofs.CarvedCounts.{carved-there}

-- one more cell ends within a segment where one is uncarved
room-is : (cell element : ℕ) (s : Cells) → 1 ≤ cell → IsCellular cell element s → IsSegmentSize (length s.bytes) → leb (cell_offset cell (s.carved + 1)) (length s.bytes) ≡ ltb s.carved (length s.pairs)
room-is cell element s some h size =
    ⊎_elim
    (λ (lt : s.carved < length s.pairs).
    let has = has-cell cell element s.carved s h size lt in
    le-leb (cell_offset cell (s.carved + 1)) (length s.bytes) has.inside ∙ sym (lt-ltb s.carved (length s.pairs) lt))
    (λ (le : length s.pairs ≤ s.carved).
    let q : ℕ = (length s.bytes - 32) / cell in
    let r : ℕ = (length s.bytes - 32) % cell in
    let count : length s.pairs ≡ q = h.count in
    let many : (q + 1) * cell ≤ (s.carved + 1) * cell = mul-le-mul_right cell (omega (arith, le, count)) in
    let whole : cell * q + r ≡ length s.bytes - 32 = omega (arith, some) in
    let rest : r < cell = omega (arith, some) in
    let same : (q + 1) * cell ≡ cell * q + cell = omega arith in
    lt-leb (cell_offset cell (s.carved + 1)) (length s.bytes) (omega (arith, many, whole, rest, same)) ∙ sym (le-ltb s.carved (length s.pairs) le))
    (cases_lt s.carved (length s.pairs))

-- a test of segments that tells whether they are open
abbrev Tells : (ℕ × ℕ → Bool) → Cells → Type 0
Tells test s = test (pair_of s) ≡ ltb s.carved (length s.pairs)

find-first : (test : ℕ × ℕ → Bool) (segs : List Cells) (i : ℕ) (d : Cells) → All (Tells test) segs → i < length segs → All IsFull (take i segs) → IsOpen (get_or segs i d) → find test (map pair_of segs) ≡ Some (pair_of (get_or segs i d))
find-first test [] i d tells lt full room = absurd (omega (arith, lt))
find-first test (s ∷ ss) zero d tells lt full room =
    rw (All-head (Tells test) s ss tells ∙ lt-ltb s.carved (length s.pairs) room) refl
find-first test (s ∷ ss) (suc i) d tells lt full room =
    rw (All-head (Tells test) s ss tells ∙ le-ltb s.carved (length s.pairs) (omega (arith, All-head IsFull s (take i ss) full)))
    (find-first test ss i d (All-tail (Tells test) s ss tells) (omega (arith, lt)) (All-tail IsFull s (take i ss) full) room)

find-none : (test : ℕ × ℕ → Bool) (segs : List Cells) → All (Tells test) segs → All IsFull segs → find test (map pair_of segs) ≡ None
find-none test [] tells full = refl
find-none test (s ∷ ss) tells full =
    rw (All-head (Tells test) s ss tells ∙ le-ltb s.carved (length s.pairs) (omega (arith, All-head IsFull s ss full)))
    (find-none test ss (All-tail (Tells test) s ss tells) (All-tail IsFull s ss full))

none-find : (test : ℕ × ℕ → Bool) (segs : List Cells) → All (Tells test) segs → find test (map pair_of segs) ≡ None → All (λ (s : Cells). length s.pairs ≤ s.carved) segs
none-find test [] tells e = All-nil (λ (s : Cells). length s.pairs ≤ s.carved)
none-find test (s ∷ ss) tells e =
    let P : Cells → Type 0 = λ t. length t.pairs ≤ t.carved in
    let here = All-head (Tells test) s ss tells in
    ⊎_elim
    (λ (t : ltb s.carved (length s.pairs) ≡ true). absurd (some-none (sym (rw (here ∙ t) refl) ∙ e)))
    (λ (t : ltb s.carved (length s.pairs) ≡ false).
    All-cons P s ss (ltb-false s.carved (length s.pairs) t) (none-find test ss (All-tail (Tells test) s ss tells) (rw (here ∙ t) at e)))
    (cases_Bool (ltb s.carved (length s.pairs)))
  where
    some-none : Some (pair_of s) ≡ None → ⊥
    some-none q = cc

module _ (element : ℕ) (segs : List Cells) (k : AreCellular element segs) (some : 1 ≤ element) where
  abbrev cell : ℕ
  cell = cell_for element

  abbrev test : ℕ × ℕ → Bool
  test = has_uncarved cell (carved_by segs)

  counted : (i : ℕ) (d : Cells) → i < length segs → carved_in (get_or segs i d).number (carved_by segs) ≡ (get_or segs i d).carved
  counted i d lt = carved-there segs (numbers-apart segs k.segments) i d lt

  tells : All (Tells test) segs
  tells i d lt =
      let s : Cells = get_or segs i d in
      ap (λ n. leb (cell_offset cell (n + 1)) (length s.bytes)) (counted i d lt)
      ∙ room-is cell element s (omega (arith, some)) (k.cellular i d lt) ((all-legal segs k.segments i d lt).size)

  pub uncarved-first : (i : ℕ) (d : Cells) → IsFirstOpen segs i → uncarved cell (carved_by segs) (map pair_of segs) ≡ Some ((get_or segs i d).number, cell_offset cell (get_or segs i d).carved)
  uncarved-first i d f =
      let s : Cells = get_or segs i d in
      let at : ℕ → Option (ℕ × ℕ) = λ n. Some (s.number, cell_offset cell n) in
      ap (option_map {U = ℕ × ℕ} (λ (p : ℕ × ℕ). (p.0, cell_offset cell (carved_in p.0 (carved_by segs))))) (find-first test segs i d tells f.within f.first.full (f.first.room f.within d))
      ∙ ap at (counted i d f.within)

  pub uncarved-none : (i : ℕ) → length segs ≤ i → IsOpenFrom segs i → uncarved cell (carved_by segs) (map pair_of segs) ≡ None
  uncarved-none i le f =
      ap (option_map {U = ℕ × ℕ} (λ (p : ℕ × ℕ). (p.0, cell_offset cell (carved_in p.0 (carved_by segs)))))
      (find-none test segs tells (subst (λ (ss : List Cells). All IsFull ss) (take_all i segs le) f.full))

  pub all-full : uncarved cell (carved_by segs) (map pair_of segs) ≡ None → All IsFull segs
  all-full e i d lt =
      let all = none-find test segs tells (map-none (λ (p : ℕ × ℕ). (p.0, cell_offset cell (carved_in p.0 (carved_by segs)))) (find test (map pair_of segs)) e) i d lt in
      omega (arith, (k.cellular i d lt).few, all)
    where
      map-none : (f : ℕ × ℕ → ℕ × ℕ) (o : Option (ℕ × ℕ)) → option_map f o ≡ None → o ≡ None
      map-none f None q = refl
      map-none f (Some p) q = cc

-- and so it is of a list of segments
module _ (element : ℕ) (segs : List PoolSegment) (k : AreCellular element (cells_in segs)) (some : 1 ≤ element) where
  pub uncarved-there : (i a : ℕ) → IsFirstOpen (cells_in segs) i → HoldsAt (λ (s : PoolSegment). (let at : ℕ × ℕ = (s.seg.number, cell_offset (cell_for element) s.carved) in place_of a ≡ at)) segs i →
      Some (place_of a) ≡ uncarved (cell_for element) (carved_by (cells_in segs)) (map pair_of (cells_in segs))
  uncarved-there i a f place =
      let within : i < length segs = omega (arith, length-map segs cells_of) in
      let d : PoolSegment = some-of segs i within in
      let at : Cells → ℕ × ℕ = λ s. (s.number, cell_offset (cell_for element) s.carved) in
      ap Some (place d ∙ ap at (sym (cells-get segs i d (cells_of d) within))) ∙ sym (uncarved-first element (cells_in segs) k some i (cells_of d) f)
