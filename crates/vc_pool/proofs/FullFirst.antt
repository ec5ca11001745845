-- The full segments stand first.
use Rattle.vc_base.proofs.Common.{◌≡◌, ℕ, zero, suc, ◌<◌, ◌≤◌, Bool, true, false, eqb, List, [], ◌∷◌, length, get_or, All, sym, ◌∙◌, subst, arith, length-take, get_or-take, eq-eqb, eqb-true, eqb-false, All-tail, length-map}
use Rattle.std.specs.List.{AllWithin}
use Rattle.std.specs.List.Sorted.{IsPartitionedBy}
use Rattle.vc_pool.specs.Cells.Cells.{Cells, cells_of}
use Rattle.vc_pool.specs.Cells.Kept.{AreCellular, IsFront, IsFull}
use Rattle.vc_pool.specs.Cells.Place.{cells_in}
use Rattle.vc_pool.specs.declared.cells.segment.PoolSegment.{PoolSegment}
use Rattle.vc_pool.proofs.SegmentList.{cells-get, some-of}
use Rattle.vc_pool.specs.Cells.Open.{HasCells, IsOpenFrom}

pub have-cells : (element : ℕ) (segs : List Cells) → AreCellular element segs → All HasCells segs
have-cells element segs h = λ k d lt. let c = h.cellular k d lt in record { some = c.some; few = c.few }

-- each before a full one is full
pub full-before : (segs : List Cells) → IsFront segs → All HasCells segs → (i j : ℕ) (d : Cells) → i ≤ j → j < length segs → IsFull (get_or segs j d) → IsFull (get_or segs i d)
full-before [] f h i j d le lt full = absurd (omega (arith, lt))
full-before (s ∷ ss) f h zero zero d le lt full = full
full-before (s ∷ ss) f h zero (suc j) d le lt full =
    let c = All-tail HasCells s ss h j d (omega (arith, lt)) in
    f.0 j d (omega (arith, lt)) (omega (arith, full))
full-before (s ∷ ss) f h (suc i) zero d le lt full = absurd (omega (arith, le))
full-before (s ∷ ss) f h (suc i) (suc j) d le lt full = full-before ss f.1 (All-tail HasCells s ss h) i j d (omega (arith, le)) (omega (arith, lt)) full

-- whether a segment is full, as it is tested
abbrev pub is_full : PoolSegment → Bool
is_full s = eqb s.carved (length s.cells.items)

module _ (segs : List PoolSegment) (f : IsFront (cells_in segs)) (h : All HasCells (cells_in segs)) where
  pub full-first : IsPartitionedBy is_full segs
  full-first i j d le lt full =
      let e : Cells = cells_of d in
      let there : j < length (cells_in segs) = omega (arith, lt, length-map segs cells_of) in
      let here : IsFull (get_or (cells_in segs) j e) = subst IsFull (sym (cells-get segs j d e lt)) (eqb-true (get_or segs j d).carved (length (get_or segs j d).cells.items) full) in
      let front : IsFull (get_or (cells_in segs) i e) = full-before (cells_in segs) f h i j e le there here in
      eq-eqb (get_or segs i d).carved (length (get_or segs i d).cells.items) (subst IsFull (cells-get segs i d e (omega (arith, le, lt))) front)

  pub open-from : (i : ℕ) → i ≤ length segs → AllWithin (λ s. is_full s ≡ true) segs 0 i → AllWithin (λ s. is_full s ≡ false) segs i (length segs) → IsOpenFrom (cells_in segs) i
  open-from i le full rest =
      record {
        full = λ k e lt.
            let low : k < i = omega (arith, lt, length-take i (cells_in segs)) in
            let d : PoolSegment = some-of segs k (omega (arith, low, le)) in
            subst IsFull (sym (get_or-take i (cells_in segs) k e low ∙ cells-get segs k d e (omega (arith, low, le))))
            (eqb-true (get_or segs k d).carved (length (get_or segs k d).cells.items) (full k d (omega arith) low));
        room = λ lt e.
            let within : i < length segs = omega (arith, lt, length-map segs cells_of) in
            let d : PoolSegment = some-of segs i within in
            let other : IsFull (get_or (cells_in segs) i e) → ⊥ = λ q.
            eqb-false (get_or segs i d).carved (length (get_or segs i d).cells.items) (rest i d (omega arith) within) (subst IsFull (cells-get segs i d e within) q) in
            omega (arith, (h i e lt).few, other);
      }
