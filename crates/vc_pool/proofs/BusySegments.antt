-- Which segments have a block, by their pairs and by the blocks of the pool.
use Rattle.vc_base.proofs.Common.{◌≡◌, ℕ, zero, suc, ◌+◌, ◌<◌, Bool, true, false, ◌&&◌, ◌||◌, eqb, ltb, List, [], ◌∷◌, map, get_or, All, flat_map, sym, refl, ap, ◌∙◌, ⊎_elim, arith, le-ltb, lt-ltb, eqb-true, and-false, or-false, cases_Bool, eqb-false, All-head, All-tail, list_any-append, get_or-map, length-map, list_any, is_occupied, Block}
use Rattle.std.proofs.Math.Bool.{and-true}
use Rattle.vc_seg.proofs.InOrder.{any-order}
use Rattle.vc_pool.specs.Cells.Blocks.{block_of_cell, cell_blocks, segment_blocks, layout_by}
use Rattle.vc_pool.specs.Cells.Cells.{Cells}
use Rattle.vc_seg.specs.Segment.{AreSegments}
use Rattle.vc_pool.specs.Cells.Kept.{segment_of}
use Rattle.vc_pool.specs.Cells.Place.{cells_in, pair_in}
use Rattle.vc_pool.specs.declared.cells.segment.PoolSegment.{PoolSegment}
use Rattle.vc_pool.proofs.SegmentList.{numbered-in}
use Rattle.vc_pool.specs.Marks.{has_block, has_block_at}

and-or : (a x y : Bool) → ((a && x) || (a && y)) ≡ (a && (x || y))
and-or true x y = refl
and-or false x y = refl

occupied-one : (n m off : ℕ) (bytes : List ℕ) (c : ℕ × ℕ) → is_occupied (block_of_cell m bytes off c) n ≡ (eqb m n && ltb 0 c.0)
occupied-one n m off bytes c =
    ⊎_elim
    (λ (t : eqb c.0 0 ≡ true).
    let none : ltb 0 c.0 ≡ false = let e = eqb-true c.0 0 t in le-ltb 0 c.0 (omega (arith, e)) in
    rw t (sym (ap (λ b. eqb m n && b) none ∙ and-false (eqb m n))))
    (λ (t : eqb c.0 0 ≡ false).
    let some : ltb 0 c.0 ≡ true = let e = eqb-false c.0 0 t in lt-ltb 0 c.0 (omega (arith, e)) in
    rw t (or-false (eqb m n) ∙ sym (ap (λ b. eqb m n && b) some ∙ and-true (eqb m n))))
    (cases_Bool (eqb c.0 0))

occupied-run : (n m cell off : ℕ) (bytes : List ℕ) (cs : List (ℕ × ℕ)) → is_occupied (cell_blocks m bytes cell off cs) n ≡ (eqb m n && list_any (λ (c : ℕ × ℕ). ltb 0 c.0) cs)
occupied-run n m cell off bytes [] = sym (and-false (eqb m n))
occupied-run n m cell off bytes (c ∷ cs) =
    let rest = occupied-run n m cell (off + cell) bytes cs in
    list_any-append (λ (b : Block ℕ). eqb b.seg n) (block_of_cell m bytes off c) (cell_blocks m bytes cell (off + cell) cs)
    ∙ (ap (λ x. x || is_occupied (cell_blocks m bytes cell (off + cell) cs) n) (occupied-one n m off bytes c)
    ∙ (ap (λ y. (eqb m n && ltb 0 c.0) || y) rest
    ∙ and-or (eqb m n) (ltb 0 c.0) (list_any (λ (d : ℕ × ℕ). ltb 0 d.0) cs)))

occupied-all : (n cell : ℕ) (segs : List Cells) → is_occupied (flat_map (segment_blocks cell) segs) n ≡ has_block_at segs n
occupied-all n cell [] = refl
occupied-all n cell (s ∷ ss) =
    list_any-append (λ (b : Block ℕ). eqb b.seg n) (segment_blocks cell s) (flat_map (segment_blocks cell) ss)
    ∙ (ap (λ x. x || is_occupied (flat_map (segment_blocks cell) ss) n) (occupied-run n s.number cell 32 s.bytes s.pairs)
    ∙ ap (λ y. (eqb s.number n && has_block s) || y) (occupied-all n cell ss))

pub occupied-busy : (n cell : ℕ) (segs : List Cells) → is_occupied (layout_by cell segs).blocks n ≡ has_block_at segs n
unfolding layout_by
occupied-busy n cell segs = any-order (λ b. eqb b.seg n) (flat_map (segment_blocks cell) segs) ∙ occupied-all n cell segs

-- no block is in the cells of a segment without one
none-from : (n cell off : ℕ) (bytes : List ℕ) (cs : List (ℕ × ℕ)) → list_any (λ (c : ℕ × ℕ). ltb 0 c.0) cs ≡ false → cell_blocks n bytes cell off cs ≡ []
none-from n cell off bytes [] h = refl
none-from n cell off bytes (c ∷ cs) h =
    ⊎_elim
    (λ (t : ltb 0 c.0 ≡ true). let no : true ≡ false = rw t at h in absurd (cc))
    (λ (t : ltb 0 c.0 ≡ false).
    let rest : list_any (λ (d : ℕ × ℕ). ltb 0 d.0) cs ≡ false = rw t at h in
    ⊎_elim
    (λ (z : eqb c.0 0 ≡ true). rw z (none-from n cell (off + cell) bytes cs rest))
    (λ (z : eqb c.0 0 ≡ false). let e = eqb-false c.0 0 z in let no : true ≡ false = sym (lt-ltb 0 c.0 (omega (arith, e))) ∙ t in absurd (cc))
    (cases_Bool (eqb c.0 0)))
    (cases_Bool (ltb 0 c.0))

pub none-of : (cell : ℕ) (s : Cells) → has_block s ≡ false → segment_blocks cell s ≡ []
none-of cell s h = none-from s.number cell 32 s.bytes s.pairs h

-- where none is marked
pub none-clear : (ms : List Bool) (n : ℕ) → All (λ m. m ≡ false) ms → get_or ms n false ≡ false
none-clear [] n h = refl
none-clear (m ∷ ms) zero h = All-head (λ (b : Bool). b ≡ false) m ms h
none-clear (m ∷ ms) (suc n) h = none-clear ms n (All-tail (λ (b : Bool). b ≡ false) m ms h)

-- the numbers of a pool's segments have marks
pub numbers-below : (segs : List PoolSegment) → AreSegments (map segment_of (cells_in segs)) → All (λ s. s.seg.number < 1024) segs
numbers-below segs h =
    λ i d lt.
    let legal = (numbered-in segs h).legal i (pair_in d) (omega (arith, lt, length-map segs pair_in)) in
    let is : (get_or (map pair_in segs) i (pair_in d)).0 ≡ (get_or segs i d).seg.number = ap (λ (p : ℕ × ℕ). p.0) (get_or-map pair_in segs i d (pair_in d) lt) in
    omega (arith, is)
