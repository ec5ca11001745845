-- Blocks in cells, two by two.
use Rattle.vc_base.proofs.Common.{◌≡◌, ℕ, ◌+◌, ◌≤◌, true, false, eqb, ◌≢◌, List, [], ◌∷◌, take, drop, All, AllPairs, flat_map, sym, refl, ◌∙◌, inl, inr, ⊎_elim, arith, cases_Bool, All-append, All-head, All-nil, All-tail, All-weaker, AllPairs-cons, Block, lies_before, with_block, IsApart}
use Rattle.vc_model.specs.Pool.{cell_run}
use Rattle.vc_model.proofs.Pairs.{AllPairs-head, AllPairs-tail}
use Rattle.vc_seg.proofs.Lists.{AllPairs-append, AllPairs-nil}
use Rattle.vc_seg.proofs.Blocks.{All-with, apart_by_seg}
use Rattle.vc_seg.specs.InOrder.{in_order}
use Rattle.vc_seg.proofs.InOrder.{All-in_order}
use Rattle.vc_pool.specs.Cells.Blocks.{block_of_cell, cell_blocks, segment_blocks}
use Rattle.vc_pool.specs.Cells.Cells.{Cells}
use Rattle.vc_pool.specs.Cells.Kept.{IsCellular}
use Rattle.vc_pool.proofs.OneCell.{All-block, blocks-seg, others-of}

-- what is true of each two blocks is so in whichever order they are put
module _ (R : Block ℕ → Block ℕ → Type 0) (turn : (a b : Block ℕ) → R a b → R b a) where
  pairs-with : (b : Block ℕ) (bs : List (Block ℕ)) → All (R b) bs → AllPairs R bs → AllPairs R (with_block b bs)
  pairs-with b [] h k = AllPairs-cons R b [] (All-nil (R b)) (AllPairs-nil R)
  pairs-with b (c ∷ cs) h k =
      ⊎_elim
      (λ (t : lies_before b c ≡ true). rw t (AllPairs-cons R b (c ∷ cs) h k))
      (λ (t : lies_before b c ≡ false).
      rw t (AllPairs-cons R c (with_block b cs)
      (All-with (R c) b cs (turn b c (All-head (R b) c cs h)) (AllPairs-head R c cs k))
      (pairs-with b cs (All-tail (R b) c cs h) (AllPairs-tail R c cs k))))
      (cases_Bool (lies_before b c))

  pub pairs-order : (bs : List (Block ℕ)) → AllPairs R bs → AllPairs R (in_order bs)
  pairs-order [] h = h
  pairs-order (b ∷ bs) h = pairs-with b (in_order bs) (All-in_order (R b) bs (AllPairs-head R b bs h)) (pairs-order bs (AllPairs-tail R b bs h))

-- the cells of two blocks don't overlap
abbrev pub Beside : ℕ → Block ℕ → Block ℕ → Type 0
Beside cell a b = IsApart (cell_run cell a) (cell_run cell b)

pub beside-turn : (cell : ℕ) (a b : Block ℕ) → Beside cell a b → Beside cell b a
beside-turn cell a b h = ⊎_elim (λ l. inr l) (λ r. inl r) h

-- those of a segment stand one behind another
abbrev Behind : ℕ → ℕ → Block ℕ → Type 0
Behind n off b = (b.seg ≡ n) × (off ≤ b.off)

behind-run : (n cell off : ℕ) (bytes : List ℕ) (cs : List (ℕ × ℕ)) → All (Behind n off) (cell_blocks n bytes cell off cs)
behind-run n cell off bytes [] = All-nil (Behind n off)
behind-run n cell off bytes (c ∷ cs) =
    All-append (Behind n off) (block_of_cell n bytes off c) (cell_blocks n bytes cell (off + cell) cs)
    (All-block (Behind n off) n off bytes c (λ size. (refl, omega arith)))
    (All-weaker (Behind n (off + cell)) (Behind n off) (λ b h. let high = h.1 in (h.0, omega (arith, high))) (cell_blocks n bytes cell (off + cell) cs) (behind-run n cell (off + cell) bytes cs))

pairs-run : (n cell off : ℕ) (bytes : List ℕ) (cs : List (ℕ × ℕ)) → AllPairs (Beside cell) (cell_blocks n bytes cell off cs)
pairs-run n cell off bytes [] = AllPairs-nil (Beside cell)
pairs-run n cell off bytes (c ∷ cs) =
    let rest = pairs-run n cell (off + cell) bytes cs in
    let b : Block ℕ = record { label = c.1; seg = n; off = off; size = c.0; bytes = take c.0 (drop off bytes) } in
    ⊎_elim
    (λ (t : eqb c.0 0 ≡ true). rw t rest)
    (λ (t : eqb c.0 0 ≡ false).
    rw t (AllPairs-cons (Beside cell) b (cell_blocks n bytes cell (off + cell) cs)
    (All-weaker (Behind n (off + cell)) (Beside cell b) (λ x h. inl (inr (sym h.0, h.1))) (cell_blocks n bytes cell (off + cell) cs) (behind-run n cell (off + cell) bytes cs))
    rest))
    (cases_Bool (eqb c.0 0))

pub pairs-all : (cell : ℕ) (segs : List Cells) → AllPairs (λ (a b : Cells). a.number ≢ b.number) segs → AllPairs (Beside cell) (flat_map (segment_blocks cell) segs)
pairs-all cell [] h = AllPairs-nil (Beside cell)
pairs-all cell (s ∷ ss) h =
    let R : Cells → Cells → Type 0 = λ a b. a.number ≢ b.number in
    let heads = AllPairs-head R s ss h in
    let others = others-of s.number cell ss (λ k d lt e. heads k d lt (sym e)) in
    AllPairs-append (Beside cell) (segment_blocks cell s) (flat_map (segment_blocks cell) ss)
    (pairs-run s.number cell 32 s.bytes s.pairs) (pairs-all cell ss (AllPairs-tail R s ss h))
    (All-weaker (λ (b : Block ℕ). b.seg ≡ s.number) (λ (b : Block ℕ). All (Beside cell b) (flat_map (segment_blocks cell) ss))
    (λ b e. All-weaker (λ (x : Block ℕ). x.seg ≢ s.number) (Beside cell b) (λ x other. apart_by_seg (cell_run cell b) (cell_run cell x) (λ q. other (sym q ∙ e))) (flat_map (segment_blocks cell) ss) others)
    (segment_blocks cell s) (blocks-seg s.number s.bytes cell 32 s.pairs))

-- no block is larger than the element size
sizes-run : (n cell element off : ℕ) (bytes : List ℕ) (cs : List (ℕ × ℕ)) → All (λ c. c.0 ≤ element) cs → All (λ b. b.size ≤ element) (cell_blocks n bytes cell off cs)
sizes-run n cell element off bytes [] h = All-nil (λ (b : Block ℕ). b.size ≤ element)
sizes-run n cell element off bytes (c ∷ cs) h =
    let P : Block ℕ → Type 0 = λ b. b.size ≤ element in
    let Q : ℕ × ℕ → Type 0 = λ d. d.0 ≤ element in
    All-append P (block_of_cell n bytes off c) (cell_blocks n bytes cell (off + cell) cs) (All-block P n off bytes c (λ size. All-head Q c cs h)) (sizes-run n cell element (off + cell) bytes cs (All-tail Q c cs h))

pub sizes-all : (cell element : ℕ) (segs : List Cells) → All (IsCellular cell element) segs → All (λ b. b.size ≤ element) (flat_map (segment_blocks cell) segs)
sizes-all cell element [] h = All-nil (λ (b : Block ℕ). b.size ≤ element)
sizes-all cell element (s ∷ ss) h =
    let P : Block ℕ → Type 0 = λ b. b.size ≤ element in
    All-append P (segment_blocks cell s) (flat_map (segment_blocks cell) ss)
    (sizes-run s.number cell element 32 s.bytes s.pairs ((All-head (IsCellular cell element) s ss h).fits))
    (sizes-all cell element ss (All-tail (IsCellular cell element) s ss h))
