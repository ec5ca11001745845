-- The blocks of a segment, of which one cell changes.
use Rattle.vc_base.proofs.Common.{◌≡◌, ℕ, suc, ◌+◌, ◌*◌, ◌<◌, ◌≤◌, true, false, cond, eqb, ◌≢◌, List, [], ◌∷◌, ◌++◌, length, get_or, take, drop, set, All, flat_map, sym, refl, ap, ◌∙◌, ⊎_elim, append_assoc, arith, take-append-drop, length-take-le, ne_eqb, and_right, cases_Bool, eqb-false, All-append, All-cons, All-head, All-nil, All-tail, All-weaker, drop_more, Block, is_at, cell_offset}
use Rattle.std.proofs.lemmas.List.{set_split}
use Rattle.std.proofs.lemmas.List.Elements.{All-take}
use Rattle.vc_seg.proofs.InOrder.{NoneAt}
use Rattle.vc_seg.proofs.Frames.{part-back, part-front}
use Rattle.vc_pool.specs.Cells.Blocks.{block_of_cell, cell_blocks, segment_blocks}
use Rattle.vc_pool.specs.Cells.Cells.{Cells, pair_at}
use Rattle.vc_pool.specs.Cells.Place.{IsOther}

-- cells from an offset on, split at one of them
pub blocks-split : (n : ℕ) (bytes : List ℕ) (cell off : ℕ) (front : List (ℕ × ℕ)) (c : ℕ × ℕ) (back : List (ℕ × ℕ)) →
    cell_blocks n bytes cell off (front ++ c ∷ back)
    ≡ cell_blocks n bytes cell off front ++ (block_of_cell n bytes (off + length front * cell) c ++ cell_blocks n bytes cell (off + length front * cell + cell) back)
blocks-split n bytes cell off [] c back =
    let e : off ≡ off + 0 * cell = omega arith in
    ap (λ k. block_of_cell n bytes k c ++ cell_blocks n bytes cell (k + cell) back) e
blocks-split n bytes cell off (f ∷ fs) c back =
    let e : off + cell + length fs * cell ≡ off + length (f ∷ fs) * cell = omega arith in
    let rest : ℕ → List (Block ℕ) = λ k. block_of_cell n bytes k c ++ cell_blocks n bytes cell (k + cell) back in
    ap (λ bs. block_of_cell n bytes off f ++ bs)
    (blocks-split n bytes cell (off + cell) fs c back ∙ ap (λ k. cell_blocks n bytes cell (off + cell) fs ++ rest k) e)
    ∙ sym (append_assoc (block_of_cell n bytes off f) (cell_blocks n bytes cell (off + cell) fs) (rest (off + length (f ∷ fs) * cell)))

-- a block whose bytes are the same
block-same : (n off : ℕ) (o s : List ℕ) (c : ℕ × ℕ) → take c.0 (drop off s) ≡ take c.0 (drop off o) → block_of_cell n s off c ≡ block_of_cell n o off c
block-same n off o s c e =
    ap (λ (bytes : List ℕ). cond (eqb c.0 0) [] (record { label = c.1; seg = n; off = off; size = c.0; bytes = bytes } ∷ [])) e

-- cells below a place, and cells above one, whose bytes stay there
pub blocks-below : (n cell off f : ℕ) (o s : List ℕ) (cs : List (ℕ × ℕ)) → take f s ≡ take f o → All (λ c. c.0 ≤ cell) cs → off + length cs * cell ≤ f → cell_blocks n s cell off cs ≡ cell_blocks n o cell off cs
blocks-below n cell off f o s [] same fits le = refl
blocks-below n cell off f o s (c ∷ cs) same fits le =
    let P : ℕ × ℕ → Type 0 = λ d. d.0 ≤ cell in
    let here : c.0 ≤ cell = All-head P c cs fits in
    let all : off + cell + length cs * cell ≤ f = omega (arith, le) in
    let own = block-same n off o s c (part-front o s f same off c.0 (omega (arith, all, here))) in
    let rest = blocks-below n cell (off + cell) f o s cs same (All-tail P c cs fits) all in
    ap (λ bs. bs ++ cell_blocks n s cell (off + cell) cs) own ∙ ap (λ bs. block_of_cell n o off c ++ bs) rest

pub blocks-above : (n cell off t : ℕ) (o s : List ℕ) (cs : List (ℕ × ℕ)) → drop t s ≡ drop t o → t ≤ off → cell_blocks n s cell off cs ≡ cell_blocks n o cell off cs
blocks-above n cell off t o s [] same le = refl
blocks-above n cell off t o s (c ∷ cs) same le =
    let own = block-same n off o s c (part-back o s t same off c.0 le) in
    let rest = blocks-above n cell (off + cell) t o s cs same (omega (arith, le)) in
    ap (λ bs. bs ++ cell_blocks n s cell (off + cell) cs) own ∙ ap (λ bs. block_of_cell n o off c ++ bs) rest

-- what is true of the block in a cell, where its pair has a size, is true of each block of the cell
pub All-block : (P : Block ℕ → Type 0) (n off : ℕ) (bytes : List ℕ) (c : ℕ × ℕ) → (c.0 ≢ 0 → P (record { label = c.1; seg = n; off = off; size = c.0; bytes = take c.0 (drop off bytes) })) → All P (block_of_cell n bytes off c)
All-block P n off bytes c h =
    let b : Block ℕ = record { label = c.1; seg = n; off = off; size = c.0; bytes = take c.0 (drop off bytes) } in
    ⊎_elim
    (λ (t : eqb c.0 0 ≡ true). rw t (All-nil P))
    (λ (t : eqb c.0 0 ≡ false). rw t (All-cons P b [] (h (eqb-false c.0 0 t)) (All-nil P)))
    (cases_Bool (eqb c.0 0))

-- blocks lie where their cells do
pub blocks-seg : (n : ℕ) (bytes : List ℕ) (cell off : ℕ) (cs : List (ℕ × ℕ)) → All (λ b. b.seg ≡ n) (cell_blocks n bytes cell off cs)
blocks-seg n bytes cell off [] = All-nil (λ (b : Block ℕ). b.seg ≡ n)
blocks-seg n bytes cell off (c ∷ cs) =
    let P : Block ℕ → Type 0 = λ b. b.seg ≡ n in
    All-append P (block_of_cell n bytes off c) (cell_blocks n bytes cell (off + cell) cs) (All-block P n off bytes c (λ some. refl)) (blocks-seg n bytes cell (off + cell) cs)

-- none begins at an offset before or behind them
pub none-front : (n at cell off : ℕ) (bytes : List ℕ) (cs : List (ℕ × ℕ)) → 1 ≤ cell → off + length cs * cell ≤ at → NoneAt (n, at) (cell_blocks n bytes cell off cs)
none-front n at cell off bytes [] some le = All-nil (λ (b : Block ℕ). is_at (n, at) b ≡ false)
none-front n at cell off bytes (c ∷ cs) some le =
    let P : Block ℕ → Type 0 = λ b. is_at (n, at) b ≡ false in
    let all : off + cell + length cs * cell ≤ at = omega (arith, le) in
    All-append P (block_of_cell n bytes off c) (cell_blocks n bytes cell (off + cell) cs)
    (All-block P n off bytes c (λ size. and_right (eqb n n) (eqb off at) (ne_eqb off at (λ e. omega (arith, e, all, some)))))
    (none-front n at cell (off + cell) bytes cs some all)

pub none-back : (n at cell off : ℕ) (bytes : List ℕ) (cs : List (ℕ × ℕ)) → at < off → NoneAt (n, at) (cell_blocks n bytes cell off cs)
none-back n at cell off bytes [] le = All-nil (λ (b : Block ℕ). is_at (n, at) b ≡ false)
none-back n at cell off bytes (c ∷ cs) le =
    let P : Block ℕ → Type 0 = λ b. is_at (n, at) b ≡ false in
    All-append P (block_of_cell n bytes off c) (cell_blocks n bytes cell (off + cell) cs)
    (All-block P n off bytes c (λ size. and_right (eqb n n) (eqb off at) (ne_eqb off at (λ e. omega (arith, e, le)))))
    (none-back n at cell (off + cell) bytes cs (omega (arith, le)))

-- no block of segments with other numbers is in the one of a number
pub others-of : (n cell : ℕ) (segs : List Cells) → All (IsOther n) segs → All (λ b. b.seg ≢ n) (flat_map (segment_blocks cell) segs)
others-of n cell [] h = All-nil (λ (b : Block ℕ). b.seg ≢ n)
others-of n cell (s ∷ ss) h =
    let P : Block ℕ → Type 0 = λ b. b.seg ≢ n in
    let other = All-head (IsOther n) s ss h in
    All-append P (segment_blocks cell s) (flat_map (segment_blocks cell) ss)
    (All-weaker (λ (b : Block ℕ). b.seg ≡ s.number) P (λ b e q. other (sym e ∙ q)) (segment_blocks cell s) (blocks-seg s.number s.bytes cell 32 s.pairs))
    (others-of n cell ss (All-tail (IsOther n) s ss h))

-- a segment before and after a change of one cell: the number and the bytes outside of the cell stay
pub record ChangesCell (cell index : ℕ) (c : ℕ × ℕ) (o s : Cells) : Type 0 where
  pub number : s.number ≡ o.number
  pub len : length s.bytes ≡ length o.bytes
  pub below : take (cell_offset cell index) s.bytes ≡ take (cell_offset cell index) o.bytes
  pub above : drop (cell_offset cell (index + 1)) s.bytes ≡ drop (cell_offset cell (index + 1)) o.bytes
  pub pairs : s.pairs ≡ set o.pairs index c

pub split-pairs : (xs : List (ℕ × ℕ)) (i : ℕ) → i < length xs → xs ≡ take i xs ++ get_or xs i (0, 0) ∷ drop (i + 1) xs
split-pairs xs i lt = sym (take-append-drop i xs) ∙ ap (λ ys. take i xs ++ ys) (drop_more xs i (0, 0) lt)

pub set-pairs : (xs : List (ℕ × ℕ)) (i : ℕ) (c : ℕ × ℕ) → i < length xs → set xs i c ≡ take i xs ++ c ∷ drop (i + 1) xs
set-pairs xs i c lt = let next : suc i ≡ i + 1 = omega arith in set_split xs i c lt ∙ ap (λ k. take i xs ++ c ∷ drop k xs) next

module _ (cell index : ℕ) (o : Cells) (lt : index < length o.pairs) where
  -- the blocks in the cells below one and above it
  abbrev pub front : List (Block ℕ)
  front = cell_blocks o.number o.bytes cell 32 (take index o.pairs)

  abbrev pub back : List (Block ℕ)
  back = cell_blocks o.number o.bytes cell (cell_offset cell (index + 1)) (drop (index + 1) o.pairs)

  next : cell_offset cell index + cell ≡ cell_offset cell (index + 1)
  next = omega arith

  front-length : length (take index o.pairs) ≡ index
  front-length = length-take-le index o.pairs (omega (arith, lt))

  split-at : (bytes : List ℕ) (c : ℕ × ℕ) → cell_blocks o.number bytes cell 32 (take index o.pairs ++ c ∷ drop (index + 1) o.pairs)
      ≡ cell_blocks o.number bytes cell 32 (take index o.pairs) ++ (block_of_cell o.number bytes (cell_offset cell index) c ++ cell_blocks o.number bytes cell (cell_offset cell (index + 1)) (drop (index + 1) o.pairs))
  split-at bytes c =
      let rest : ℕ → ℕ → List (Block ℕ) = λ k m. cell_blocks o.number bytes cell 32 (take index o.pairs) ++ (block_of_cell o.number bytes k c ++ cell_blocks o.number bytes cell m (drop (index + 1) o.pairs)) in
      blocks-split o.number bytes cell 32 (take index o.pairs) c (drop (index + 1) o.pairs)
      ∙ (ap (λ k. rest (32 + k * cell) (32 + k * cell + cell)) front-length ∙ ap (rest (cell_offset cell index)) next)

  pub blocks-old : segment_blocks cell o ≡ front ++ (block_of_cell o.number o.bytes (cell_offset cell index) (pair_at index o) ++ back)
  blocks-old = ap (cell_blocks o.number o.bytes cell 32) (split-pairs o.pairs index lt) ∙ split-at o.bytes (pair_at index o)

  pub blocks-new : (c : ℕ × ℕ) (s : Cells) → ChangesCell cell index c o s → All (λ d. d.0 ≤ cell) o.pairs → segment_blocks cell s ≡ front ++ (block_of_cell o.number s.bytes (cell_offset cell index) c ++ back)
  blocks-new c s h fits =
      let P : ℕ × ℕ → Type 0 = λ d. d.0 ≤ cell in
      let low = blocks-below o.number cell 32 (cell_offset cell index) o.bytes s.bytes (take index o.pairs) h.below (All-take P index o.pairs fits) (omega (arith, ap (λ k. k * cell) front-length)) in
      let high = blocks-above o.number cell (cell_offset cell (index + 1)) (cell_offset cell (index + 1)) o.bytes s.bytes (drop (index + 1) o.pairs) h.above (omega arith) in
      ap (λ n. cell_blocks n s.bytes cell 32 s.pairs) h.number
      ∙ (ap (cell_blocks o.number s.bytes cell 32) (h.pairs ∙ set-pairs o.pairs index c lt)
      ∙ (split-at s.bytes c
      ∙ (ap (λ bs. bs ++ (block_of_cell o.number s.bytes (cell_offset cell index) c ++ cell_blocks o.number s.bytes cell (cell_offset cell (index + 1)) (drop (index + 1) o.pairs))) low
      ∙ ap (λ bs. front ++ (block_of_cell o.number s.bytes (cell_offset cell index) c ++ bs)) high)))

  -- no other block of the segment begins where the cell does
  pub none-before : 1 ≤ cell → NoneAt (o.number, cell_offset cell index) front
  none-before some = none-front o.number (cell_offset cell index) cell 32 o.bytes (take index o.pairs) some (omega (arith, ap (λ k. k * cell) front-length))

  pub none-behind : 1 ≤ cell → NoneAt (o.number, cell_offset cell index) back
  none-behind some = none-back o.number (cell_offset cell index) cell (cell_offset cell (index + 1)) o.bytes (drop (index + 1) o.pairs) (omega (arith, next, some))
