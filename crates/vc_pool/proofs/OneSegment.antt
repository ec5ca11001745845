-- Of several segments one changes in one cell.
use Rattle.vc_base.proofs.Common.{◌≡◌, ℕ, zero, suc, ◌+◌, ◌<◌, ◌≤◌, true, false, cond, eqb, ◌≢◌, List, [], ◌∷◌, ◌++◌, map, length, get_or, take, drop, set, Some, All, AllPairs, flat_map, sym, refl, ap, ◌∙◌, subst, ⊎_elim, append_assoc, arith, length-drop, take-append-drop, length-take, get_or-drop, get_or-take, eq-eqb, ne_eqb, and_left, cases_Bool, All-append, All-head, All-tail, All-weaker, drop_more, get_or-map, get_or_default, length-map, without_block_at, Block, is_at, with_block, without_block, cell_offset, change_block, find_block}
use Rattle.std.proofs.lemmas.List.{set_split}
use Rattle.std.proofs.lemmas.List.Concat.{flat_map-append}
use Rattle.vc_seg.specs.Segment.{AreSegments, Bytes}
use Rattle.vc_seg.specs.InOrder.{in_order}
use Rattle.vc_seg.proofs.InOrder.{All-in_order, NoneAt, change-with, find-with, order-middle, without-with}
use Rattle.vc_pool.specs.Cells.Blocks.{block_of_cell, segment_blocks, layout_by, pair_of}
use Rattle.vc_pool.specs.Cells.Cells.{Cells, pair_at}
use Rattle.vc_pool.specs.Cells.Freed.{cells_at}
use Rattle.vc_pool.specs.Cells.Kept.{segment_of}
use Rattle.vc_pool.specs.Cells.Place.{IsAlone, IsOther}
use Rattle.vc_pool.proofs.OneCell.{ChangesCell, back, blocks-new, blocks-old, front, none-before, none-behind, others-of}

pub numbers-apart : (segs : List Cells) → AreSegments (map segment_of segs) → AllPairs (λ (a b : Cells). a.number ≢ b.number) segs
numbers-apart segs h =
    λ i j d lt within e.
    let one = get_or-map segment_of segs i d (segment_of d) (omega (arith, lt, within)) in
    let two = get_or-map segment_of segs j d (segment_of d) within in
    h.distinct i j (segment_of d) lt (omega (arith, within, length-map segs segment_of))
    (ap (λ (b : Bytes). b.number) one ∙ (e ∙ sym (ap (λ (b : Bytes). b.number) two)))

-- a segment at a place is the one of its number
pub alone : (n i : ℕ) (segs : List Cells) → AreSegments (map segment_of segs) → i < length segs → ((d : Cells) → (get_or segs i d).number ≡ n) → IsAlone n segs i
alone n i segs h within number =
    let apart = numbers-apart segs h in
    record {
      within = within;
      number = number;
      before = λ k d lt e.
          let low : k < i = omega (arith, lt, length-take i segs) in
          apart k i d low within (ap (λ (s : Cells). s.number) (sym (get_or-take i segs k d low)) ∙ (e ∙ sym (number d)));
      behind = λ k d lt e.
          let high : i + 1 + k < length segs = omega (arith, lt, length-drop (i + 1) segs) in
          apart i (i + 1 + k) d (omega arith) high (number d ∙ (sym e ∙ ap (λ (s : Cells). s.number) (get_or-drop (i + 1) segs k d)));
    }

-- the segment of a number, by its place
pub cells-first : (n : ℕ) (segs : List Cells) (i : ℕ) (d : Cells) → i < length segs → All (IsOther n) (take i segs) → (get_or segs i d).number ≡ n → cells_at n segs ≡ get_or segs i d
cells-first n [] i d lt h here = absurd (omega (arith, lt))
cells-first n (s ∷ ss) zero d lt h here = rw (eq-eqb s.number n here) refl
cells-first n (s ∷ ss) (suc i) d lt h here = rw (ne_eqb s.number n (All-head (IsOther n) s (take i ss) h)) (cells-first n ss i d (omega (arith, lt)) (All-tail (IsOther n) s (take i ss) h) here)

pub cells-set : (n i : ℕ) (segs : List Cells) (new : Cells) → i < length segs → All (IsOther n) (take i segs) → new.number ≡ n → cells_at n (set segs i new) ≡ new
cells-set n i [] new lt h e = absurd (omega (arith, lt))
cells-set n zero (s ∷ ss) new lt h e = rw (eq-eqb new.number n e) refl
cells-set n (suc i) (s ∷ ss) new lt h e = rw (ne_eqb s.number n (All-head (IsOther n) s (take i ss) h)) (cells-set n i ss new (omega (arith, lt)) (All-tail (IsOther n) s (take i ss) h) e)

pub cells-other : (n m i : ℕ) (segs : List Cells) (new : Cells) → ((d : Cells) → (get_or segs i d).number ≡ n) → i < length segs → new.number ≡ n → m ≢ n → cells_at m (set segs i new) ≡ cells_at m segs
cells-other n m i [] new at lt e other = refl
cells-other n m zero (s ∷ ss) new at lt e other = rw (ne_eqb new.number m (λ q. other (sym q ∙ e))) (rw (ne_eqb s.number m (λ q. other (sym q ∙ at s))) refl)
cells-other n m (suc i) (s ∷ ss) new at lt e other = ap (cond (eqb s.number m) s) (cells-other n m i ss new at (omega (arith, lt)) e other)

-- what is told of each segment stays, where it is the same of the one that changes
pub map-stays : {B : Type 0} (f : Cells → B) (i : ℕ) (segs : List Cells) (new : Cells) → i < length segs → ((d : Cells) → f new ≡ f (get_or segs i d)) → map f (set segs i new) ≡ map f segs
map-stays f i [] new within e = refl
map-stays f zero (s ∷ ss) new within e = ap (λ x. x ∷ map f ss) (e s)
map-stays f (suc i) (s ∷ ss) new within e = ap (λ xs. f s ∷ xs) (map-stays f i ss new (omega (arith, within)) e)

-- no block of segments of other numbers
none-segments : (n at cell : ℕ) (segs : List Cells) → All (IsOther n) segs → NoneAt (n, at) (flat_map (segment_blocks cell) segs)
none-segments n at cell segs h =
    All-weaker (λ (b : Block ℕ). b.seg ≢ n) (λ (b : Block ℕ). is_at (n, at) b ≡ false)
    (λ b other. and_left (eqb b.seg n) (eqb b.off at) (ne_eqb b.seg n other))
    (flat_map (segment_blocks cell) segs) (others-of n cell segs h)

-- the block of a cell, where there is one, among others
abbrev pub with_cell : List (Block ℕ) → List (Block ℕ) → List (Block ℕ)
with_cell [] bs = bs
with_cell (b ∷ x) bs = with_block b bs

order-cell : (ls fs bs rs : List (Block ℕ)) (n off : ℕ) (bytes : List ℕ) (c : ℕ × ℕ) → NoneAt (n, off) (ls ++ fs) →
    in_order (ls ++ ((fs ++ (block_of_cell n bytes off c ++ bs)) ++ rs)) ≡ with_cell (block_of_cell n bytes off c) (in_order ((ls ++ fs) ++ (bs ++ rs)))
order-cell ls fs bs rs n off bytes c none =
    let x : List (Block ℕ) = block_of_cell n bytes off c in
    let own : Block ℕ = record { label = c.1; seg = n; off = off; size = c.0; bytes = take c.0 (drop off bytes) } in
    let same : ls ++ ((fs ++ (x ++ bs)) ++ rs) ≡ (ls ++ fs) ++ (x ++ (bs ++ rs)) =
    ap (λ ys. ls ++ ys) (append_assoc fs (x ++ bs) rs ∙ ap (λ ys. fs ++ ys) (append_assoc x bs rs)) ∙ sym (append_assoc ls fs (x ++ (bs ++ rs))) in
    ap in_order same
    ∙ ⊎_elim
    (λ (t : eqb c.0 0 ≡ true). rw t refl)
    (λ (t : eqb c.0 0 ≡ false). rw t (order-middle (ls ++ fs) own (bs ++ rs) none))
    (cases_Bool (eqb c.0 0))

module _ (cell index i n : ℕ) (segs : List Cells) (d : Cells) (a : IsAlone n segs i) (some : 1 ≤ cell) (lt : index < length (get_or segs i d).pairs) where
  abbrev o : Cells
  o = get_or segs i d

  abbrev low : List (Block ℕ)
  low = flat_map (segment_blocks cell) (take i segs)

  abbrev high : List (Block ℕ)
  high = flat_map (segment_blocks cell) (drop (i + 1) segs)

  -- all blocks but the one of the cell
  abbrev pub others : List (Block ℕ)
  others = in_order ((low ++ front cell index o lt) ++ (back cell index o lt ++ high))

  flat-at : (s : Cells) → flat_map (segment_blocks cell) (take i segs ++ s ∷ drop (i + 1) segs) ≡ low ++ (segment_blocks cell s ++ high)
  flat-at s = flat_map-append (segment_blocks cell) (take i segs) (s ∷ drop (i + 1) segs)

  none-low : NoneAt (n, cell_offset cell index) (low ++ front cell index o lt)
  none-low =
      All-append (λ (b : Block ℕ). is_at (n, cell_offset cell index) b ≡ false) low (front cell index o lt)
      (none-segments n (cell_offset cell index) cell (take i segs) a.before)
      (subst (λ m. NoneAt (m, cell_offset cell index) (front cell index o lt)) (a.number d) (none-before cell index o lt some))

  pub none-others : NoneAt (n, cell_offset cell index) others
  none-others =
      let P : Block ℕ → Type 0 = λ b. is_at (n, cell_offset cell index) b ≡ false in
      All-in_order P ((low ++ front cell index o lt) ++ (back cell index o lt ++ high))
      (All-append P (low ++ front cell index o lt) (back cell index o lt ++ high) none-low
      (All-append P (back cell index o lt) high
      (subst (λ m. NoneAt (m, cell_offset cell index) (back cell index o lt)) (a.number d) (none-behind cell index o lt some))
      (none-segments n (cell_offset cell index) cell (drop (i + 1) segs) a.behind)))

  in-cell : (bytes : List ℕ) (c : ℕ × ℕ) → in_order (low ++ ((front cell index o lt ++ (block_of_cell o.number bytes (cell_offset cell index) c ++ back cell index o lt)) ++ high)) ≡ with_cell (block_of_cell n bytes (cell_offset cell index) c) others
  in-cell bytes c =
      ap (λ m. in_order (low ++ ((front cell index o lt ++ (block_of_cell m bytes (cell_offset cell index) c ++ back cell index o lt)) ++ high))) (a.number d)
      ∙ order-cell low (front cell index o lt) (back cell index o lt) high n (cell_offset cell index) bytes c none-low

  pub all-old : in_order (flat_map (segment_blocks cell) segs) ≡ with_cell (block_of_cell n o.bytes (cell_offset cell index) (pair_at index o)) others
  all-old =
      let whole : segs ≡ take i segs ++ o ∷ drop (i + 1) segs = sym (take-append-drop i segs) ∙ ap (λ ys. take i segs ++ ys) (drop_more segs i d a.within) in
      ap (λ ss. in_order (flat_map (segment_blocks cell) ss)) whole
      ∙ (ap in_order (flat-at o ∙ ap (λ bs. low ++ (bs ++ high)) (blocks-old cell index o lt)) ∙ in-cell o.bytes (pair_at index o))

  pub all-new : (c : ℕ × ℕ) (s : Cells) → ChangesCell cell index c o s → All (λ p. p.0 ≤ cell) o.pairs → in_order (flat_map (segment_blocks cell) (set segs i s)) ≡ with_cell (block_of_cell n s.bytes (cell_offset cell index) c) others
  all-new c s h fits =
      let next : suc i ≡ i + 1 = omega arith in
      let whole : set segs i s ≡ take i segs ++ s ∷ drop (i + 1) segs = set_split segs i s a.within ∙ ap (λ k. take i segs ++ s ∷ drop k segs) next in
      ap (λ ss. in_order (flat_map (segment_blocks cell) ss)) whole
      ∙ (ap in_order (flat-at s ∙ ap (λ bs. low ++ (bs ++ high)) (blocks-new cell index o lt c s h fits)) ∙ in-cell s.bytes c)

  -- the segments as number and size stay
  pairs-stay : (c : ℕ × ℕ) (s : Cells) → ChangesCell cell index c o s → map pair_of (set segs i s) ≡ map pair_of segs
  pairs-stay c s h =
      map-stays pair_of i segs s a.within
      (λ e. let same : o ≡ get_or segs i e = get_or_default segs i d e a.within in (λ j. (h.number j, h.len j)) ∙ ap pair_of same)

  module _ (c : ℕ × ℕ) (s : Cells) (h : ChangesCell cell index c o s) (fits : All (λ p. p.0 ≤ cell) o.pairs) where
    made : (bs : List (Block ℕ)) → in_order (flat_map (segment_blocks cell) (set segs i s)) ≡ bs → layout_by cell (set segs i s) ≡ record { segments = (layout_by cell segs).segments; blocks = bs }
    unfolding layout_by
    made bs e = λ j. record { segments = pairs-stay c s h j; blocks = e j }

    -- a block comes into the cell, goes, or changes where it is
    pub layout-put : (b : Block ℕ) → block_of_cell n o.bytes (cell_offset cell index) (pair_at index o) ≡ [] → block_of_cell n s.bytes (cell_offset cell index) c ≡ b ∷ [] →
        layout_by cell (set segs i s) ≡ record { segments = (layout_by cell segs).segments; blocks = with_block b (layout_by cell segs).blocks }
    unfolding layout_by
    layout-put b none is =
        made (with_block b (in_order (flat_map (segment_blocks cell) segs)))
        (all-new c s h fits ∙ (ap (λ x. with_cell x others) is ∙ ap (with_block b) (sym (all-old ∙ ap (λ x. with_cell x others) none))))

    pub layout-freed : (b : Block ℕ) → block_of_cell n o.bytes (cell_offset cell index) (pair_at index o) ≡ b ∷ [] → is_at (n, cell_offset cell index) b ≡ true → block_of_cell n s.bytes (cell_offset cell index) c ≡ [] →
        layout_by cell (set segs i s) ≡ without_block_at (layout_by cell segs) (n, cell_offset cell index)
    unfolding layout_by
    layout-freed b is own none =
        made (without_block (n, cell_offset cell index) (in_order (flat_map (segment_blocks cell) segs)))
        (all-new c s h fits
        ∙ (ap (λ x. with_cell x others) none
        ∙ (sym (without-with (n, cell_offset cell index) b own others none-others)
        ∙ ap (without_block (n, cell_offset cell index)) (sym (all-old ∙ ap (λ x. with_cell x others) is)))))

    pub layout-changed : (g : Block ℕ → Block ℕ) (b : Block ℕ) → (g b).seg ≡ b.seg → (g b).off ≡ b.off → block_of_cell n o.bytes (cell_offset cell index) (pair_at index o) ≡ b ∷ [] → is_at (n, cell_offset cell index) b ≡ true →
        block_of_cell n s.bytes (cell_offset cell index) c ≡ g b ∷ [] →
        layout_by cell (set segs i s) ≡ record { segments = (layout_by cell segs).segments; blocks = change_block g (n, cell_offset cell index) (layout_by cell segs).blocks }
    unfolding layout_by
    layout-changed g b seg place is own new =
        made (change_block g (n, cell_offset cell index) (in_order (flat_map (segment_blocks cell) segs)))
        (all-new c s h fits
        ∙ (ap (λ x. with_cell x others) new
        ∙ (sym (change-with (n, cell_offset cell index) b own g seg place others none-others)
        ∙ ap (change_block g (n, cell_offset cell index)) (sym (all-old ∙ ap (λ x. with_cell x others) is)))))

  -- the block of a cell is found at its place
  pub layout-found : (b : Block ℕ) → block_of_cell n o.bytes (cell_offset cell index) (pair_at index o) ≡ b ∷ [] → is_at (n, cell_offset cell index) b ≡ true → find_block (n, cell_offset cell index) (layout_by cell segs).blocks ≡ Some b
  unfolding layout_by
  layout-found b is own =
      ap (find_block (n, cell_offset cell index)) (all-old ∙ ap (λ x. with_cell x others) is) ∙ find-with (n, cell_offset cell index) b own others none-others
