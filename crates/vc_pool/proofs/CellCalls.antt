-- What the calls on one cell leave of a pool's segments.
use Rattle.vc_base.proofs.Common.{◌≡◌, ℕ, ◌+◌, ◌^◌, ◌<◌, ◌≤◌, true, ltb, ◌≢◌, List, [], ◌∷◌, length, get_or, take, drop, set, Some, All, filter, sym, refl, ap, ◌∙◌, subst, arith, length-set, get_or-set_same, All-head, All-tail, All-weaker, get_or_default, place_of, without_block_at, zeros, Block, Layout, is_at, cell_for, cell_offset, resize_there, sized_block, HasBlock, change_block, find_block, rewritten_block, with_bytes_at}
use Rattle.vc_seg.specs.Put.{with_zeros}
use Rattle.vc_seg.proofs.InOrder.{own-place}
use Rattle.vc_pool.specs.Cells.Blocks.{block_of_cell, carved_by, layout_by}
use Rattle.vc_pool.specs.Cells.Call.{Becomes, IsPutBack, IsReused}
use Rattle.vc_pool.specs.Cells.Cells.{Cells, HasCell, with_zeros_in, cell_link, pair_at, with_free_cell, with_cell_size, with_cell_bytes}
use Rattle.vc_pool.specs.Cells.Freed.{IsFreeCell, cells_at, freed_cells, index_at, freed_link, link_word}
use Rattle.vc_pool.specs.Cells.Kept.{AreCellular, IsCellular, IsPool, IsPoolOf}
use Rattle.vc_pool.specs.Cells.Place.{IsCellAt, IsListed, IsBlockCell}
use Rattle.vc_pool.proofs.OneCell.{ChangesCell}
use Rattle.vc_pool.proofs.Chains.{chain-small}
use Rattle.vc_pool.proofs.CellularSegments.{cellular-set, front-set, live-carved}
use Rattle.vc_pool.proofs.PoolChange.{last-other, live-others, pool-freed, pool-of, pool-push, pool-set, tail-once}
use Rattle.vc_pool.proofs.OneSegment.{cells-first, cells-set, layout-changed, layout-freed, layout-found, layout-put, map-stays}
use Rattle.vc_pool.proofs.BlockPlaces.{all-few, all-legal, cell-there, fits-cell, index-is, index-same, number-legal, stands}
use Rattle.vc_pool.proofs.CellBytes.{block-laid, block-resized, block-written, laid-changes, no-block, one-block, released-changes, resized-changes, word-released, written-changes}

-- the cell that a call is on
pub record HasTarget (element : ℕ) (segs : List Cells) (n i index : ℕ) (o : Cells) : Type 0 where
  pub was : cells_at n segs ≡ o
  pub cell : HasCell (cell_for element) index o
  pub cellular : IsCellular (cell_for element) element o
  pub fits : All (λ p. p.0 ≤ cell_for element) o.pairs

target : (element : ℕ) (segs : List Cells) (at : ℕ × ℕ) (i index : ℕ) (d : Cells) → AreCellular element segs → 1 ≤ element → IsCellAt (cell_for element) segs at i index → index < length (cells_at at.0 segs).pairs → HasTarget element segs at.0 i index (get_or segs i d)
target element segs at i index d h some there listed =
    let was = cells-first at.0 segs i d there.alone.within there.alone.before (there.alone.number d) in
    let cellular = h.cellular i d there.alone.within in
    record {
      was = was;
      cell = subst (HasCell (cell_for element) index) was (cell-there element segs h some at.0 index listed);
      cellular = cellular;
      fits = All-weaker (λ (p : ℕ × ℕ). p.0 ≤ element) (λ (p : ℕ × ℕ). p.0 ≤ cell_for element) (λ p le. omega (arith, le, fits-cell element)) (get_or segs i d).pairs cellular.fits;
    }

-- the counts of carved cells stay
pub carved-stays : (i : ℕ) (segs : List Cells) (s : Cells) → i < length segs → s.number ≡ (get_or segs i s).number → s.carved ≡ (get_or segs i s).carved → carved_by (set segs i s) ≡ carved_by segs
carved-stays i segs s within number carved =
    ap (filter (λ (c : ℕ × ℕ). ltb 0 c.1))
    (map-stays (λ (x : Cells). (x.number, x.carved)) i segs s within
    (λ d. let same : get_or segs i s ≡ get_or segs i d = get_or_default segs i s d within in (λ j. (number j, carved j)) ∙ ap (λ (x : Cells). (x.number, x.carved)) same))

-- a cell by its segment and its offset
cell-place : (cell index : ℕ) (at : ℕ × ℕ) → at.1 ≡ cell_offset cell index → (let here : ℕ × ℕ = (at.0, cell_offset cell index) in here ≡ at)
cell-place cell index at e = let pair : ℕ → ℕ → ℕ × ℕ = λ x y. (x, y) in ap (pair at.0) (sym e)

module _ (element tag size a i index : ℕ) (segs : List Cells) (s : Cells) (one : 1 ≤ a) (some : 1 ≤ size) (fits : size ≤ element) (there : IsCellAt (cell_for element) segs (place_of a) i index)
    (e : s ≡ with_zeros_in (cell_for element) index size tag (get_or segs i s)) where
  reuse-first : (p : ℕ × ℕ) (qs : List (ℕ × ℕ)) → IsPoolOf element segs a (p ∷ qs) → IsReused element tag size segs (set segs i s) a (freed_link segs a)
  reuse-first p qs h =
      let cell : ℕ = cell_for element in
      let n : ℕ = (place_of a).0 in
      let nonzero : 1 ≤ element = omega (arith, some, fits) in
      let o : Cells = get_or segs i s in
      let al = there.alone in
      let place : place_of a ≡ p = h.chain.1 in
      let here = cell-place cell index (place_of a) there.offset in
      let f : IsFreeCell cell segs (place_of a) = subst (IsFreeCell cell segs) (sym place) (All-head (IsFreeCell cell segs) p qs h.free) in
      let same : index_at cell (place_of a).1 ≡ index = index-same cell (index_at cell (place_of a).1) index (omega (arith, nonzero)) (sym f.offset ∙ there.offset) in
      let carved : index < (cells_at n segs).carved = subst (λ j. j < (cells_at n segs).carved) same f.below in
      let was = cells-first n segs i s al.within al.before (al.number s) in
      let low : index < o.carved = subst (λ (x : Cells). index < x.carved) was carved in
      let few = (h.cells.cellular i s al.within).few in
      let listed : index < length (cells_at n segs).pairs = subst (λ (x : Cells). index < length x.pairs) (sym was) (omega (arith, low, few)) in
      let t = target element segs (place_of a) i index s h.cells nonzero there listed in
      let ch : ChangesCell cell index (size, tag) o s = subst (ChangesCell cell index (size, tag) o) (sym e) (laid-changes cell index o t.cell size tag) in
      let count : s.carved ≡ o.carved = ap (λ (x : Cells). x.carved) e in
      let long : length s.pairs ≡ length o.pairs = ap (λ (x : Cells). length x.pairs) e ∙ length-set o.pairs index (size, tag) in
      let empty : (pair_at index o).0 ≡ 0 = subst (λ (x : Cells). (pair_at index x).0 ≡ 0) was (subst (λ j. (pair_at j (cells_at n segs)).0 ≡ 0) same f.empty) in
      let kept : IsPoolOf element (set segs i s) (freed_link segs a) qs =
      pool-set element a i n index (size, tag) segs s (p ∷ qs) h al ch nonzero (freed_link segs a) qs
      (cellular-set cell element index o s (size, tag) t.cellular ch fits (λ z. absurd (omega (arith, z, some))) low count)
      (front-set i segs s al.within count long h.front) (omega (arith, count)) h.chain.2
      (All-tail (IsFreeCell cell segs) p qs h.free) (tail-once p qs h.once)
      (subst (λ (q : ℕ × ℕ). All (λ r. q ≢ r) qs) (sym (here ∙ place)) (last-other element segs a p qs h)) in
      record {
        kept = pool-of element (set segs i s) (freed_link segs a) qs kept;
        layout = layout-put cell index i n segs s al (omega (arith, nonzero)) t.cell.listed (size, tag) s ch t.fits (zeros tag size (n, cell_offset cell index))
            (no-block n (cell_offset cell index) o.bytes (pair_at index o) empty)
            (ap (λ (x : Cells). block_of_cell n x.bytes (cell_offset cell index) (size, tag)) e ∙ block-laid n cell index o t.cell size tag some (omega (arith, fits, fits-cell element)))
            ∙ ap (with_zeros (layout_by cell segs) tag size) here;
        freed = pool-freed element segs a (p ∷ qs) h
            ∙ (ap (λ q. q ∷ qs) (sym place) ∙ ap (λ xs. place_of a ∷ xs) (sym (pool-freed element (set segs i s) (freed_link segs a) qs kept)));
        carved = carved-stays i segs s al.within ch.number count;
      }

  reuse-some : (ps : List (ℕ × ℕ)) → IsPoolOf element segs a ps → IsReused element tag size segs (set segs i s) a (freed_link segs a)
  reuse-some [] h = absurd (omega (arith, h.chain, one))
  reuse-some (p ∷ qs) h = reuse-first p qs h

  pub reuse-of : IsPool element segs a → IsReused element tag size segs (set segs i s) a (freed_link segs a)
  reuse-of h = reuse-some (freed_cells segs a) h

-- a call on a cell with a block
module _ (element a i index : ℕ) (segs : List Cells) (s : Cells) (k : AreCellular element segs) (nonzero : 1 ≤ element) (live : HasBlock (layout_by (cell_for element) segs).blocks a) (there : IsCellAt (cell_for element) segs (place_of a) i index) where
  abbrev cell : ℕ
  cell = cell_for element

  abbrev n : ℕ
  n = (place_of a).0

  abbrev o : Cells
  o = get_or segs i s

  stood : IsBlockCell cell segs (place_of a)
  stood = stands element segs k nonzero a live

  same : stood.index ≡ index
  same = index-same cell stood.index index (omega (arith, nonzero)) (sym stood.offset ∙ there.offset)

  pub was : cells_at n segs ≡ o
  was = let al = there.alone in cells-first n segs i s al.within al.before (al.number s)

  pub live-target : HasTarget element segs n i index o
  live-target = target element segs (place_of a) i index s k nonzero there (subst (λ j. j < length (cells_at n segs).pairs) same stood.listed)

  pub live-size : 1 ≤ (pair_at index o).0
  live-size = subst (λ (x : Cells). 1 ≤ (pair_at index x).0) was (subst (λ j. 1 ≤ (pair_at j (cells_at n segs)).0) same stood.size)

  low : index < o.carved
  low = live-carved cell element index o live-target.cellular live-target.cell.listed live-size

  here : (let at : ℕ × ℕ = (n, cell_offset cell index) in at ≡ place_of a)
  here = cell-place cell index (place_of a) there.offset

  abbrev pub own : Block ℕ
  own = record { label = (pair_at index o).1; seg = n; off = cell_offset cell index; size = (pair_at index o).0; bytes = take (pair_at index o).0 (drop (cell_offset cell index) o.bytes) }

  own-in : block_of_cell n o.bytes (cell_offset cell index) (pair_at index o) ≡ own ∷ []
  own-in = one-block n (cell_offset cell index) o.bytes (pair_at index o) live-size

  own-at : is_at (n, cell_offset cell index) own ≡ true
  own-at = own-place own

  pub live-found : find_block (place_of a) (layout_by cell segs).blocks ≡ Some own
  live-found =
      ap (λ q. find_block q (layout_by cell segs).blocks) (sym here) ∙ layout-found cell index i n segs s there.alone (omega (arith, nonzero)) live-target.cell.listed own own-in own-at

  module _ (freed : ℕ) (h : IsPool element segs freed) where
    abbrev ps : List (ℕ × ℕ)
    ps = freed_cells segs freed

    others : All (λ p. place_of a ≢ p) ps
    others = live-others element segs freed (place_of a) ps nonzero h stood

    -- the freed cells stay where its pair changes
    stays : (c : ℕ × ℕ) → ChangesCell cell index c o s → c.0 ≤ element → (c.0 ≡ 0 → c.1 ≡ 0) → s.carved ≡ o.carved → IsPoolOf element (set segs i s) freed ps
    stays c ch fits blank count =
        pool-set element freed i n index c segs s ps h there.alone ch nonzero freed ps
        (cellular-set cell element index o s c live-target.cellular ch fits blank low count)
        (front-set i segs s there.alone.within count (ap length ch.pairs ∙ length-set o.pairs index c) h.front) (omega (arith, count)) h.chain h.free h.once
        (subst (λ (q : ℕ × ℕ). All (λ r. q ≢ r) ps) (sym here) others)

    becomes : (c : ℕ × ℕ) (g : Block ℕ → Block ℕ) → ChangesCell cell index c o s → 1 ≤ c.0 → c.0 ≤ element → s.carved ≡ o.carved → (g own).seg ≡ own.seg → (g own).off ≡ own.off → block_of_cell n s.bytes (cell_offset cell index) c ≡ g own ∷ [] →
        Becomes element segs (set segs i s) freed (record { segments = (layout_by cell segs).segments; blocks = change_block g (place_of a) (layout_by cell segs).blocks })
    becomes c g ch some fits count seg off is =
        let kept = stays c ch fits (λ z. absurd (omega (arith, z, some))) count in
        let layout : ℕ × ℕ → Layout ℕ = λ q. record { segments = (layout_by cell segs).segments; blocks = change_block g q (layout_by cell segs).blocks } in
        record {
          kept = pool-of element (set segs i s) freed ps kept;
          layout = layout-changed cell index i n segs s there.alone (omega (arith, nonzero)) live-target.cell.listed c s ch live-target.fits g own seg off own-in own-at is ∙ ap layout here;
          freed = pool-freed element (set segs i s) freed ps kept;
          carved = carved-stays i segs s there.alone.within ch.number count;
        }

    pub resize-of : (size : ℕ) → 1 ≤ size → size ≤ element → s ≡ with_cell_size cell index size o → Becomes element segs (set segs i s) freed (resize_there (layout_by cell segs) (place_of a) size)
    resize-of size some fits e =
        let fitted = live-target.fits index (0, 0) live-target.cell.listed in
        let wide : size ≤ cell = omega (arith, fits, fits-cell element) in
        let ch : ChangesCell cell index (size, (pair_at index o).1) o s = subst (ChangesCell cell index (size, (pair_at index o).1) o) (sym e) (resized-changes cell index o live-target.cell size fitted wide) in
        becomes (size, (pair_at index o).1) (sized_block size) ch some fits (ap (λ (x : Cells). x.carved) e) refl refl
        (ap (λ (x : Cells). block_of_cell n x.bytes (cell_offset cell index) (size, (pair_at index o).1)) e ∙ block-resized n cell index o live-target.cell size some wide fitted)

    pub write-of : (off : ℕ) (src : List ℕ) → off + length src ≤ (pair_at index o).0 → s ≡ with_cell_bytes cell index off src o → Becomes element segs (set segs i s) freed (with_bytes_at (layout_by cell segs) (place_of a) off src)
    write-of off src range e =
        let fitted = live-target.fits index (0, 0) live-target.cell.listed in
        let least = live-target.cellular.fits index (0, 0) live-target.cell.listed in
        let ch : ChangesCell cell index (pair_at index o) o s = subst (ChangesCell cell index (pair_at index o) o) (sym e) (written-changes cell index o live-target.cell off src (omega (arith, range, fitted))) in
        becomes (pair_at index o) (rewritten_block off src) ch live-size least (ap (λ (x : Cells). x.carved) e) refl refl
        (ap (λ (x : Cells). block_of_cell n x.bytes (cell_offset cell index) (pair_at index o)) e ∙ block-written n cell index o live-target.cell off src live-size fitted range)

    pub put-back-of : freed < 2 ^ 64 → s ≡ with_free_cell cell index freed o → IsPutBack element a segs (set segs i s) freed
    put-back-of small e =
        let wide : 8 ≤ cell = omega (arith, nonzero) in
        let ch : ChangesCell cell index (0, 0) o s = subst (ChangesCell cell index (0, 0) o) (sym e) (released-changes cell index o live-target.cell freed wide) in
        let count : s.carved ≡ o.carved = ap (λ (x : Cells). x.carved) e in
        let mid = stays (0, 0) ch (omega arith) (λ z. refl) count in
        let is : cells_at n (set segs i s) ≡ s = cells-set n i segs s there.alone.within there.alone.before (ch.number ∙ there.alone.number s) in
        let first : 1 ≤ n = subst (λ k. 1 ≤ k) (there.alone.number s) ((all-legal segs k.segments i s there.alone.within).first) in
        let link : freed_link (set segs i s) a ≡ freed =
        ap (λ (x : Cells). link_word (place_of a).1 x.bytes) is
        ∙ (ap (λ k. link_word k s.bytes) there.offset ∙ (ap (λ (x : Cells). link_word (cell_offset cell index) x.bytes) e ∙ word-released n cell index o live-target.cell freed small wide)) in
        let free : IsFreeCell cell (set segs i s) (place_of a) =
        let k : ℕ = index_at cell (place_of a).1 in
        let at : k ≡ index = index-is cell index (place_of a).1 (omega (arith, nonzero)) there.offset in
        record {
          offset = there.offset ∙ ap (cell_offset cell) (sym at);
          below = subst (λ (x : Cells). k < x.carved) (sym is) (omega (arith, at, low, count));
          empty = ap (λ (x : Cells). (pair_at k x).0) is ∙ (ap (λ j. (pair_at j s).0) at ∙ (ap (λ (xs : List (ℕ × ℕ)). (get_or xs index (0, 0)).0) ch.pairs ∙ ap (λ (p : ℕ × ℕ). p.0) (get_or-set_same o.pairs index (0, 0) (0, 0) live-target.cell.listed)));
        } in
        let kept = pool-push element freed a (set segs i s) (place_of a) ps mid (omega (arith, first)) refl link free others in
        record {
          kept = pool-of element (set segs i s) a (place_of a ∷ ps) kept;
          layout = layout-freed cell index i n segs s there.alone (omega (arith, nonzero)) live-target.cell.listed (0, 0) s ch live-target.fits own own-in own-at refl ∙ ap (without_block_at (layout_by cell segs)) here;
          freed = pool-freed element (set segs i s) a (place_of a ∷ ps) kept;
          carved = carved-stays i segs s there.alone.within ch.number count;
        }

-- the cell that was freed last is one of its segment's
listed-first : (element a : ℕ) (segs : List Cells) (ps : List (ℕ × ℕ)) → 1 ≤ a → IsPoolOf element segs a ps → IsListed (cell_for element) segs (place_of a)
listed-first element a segs [] one h = absurd (omega (arith, h.chain, one))
listed-first element a segs (p ∷ ps) one h =
    let f : IsFreeCell (cell_for element) segs (place_of a) = subst (IsFreeCell (cell_for element) segs) (sym h.chain.1) (All-head (IsFreeCell (cell_for element) segs) p ps h.free) in
    record { index = index_at (cell_for element) (place_of a).1; offset = f.offset; listed = omega (arith, all-few (cell_for element) element (place_of a).0 segs h.cells.cellular) }

pub freed-listed : (element a : ℕ) (segs : List Cells) → 1 ≤ a → IsPool element segs a → IsListed (cell_for element) segs (place_of a)
freed-listed element a segs one h = listed-first element a segs (freed_cells segs a) one h

-- its link is an address or 0
small-first : (element a : ℕ) (segs : List Cells) (ps : List (ℕ × ℕ)) → IsPoolOf element segs a ps → 1 ≤ a → freed_link segs a < 4294967296
small-first element a segs [] h one = absurd (omega (arith, h.chain, one))
small-first element a segs (p ∷ []) h one = let none : freed_link segs a ≡ 0 = h.chain.2 in omega (arith, none)
small-first element a segs (p ∷ q ∷ qs) h one =
    let f : IsFreeCell (cell_for element) segs q = All-head (IsFreeCell (cell_for element) segs) q qs (All-tail (IsFreeCell (cell_for element) segs) p (q ∷ qs) h.free) in
    let there : 1 ≤ length (cells_at q.0 segs).pairs = omega (arith, all-few (cell_for element) element q.0 segs h.cells.cellular) in
    chain-small segs (freed_link segs a) q qs h.chain.2 ((number-legal q.0 segs h.cells.segments there).1)

-- the address of the cell freed last is small
last-first : (element a : ℕ) (segs : List Cells) (ps : List (ℕ × ℕ)) → IsPoolOf element segs a ps → a < 4294967296
last-first element a segs [] h = let none : a ≡ 0 = h.chain in omega (arith, none)
last-first element a segs (p ∷ ps) h =
    let f : IsFreeCell (cell_for element) segs p = All-head (IsFreeCell (cell_for element) segs) p ps h.free in
    let there : 1 ≤ length (cells_at p.0 segs).pairs = omega (arith, all-few (cell_for element) element p.0 segs h.cells.cellular) in
    chain-small segs a p ps h.chain ((number-legal p.0 segs h.cells.segments there).1)

pub last-small : (element a : ℕ) (segs : List Cells) → IsPool element segs a → a < 4294967296
last-small element a segs h = last-first element a segs (freed_cells segs a) h

pub link-small : (element a : ℕ) (segs : List Cells) → IsPool element segs a → 1 ≤ a → freed_link segs a < 4294967296
link-small element a segs h one = small-first element a segs (freed_cells segs a) h one

pub link-is : (wide a i index : ℕ) (segs : List Cells) (d : Cells) → IsCellAt wide segs (place_of a) i index → cell_link wide index (get_or segs i d) ≡ freed_link segs a
link-is wide a i index segs d there =
    ap (λ k. link_word k (get_or segs i d).bytes) (sym there.offset)
    ∙ ap (λ (x : Cells). link_word (place_of a).1 x.bytes) (sym (cells-first (place_of a).0 segs i d there.alone.within there.alone.before (there.alone.number d)))
