-- The block with the least address above one, by segments and cells.
use Rattle.vc_base.proofs.Common.{◌≡◌, ℕ, ◌*◌, ◌/◌, ◌%◌, ◌<◌, ◌≤◌, ◌≢◌, ◌⊎◌, List, [], ◌∷◌, map, length, get_or, IfSome, IfNone, Some, None, All, Option, option_map, sym, refl, ap, ◌∙◌, subst, inl, inr, ⊎_elim, mul-le-mul_right, arith, cases_eq, cases_lt, All-contains, All-map, All-nil, Block, address_of, least_above, cell_for, cell_offset, HasBlock, next_block, next_segment}
use Rattle.vc_base.specs.declared.addr.Addr.{Addr}
use Rattle.vc_base.proofs.Quantifiers.{All-unmap}
use Rattle.vc_seg.specs.Segment.{AreSegments}
use Rattle.vc_seg.proofs.LayoutWalks.{least_above-among, least_above-key}
use Rattle.vc_pool.specs.Cells.Blocks.{layout_by, pair_of}
use Rattle.vc_pool.specs.Cells.Cells.{Cells, pair_at}
use Rattle.vc_pool.specs.Cells.Freed.{cells_at}
use Rattle.vc_pool.specs.Cells.Kept.{AreCellular, segment_of}
use Rattle.vc_pool.proofs.BlockPlaces.{IsIn, all-legal, at-number, blocks-in, number-there}
use Rattle.vc_pool.specs.First.{AreEmpty, IsBare, IsFirstAbove, IsFirstIn}
use Rattle.vc_pool.proofs.LeastAbove.{IsLeast, least-found, least-is, least-no, least-none}
use Rattle.vc_pool.proofs.CellsWithBlocks.{cell-multiple, cell-small}

split : (m n : ℕ) → (m ≤ n) ⊎ (n < m)
split m n = ⊎_elim (λ lt. inr lt) (λ le. inl le) (cases_lt n m)

-- a later cell begins behind
cell-later : (cell i j : ℕ) → i ≤ j → cell_offset cell i ≤ cell_offset cell j
cell-later cell i j le = let more = mul-le-mul_right cell le in omega (arith, more)

module _ (element a : ℕ) (segs : List Cells) (h : AreCellular element segs) (some : 1 ≤ element) where
  abbrev cell : ℕ
  cell = cell_for element

  abbrev n : ℕ
  n = a / 1048576

  abbrev off : ℕ
  off = a % 1048576 * 32

  small : (m k : ℕ) → k < length (cells_at m segs).pairs → cell_offset cell k < 33554432
  small m k lt = cell-small element segs h some m k lt

  multiple : (k : ℕ) → cell_offset cell k % 32 ≡ 0
  multiple k = cell-multiple element segs h some k

  -- the first block of a segment is the next one where each block above is in that segment, from the same cell on, or in a later one
  next-in : (m start b : ℕ) → IsFirstIn cell segs m start b → a < b → ((c : Block ℕ) (i : IsIn cell segs c) → a < address_of c → (m ≤ c.seg) × (c.seg ≡ m → start ≤ i.index)) → IsLeast a (map address_of (layout_by cell segs).blocks) b
  next-in m start b f above on =
      let k : ℕ = f.index in
      record {
        above = above;
        least = All-map (λ x. a < x → b ≤ x) address_of (layout_by cell segs).blocks
            (λ j d lt up.
            let c : Block ℕ = get_or (layout_by cell segs).blocks j d in
            let i = blocks-in element segs h j d lt in
            let later = on c i up in
            ⊎_elim
            (λ (e : c.seg ≡ m).
            ⊎_elim
            (λ (le : k ≤ i.index). let more = cell-later cell k i.index le in omega (arith, more, e))
            (λ (less : i.index < k).
            let size : c.size ≡ (pair_at i.index (cells_at m segs)).0 = subst (λ x. c.size ≡ (pair_at i.index (cells_at x segs)).0) e i.size in
            absurd (omega (arith, f.first.before i.index (later.1 e) less, size)))
            (split k i.index))
            (λ (e : c.seg ≡ m → ⊥). let seg = later.0 in omega (arith, small m k f.first.listed, seg, e))
            (cases_eq c.seg m));
      }

  -- the cells of the address's segment from an index on begin behind it, those below don't
  module _ (from : ℕ) (before : (k : ℕ) → k < from → cell_offset cell k ≤ off) (behind : (k : ℕ) → from ≤ k → off < cell_offset cell k) where
    -- a block above the address is in a later segment, or in a later cell of its own
    later : (c : Block ℕ) (i : IsIn cell segs c) → a < address_of c → n ≤ c.seg
    later c i up = let low = small c.seg i.index i.listed in omega (arith, low, up)

    later-own : (c : Block ℕ) (i : IsIn cell segs c) → a < address_of c → c.seg ≡ n → from ≤ i.index
    later-own c i up e =
        ⊎_elim
        (λ (le : from ≤ i.index). le)
        (λ (lt : i.index < from). let low = before i.index lt in absurd (omega (arith, low, up, e)))
        (split from i.index)

    -- the first block of these is the next one
    first-next : (b : ℕ) → IsFirstIn cell segs n from b → IsLeast a (map address_of (layout_by cell segs).blocks) b
    first-next b f =
        next-in n from b f (omega (arith, behind f.index f.first.behind, multiple f.index)) (λ c i up. (later c i up, later-own c i up))

    module _ (bare : AreEmpty from (length (cells_at n segs).pairs) (cells_at n segs)) where
      -- else a block above is in a later segment
      past : (c : Block ℕ) → IsIn cell segs c → a < address_of c → n < c.seg
      past c i up =
          ⊎_elim
          (λ (e : c.seg ≡ n).
          let empty = bare i.index (later-own c i up e) (subst (λ m. i.index < length (cells_at m segs).pairs) e i.listed) in
          let size : c.size ≡ (pair_at i.index (cells_at n segs)).0 = subst (λ m. c.size ≡ (pair_at i.index (cells_at m segs)).0) e i.size in
          absurd (omega (arith, empty, size)))
          (λ (e : c.seg ≡ n → ⊥). omega (arith, later c i up, e))
          (cases_eq c.seg n)

      no-bare : (c : Block ℕ) → IsIn cell segs c → IsBare c.seg segs → ⊥
      no-bare c i none =
          let empty = none i.index (omega arith) i.listed in
          omega (arith, empty)

      -- the first block of the segments above is the next one
      above-next : (b : ℕ) → IsFirstAbove cell segs n b → IsLeast a (map address_of (layout_by cell segs).blocks) b
      above-next b f =
          let m : ℕ = f.number in
          next-in m 0 b f.first (omega (arith, f.above))
          (λ c i up.
          let from : m ≤ c.seg = ⊎_elim
          (λ (le : m ≤ c.seg). le)
          (λ (less : c.seg < m). absurd (no-bare c i (f.between c.seg (past c i up) less)))
          (split m c.seg) in
          (from, λ _. omega arith))

      -- and with none there is no next one
      above-none : ((m : ℕ) → n < m → IsBare m segs) → All (λ x. x ≤ a) (map address_of (layout_by cell segs).blocks)
      above-none none =
          All-map (λ x. x ≤ a) address_of (layout_by cell segs).blocks
          (λ j d lt.
          let c : Block ℕ = get_or (layout_by cell segs).blocks j d in
          let i = blocks-in element segs h j d lt in
          ⊎_elim
          (λ (le : address_of c ≤ a). le)
          (λ (up : a < address_of c). absurd (no-bare c i (none c.seg (past c i up))))
          (split (address_of c) a))

-- a next address, and none
pub next-some : (a b : ℕ) (blocks : List (Block ℕ)) → IsLeast a (map address_of blocks) b → HasBlock blocks b → Some b ≡ option_map address_of (next_block a blocks)
next-some a b blocks h live = sym (least_above-key address_of a blocks ∙ least-is a (map address_of blocks) b h live)

pub next-none : (a : ℕ) (blocks : List (Block ℕ)) → All (λ x. x ≤ a) (map address_of blocks) → None ≡ option_map address_of (next_block a blocks)
next-none a blocks h = sym (least_above-key address_of a blocks ∙ least-no a (map address_of blocks) h)

-- no segment has that number
bare-none : (m : ℕ) (segs : List Cells) → All (λ s. s.number ≢ m) segs → IsBare m segs
bare-none m segs other =
    λ k from lt.
    let some : 1 ≤ length (cells_at m segs).pairs = omega (arith, lt) in
    absurd (at-number (λ (s : Cells). s.number ≢ m) m segs other some (number-there m segs some))

by-number : (P : ℕ → Type 0) (segs : List Cells) → All P (map (λ s. s.0) (map pair_of segs)) → All (λ s. P s.number) segs
by-number P segs h = All-unmap (λ (s : ℕ × ℕ). P s.0) pair_of segs (All-unmap P (λ (s : ℕ × ℕ). s.0) (map pair_of segs) h)

module _ (after : ℕ) (segs : List Cells) where
  least-number : (o : Option (ℕ × ℕ)) → next_segment after (map pair_of segs) ≡ o → least_above (λ x. x) after (map (λ s. s.0) (map pair_of segs)) ≡ option_map (λ s. s.0) o
  least-number o e = sym (least_above-key (λ (s : ℕ × ℕ). s.0) after (map pair_of segs)) ∙ ap (option_map (λ (s : ℕ × ℕ). s.0)) e

  -- the next number is above, and no segment stands between
  pub next-above : (number bytes : ℕ) → next_segment after (map pair_of segs) ≡ Some (number, bytes) → after < number
  next-above number bytes e = (least-found after (map (λ (s : ℕ × ℕ). s.0) (map pair_of segs)) number (least-number (Some (number, bytes)) e)).above

  pub next-last : AreSegments (map segment_of segs) → (number bytes : ℕ) → next_segment after (map pair_of segs) ≡ Some (number, bytes) → number ≤ 1023
  next-last h number bytes e =
      All-contains (λ x. x ≤ 1023) (map (λ (s : ℕ × ℕ). s.0) (map pair_of segs)) number
      (All-map (λ x. x ≤ 1023) (λ (s : ℕ × ℕ). s.0) (map pair_of segs) (All-map (λ (s : ℕ × ℕ). s.0 ≤ 1023) pair_of segs (λ k d lt. (all-legal segs h k d lt).last)))
      (least_above-among after (map (λ (s : ℕ × ℕ). s.0) (map pair_of segs)) number (least-number (Some (number, bytes)) e))

  pub bare-between : (number bytes : ℕ) → next_segment after (map pair_of segs) ≡ Some (number, bytes) → (m : ℕ) → after < m → m < number → IsBare m segs
  bare-between number bytes e m up down =
      let found = least-found after (map (λ (s : ℕ × ℕ). s.0) (map pair_of segs)) number (least-number (Some (number, bytes)) e) in
      let all = by-number (λ x. after < x → number ≤ x) segs found.least in
      bare-none m segs
      (λ k d lt same.
      let high : number ≤ (get_or segs k d).number = all k d lt (omega (arith, up, same)) in
      omega (arith, high, down, same))

  -- nor before it, where none did up to the number
  pub bare-before : (start number bytes : ℕ) → ((m : ℕ) → start < m → m ≤ after → IsBare m segs) → next_segment after (map pair_of segs) ≡ Some (number, bytes) → (m : ℕ) → start < m → m < number → IsBare m segs
  bare-before start number bytes bare e m over below =
      ⊎_elim
      (λ (past : after < m). bare-between number bytes e m past below)
      (λ (so : m ≤ after). bare m over so)
      (cases_lt after m)

  -- with none no segment is above
  pub bare-above : next_segment after (map pair_of segs) ≡ None → (m : ℕ) → after < m → IsBare m segs
  bare-above e m up =
      let all = by-number (λ x. x ≤ after) segs (least-none after (map (λ (s : ℕ × ℕ). s.0) (map pair_of segs)) (least-number None e)) in
      bare-none m segs (λ k d lt same. let low = all k d lt in omega (arith, low, up, same))

-- without an element size there is no block
no-blocks : (cell : ℕ) (segs : List Cells) → length segs ≡ 0 → (layout_by cell segs).blocks ≡ []
unfolding layout_by
no-blocks cell [] none = refl
no-blocks cell (s ∷ ss) none = absurd (omega (arith, none))

pub next-unset : (element a : ℕ) (segs : List Cells) → AreCellular element segs → element ≡ 0 → None ≡ option_map address_of (next_block a (layout_by (cell_for element) segs).blocks)
next-unset element a segs h e =
    next-none a (layout_by (cell_for element) segs).blocks
    (subst (λ (bs : List (Block ℕ)). All (λ x. x ≤ a) (map address_of bs)) (sym (no-blocks (cell_for element) segs (h.unset e))) (All-nil (λ x. x ≤ a)))

-- what a step to the next block answers
module _ (element a : ℕ) (segs : List Cells) (h : AreCellular element segs) (some : 1 ≤ element) (from n off cell : ℕ) (seg : n ≡ a / 1048576) (at : off ≡ a % 1048576 * 32) (same : cell ≡ cell_for element)
    (before : (k : ℕ) → k < from → cell_offset cell k ≤ off) (behind : (k : ℕ) → from ≤ k → off < cell_offset cell k) where
  before-cell : (k : ℕ) → k < from → cell_offset (cell_for element) k ≤ a % 1048576 * 32
  before-cell k lt = subst (λ x. cell_offset x k ≤ a % 1048576 * 32) same (subst (λ x. cell_offset cell k ≤ x) at (before k lt))

  behind-cell : (k : ℕ) → from ≤ k → a % 1048576 * 32 < cell_offset (cell_for element) k
  behind-cell k le = subst (λ x. a % 1048576 * 32 < cell_offset x k) same (subst (λ x. x < cell_offset cell k) at (behind k le))

  pub value-first : (b : ℕ) → IsFirstIn (cell_for element) segs n from b → HasBlock (layout_by (cell_for element) segs).blocks b → Some b ≡ option_map address_of (next_block a (layout_by (cell_for element) segs).blocks)
  value-first b f live =
      next-some a b (layout_by (cell_for element) segs).blocks
      (first-next element a segs h some from before-cell behind-cell b (subst (λ m. IsFirstIn (cell_for element) segs m from b) seg f)) live

  pub value-above : AreEmpty from (length (cells_at n segs).pairs) (cells_at n segs) → (o : Option Addr) → IfSome o (λ b. IsFirstAbove (cell_for element) segs n b.0) → IfSome o (λ b. HasBlock (layout_by (cell_for element) segs).blocks b.0) →
      IfNone o ((m : ℕ) → n < m → IsBare m segs) → option_map (λ b. b.0) o ≡ option_map address_of (next_block a (layout_by (cell_for element) segs).blocks)
  value-above bare (Some b) f live none =
      next-some a b.0 (layout_by (cell_for element) segs).blocks
      (above-next element a segs h some from before-cell behind-cell (subst (λ m. AreEmpty from (length (cells_at m segs).pairs) (cells_at m segs)) seg bare) b.0 (subst (λ m. IsFirstAbove (cell_for element) segs m b.0) seg f)) live
  value-above bare None f live none =
      next-none a (layout_by (cell_for element) segs).blocks
      (above-none element a segs h some from before-cell behind-cell (subst (λ m. AreEmpty from (length (cells_at m segs).pairs) (cells_at m segs)) seg bare) (subst (λ x. (m : ℕ) → x < m → IsBare m segs) seg none))
