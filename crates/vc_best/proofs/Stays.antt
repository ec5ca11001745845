-- Whether a block stays where it is, and what is true of the blocks where it does or where it moved.
use Rattle.vc_base.proofs.Common.{◌≡◌, ℕ, ◌≤◌, Bool, true, false, leb, List, take, IfSome, IsTrue, Some, Option, option_map, sym, refl, ap, ◌∙◌, subst, ⊎_elim, le-leb, leb-true, cases_Bool, place_of, without_block_at, Block, Layout, can_stay, resize_there, sized_block, span, HasBlock, find_block, rewritten_block, with_bytes_at}
use Rattle.vc_best.proofs.Common.{AreExtents, Bytes, IsMerged, block_of, extent_of, layout_by, room_of, tiling}
use Rattle.vc_seg.proofs.Blocks.{All-change, All-without}
use Rattle.vc_best.proofs.Found.{busy-of, found-of}
use Rattle.vc_best.proofs.Held.{AreMost}
use Rattle.vc_best.proofs.Room.{can_stay-room}

leb-is : (m n : ℕ) (r : Bool) → (IsTrue r → m ≤ n) → (m ≤ n → IsTrue r) → leb m n ≡ r
leb-is m n true one two = le-leb m n (one refl)
leb-is m n false one two =
    ⊎_elim
    (λ (t : leb m n ≡ true). absurd (let no : false ≡ true = two (leb-true m n t) in cc))
    (λ (t : leb m n ≡ false). t)
    (cases_Bool (leb m n))

module _ (segs : List Bytes) (index : List ℕ) (a : ℕ) (k : ∥ AreExtents segs index ∥₁) (live : HasBlock (layout_by segs).blocks a) where
  found : find_block (place_of a) (layout_by segs).blocks ≡ Some (block_of (place_of a).0 (extent_of (tiling segs) a))
  found = found-of segs index a k (busy-of segs index a k live)

  -- whether its room is enough is whether it can stay
  pub stays-by : (size : ℕ) (r : Bool) → IsMerged (tiling segs) → 1 ≤ size → (IsTrue r → span size ≤ room_of (tiling segs) a) → (span size ≤ room_of (tiling segs) a → IsTrue r) →
      option_map (can_stay (layout_by segs) size) (find_block (place_of a) (layout_by segs).blocks) ≡ Some r
  stays-by size r m some one two =
      ap (option_map (can_stay (layout_by segs) size)) found
      ∙ ap Some (can_stay-room segs index a size k m (busy-of segs index a k live) some ∙ leb-is (span size) (room_of (tiling segs) a) r one two)

  pub label-by : (tag : ℕ) → tag ≡ (extent_of (tiling segs) a).tag → option_map (λ b. b.label) (find_block (place_of a) (layout_by segs).blocks) ≡ Some tag
  label-by tag e = ap (option_map (λ b. b.label)) found ∙ ap Some (sym e)

  pub size-by : (size : ℕ) → IfSome (find_block (place_of a) (layout_by segs).blocks) (λ b. size ≤ b.size) → size ≤ (extent_of (tiling segs) a).size
  size-by size h = subst (λ (o : Option (Block ℕ)). IfSome o (λ b. size ≤ b.size)) found h

  -- a block that moved away
  module _ (new : Layout ℕ) (to : ℕ × ℕ) (size : ℕ) (moved : IfSome (find_block (place_of a) (layout_by segs).blocks) (λ b. new ≡ without_block_at (with_bytes_at (layout_by segs) to 0 (take size b.bytes)) (place_of a))) where
    is : new ≡ without_block_at (with_bytes_at (layout_by segs) to 0 (take size (extent_of (tiling segs) a).body)) (place_of a)
    is = subst (λ (o : Option (Block ℕ)). IfSome o (λ b. new ≡ without_block_at (with_bytes_at (layout_by segs) to 0 (take size b.bytes)) (place_of a))) found moved

    pub moved-segments : new.segments ≡ (layout_by segs).segments
    moved-segments = ap (λ (r : Layout ℕ). r.segments) is

    pub moved-most : AreMost (layout_by segs).blocks → AreMost new.blocks
    moved-most most =
        let P : Block ℕ → Type 0 = λ b. b.size ≤ 16777264 in
        let src = take size (extent_of (tiling segs) a).body in
        subst (λ (r : Layout ℕ). AreMost r.blocks) (sym is)
        (All-without P (place_of a) (with_bytes_at (layout_by segs) to 0 src).blocks (All-change P (rewritten_block 0 src) (λ b h. h) to (layout_by segs).blocks most))

pub most-sized : (r s : Layout ℕ) (at : ℕ × ℕ) (size : ℕ) → s ≡ resize_there r at size → size ≤ 16777264 → AreMost r.blocks → AreMost s.blocks
most-sized r s at size e large most =
    subst (λ (l : Layout ℕ). AreMost l.blocks) (sym e) (All-change (λ (b : Block ℕ). b.size ≤ 16777264) (sized_block size) (λ b h. large) at r.blocks most)
