-- What a best region keeps true of its blocks.
use Rattle.vc_base.proofs.Common.{◌≡◌, ℕ, ◌+◌, ◌≤◌, Bool, true, false, List, [], ◌∷◌, map, IfSome, Some, All, Option, find, sym, refl, subst, ⊎_elim, lt-ltb, le_prop, ∥∥₁_elim, cases_Bool, All-head, All-tail, place_of, without_block_at, Block, Layout, is_at, HasWholeBlocks, IsSound, HasBlock, HasRange, find_block, rewritten_block, with_bytes_at}
use Rattle.vc_best.proofs.Common.{AreExtents, AreKept, Bytes, Extent, HasGaps, IsBusy, IsMerged, block_of, change_extent, extent_of, is_busy, layout_by, pair_of, tiling, write}
use Rattle.vc_seg.proofs.Blocks.{All-change, All-without}
use Rattle.vc_gaps.specs.GapLaws.{gap_none}
use Rattle.vc_gaps.specs.GapUnique.{HasGaps-prop}
use Rattle.vc_best.proofs.Found.{busy-of, found-of}
use Rattle.vc_best.proofs.Layouts.{layout-changed}
use Rattle.vc_best.proofs.Sets.{merged-prop}
use Rattle.vc_best.proofs.Tilings.{sound-of, whole-of}

-- no block is too large
abbrev pub AreMost : List (Block ℕ) → Type 0
AreMost bs = All (λ b. b.size ≤ 16777264) bs

pub most-of : (r : Layout ℕ) → ∥ HasWholeBlocks r ∥₁ → AreMost r.blocks
most-of r w = ∥∥₁_elim w (hlevel (le_prop)) (λ h. h.most)

pub merged-of : (t : List (ℕ × List Extent)) → ∥ IsMerged t ∥₁ → IsMerged t
merged-of t m = ∥∥₁_elim m (merged-prop t) (λ h. h)

pub tree-of : (segs : List Bytes) (index : List ℕ) (root : ℕ) → ∥ AreExtents segs index ∥₁ → ∥ HasGaps (tiling segs) root [] ∥₁ → HasGaps (tiling segs) root []
tree-of segs index root k g = ∥∥₁_elim g (HasGaps-prop (tiling segs) root (gap_none segs index k) []) (λ h. h)

pub kept-of : (segs : List Bytes) (index : List ℕ) (root : ℕ) → ∥ AreExtents segs index ∥₁ → ∥ IsMerged (tiling segs) ∥₁ → ∥ HasGaps (tiling segs) root [] ∥₁ → AreKept segs root
kept-of segs index root k m g = record { merged = merged-of (tiling segs) m; gaps = tree-of segs index root k g }

-- what its type keeps, but for the tree of its gaps
pub record AreHeld (segs : List Bytes) : Type 0 where
  pub sound : ∥ IsSound (layout_by segs) ∥₁
  pub whole : ∥ HasWholeBlocks (layout_by segs) ∥₁
  pub merged : ∥ IsMerged (tiling segs) ∥₁

pub held : (segs : List Bytes) (index : List ℕ) → ∥ AreExtents segs index ∥₁ → AreMost (layout_by segs).blocks → IsMerged (tiling segs) → AreHeld segs
held segs index k most m = record { sound = sound-of segs index k most; whole = whole-of segs index k most; merged = ∣ m ∣₁ }

-- one block less
pub most-without : (r s : Layout ℕ) (at : ℕ × ℕ) → s ≡ without_block_at r at → AreMost r.blocks → AreMost s.blocks
most-without r s at e most = subst (λ (l : Layout ℕ). AreMost l.blocks) (sym e) (All-without (λ (b : Block ℕ). b.size ≤ 16777264) at r.blocks most)

-- other bytes
pub most-written : (r s : Layout ℕ) (at : ℕ × ℕ) (off : ℕ) (src : List ℕ) → s ≡ with_bytes_at r at off src → AreMost r.blocks → AreMost s.blocks
most-written r s at off src e most =
    subst (λ (l : Layout ℕ). AreMost l.blocks) (sym e) (All-change (λ (b : Block ℕ). b.size ≤ 16777264) (rewritten_block off src) (λ b h. h) at r.blocks most)

module _ (segs : List Bytes) (index : List ℕ) (a : ℕ) (k : ∥ AreExtents segs index ∥₁) (live : HasBlock (layout_by segs).blocks a) where
  -- the block at an address
  pub block-is : find_block (place_of a) (layout_by segs).blocks ≡ Some (block_of (place_of a).0 (extent_of (tiling segs) a))
  block-is = found-of segs index a k (busy-of segs index a k live)

  pub range-within : (off len : ℕ) → HasRange (layout_by segs).blocks a off len → off + len ≤ (extent_of (tiling segs) a).size
  range-within off len h = subst (λ (o : Option (Block ℕ)). IfSome o (λ b. off + len ≤ b.size)) block-is h

-- bytes that are put into the block of an extent
module _ (old new : List Bytes) (io jn : List ℕ) (a off : ℕ) (src : List ℕ) (ko : ∥ AreExtents old io ∥₁) (kn : ∥ AreExtents new jn ∥₁) (busy : IsBusy (tiling old) a)
    (is : tiling new ≡ change_extent a (write off src) (tiling old)) (p : map pair_of new ≡ map pair_of old) where
  pub layout-written : layout_by new ≡ with_bytes_at (layout_by old) (place_of a) off src
  layout-written =
      let e = extent_of (tiling old) a in
      let yes : is_busy e ≡ true = lt-ltb 0 e.size busy.busy in
      layout-changed old new io jn ko kn a (write off src) busy.named is p (rewritten_block off src) (λ b. refl) (λ b. refl) busy.busy (rw yes refl)

-- what is true of all blocks is true of the one that is found
pub All-find : (P : Block ℕ → Type 0) (test : Block ℕ → Bool) (bs : List (Block ℕ)) (b : Block ℕ) → All P bs → find test bs ≡ Some b → P b
All-find P test [] b h e = absurd (cc)
All-find P test (c ∷ cs) b h e =
    ⊎_elim
    (λ (t : test c ≡ true). let same : c ≡ b = let q : Some c ≡ Some b = rw t at e in cc in subst P same (All-head P c cs h))
    (λ (t : test c ≡ false). All-find P test cs b (All-tail P c cs h) (rw t at e))
    (cases_Bool (test c))

-- the size of the block at an address
pub size-most : (segs : List Bytes) (index : List ℕ) (a : ℕ) → ∥ AreExtents segs index ∥₁ → HasBlock (layout_by segs).blocks a → AreMost (layout_by segs).blocks → (extent_of (tiling segs) a).size ≤ 16777264
size-most segs index a k live most =
    All-find (λ (b : Block ℕ). b.size ≤ 16777264) (is_at (place_of a)) (layout_by segs).blocks (block_of (place_of a).0 (extent_of (tiling segs) a)) most (block-is segs index a k live)
