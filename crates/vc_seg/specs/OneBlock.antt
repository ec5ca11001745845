-- What a call on one block of a region asks and promises.
use Rattle.std.specs.Prelude.{◌≡◌, ℕ, ◌+◌, ◌≤◌, ◌<◌, List, Option, IfSome, Some, length, option_map}
use Rattle.std.specs.List.{HoldsAt, remove}
use Rattle.vc_base.specs.declared.addr.Addr.{Addr}
use Rattle.vc_model.specs.Addr.{place_of}
use Rattle.vc_model.specs.Best.{zeros}
use Rattle.vc_model.specs.Layout.{Block, Layout, address_of, without_block}
use Rattle.vc_model.specs.Touch.{HasBlock, HasRange, find_block, with_bytes_at}
use Rattle.vc_model.specs.Walk.{block_at, next_block}

-- a size in bytes that a caller may give a block
pub record IsSize (size : ℕ) : Type 0 where
  pub some : 1 ≤ size
  pub most : size ≤ 16777216

-- a size that a block of a best region may have: such a one, with the 48 bytes that guards take
pub record IsGuardedSize (size : ℕ) : Type 0 where
  pub some : 1 ≤ size
  pub most : size ≤ 16777264

-- a block stands at an address, and has these bytes from an offset in it on
pub record IsInBlock {L : Type 0} (blocks : List (Block L)) (a off len : ℕ) : Type 0 where
  pub block : HasBlock blocks a
  pub range : HasRange blocks a off len

-- a block of zeros is put: it stands at an address where none stood, and the others stay
pub record IsBlockPut (tag size a : ℕ) (old new : List (Block ℕ)) : Type 0 where
  pub there : find_block (place_of a) new ≡ Some (zeros tag size (place_of a))
  pub fresh : ¬ HasBlock old a
  pub others : without_block (place_of a) new ≡ old

-- a block is kept at an address, its own or another: it has its label, and the others stay
pub record IsBlockKept {L : Type 0} (a to : ℕ) (old new : List (Block L)) : Type 0 where
  pub label : option_map (λ b. b.label) (find_block (place_of to) new) ≡ option_map (λ b. b.label) (find_block (place_of a) old)
  pub others : without_block (place_of to) new ≡ without_block (place_of a) old

-- the one block at an address is freed
pub record IsBlockFreed {L : Type 0} (a : ℕ) (old new : List (Block L)) : Type 0 where
  pub one_less : length new + 1 ≡ length old
  pub freed : (i : ℕ) → i < length old → HoldsAt (λ b. address_of b ≡ a) old i → new ≡ remove old i
  pub none_left : ¬ HasBlock new a

-- bytes are put into the block at an address, from an offset in it on, and the others stay
pub record IsBlockWritten {L : Type 0} (a off : ℕ) (src : List ℕ) (old new : Layout L) : Type 0 where
  pub layout : new ≡ with_bytes_at old (place_of a) off src
  pub others : without_block (place_of a) new.blocks ≡ without_block (place_of a) old.blocks

-- the block whose bytes hold a byte of a segment, by its address, and the offset in the block; none where no block does
pub record IsBlockAt (result : Option (Addr × ℕ)) (at : ℕ × ℕ) {L : Type 0} (blocks : List (Block L)) : Type 0 where
  pub value : option_map {U = ℕ × ℕ} (λ f. (f.0.0, f.1)) result ≡ option_map {U = ℕ × ℕ} (λ f. (address_of f.0, f.1)) (block_at at blocks)
  pub live : IfSome result (λ f. HasBlock blocks f.0.0)

-- the block behind an address in order of addresses, by its own; none where that was the last
pub record IsNextBlock (result : Option Addr) (after : ℕ) {L : Type 0} (blocks : List (Block L)) : Type 0 where
  pub value : option_map (λ a. a.0) result ≡ option_map address_of (next_block after blocks)
  pub live : IfSome result (λ a. HasBlock blocks a.0)
