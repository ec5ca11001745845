-- That a segment's fields tell its memory.
use Rattle.std.specs.Prelude.{◌≡◌, ℕ, ◌-◌, ◌≤◌, length, drop, replicate}
use Rattle.std.specs.declared.alloc.Global.{Global}
use denote.RawPtr.{Ptr}
use Rattle.vc_model.specs.Discipline.{IsSegmentSize}
use Rattle.vc_seg.specs.declared.block.Block.{Block}

-- as many bytes as the room says, at the pointer, which came from the allocator; behind as many as the size says there are zeros
pub record IsKept (size room : ℕ) (at : Ptr) (alloc : Global) (block : Block) : Type 0 where
  pub legal : IsSegmentSize size
  pub roomy : IsSegmentSize room
  pub within : size ≤ room
  pub long : room ≡ length block.bytes
  pub zeros : drop size block.bytes ≡ replicate (room - size) 0
  pub place : at ≡ block.at
  pub heap : alloc ≡ block.alloc
