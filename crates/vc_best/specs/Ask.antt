-- Where a block asks for a segment.
use Rattle.std.specs.Prelude.{◌≡◌, ◌≢◌, ℕ, Bool, false, IfSome, IsTrue, None}
use Rattle.vc_model.specs.Addr.{place_of}
use Rattle.vc_model.specs.Best.{best_need, place_in}
use Rattle.vc_model.specs.Discipline.{Terms}
use Rattle.vc_model.specs.Layout.{Layout}
use Rattle.vc_model.specs.Resize.{can_stay}
use Rattle.vc_model.specs.Segments.{Grant, TooMany, ask}
use Rattle.vc_model.specs.Touch.{find_block}

-- so many bytes more of the segment of that number
abbrev pub more_bytes : ℕ → ℕ → Grant
more_bytes number bytes = record { number = number; bytes = bytes; fresh = false }

-- a block of a size and an alignment asks a region for a segment
pub record AsksForSegment {L : Type 0} (terms : Terms) (r : Layout L) (size align : ℕ) : Type 0 where
  -- no gap holds it
  pub none : place_in r size align ≡ None
  -- the region may have more
  pub may : ask terms (best_need terms size align) r.segments false ≢ TooMany

-- a block asks for one where it gets another size
pub record AsksToMove {L : Type 0} (terms : Terms) (r : Layout L) (a size : ℕ) (may_move : Bool) : Type 0 where
  -- it can't stay where it is
  pub stays : IfSome (find_block (place_of a) r.blocks) (λ b. can_stay r size b ≡ false)
  -- it may move
  pub may : IsTrue may_move
  pub asks : AsksForSegment terms r size 32
