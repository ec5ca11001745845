-- Where bytes are asked for a block.
use Rattle.std.specs.Prelude.{◌≡◌, ◌≢◌, ℕ, Bool, IfSome, IsTrue, None, Some, false}
use Rattle.vc_model.specs.Discipline.{Terms}
use Rattle.vc_model.specs.Last.{can_end, last_need, last_place, latest}
use Rattle.vc_model.specs.Layout.{Layout}
use Rattle.vc_model.specs.Segments.{TooMany, ask}
use Rattle.vc_model.specs.Touch.{find_block}

-- bytes are asked for a block of that size
pub record LacksPlace {L : Type 0} (terms : Terms) (r : Layout L) (size : ℕ) : Type 0 where
  -- the newest segment has no place for it
  pub none : last_place r size ≡ None
  -- the region may be granted what it needs
  pub may : ask terms (last_need terms size) r.segments false ≢ TooMany

-- bytes are asked for the block at a place as it gets that size
pub record MovesToNew {L : Type 0} (terms : Terms) (r : Layout L) (at : ℕ × ℕ) (size : ℕ) (may_move : Bool) : Type 0 where
  -- it is the latest, and can't stay
  pub must : IfSome (find_block at r.blocks) (λ b. (latest r ≡ Some b) × (can_end r size b ≡ false))
  pub moves : IsTrue may_move
  pub lacks : LacksPlace terms r size
