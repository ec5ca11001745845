-- What the calls of a last region answer and leave, by its layout and its discipline's meaning before and after.
use Rattle.std.specs.Prelude.{ℕ, Bool, Result, IfOk, IsErrOf}
use Rattle.vc_model.specs.Addr.{place_of}
use Rattle.vc_model.specs.Discipline.{Discipline}
use Rattle.vc_model.specs.Last.{last_alloc, last_need, last_resize}
use Rattle.vc_model.specs.Layout.{Layout}
use Rattle.vc_model.specs.Touch.{HasBlock}
use Rattle.vc_base.specs.declared.addr.Addr.{Addr}
use Rattle.vc_seg.specs.Answer.{Answers, Asks}
use Rattle.vc_seg.specs.OneBlock.{IsBlockKept}
use Rattle.vc_last.specs.Ask.{LacksPlace, MovesToNew}
use Rattle.vc_seg.specs.declared.fault.RegionFault.{RegionFault}
use Rattle.vc_seg.specs.declared.fault.RegionFault.TheVariants as code

-- a block of that tag and size is allocated; want of memory comes only where bytes are asked for
pub record IsAlloc (tag size : ℕ) (result : Result Addr RegionFault) (old new : Layout ℕ) (d e : Discipline) : Type 0 where
  pub answer : Answers (last_alloc d.terms old tag size) result old new
  pub disc : Asks result d e old.segments new.segments (last_need d.terms size)
  pub fresh : IfOk result (λ a. ¬ HasBlock old.blocks a.0)
  pub no_memory : IsErrOf result code.OutOfMemory → LacksPlace d.terms old size

-- the block at an address gets that size, if it is the latest; want of memory comes only where it moves and bytes are asked for
pub record IsResize (a size : ℕ) (may_move : Bool) (result : Result Addr RegionFault) (old new : Layout ℕ) (d e : Discipline) : Type 0 where
  pub answer : Answers (last_resize d.terms old (place_of a) size may_move) result old new
  pub disc : Asks result d e old.segments new.segments (last_need d.terms size)
  pub no_memory : IsErrOf result code.OutOfMemory → MovesToNew d.terms old (place_of a) size may_move
  pub kept : IfOk result (λ to. IsBlockKept a to.0 old.blocks new.blocks)
