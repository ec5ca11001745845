use Rattle.vc_base.proofs.Common.{ℕ, ◌+◌, ◌≤◌, replicate, sym, subst, arith, length-replicate}
use Rattle.vc_extent.specs.Extent.{extents}
use Rattle.vc_extent.specs.Change.{extent_in}
use Rattle.vc_extent.proofs.Bodies.{body-changed}
use Rattle.vc_extent.proofs.Changed.{range-below, range-room}
use Rattle.vc_extent.proofs.body.fill_in.Goals as goal

pub overflow_add-at-2 : goal.overflow_add-at-2
overflow_add-at-2 c = omega (arith, range-below c.requires.busy.there c.args.off c.args.len c.requires.within)

pub fill-requires : goal.fill-requires
fill-requires c = omega (arith, range-room c.requires.busy.there c.args.off c.args.len c.requires.within)

pub returns : goal.returns
returns c = body-changed c.args.seg.now c.fill.new.self c.args.at c.args.off (replicate c.args.len c.args.byte) c.requires.busy.there c.requires.busy.busy (subst (λ (k : ℕ). c.args.off + k ≤ (extent_in (c.args.at + 16) (extents c.args.seg.now.bytes)).size) (sym (length-replicate c.args.len c.args.byte)) c.requires.within) c.fill.ensures.bytes c.fill.ensures.number
