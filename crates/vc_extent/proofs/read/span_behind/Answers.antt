use Rattle.vc_base.proofs.Common.{◌+◌, ◌-◌, length, sym, subst, arith}
use Rattle.vc_extent.specs.Extent.{extents}
use Rattle.vc_extent.specs.Change.{behind}
use Rattle.vc_extent.specs.Tiles.{Tiles}
use Rattle.vc_extent.proofs.Changed.{IsNext, behind-span, behind-within, here, within}
use Rattle.vc_extent.proofs.read.span_behind.Goals as goal
use Rattle.vc_extent.proofs.read.span_behind.Goals.{After-field}

rest : (c : After-field) → Tiles c.args.seg.now.bytes (length c.args.seg.now.bytes - 16) c.args.bytes (c.args.at + c.args.bytes) (behind (c.args.at + 16) (extents c.args.seg.now.bytes))
rest c = subst (λ k. Tiles c.args.seg.now.bytes (length c.args.seg.now.bytes - 16) k (c.args.at + k) (behind (c.args.at + 16) (extents c.args.seg.now.bytes))) (sym c.requires.bytes) (here c.requires.there).rest

next : (c : After-field) → IsNext c.args.seg.now.bytes (c.args.at + c.args.bytes) c.field.result
next c =
    let w = within c.requires.there in
    let end = w.end in
    behind-within c.args.seg.now.bytes c.args.bytes (c.args.at + c.args.bytes) c.field.result (behind (c.args.at + 16) (extents c.args.seg.now.bytes)) (omega arith) (rest c) c.requires.some c.field.ensures

pub overflow_add-at : goal.overflow_add-at
overflow_add-at c = omega (arith, (within c.requires.there).end, (within c.requires.there).most, c.requires.bytes)

pub field-requires : goal.field-requires
field-requires c = omega (arith, (within c.requires.there).end, c.requires.bytes)

pub returns-clause-value : goal.returns-clause-value
returns-clause-value c =
    behind-span c.args.seg.now.bytes (length c.args.seg.now.bytes - 16) c.args.bytes (c.args.at + c.args.bytes) c.field.result (behind (c.args.at + 16) (extents c.args.seg.now.bytes)) (rest (goal.at.returns-clause-value c).After-field) c.field.ensures

pub returns-clause-within : goal.returns-clause-within
returns-clause-within c = (next (goal.at.returns-clause-within c).After-field).end

pub returns-clause-least : goal.returns-clause-least
returns-clause-least c = (next (goal.at.returns-clause-least c).After-field).least

pub returns-clause-multiple : goal.returns-clause-multiple
returns-clause-multiple c = (next (goal.at.returns-clause-multiple c).After-field).multiple
