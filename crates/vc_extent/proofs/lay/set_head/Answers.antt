use Rattle.vc_base.proofs.Common.{◌+◌, ◌∙◌, arith}
use Rattle.vc_seg.specs.Segment.{Bytes}
use Rattle.vc_seg.specs.Frame.{StaysOutside}
use Rattle.vc_seg.proofs.Frames.{field-front, wider, then}
use Rattle.vc_extent.proofs.lay.set_head.Goals as goal

pub returns-clause-span : goal.returns-clause-span
returns-clause-span c =
    field-front c.set_field-2.new.self.bytes c.set_field-3.new.self.bytes (c.args.at + 8) c.set_field-3.ensures.rest.below c.args.at (omega arith)
    ∙ (field-front c.set_field.new.self.bytes c.set_field-2.new.self.bytes (c.args.at + 4) c.set_field-2.ensures.rest.below c.args.at (omega arith) ∙ c.set_field.ensures.value)

pub returns-clause-size : goal.returns-clause-size
returns-clause-size c = field-front c.set_field-2.new.self.bytes c.set_field-3.new.self.bytes (c.args.at + 8) c.set_field-3.ensures.rest.below (c.args.at + 4) (omega arith) ∙ c.set_field-2.ensures.value

pub returns-clause-rest : goal.returns-clause-rest
returns-clause-rest c =
    let at = c.args.at in
    let o : Bytes = c.args.seg.now in
    let a : Bytes = c.set_field.new.self in
    let b : Bytes = c.set_field-2.new.self in
    let n : Bytes = c.set_field-3.new.self in
    let first : StaysOutside at (at + 12) o a = wider at (at + 4) at (at + 12) o a c.set_field.ensures.rest (omega arith) (omega arith) in
    let second : StaysOutside at (at + 12) a b = wider (at + 4) (at + 4 + 4) at (at + 12) a b c.set_field-2.ensures.rest (omega arith) (omega arith) in
    let third : StaysOutside at (at + 12) b n = wider (at + 8) (at + 8 + 4) at (at + 12) b n c.set_field-3.ensures.rest (omega arith) (omega arith) in
    then at (at + 12) o a n first (then at (at + 12) a b n second third)
