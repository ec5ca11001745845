use Rattle.vc_base.proofs.Common.{◌≡◌, ℕ, ◌+◌, ◌-◌, ◌≤◌, ap, ◌∙◌, arith, fitted_bytes}
use Rattle.vc_seg.specs.Segment.{Bytes}
use Rattle.vc_seg.specs.Field.{field_at}
use Rattle.vc_seg.specs.Frame.{StaysOutside}
use Rattle.vc_seg.proofs.Frames.{field-back, field-front, part-back, then, wider}
use Rattle.vc_last.proofs.head.size_in.Goals as goal
use Rattle.vc_last.proofs.head.size_in.Goals.{After-zero_behind}

pub returns-clause-size : goal.returns-clause-size
returns-clause-size c =
    field-front c.set_field.new.self.bytes c.zero_behind.new.seg.bytes c.args.off c.zero_behind.ensures.rest.below (c.args.off - 16) (omega (arith, c.requires.first)) ∙ c.set_field.ensures.value

-- a number of the head behind the size
stays : (c : After-zero_behind) (at : ℕ) → c.args.off - 16 + 4 ≤ at → at + 4 ≤ c.args.off → field_at at c.zero_behind.new.seg.bytes ≡ field_at at c.args.seg.now.bytes
stays c at low high =
    field-front c.set_field.new.self.bytes c.zero_behind.new.seg.bytes c.args.off c.zero_behind.ensures.rest.below at high
    ∙ field-back c.args.seg.now.bytes c.set_field.new.self.bytes (c.args.off - 16 + 4) c.set_field.ensures.rest.above at low

pub returns-clause-head : goal.returns-clause-head
returns-clause-head c =
    let at = (goal.at.returns-clause-head c).After-zero_behind in
    record {
      label = stays at (c.args.off - 12) (omega (arith, c.requires.first)) (omega (arith, c.requires.first));
      before = stays at (c.args.off - 8) (omega (arith, c.requires.first)) (omega (arith, c.requires.first));
      zero = stays at (c.args.off - 4) (omega (arith, c.requires.first)) (omega (arith, c.requires.first));
    }

pub returns-clause-bytes : goal.returns-clause-bytes
returns-clause-bytes c =
    c.zero_behind.ensures.bytes
    ∙ ap (fitted_bytes c.args.size) (part-back c.args.seg.now.bytes c.set_field.new.self.bytes (c.args.off - 16 + 4) c.set_field.ensures.rest.above c.args.off c.args.old (omega (arith, c.requires.first)))

pub returns-clause-rest : goal.returns-clause-rest
returns-clause-rest c =
    let o : Bytes = c.args.seg.now in
    let m : Bytes = c.set_field.new.self in
    let n : Bytes = c.zero_behind.new.seg in
    let i : StaysOutside (c.args.off - 16) (c.args.off + c.args.size) o m = wider (c.args.off - 16) (c.args.off - 16 + 4) (c.args.off - 16) (c.args.off + c.args.size) o m c.set_field.ensures.rest (omega arith) (omega (arith, c.requires.first)) in
    let j : StaysOutside (c.args.off - 16) (c.args.off + c.args.size) m n = wider c.args.off (c.args.off + c.args.size) (c.args.off - 16) (c.args.off + c.args.size) m n c.zero_behind.ensures.rest (omega arith) (omega arith) in
    then (c.args.off - 16) (c.args.off + c.args.size) o m n i j
