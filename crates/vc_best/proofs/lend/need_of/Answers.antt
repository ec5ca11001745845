use Rattle.vc_base.proofs.Common.{◌≡◌, ◌+◌, arith, round_up, span}
use Rattle.vc_seg.proofs.Rounding.{round_up-least}
use Rattle.vc_best.proofs.Rounding.{IsAligned-from_IsAlign, IsSegmentSize-need}
use Rattle.vc_best.proofs.lend.need_of.Given.{Over}
use Rattle.vc_best.proofs.lend.need_of.Goals as goal
use Rattle.vc_best.proofs.lend.need_of.Goals.{After-rounded_up}

is : (g : Over) (c : After-rounded_up g) → c.rounded_up.result ≡ round_up (span c.args.size + c.args.align) c.round_of.result
is g c = rw (← c.span_of.ensures) c.rounded_up.ensures

pub returns-clause-legal : goal.returns-clause-legal
returns-clause-legal g c =
    rw (is g c) (IsSegmentSize-need c.round_of.result c.args.size c.args.align c.round_of.ensures.legal c.requires.sized.some c.requires.sized.most (IsAligned-from_IsAlign c.args.align c.requires.aligned))

pub returns-clause-fits : goal.returns-clause-fits
returns-clause-fits g c =
    rw (is g c) (round_up-least (span c.args.size + c.args.align) c.round_of.result (let least = c.round_of.ensures.legal.least in omega (arith, least)))
