use Rattle.vc_base.proofs.Common.{arith}
use Rattle.vc_pool.specs.Cells.Place.{cells_in}
use Rattle.vc_pool.proofs.ChainSifting.{first-out, next-out, out-keeps, split-last, split-small}
use Rattle.vc_pool.proofs.compact.relink.leave_out.Goals as goal

pub set_link-requires-clause-listed : goal.set_link-requires-clause-listed
set_link-requires-clause-listed c =
    split-last c.args.element (cells_in c.args.segs.now) c.args.freed.now.0 c.args.last.0 c.args.at.0 c.requires.split (omega (arith, c.if-last-eq0.false))

pub returns-then-last-eq0-clause-split : goal.returns-then-last-eq0-clause-split
returns-then-last-eq0-clause-split c =
    λ kept rest p h. first-out c.args.element (cells_in c.args.segs.now) c.args.freed.now.0 c.args.last.0 c.args.at.0 kept rest p c.args.next.0 c.if-last-eq0.true c.requires.next h

pub returns-else-last-eq0-clause-split : goal.returns-else-last-eq0-clause-split
returns-else-last-eq0-clause-split c =
    λ kept rest p h.
    next-out c.args.element (cells_in c.args.segs.now) c.args.freed.now.0 c.args.last.0 c.args.at.0 (cells_in c.set_link.new.segs) c.args.next.0 c.set_link.ensures (omega (arith, split-small c.args.element (cells_in c.args.segs.now) c.args.freed.now.0 c.args.last.0 c.args.at.0 c.requires.split c.requires.some, c.requires.next)) (omega (arith, c.if-last-eq0.false)) c.requires.next kept rest p h

pub returns-else-last-eq0-clause-keeps : goal.returns-else-last-eq0-clause-keeps
returns-else-last-eq0-clause-keeps c =
    out-keeps c.args.element (cells_in c.args.segs.now) c.args.freed.now.0 c.args.last.0 c.args.at.0 (cells_in c.set_link.new.segs) c.args.next.0 c.set_link.ensures (omega (arith, split-small c.args.element (cells_in c.args.segs.now) c.args.freed.now.0 c.args.last.0 c.args.at.0 c.requires.split c.requires.some, c.requires.next)) (omega (arith, c.if-last-eq0.false)) c.requires.next c.requires.split c.requires.some
