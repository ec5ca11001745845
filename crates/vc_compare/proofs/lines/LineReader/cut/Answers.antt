use Rattle.vc_base.proofs.Common.{arith}
use Rattle.vc_compare.proofs.Unread.{cuts, cuts-more, cuts-whole, unread-size}
use Rattle.vc_compare.proofs.lines.LineReader.cut.Goals as goal

pub returns-clause-cuts : goal.returns-clause-cuts
returns-clause-cuts c = cuts c.args.self.now c.feed-cut.new.self c.feed-cut.result.1 c.requires.can c.feed-cut.result.0 (rw c.deref.ensures.value at c.feed-cut.ensures.within) (rw c.deref.ensures.value at c.feed-cut.ensures.fed)

pub returns-clause-whole : goal.returns-clause-whole
returns-clause-whole c = cuts-whole c.args.self.now c.feed-cut.new.self c.feed-cut.result.1 c.requires.can c.feed-cut.result.0 (rw c.deref.ensures.value at c.feed-cut.ensures.within) (rw c.deref.ensures.value at c.feed-cut.ensures.fed)

pub returns-clause-more : goal.returns-clause-more
returns-clause-more c is =
    let within = rw c.deref.ensures.value at c.feed-cut.ensures.within in
    let progress = rw c.deref.ensures.value at c.feed-cut.ensures.progress in
    cuts-more c.args.self.now c.feed-cut.new.self c.feed-cut.result.1 c.requires.can c.feed-cut.result.0 within (rw c.deref.ensures.value at c.feed-cut.ensures.fed) is
    (progress (omega (arith, unread-size c.args.self.now c.feed-cut.new.self c.feed-cut.result.1 c.requires.can, c.requires.some)))
