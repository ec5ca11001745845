use Rattle.vc_base.proofs.Common.{refl}
use Rattle.vc_last.proofs.Calls.{free-other, freed-of}
use Rattle.vc_last.proofs.Moves.{found-head}
use Rattle.vc_last.proofs.free.free_in.Goals as goal

pub returns-then-a-latest-clause-answer : goal.returns-then-a-latest-clause-answer
returns-then-a-latest-clause-answer c = (free-other c.args.segs.now c.args.latest.now.0 c.args.a.0 c.requires.kept c.requires.block c.if-a-latest.true, refl)

pub before_at-requires : goal.before_at-requires
before_at-requires c = found-head c.args.segs.now c.args.latest.now.0 c.args.a.0 c.requires.kept c.requires.block

pub returns-clause-kept : goal.returns-clause-kept
returns-clause-kept c = (freed-of c.args.segs.now c.args.latest.now.0 c.args.a.0 c.before_at.result.0 c.requires.kept c.requires.block c.if-a-latest.false c.before_at.ensures).kept

pub returns-clause-answer : goal.returns-clause-answer
returns-clause-answer c = (freed-of c.args.segs.now c.args.latest.now.0 c.args.a.0 c.before_at.result.0 c.requires.kept c.requires.block c.if-a-latest.false c.before_at.ensures).answer

pub returns-clause-freed : goal.returns-clause-freed
returns-clause-freed c = (freed-of c.args.segs.now c.args.latest.now.0 c.args.a.0 c.before_at.result.0 c.requires.kept c.requires.block c.if-a-latest.false c.before_at.ensures).freed
