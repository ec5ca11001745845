use Rattle.vc_paths.proofs.StayLemmas.{path-kept}
use Rattle.ranges.proofs.show.put_both.Goals as goal

pub put_meet-requires-clause-first : goal.put_meet-requires-clause-first
put_meet-requires-clause-first g c = path-kept c.args.paths.now c.args.of.0 c.put_range.ensures.unchanged.layers c.requires.first

pub put_meet-requires-clause-second : goal.put_meet-requires-clause-second
put_meet-requires-clause-second g c = path-kept c.args.paths.now c.args.of.1 c.put_range.ensures.unchanged.layers c.requires.second
