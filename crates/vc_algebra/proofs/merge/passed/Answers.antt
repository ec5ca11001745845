use Rattle.vc_paths.specs.Path.{numbers_of, visible_of}
use Rattle.vc_algebra.proofs.ComeLemmas.{passed-rest, seen-behind}
use Rattle.vc_algebra.proofs.merge.passed.Goals as goal

pub returns-in-Some-clause-rest : goal.returns-in-Some-clause-rest
returns-in-Some-clause-rest g c =
    passed-rest (g.Y.Layers.layered c.args.layers.now) c.args.paths.now c.args.d c.args.place c.walk_next.result c.in-Some.from (g.met.Y.Layers.lawful c.args.layers.now) c.requires.path c.in-Some.is c.requires.place c.walk_next.ensures.found

pub returns-in-Some-clause-seen : goal.returns-in-Some-clause-seen
returns-in-Some-clause-seen g c = seen-behind (numbers_of c.in-Some.from) c.walk_next.result (visible_of (g.Y.Layers.layered c.args.layers.now) c.args.paths.now c.args.d) c.walk_next.ensures.found
