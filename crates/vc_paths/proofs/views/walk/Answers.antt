use Rattle.vc_base.proofs.Common.{◌≡◌, None, sym, ◌∙◌}
use Rattle.vc_base.proofs.Options.{none_where}
use Rattle.vc_paths.specs.Links.{below}
use Rattle.vc_paths.proofs.AloneLemmas.{alone_beside, alone_there}
use Rattle.vc_paths.proofs.views.walk.Given.{Over}
use Rattle.vc_paths.proofs.views.walk.Goals as goal
use Rattle.vc_paths.proofs.views.walk.Goals.{Then-is_none}

-- the dictionary views none
alone : (g : Over) (c : Then-is_none g) → below c.args.paths.now c.args.d ≡ None
alone g c = sym c.below.ensures ∙ none_where c.below.result c.is_none.result c.is_none.ensures c.if-is_none.true

pub beside-requires-clause-place : goal.beside-requires-clause-place
beside-requires-clause-place g c =
    alone_there (g.Y.Layers.layered c.args.layers.now) c.args.paths.now c.args.d c.args.from (g.met.Y.Layers.lawful c.args.layers.now) c.requires.path (alone g (goal.at.beside-requires-clause-place g c).Then-is_none) c.requires.place

pub returns-then-is_none-clause-found : goal.returns-then-is_none-clause-found
returns-then-is_none-clause-found g c =
    alone_beside c.args.back c.args.from c.beside.result c.placed.result (g.met.Y.Layers.lawful c.args.layers.now)
    c.requires.path (alone g (goal.at.returns-then-is_none-clause-found g c).Then-is_none) c.requires.place c.beside.ensures c.placed.ensures
