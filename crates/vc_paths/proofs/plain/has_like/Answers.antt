use Rattle.vc_base.proofs.Common.{◌∙◌}
use Rattle.vc_paths.proofs.CoverLemmas.{like-found}
use Rattle.vc_paths.proofs.plain.has_like.Goals as goal

pub returns-clause-found : goal.returns-clause-found
returns-clause-found g c = λ bytes there.
    c.is_some.ensures ∙ like-found (g.Y.Layers.layered c.args.layers.now) c.args.u bytes c.find_like.result (c.find_like.ensures.found bytes there)
