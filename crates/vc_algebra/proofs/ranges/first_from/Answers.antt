use Rattle.vc_base.proofs.Common.{false, option_copied, sym, subst}
use Rattle.vc_paths.specs.Ordered.{IsEnd}
use Rattle.vc_algebra.specs.Algebra.{is_from}
use Rattle.vc_algebra.proofs.RangeLemmas.{end_from}
use Rattle.vc_algebra.proofs.ranges.first_from.Goals as goal

pub returns-in-Some-clause-found : goal.returns-in-Some-clause-found
returns-in-Some-clause-found g c =
    let all = g.Y.Layers.layered c.args.layers.now in
    subst (λ z. IsEnd false all c.args.e (is_from (all.layer c.args.e).rules (option_copied z)) c.at_least.result) (sym c.in-Some.is)
    (end_from all c.args.e c.in-Some.key.now c.at_least.result (g.met.Y.Layers.lawful c.args.layers.now) c.requires.dict c.at_least.ensures.found)
