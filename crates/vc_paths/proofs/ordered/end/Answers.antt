use Rattle.vc_base.proofs.Common.{ℕ, List, subst}
use Rattle.vc_paths.specs.Direction.{end_of}
use Rattle.vc_paths.specs.Path.{Answers, visible_of}
use Rattle.vc_paths.specs.Visible.{Seen}
use Rattle.vc_paths.proofs.OrderedLemmas.{past_none}
use Rattle.vc_paths.proofs.ordered.end.Goals as goal

pub returns-clause-found : goal.returns-clause-found
returns-clause-found g c =
    let all = g.Y.Layers.layered c.args.layers.now in
    subst (λ (z : List (Seen ℕ)). Answers c.nearest_past.result (end_of c.args.back z)) (past_none c.args.back (all.layer c.args.d).rules (visible_of all c.args.paths.now c.args.d)) c.nearest_past.ensures.found
