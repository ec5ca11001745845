use Rattle.vc_base.proofs.Common.{◌<◌, Some, sym, ap, ◌∙◌, subst}
use Rattle.vc_paths.specs.Links.{below, links_with}
use Rattle.vc_paths.proofs.NewLinkLemmas.{below-linked, below-other}
use Rattle.vc_paths.proofs.paths.Paths.below_with.Goals as goal

pub returns-then-from-d : goal.returns-then-from-d
returns-then-from-d c =
    sym (ap (below (links_with c.args.d (Some c.args.e) c.args.self.now)) c.if-from-d.true
    ∙ below-linked c.args.self.now c.args.d (Some c.args.e) (subst (λ z. c.args.d < z) (sym c.show_invariant.ensures.all) c.requires.first))

pub returns-else-from-d : goal.returns-else-from-d
returns-else-from-d c = c.below-old.ensures ∙ sym (below-other c.args.self.now c.args.d c.args.from (Some c.args.e) c.if-from-d.false)
