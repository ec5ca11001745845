use Rattle.vc_base.proofs.Common.{◌≡◌, false, Some, sym, ◌∙◌, subst}
use Rattle.vc_paths.specs.Links.{are_too_long, links_with}
use Rattle.vc_paths.proofs.NewLinkLemmas.{ArePaths-viewed}
use Rattle.vc_paths.proofs.paths.Paths.view.Goals as goal

pub invariant_of-self : goal.invariant_of-self
invariant_of-self g c =
    let short : are_too_long (links_with c.args.d (Some c.args.e) c.args.self.now) ≡ false = sym c.are_too_long_with.ensures ∙ c.if-are_too_long_with.false in
    ArePaths-viewed c.self.inside.links.items c.args.d c.args.e c.self.invariant c.requires.first.number c.requires.second.number
    (subst (λ z. are_too_long (links_with c.args.d (Some c.args.e) z) ≡ false) (sym c.self.view_is) short)
