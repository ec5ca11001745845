use Rattle.vc_base.proofs.Common.{◌≤◌, drop, length, sym, ap, ◌∙◌, subst}
use Rattle.vc_cost.proofs.ManyLemmas.{at-place, held, many-bytes}
use Rattle.vc_cost.proofs.tests.many.ManyCellsCells.body.Goals as goal

pub behind-requires : goal.behind-requires
behind-requires c =
    let xs = c.args.self.now.held.items in
    let h = held xs c.args.at.0 32 c.requires in
    subst (λ z. 32 ≤ length z) (sym (at-place xs c.args.at.0 c.index.result.now h.within c.index.ensures)) h.enough

pub returns : goal.returns
returns c =
    let xs = c.args.self.now.held.items in
    let h = held xs c.args.at.0 32 c.requires in
    c.behind.ensures ∙ ap (λ z. drop 32 z) (at-place xs c.args.at.0 c.index.result.now h.within c.index.ensures ∙ sym (many-bytes xs c.args.at.0 h.some h.within))
