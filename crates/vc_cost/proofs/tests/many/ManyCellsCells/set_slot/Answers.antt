use Rattle.vc_base.proofs.Common.{◌+◌, ◌*◌, ◌≤◌, length, sym, subst}
use Rattle.vc_cost.proofs.ManyLemmas.{at-place, held}
use Rattle.vc_cost.proofs.tests.many.ManyCellsCells.set_slot.Goals as goal

pub with_word_of-requires : goal.with_word_of-requires
with_word_of-requires c =
    let xs = c.args.self.now.held.items in
    let h = held xs c.args.at.0 (8 * c.args.k + 8) c.requires in
    subst (λ z. 8 * c.args.k + 8 ≤ length z) (sym (at-place xs c.args.at.0 c.index.result.now h.within c.index.ensures)) h.enough
