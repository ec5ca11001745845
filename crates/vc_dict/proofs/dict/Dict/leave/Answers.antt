use Rattle.vc_base.proofs.Common.{◌≢◌, sym, refl, ap, ◌∙◌, arith, next_in}
use Rattle.vc_dict.proofs.CurrentLemmas.{current-gone, current-stays}
use Rattle.vc_dict.proofs.DictLemmas.{or_none}
use Rattle.vc_dict.proofs.OwnLemmas.{holder-address}
use Rattle.vc_dict.proofs.dict.Dict.leave.Goals as goal

pub returns-then-eq-clause-current : goal.returns-then-eq-clause-current
returns-then-eq-clause-current g c = λ rules holders s.
    let m = c.requires.is in
    let at = c.args.at.0 in
    let address = holder-address c.requires.rules c.args.self.now (g.C.Cells.blocks c.args.cells.now) m.holders at m.stands m.within in
    let some : at ≢ 0 = λ e. absurd (omega (arith, address.some, e)) in
    ap (λ a. a.0) c.unwrap_or-self.ensures
    ∙ or_none c.next.result (record { 0 = 0 }) (next_in at holders) (c.next.ensures rules holders s) refl
    ∙ sym (current-gone at c.args.self.now.current.0 holders some (sym c.eq.ensures ∙ c.if-eq.true))

pub returns-else-eq-clause-current : goal.returns-else-eq-clause-current
returns-else-eq-clause-current g c = λ rules holders s.
    sym (current-stays c.args.at.0 c.args.self.now.current.0 holders (sym c.eq.ensures ∙ c.if-eq.false))
