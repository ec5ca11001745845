use Rattle.vc_base.proofs.Common.{◌≡◌, is_eq, sym, ap, ◌∙◌, eqb-true, eqb-false}
use Rattle.vc_dtdisc.specs.Finds.{object_at}
use Rattle.vc_dtlist.proofs.AddressLemmas.{LinksFor-holders, no-holder}
use Rattle.vc_dtlist.proofs.TurnLemmas.{last_words}
use Rattle.vc_dict.specs.Weeding.{last_matches}
use Rattle.vc_dict.proofs.WeedLemmas.{last-is, last-none}
use Rattle.vc_dict.proofs.neighbours.matches_last.Goals as goal

pub returns-then-eq-clause-value : goal.returns-then-eq-clause-value
returns-then-eq-clause-value g c = λ holders s.
    let b = g.C.Cells.blocks c.args.cells.now in
    let zero : c.args.list.now.last.0 ≡ 0 = eqb-true c.args.list.now.last.0 0 (sym c.eq.ensures ∙ c.if-eq.true) in
    let none = no-holder b holders (LinksFor-holders c.args.list.now b holders s.links) in
    sym (ap (λ z. last_matches (g.D.DictDisc.rules c.args.kind.now) b z c.args.at.0) (last-none holders c.args.list.now.last.0 s.links.last none zero))

pub body-requires-2 : goal.body-requires-2
body-requires-2 g c =
    let r = c.requires.list in
    last_words (g.C.Cells.blocks c.args.cells.now) r.holders 0 c.args.list.now.last.0 r.stands.links.chain r.stands.links.last
    (eqb-false c.args.list.now.last.0 0 (sym c.eq.ensures ∙ c.if-eq.false))

pub returns-clause-value : goal.returns-clause-value
returns-clause-value g c = λ holders s.
    let rules = g.D.DictDisc.rules c.args.kind.now in
    let last = c.args.list.now.last.0 in
    let some = eqb-false last 0 (sym c.eq.ensures ∙ c.if-eq.false) in
    c.is_eq.ensures
    ∙ ap is_eq c.compare.ensures.value
    ∙ ap (λ k. is_eq (rules.compare k c.key-key.result.now)) (c.key.ensures ∙ ap rules.key c.body-2.ensures)
    ∙ ap (λ k. is_eq (rules.compare (rules.key (object_at (g.C.Cells.blocks c.args.cells.now) last)) k)) (c.key-key.ensures ∙ ap rules.key c.body.ensures)
    ∙ sym (last-is rules (g.C.Cells.blocks c.args.cells.now) holders last c.args.at.0 s.links.last some)
