use Rattle.vc_base.proofs.Common.{◌≡◌, Some, option_map, sym, ap, subst, without}
use Rattle.vc_dtlist.specs.Linked.{number_of}
use Rattle.vc_dict.specs.Changes.{current_without, order_without}
use Rattle.vc_dict.specs.Stands.{Became, IsMember, Stands}
use Rattle.vc_dict.proofs.DictLemmas.{Became-current, Stands-current}
use Rattle.vc_dict.proofs.dict.Dict.remove.Goals as goal

pub unlink_heads-requires : goal.unlink_heads-requires
unlink_heads-requires g c =
    let rules = g.D.DictDisc.rules c.args.kind.now in
    let b = g.C.Cells.blocks c.args.cells.now in
    let m : IsMember rules c.args.self.now b c.in-Some.at.0 = c.requires.found c.in-Some.at.0 (ap (λ o. option_map number_of o) c.in-Some.is) in
    subst (λ z. IsMember rules z b c.in-Some.at.0) (sym c.leave.ensures.same) (record {
      holders = m.holders;
      stands = Stands-current rules c.args.self.now c.leave.new.self.current b m.holders m.stands;
      within = m.within;
    })

pub returns-in-Some : goal.returns-in-Some
returns-in-Some g c = record {
  change = λ holders s.
      let rules = g.D.DictDisc.rules c.args.kind.now in
      let b = g.C.Cells.blocks c.args.cells.now in
      let b' = g.C.Cells.blocks c.unlink_heads.new.cells in
      let d = c.args.self.now in
      let d' = c.unlink_heads.new.self in
      let at = c.in-Some.at.0 in
      let e : option_map number_of c.args.found ≡ Some at = ap (λ o. option_map number_of o) c.in-Some.is in
      let left : Stands rules c.leave.new.self b holders = subst (λ z. Stands rules z b holders) (sym c.leave.ensures.same) (Stands-current rules d c.leave.new.self.current b holders s) in
      let t = Became-current rules holders d c.leave.new.self.current b b' d' (without at holders)
      (subst (λ z. Became rules holders z b d' b' (without at holders) c.leave.new.self.current.0) c.leave.ensures.same (c.unlink_heads.ensures.change holders left)) in
      subst (λ z. Became rules holders d b d' b' (order_without z holders) (current_without z d.current.0 holders)) (sym e)
      (subst (λ n. Became rules holders d b d' b' (without at holders) n) (c.leave.ensures.current rules holders s) t);
  rest = c.unlink_heads.ensures.rest;
}
