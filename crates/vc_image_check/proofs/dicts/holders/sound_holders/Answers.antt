use Rattle.vc_base.proofs.Common.{◌≡◌, true, sym, ◌∙◌, subst}
use Rattle.vc_base.specs.Methods.{is_ordered}
use Rattle.vc_image_check.specs.Orders.Sound.{IsSoundOrder}
use Rattle.vc_image_check.proofs.Owning.{order-holders, order-names, order-sound}
use Rattle.vc_image_check.proofs.dicts.holders.sound_holders.Goals as goal

pub returns-in-Some-2-clause-some : goal.returns-in-Some-2-clause-some
returns-in-Some-2-clause-some g c =
    let rules = g.D.DictDisc.rules c.args.kind.now in
    let b = g.N.Holders.blocks c.args.nodes.now in
    let ordered : is_ordered c.args.method ≡ true = sym c.is_ordered.ensures ∙ c.if-is_ordered.true in
    let told : (h : IsSoundOrder rules b c.is_set-then-is_ordered.result c.args.count c.args.heads.now.root) × (h.names ≡ c.in-Some-2.holders.items) = rw c.in-Some-2.is at c.in_ok-holders-2.ensures.some in (
      order-sound c.args.method rules b c.args.count c.args.heads.now ordered
          (subst (λ z. IsSoundOrder rules b z c.args.count c.args.heads.now.root) c.is_set-then-is_ordered.ensures told.0),
      sym told.1 ∙ sym (order-names rules b c.is_set-then-is_ordered.result c.args.count c.args.heads.now told.0) ∙ sym (order-holders c.args.method b c.args.count c.args.heads.now ordered),
    )
