use Rattle.vc_base.proofs.Common.{length, sym, ap, ◌∙◌, subst, arith}
use Rattle.vc_image_check.specs.Dicts.Alone.{AreHung}
use Rattle.vc_dthash.proofs.HashLemmas.{IsSlots-some}
use Rattle.vc_image_check.proofs.Owning.{hung-holders, length-from}
use Rattle.vc_image_check.proofs.dicts.holders.hash_holders.Goals as goal

pub are_alone-requires-clause-many : goal.are_alone-requires-clause-many
are_alone-requires-clause-many g c =
    let long = ap length (c.deref.ensures.value ∙ c.in_ok-holders.ensures) ∙ length-from (g.N.Holders.blocks c.args.nodes.now) c.args.count c.args.heads.now.first.0 in
    omega (arith, long)

pub are_alone-requires-clause-hung : goal.are_alone-requires-clause-hung
are_alone-requires-clause-hung g c =
    let rules = g.D.DictDisc.rules c.args.kind.now in
    let b = g.N.Holders.blocks c.args.nodes.now in
    let table = c.is_sound_table.ensures.0 c.if-not-is_sound_table.false in
    subst (AreHung rules b) (sym (c.deref.ensures.value ∙ c.in_ok-holders.ensures))
    (hung-holders rules b c.args.count c.args.heads.now (IsSlots-some c.args.heads.now.slots table.allowed) (c.in_ok-is_sound_chain.ensures.0 c.if-not-branch.false))
