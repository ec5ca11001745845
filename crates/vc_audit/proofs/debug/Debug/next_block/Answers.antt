use Rattle.vc_base.proofs.Common.{◌+◌, Some, option_map, sym, ap, ◌∙◌, subst, address_of, HasBlock, next_block}
use Rattle.vc_best.specs.Parts.{layout_of}
use Rattle.vc_audit.proofs.DebugBlocks.{below-end, live-up}
use Rattle.vc_audit.proofs.DebugWalks.{address-told, from-before, next-user}
use Rattle.vc_audit.proofs.Sound.{own-best}
use Rattle.vc_audit.proofs.debug.Debug.next_block.Goals as goal

pub next_block-requires : goal.next_block-requires
next_block-requires g c = from-before (layout_of c.args.self.now.best).blocks c.args.after.0 c.guarded_after.result.0 c.guarded_after.ensures c.requires

pub user_addr-requires : goal.user_addr-requires
user_addr-requires g c = below-end (layout_of c.args.self.now.best) c.args.self.now.guarded c.args.self.now.best.sound c.in-Some.at.0 c.in-Some.ensures.live

pub returns-in-Some : goal.returns-in-Some
returns-in-Some g c =
    let r = layout_of c.args.self.now.best in
    let k = c.guarded_after.result.0 in
    record {
      value = ap Some c.user_addr.ensures
          ∙ (ap (option_map (λ n. n + 1)) c.in-Some.ensures.value
          ∙ sym (ap (option_map address_of) (next-user c.args.after.0 k r.blocks c.guarded_after.ensures (own-best r c.args.self.now.best.sound)) ∙ address-told (next_block k r.blocks)));
      live = subst (HasBlock _) (sym c.user_addr.ensures) (live-up r.blocks c.in-Some.at.0 c.in-Some.ensures.live);
    }

pub returns-in-None : goal.returns-in-None
returns-in-None g c =
    let r = layout_of c.args.self.now.best in
    let k = c.guarded_after.result.0 in
    record {
      live = tt;
      value = ap (option_map (λ n. n + 1)) c.in-None.ensures.value
          ∙ sym (ap (option_map address_of) (next-user c.args.after.0 k r.blocks c.guarded_after.ensures (own-best r c.args.self.now.best.sound)) ∙ address-told (next_block k r.blocks));
    }
