use Rattle.vc_base.proofs.Common.{sym, ◌∙◌, subst, arith, place_of, HasBlock}
use Rattle.vc_best.specs.Parts.{layout_of}
use Rattle.vc_audit.proofs.DebugBlocks.{below-end, live-up}
use Rattle.vc_audit.proofs.DebugFills.{guards-size}
use Rattle.vc_audit.proofs.DebugWalks.{holds-at, in-told, none-told, out-told}
use Rattle.vc_audit.proofs.debug.Debug.block_at.Goals as goal

pub is_users-requires : goal.is_users-requires
is_users-requires g c = let bounds = guards-size (layout_of c.args.self.now.best).blocks (place_of c.in-Some.at.0) c.size.result c.args.self.now.guarded c.size.ensures in omega (arith, bounds.0)

pub user_addr-requires : goal.user_addr-requires
user_addr-requires g c = below-end (layout_of c.args.self.now.best) c.args.self.now.guarded c.args.self.now.best.sound c.in-Some.at.0 c.in-Some.ensures.live

pub returns-in-None : goal.returns-in-None
returns-in-None g c = record { live = tt; value = none-told (layout_of c.args.self.now.best) c.args.self.now.best.sound c.args.self.now.guarded (c.args.seg, c.args.off) c.in-None.ensures.value }

pub returns-then-not-is_users : goal.returns-then-not-is_users
returns-then-not-is_users g c = record { live = tt; value = out-told (layout_of c.args.self.now.best) c.args.self.now.best.sound c.args.self.now.guarded (c.args.seg, c.args.off) c.in-Some.at.0 c.in-Some.inner c.size.result (holds-at (layout_of c.args.self.now.best) (c.args.seg, c.args.off) c.in-Some.at.0 c.in-Some.inner c.in-Some.ensures.value) c.size.ensures (sym c.is_users.ensures ∙ c.if-not-is_users.true) }

pub returns-else-not-is_users : goal.returns-else-not-is_users
returns-else-not-is_users g c = record {
  live = subst (HasBlock _) (sym c.user_addr.ensures) (live-up (layout_of c.args.self.now.best).blocks c.in-Some.at.0 c.in-Some.ensures.live);
  value = in-told (layout_of c.args.self.now.best) c.args.self.now.best.sound c.args.self.now.guarded (c.args.seg, c.args.off) c.in-Some.at.0 c.in-Some.inner c.size.result (holds-at (layout_of c.args.self.now.best) (c.args.seg, c.args.off) c.in-Some.at.0 c.in-Some.inner c.in-Some.ensures.value) c.size.ensures c.user_addr.result.0 c.user_addr.ensures (sym c.is_users.ensures ∙ c.if-not-is_users.false);
}
