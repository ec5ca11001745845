use Rattle.vc_base.proofs.Common.{ℕ, ℤ, Some, None, Option, sym, ap, ◌∙◌, subst, inr, w64, SFits, rules, HasBlock}
use Rattle.std.proofs.lemmas.Int.{to_z-of_z}
use Rattle.vc_best.specs.Parts.{layout_of}
use Rattle.vc_audit.specs.DebugParts.{debug_of}
use Rattle.vc_audit.proofs.DebugBlocks.{below-end, live-up}
use Rattle.vc_audit.proofs.DebugChecks.{check-begins, check-over, check-passes, check-smaller, check-told, next-is}
use Rattle.vc_audit.proofs.DebugWalks.{from-before}
use Rattle.vc_audit.proofs.Sound.{own-best}
use Rattle.vc_audit.proofs.debug.Debug.check.Goals as goal

pub loop-next-init : goal.loop-next-init
loop-next-init g c =
    record {
      same = check-begins (debug_of c.args.self.now) c.args.after.0 c.guarded_after-at.result.0 c.guarded_after-at.ensures (own-best (layout_of c.args.self.now.best) c.args.self.now.best.sound);
      from = from-before (layout_of c.args.self.now.best).blocks c.args.after.0 c.guarded_after-at.result.0 c.guarded_after-at.ensures c.requires;
    }

pub loop-next-preserved : goal.loop-next-preserved
loop-next-preserved g c =
    let next = next-is (layout_of c.args.self.now.best).blocks c.loop-next.at.0 c.in-Some.next.0 None (own-best (layout_of c.args.self.now.best) c.args.self.now.best.sound) c.in-Some.ensures.value c.in_default-damage_at.ensures in
    record {
      same = c.loop-next.invariant.same ∙ check-passes (layout_of c.args.self.now.best).blocks c.loop-next.at.0 c.in-Some.next.0 next;
      from = inr c.in-Some.ensures.live;
    }

pub loop-next-smaller : goal.loop-next-smaller
loop-next-smaller g c =
    check-smaller (layout_of c.args.self.now.best).blocks c.loop-next.at.0 c.in-Some.next.0 None (next-is (layout_of c.args.self.now.best).blocks c.loop-next.at.0 c.in-Some.next.0 None (own-best (layout_of c.args.self.now.best) c.args.self.now.best.sound) c.in-Some.ensures.value c.in_default-damage_at.ensures)

pub user_addr-requires : goal.user_addr-requires
user_addr-requires g c = below-end (layout_of c.args.self.now.best) c.args.self.now.guarded c.args.self.now.best.sound c.in-Some.next.0 c.in-Some.ensures.live

pub returns-in-Some-damage_at-clause-value : goal.returns-in-Some-damage_at-clause-value
returns-in-Some-damage_at-clause-value g c =
    let fits : SFits w64 c.in-Some-damage_at.off = search rules in
    let with : ℤ → Option (ℕ × ℤ) = λ z. Some (c.user_addr.result.0, z) in
    ap with (to_z-of_z w64 c.in-Some-damage_at.off fits)
    ∙ check-told (debug_of c.args.self.now) c.args.after.0 c.loop-next.at.0 c.in-Some.next.0 c.user_addr.result.0 c.in-Some-damage_at.off
    (next-is (layout_of c.args.self.now.best).blocks c.loop-next.at.0 c.in-Some.next.0 (Some c.in-Some-damage_at.off) (own-best (layout_of c.args.self.now.best) c.args.self.now.best.sound) c.in-Some.ensures.value c.in-Some-damage_at.ensures)
    c.user_addr.ensures c.loop-next.invariant.same

pub returns-in-Some-damage_at-clause-live : goal.returns-in-Some-damage_at-clause-live
returns-in-Some-damage_at-clause-live g c = subst (HasBlock _) (sym c.user_addr.ensures) (live-up (layout_of c.args.self.now.best).blocks c.in-Some.next.0 c.in-Some.ensures.live)

pub returns-clause-value : goal.returns-clause-value
returns-clause-value g c =
    check-over (debug_of c.args.self.now) c.args.after.0 c.loop-next.at.0 (own-best (layout_of c.args.self.now.best) c.args.self.now.best.sound) c.in_default.ensures.value c.loop-next.invariant.same
