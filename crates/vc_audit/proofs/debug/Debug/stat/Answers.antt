use Rattle.vc_base.proofs.Common.{◌-◌, ◌*◌, ◌≤◌, sym, ap, ◌∙◌, subst}
use Rattle.vc_seg.specs.declared.stat.Stat.{Stat}
use Rattle.vc_audit.specs.DebugParts.{debug_of}
use Rattle.vc_audit.proofs.DebugSizes.{room-user, stat-user}
use Rattle.vc_audit.proofs.debug.Debug.stat.Goals as goal

pub without_guards-requires : goal.without_guards-requires
without_guards-requires g c =
    subst (λ (s : Stat). 48 * s.busy ≤ s.sbusy) (sym c.stat.ensures) (room-user (debug_of c.args.self.now) c.args.self.now.guarded)

pub returns : goal.returns
returns g c =
    c.without_guards.ensures ∙ (ap (λ (s : Stat). let t : Stat = record s { sbusy = s.sbusy - 48 * s.busy; mbusy = s.mbusy - 48 } in t) c.stat.ensures ∙ stat-user (debug_of c.args.self.now) c.args.self.now.guarded)
