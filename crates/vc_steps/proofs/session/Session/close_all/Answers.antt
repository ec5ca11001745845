use Rattle.vc_base.proofs.Common.{[], sym, ◌∙◌, subst}
use Rattle.vc_steps.specs.DictHomes.{AreDicts}
use Rattle.vc_steps.specs.Homes.{held_in_session}
use Rattle.vc_steps.proofs.SessionEnd.{no-dicts}
use Rattle.vc_steps.proofs.Unarmed.{arms-trans}
use Rattle.vc_steps.proofs.session.Session.close_all.Invariants.{meaning}
use Rattle.vc_steps.proofs.session.Session.close_all.Goals as goal

pub loop-self-preserved : goal.loop-self-preserved
loop-self-preserved g c =
    let M = meaning g in
    record {
      session = c.close_at.ensures.regions.regions;
      none =
          no-dicts (held_in_session M c.close_at.new.self) c.close_at.new.self.dicts.entries
          (c.close_at.ensures.regions.dicts [] (subst (AreDicts [] (held_in_session M c.loop-self.self)) (sym c.loop-self.invariant.none) tt));
      settled = c.close_at.ensures.settled ∙ c.loop-self.invariant.settled;
      unarmed = arms-trans _ _ _ c.loop-self.invariant.unarmed c.close_at.ensures.unarmed;
    }
