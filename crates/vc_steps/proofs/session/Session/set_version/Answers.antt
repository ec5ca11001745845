use Rattle.vc_base.proofs.Common.{Bool, ◌==◌, ap, ◌∙◌, arith}
use Rattle.indexmap.specs.IndexMap.{with_value_at}
use Rattle.vc_steps.specs.Homes.{held_in_session}
use Rattle.vc_steps.specs.declared.session.Session.{Session}
use Rattle.vc_steps.proofs.ArmedRegions.{armed-last, armed-next, armed_at, helds-armed, helds-few, length-armed}
use Rattle.vc_steps.proofs.session.Session.set_version.Invariants.{meaning}
use Rattle.vc_steps.proofs.session.Session.set_version.Goals as goal

pub loop-i-preserved : goal.loop-i-preserved
loop-i-preserved g c =
    let M = meaning g in
    let on : Bool = c.args.version == 2 in
    let was = c.loop-i.self in
    let i = c.loop-i.i in
    let home = c.arm.new.home in
    record {
      held =
          helds-armed M on was.homes.entries was.labels.items i c.index_mut.result.now home c.index_mut.ensures.value c.arm.ensures
          ∙ (ap (armed_at i on) c.loop-i.invariant.held ∙ armed-next i on (held_in_session M c.args.self.now));
      count = length-armed M on was.homes.entries i home ∙ c.loop-i.invariant.count;
      rest = ap (λ (s : Session _ _ _). let t : Session _ _ _ = record s { homes = with_value_at was.homes i home } in t) c.loop-i.invariant.rest;
    }

pub returns : goal.returns
returns g c =
    let few = helds-few (meaning g) (c.args.version == 2) c.args.self.now.homes.entries c.args.self.now.labels.items in
    record {
      held =
          c.loop-i.invariant.held
          ∙ armed-last c.loop-i.i (c.args.version == 2) (held_in_session (meaning g) c.args.self.now) (omega (arith, few, c.loop-i-test.false, c.loop-i.auto.i-end, c.len-i-end.ensures.len));
      count = c.loop-i.invariant.count;
      rest = c.loop-i.invariant.rest;
    }
