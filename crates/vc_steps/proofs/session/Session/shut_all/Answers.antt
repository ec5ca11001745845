use Rattle.vc_base.proofs.Common.{◌≡◌, false, slice_get, flat_map, sym, refl, ap, ◌∙◌, subst, arith}
use Rattle.vc_objects.specs.Remove.{bytes_of}
use Rattle.vc_paths.specs.Links.{is_viewed}
use Rattle.vc_views.specs.Numbers.{views_by}
use Rattle.vc_views.proofs.LinkChanges.{unviewed-all}
use Rattle.vc_steps.proofs.DictsStay.{Entry}
use Rattle.vc_steps.proofs.ViewReplies.{some-all}
use Rattle.vc_steps.specs.Dicts.{shut_state, told_of}
use Rattle.vc_steps.specs.DictHomes.{AreDicts, dict_home, dicts_in}
use Rattle.vc_steps.specs.Homes.{held_in_session, slots_on, state_over}
use Rattle.vc_steps.specs.Moment.{moment}
use Rattle.vc_views.specs.Views.{DictHome}
use Rattle.vc_steps.specs.Steps.{Shuts}
use Rattle.vc_steps.specs.Told.{gone_in, rules_in, tell}
use Rattle.vc_steps.proofs.SessionEnd.{gone-shut, if_some-at, nothing-left}
use Rattle.vc_steps.proofs.Helds.{some-at}
use Rattle.vc_steps.proofs.session.Session.shut_all.Invariants.{meaning}
use Rattle.vc_steps.proofs.session.Session.shut_all.Goals as goal

pub loop-self-preserved : goal.loop-self-preserved
loop-self-preserved g c =
    let M = meaning g in
    let vs = views_by c.loop-self.self.paths c.loop-self.self.dicts.entries in
    let rules = rules_in g.D.DictDisc.rules in
    let gone = gone_in g.D.DictDisc.gone in
    let shelf = c.args.shelf.now in
    let old = c.loop-self.self in
    let new = c.shut_at.new.self in
    let first = c.args.kinds.now.items in
    let kinds = c.loop-self.kinds.items in
    let after = c.shut_at.new.kinds.items in
    let held = held_in_session M old in
    let front = some-at old.dicts.entries 0 (omega (arith, c.shut_at.ensures.shuts.fewer)) in
    let e = front.0 in
    let shuts : Shuts (moment M g.D.DictDisc.rules g.D.DictDisc.gone shelf old kinds) (moment M g.D.DictDisc.rules g.D.DictDisc.gone shelf new after) (dict_home held vs e) =
    if_some-at (λ x. Shuts (moment M g.D.DictDisc.rules g.D.DictDisc.gone shelf old kinds) (moment M g.D.DictDisc.rules g.D.DictDisc.gone shelf new after) (dict_home held vs x)) _ e front.1 c.shut_at.ensures.shuts.shuts in
    let same : rules after ≡ rules first = c.shut_at.ensures.stays.lasts.keeps_rules ∙ c.loop-self.invariant.rules in
    record {
      views = λ n. c.shut_at.ensures.shuts.views n (c.loop-self.invariant.views n);
      session = c.shut_at.ensures.stays.lasts.stands;
      rules = same;
      gone =
          gone-shut (rules first) (slots_on M shelf) held old.dicts.entries vs (state_over M (rules first) shelf new) (gone kinds) (gone after)
          (subst (λ r. AreDicts r held old.dicts.entries) c.loop-self.invariant.rules c.loop-self.invariant.session.dicts)
          e front.1
          (ap (λ r. state_over M r shelf new) (sym same) ∙ (shuts.state ∙ ap (λ r. shut_state (state_over M r shelf old) (dict_home held vs e)) c.loop-self.invariant.rules))
          shuts.gone
          ∙ c.loop-self.invariant.gone;
      settled = shuts.accounts ∙ c.loop-self.invariant.settled;
    }

pub shut_at-requires-clause-unviewed : goal.shut_at-requires-clause-unviewed
shut_at-requires-clause-unviewed g c =
    let links = c.loop-self.self.paths in
    some-all (λ (e : Entry). is_viewed links e.1.number ≡ false) (λ e. unviewed-all links c.loop-self.invariant.views e.1.number) (slice_get c.loop-self.self.dicts.entries 0)

pub returns : goal.returns
returns g c =
    let is = c.loop-self.invariant in
    let left = nothing-left c.loop-self.self.dicts.entries (c.loop-self-test.ensures.0 refl) in
    let each : DictHome → _ = λ d. told_of d.kind (bytes_of d.dict.objects) in
    record {
      none = left;
      told = sym (ap (λ es. tell (flat_map each (dicts_in (held_in_session (meaning g) c.loop-self.self) (views_by c.loop-self.self.paths c.loop-self.self.dicts.entries) es)) (gone_in g.D.DictDisc.gone c.loop-self.kinds.items)) left) ∙ is.gone;
      stands = is.session;
      keeps_rules = is.rules;
      settled = is.settled;
    }
