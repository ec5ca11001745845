use Rattle.vc_base.proofs.Common.{◌≡◌, false, None, sym, ap, ◌∙◌, subst, arith, rules, false≢true, common_steps}
use Rattle.vc_objects.proofs.Leaving.{keeps-out}
use Rattle.vc_objects.specs.Insert.{slots_wanted}
use Rattle.vc_commands.specs.Answered.{answered}
use Rattle.vc_commands.specs.DictCommands.{put_object, put_unless, matched_in_set}
use Rattle.vc_commands.specs.DictRun.{IsOfHolder, RunsDict, object_in_holder, seat_in}
use Rattle.vc_commands.proofs.FoundObjects.{holder-bytes}
use Rattle.vc_commands.proofs.Seats.{runs-looked}
use Rattle.vc_commands.proofs.dict.putting.put_unless.Goals as goal

pub body-requires : goal.body-requires
body-requires g c =
    holder-bytes c.standing.new.dict c.standing.new.best (g.D.DictDisc.rules c.args.kind.now) c.in-Some.at.0 c.standing.ensures.looks.leaves.whole
    (subst (λ o. IsOfHolder c.standing.new.dict c.standing.new.best o) c.in-Some.is c.standing.ensures.within)

pub returns-in-None-clause-runs : goal.returns-in-None-clause-runs
returns-in-None-clause-runs g c =
    let rules = g.D.DictDisc.rules c.args.kind.now in
    let seat = seat_in (λ z. (goal.SegDisc-dyn g z).state z.1) rules c.args.best.now c.args.dict.now in
    let bytes = c.args.object.items in
    let none : matched_in_set seat bytes ≡ None =
    ap (matched_in_set seat) (sym c.deref.ensures.value) ∙ sym c.standing.ensures.found ∙ ap (object_in_holder c.standing.new.best) c.in-None.is in
    subst (λ o. RunsDict (λ z. (goal.SegDisc-dyn g z).state z.1) (answered c.put.result c.put.new.reply) rules (λ need. put_unless seat bytes need o) (slots_wanted seat.dict) bytes c.args.best.now c.args.dict.now (g.D.DictDisc.gone c.args.kind.now) c.put.new.best c.put.new.dict (g.D.DictDisc.gone c.args.kind.now))
    (sym none)
    (runs-looked (λ z. (goal.SegDisc-dyn g z).state z.1) (answered c.put.result c.put.new.reply) rules (λ s need. put_object s false bytes need) bytes c.args.best.now c.args.dict.now c.standing.new.best c.standing.new.dict c.put.new.best c.put.new.dict
    (g.D.DictDisc.gone c.args.kind.now) (g.D.DictDisc.gone c.args.kind.now) c.standing.ensures.looks c.put.ensures.runs)

pub put-requires : goal.put-requires
put-requires g c =
    let looks = c.standing.ensures.looks in
    record {
      can = record {
        ask = record { whole = looks.leaves.whole; lent = keeps-out _ _ _ _ looks.leaves.rest.disc c.requires.ask.lent };
        lone = first_of (search rules, grind (arith, common_steps));
        object = c.requires.object;
        list = λ e. absurd (false≢true e);
      };
    }
