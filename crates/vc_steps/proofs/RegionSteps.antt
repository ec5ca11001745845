-- A command in a region, over the regions and dictionaries of a session.
use Rattle.vc_base.proofs.Common.{◌≡◌, Bool, ◌⊎◌, ℕ, false, ◌≢◌, List, map, set, IfOk, OnErr, slice_get, Some, None, Ok, Err, Result, sym, refl, ap, ◌∙◌, subst, AllByRecursion}
use Rattle.vc_model.specs.Discipline.{Excused}
use Rattle.vc_dtdisc.specs.Rules.{Gone, Rules}
use Rattle.vc_script.specs.Needs.{Need, need_shown}
use Rattle.vc_script.specs.declared.command.Command.{Command}
use Rattle.vc_script.specs.declared.command.Command.TheVariants.{ClearRegion}
use Rattle.vc_script.specs.declared.refusal.Refusal.TheVariants.{NoSegment}
use Rattle.vc_script.specs.declared.reply.Reply.{Reply}
use Rattle.vc_script.specs.declared.reply.Reply.TheVariants.{Refused}
use Rattle.vc_region.specs.Region.{Region}
use Rattle.vc_commands.specs.Held.{Held, IsChange, LacksSegment, home_of, left_by}
use Rattle.vc_steps.specs.Account.{IsSession, Lacks, StepLacks, accounts, held_named, settled_accounts, state_of}
use Rattle.vc_steps.specs.DictHomes.{AreDicts, dicts_in, lies_in}
use Rattle.vc_steps.specs.Dicts.{dict_of}
use Rattle.vc_commands.specs.FreedNames.{FreedNames}
use Rattle.vc_steps.specs.Moment.{Moment}
use Rattle.vc_commands.specs.Home.{Label, is_home}
use Rattle.vc_steps.specs.State.{State, Stepped}
use Rattle.vc_commands.specs.RegionRun.{GivesRegion}
use Rattle.vc_steps.specs.Step.{GivesStep, region_of_command, step_of}
use Rattle.vc_commands.specs.RegionCommands.{block_asked, in_region}
use Rattle.vc_steps.specs.Steps.{Halts, Steps, StepsBy}
use Rattle.vc_steps.proofs.RegionChange.{asked-region, found-change, lacks-change, settles-none, settles-reply, state-same, step-change}
use Rattle.vc_steps.proofs.CutOff.{cut-same}
use Rattle.vc_steps.proofs.DictsStay.{Entry, Vs, Stays, busy-lies, dicts-stay, dicts_in-stay}
use Rattle.vc_commands.proofs.Firsts.{IsFirst}
use Rattle.vc_commands.proofs.Grants.{IsPlain, plain-region}
use Rattle.vc_steps.proofs.InRegion.{lacks-plain, run-best, run-stays}
use Rattle.vc_steps.proofs.OnShelf.{error-at, ok-at}
use Rattle.vc_steps.proofs.Sessions.{Slots}

abbrev pub moment_over : Bool → Slots → List Entry → Vs → List Rules → List Gone → List Held → Moment
moment_over armed slots es vs kinds gone hs =
    record {
      state = state_of kinds slots hs (dicts_in hs vs es);
      regions = hs;
      armed = armed;
      written = None;
      accounts = settled_accounts (accounts slots) hs;
      gone = gone;
    }

same_Ok : {T E : Type 0} (x y : T) → (let r : Result T E = Ok x in r) ≡ Ok y → x ≡ y
same_Ok x y e = cc

ok-err : {T E : Type 0} (x : T) (e : E) → (let r : Result T E = Ok x in r) ≡ Err e → ⊥
ok-err x e is = cc

by-answer : {E : Type 0} (answer : Result Reply E) (now next : Moment) (command : Command) (given : Need → Stepped) → ((reply : Reply) → answer ≡ Ok reply → Steps now next command (given (need_shown reply)) reply) → ((e : E) → answer ≡ Err e → Halts now next command) → (s : State → Need → Stepped) → s now.state ≡ given → StepsBy answer now next command s
by-answer (Ok reply) now next command given ok err s is = subst (λ f. Steps now next command (f (need_shown reply)) reply) (sym is) (ok reply refl)
by-answer (Err e) now next command given ok err s is = err e refl

module _ (armed : Bool) (slots : Slots) (hs : List Held) (es : List Entry) (vs : Vs) (i : ℕ) (h g : Held) (at : slice_get hs i ≡ Some h) (session : IsSession armed slots hs) (line : ℕ) (command : Command) (change : IsChange (left_by command h) g) (r : List ℕ) (first : IsFirst (is_home r) (map home_of hs) i) (dict : dict_of command ≡ None) (works : region_of_command command ≡ Some r) (free : (x : List ℕ) → command ≡ ClearRegion x → lies_in r es ≡ false) {E : Type 0} (answer : Result Reply E) (gives : IfOk answer (λ reply. GivesRegion (in_region (home_of h) line command (need_shown reply)) ((home_of g).region, (home_of g).kept) reply)) (err : OnErr answer ((let p : Region Label × FreedNames = ((home_of g).region, (home_of g).kept) in p) ≡ ((home_of h).region, (home_of h).kept))) (unserved : answer ≡ Ok (Refused NoSegment) → LacksSegment h g (block_asked command)) (faults : answer ≢ Ok (Refused NoSegment) → (g.disc.faults ≡ h.disc.faults) ⊎ Excused h.disc g.disc) where
  abbrev gs : List Held
  gs = set hs i g

  stay : (kinds : List Rules) → AllByRecursion (Stays kinds hs gs) es
  stay kinds = run-stays kinds es hs i h g at change.name r first command free (run-best h g line command answer gives err) change.cells

  region-dicts : (kinds : List Rules) → AreDicts kinds hs es → AreDicts kinds gs es
  region-dicts kinds dicts = dicts-stay kinds hs gs es (stay kinds) dicts

  module _ (kinds : List Rules) (gone : List Gone) (dicts : AreDicts kinds hs es) where
    abbrev s : State
    s = state_of kinds slots hs (dicts_in hs vs es)

    dicts-same : dicts_in gs vs es ≡ dicts_in hs vs es
    dicts-same = dicts_in-stay kinds hs gs vs es (stay kinds) dicts

    step-lacks : (reply : Reply) → answer ≡ Ok reply → reply ≡ Refused NoSegment → StepLacks hs gs command
    step-lacks reply is same =
        subst (λ o. Lacks (held_named hs o) (held_named gs o) (block_asked command)) (sym works)
        (lacks-change armed slots hs i h g at session change r (block_asked command) first (unserved (is ∙ ap (λ q. Ok q) same)))

    step-ok : (reply : Reply) → answer ≡ Ok reply → Steps (moment_over armed slots es vs kinds gone hs) (moment_over armed slots es vs kinds gone gs) command (step_of s line command (need_shown reply) (Some r)) reply
    step-ok reply is =
        let run = ok-at answer reply (λ q. GivesRegion (in_region (home_of h) line command (need_shown q)) ((home_of g).region, (home_of g).kept) q) is gives in
        let plain = subst IsPlain run.replied (plain-region (home_of h) line command (need_shown reply)) in
        record {
          gives = subst (λ ds. GivesStep (step_of s line command (need_shown reply) (Some r)) gone reply (state_of kinds slots gs ds) gone) (sym dicts-same)
              (step-change armed slots hs i h g at session change kinds (dicts_in hs vs es) gone r line command reply first (λ x e. busy-lies hs vs es r ∙ free x e) run);
          settles =
              settles-reply armed slots hs i h g at session change kinds (dicts_in hs vs es) r command reply
              (asked-region s command r dict works) (found-change armed slots hs i h g at session change r first)
              (λ e. (unserved (is ∙ ap (λ q. Ok q) e)).rose) (λ other. faults (λ e. other (same_Ok reply (Refused NoSegment) (sym is ∙ e)))) plain;
          armed = refl;
          lacks = lacks-plain s hs gs command reply plain (step-lacks reply is);
        }

    step-err : (e : E) → answer ≡ Err e → Halts (moment_over armed slots es vs kinds gone hs) (moment_over armed slots es vs kinds gone gs) command
    step-err e is =
        record {
          state = cut-same s command (state_of kinds slots gs (dicts_in gs vs es))
              (ap (λ ds. state_of kinds slots gs ds) dicts-same
              ∙ state-same armed slots hs i h g at session change kinds (dicts_in hs vs es) (error-at answer e _ is err));
          gone = refl;
          settles = settles-none armed slots hs i h g at session change (faults (λ o. ok-err (Refused NoSegment) e (sym o ∙ is)));
          armed = refl;
        }

    -- the step by what the region answered
    steps-region : StepsBy answer (moment_over armed slots es vs kinds gone hs) (moment_over armed slots es vs kinds gone gs) command (λ st need. step_of st line command need (Some r))
    steps-region =
        by-answer answer (moment_over armed slots es vs kinds gone hs) (moment_over armed slots es vs kinds gone gs) command (λ need. step_of s line command need (Some r)) step-ok step-err
        (λ st need. step_of st line command need (Some r)) refl

  -- and what the region leaves of the session's dictionaries
  pub region-ran : ((kinds : List Rules) (gone : List Gone) → AreDicts kinds hs es → StepsBy answer (moment_over armed slots es vs kinds gone hs) (moment_over armed slots es vs kinds gone gs) command (λ st need. step_of st line command need (Some r)))
      × ((kinds : List Rules) → AreDicts kinds hs es → AreDicts kinds gs es)
  region-ran = (steps-region, region-dicts)
