-- What is promised of a script that is run over what an image holds.
use Rattle.std.specs.Prelude.{◌≡◌, ℕ, List, Option, Result, Ok, Err, false, map}
use Rattle.vc_base.specs.Memory.{MemorySink}
use Rattle.vc_dtdisc.specs.Rules.{Gone, Rules}
use Rattle.vc_image_run.specs.Script.Promises.{Saves}
use Rattle.vc_image_run.specs.declared.script.over_fault.OverFault.{OverFault}
use Rattle.vc_image_run.specs.declared.script.over_fault.OverFault.TheVariants.{Open, Script}
use Rattle.vc_image_run.specs.Session.Opens.{IsNotOpened, StandsForImage}
use Rattle.vc_image_run.specs.declared.session.fault.OpenFault.{OpenFault}
use Rattle.vc_model.specs.Discipline.{Discipline}
use Rattle.vc_session.specs.Streams.{Flows}
use Rattle.vc_steps.specs.Moment.{Moment, at_rest}
use Rattle.vc_steps.specs.Told.{gone_in}

module _ {D : Type 0} (rules : D → Rules) (gone : D → Gone) (place : ℕ) (image : List ℕ) (slots : List (Option Discipline)) (kinds : List D) where
  -- a run begins with what the image holds: no kind was told of anything, and no discipline is armed
  pub record BeginsWith (start : Moment) : Type 0 where
    pub is : StandsForImage (map rules kinds) place image slots start.state start.accounts
    pub gone_is : start.gone ≡ gone_in gone kinds
    pub unarmed : start.armed ≡ false

  -- and it came to that
  pub record RunsFromImage (ran : Moment → Type 0) : Type 0 where
    pub start : Moment
    pub begins : BeginsWith start
    pub ran_to : ran start

  -- nothing was run
  pub record RanNothing (why : OpenFault) (slots' : List (Option Discipline)) (kinds' : List D) (old new : Flows) : Type 0 where
    pub cause : IsNotOpened (map rules kinds) place image slots slots' why
    pub same_kinds : kinds' ≡ kinds
    pub same_flows : new ≡ old

  -- by what is answered
  abbrev pub Remakes : Result MemorySink OverFault → List (Option Discipline) → List D → Flows → Flows → Type 0
  Remakes (Ok remade) slots' kinds' old new =
      RunsFromImage (λ start. Saves (map rules kinds) (Ok remade) start (at_rest rules gone slots' kinds') old new)
  Remakes (Err (Script why)) slots' kinds' old new =
      RunsFromImage (λ start. Saves (map rules kinds) (Err why) start (at_rest rules gone slots' kinds') old new)
  Remakes (Err (Open why)) slots' kinds' old new = RanNothing why slots' kinds' old new
