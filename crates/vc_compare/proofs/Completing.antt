-- A trace that is run to its end, where nothing is refused and no stream fails.
use Rattle.vc_base.proofs.Common.{◌≡◌, ◌⊎◌, ℕ, List, Option, IfSome, Rose, inl, inr, refl, subst, Discipline}
use Rattle.vc_script.specs.Judged.{judged_lines}
use Rattle.vc_compare.specs.Comparison.{Finishes, Flow, IsFine, IsRun, NoneFails, TellsEnd}
use Rattle.vc_compare.specs.Ending.{EndsAs}
use Rattle.vc_compare.specs.Refusal.{NoneRose, RefusesAsked}
use Rattle.vc_compare.specs.Streams.{Sinks}
use Rattle.vc_compare.specs.Terms.{terms_on}
use Rattle.vc_compare.specs.declared.ending.Ending.{Ending}
use Rattle.vc_compare.specs.declared.ending.Ending.TheVariants as ending
use Rattle.vc_compare.specs.declared.ending.Fault.TheVariants as fault
use Rattle.vc_compare.specs.declared.status.CompareStatus.{CompareStatus}
use Rattle.vc_compare.specs.declared.status.CompareStatus.TheVariants.{Ok, Script, Usage, Read, Write, Memory, NoSegment, TooMany}
use Rattle.vc_compare.proofs.Refusing.{stays-not}
use Rattle.vc_compare.proofs.Running.{if_both}
use Rattle.vc_ways.specs.Compare.{compare_input}
use Rattle.vc_ways.specs.Step.{start}
use Rattle.vc_ways.specs.declared.tally.Tally.{Tally}

module _ (slots slots' : List (Option Discipline)) (before after : Flow) (old new : Sinks) (none : NoneRose slots slots') (calm : NoneFails before after old new) where
  abbrev Well : CompareStatus → Type 0
  Well status = (status ≡ Ok) ⊎ (status ≡ Memory)

  written : (tally : Tally) (status : CompareStatus) → Finishes tally status old new → Well status
  written tally Ok h = inl refl
  written tally Memory h = inr refl
  written tally Write h = absurd (stays-not old.writes new.writes calm.writes h.0.0)
  written tally Script h = absurd h
  written tally Usage h = absurd h
  written tally Read h = absurd h
  written tally NoSegment h = absurd h
  written tally TooMany h = absurd h

  module _ (input : List ℕ) (fine : IsFine (compare_input (terms_on slots) input)) (status : CompareStatus) where
    by-ending : (how : Ending) → (how ≡ ending.Read → Rose before.reads after.reads) → TellsEnd how status old new → EndsAs (terms_on slots) start (RefusesAsked slots slots') (judged_lines input) how after.left → Well status
    by-ending (ending.Finished tally) read told ends = written tally status told
    by-ending ending.Read read told ends = absurd (stays-not before.reads after.reads calm.reads (read refl))
    by-ending ending.Memory read told ends = inr told.0
    by-ending (ending.Faulty n (fault.Bad why)) read told ends = absurd (subst IsFine ends fine)
    by-ending (ending.Faulty n fault.Outside) read told ends = absurd (subst IsFine ends fine)
    by-ending (ending.Faulty n (fault.TooMany way)) read told ends = absurd (subst IsFine ends fine)
    by-ending (ending.Faulty n (fault.NoSegment way)) read told ends =
        let at = ends.asks.refused in
        absurd (stays-not at.entry.faults at.exit.faults (none _ at.entry at.exit at.stood at.stands) at.refused.rose)

  pub runs-whole : (status : CompareStatus) → IsRun status slots slots' before after old new → IfSome before.left (λ input. IsFine (compare_input (terms_on slots) input) → Well status)
  runs-whole status run =
      if_both before.left _ _ (λ input ends fine. by-ending input fine status run.how run.read run.told ends) run.ends
