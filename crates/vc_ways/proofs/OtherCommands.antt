-- A command that is no alloc, resize or free is outside of a trace.
use Rattle.vc_base.proofs.Common.{◌≡◌, ℕ, List, Bool, Option, None, refl}
use Rattle.vc_script.specs.declared.command.Command.{Command}
use Rattle.vc_script.specs.declared.command.Command.TheVariants.{Alloc, Free, Resize}
use Rattle.vc_ways.specs.Regions.{WayTerms}
use Rattle.vc_ways.specs.Step.{Outside, TraceState, trace_step}

pub others-outside : (terms : WayTerms) (s : TraceState) (command : Command)
    → ((r x : List ℕ) (size : ℕ) (site : Option (List ℕ)) → command ≡ Alloc r x size site → ⊥)
    → ((r x : List ℕ) (size : ℕ) (may_move : Bool) → command ≡ Resize r x size may_move → ⊥)
    → ((r x : List ℕ) → command ≡ Free r x → ⊥)
    → trace_step terms s command None ≡ Outside
others-outside terms s (Alloc r x size site) n0 n1 n2 = absurd (n0 r x size site refl)
others-outside terms s (Resize r x size may_move) n0 n1 n2 = absurd (n1 r x size may_move refl)
others-outside terms s (Free r x) n0 n1 n2 = absurd (n2 r x refl)
others-outside terms s command n0 n1 n2 = refl
