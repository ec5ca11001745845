-- With no memory, a step that leaves the state as it was.
use Rattle.vc_base.proofs.Common.{◌≡◌, inl}
use Rattle.vc_script.specs.declared.command.Command.{Command}
use Rattle.vc_script.specs.declared.command.Command.TheVariants.{Insert, Attach}
use Rattle.vc_steps.specs.WantedSegments.{IsCutOff}
use Rattle.vc_steps.specs.State.{State}

pub cut-same : (s : State) (command : Command) (after : State) → after ≡ s → IsCutOff s command after
cut-same s (Insert d bytes) after same = inl same
cut-same s (Attach d bytes) after same = inl same
cut-same s command after same = same
