-- One step of a session.
use Rattle.std.specs.Prelude.{◌≡◌, ℕ, List, Option, Some, None, Bool, true, false}
use Rattle.vc_script.specs.declared.command.Command.{Command}
use Rattle.vc_script.specs.declared.command.Command.TheVariants.{OpenRegion, CloseRegion, OpenDict, ClearRegion}
use Rattle.vc_script.specs.Target.{region_at, target_of}
use Rattle.vc_script.specs.declared.refusal.Refusal.TheVariants as why
use Rattle.vc_script.specs.Needs.{Need}
use Rattle.vc_script.specs.declared.reply.Reply.{Reply}
use Rattle.vc_dtdisc.specs.Rules.{Gone}
use Rattle.vc_commands.specs.Home.{Home}
use Rattle.vc_steps.specs.State.{State, Stepped, step_with_change, close_step, home_named, open_step, step_with_refusal, unless_busy}
use Rattle.vc_steps.specs.Dicts.{dict_of, dict_step, open_dict_step, region_asked_for}
use Rattle.vc_steps.specs.Told.{tell}
use Rattle.vc_commands.specs.RegionCommands.{in_region}

-- the region that a command works in
abbrev pub region_of_command : Command → Option (List ℕ)
region_of_command command = region_at (target_of command)

-- whether a command clears a region
abbrev pub is_clear : Command → Bool
is_clear (ClearRegion r) = true
is_clear command = false

-- no region in which a dictionary lies is cleared
abbrev pub cleared_or : State → List ℕ → Command → Stepped → Stepped
cleared_or s r (ClearRegion x) t = unless_busy s r t
cleared_or s r command t = t

abbrev pub region_step : State → List ℕ → ℕ → Command → Need → Option Home → Stepped
region_step s r line command need None = step_with_refusal s why.NoRegion
region_step s r line command need (Some h) = cleared_or s r command (step_with_change s r (in_region h line command need))

-- a command that opens or closes a region, or opens a dictionary
abbrev pub shelf_step : State → Command → Need → Stepped
shelf_step s (OpenRegion r method n) need = open_step s r method n
shelf_step s (CloseRegion r) need = close_step s r
shelf_step s (OpenDict d method r kind) need = open_dict_step s d method r kind need
shelf_step s command need = step_with_refusal s why.NoRegion

abbrev pub step_of : State → ℕ → Command → Need → Option (List ℕ) → Stepped
step_of s line command need None = shelf_step s command need
step_of s line command need (Some r) = region_step s r line command need (home_named r s.homes)

-- a command on a dictionary, on a region, or neither
abbrev pub step_on : State → ℕ → Command → Need → Option (List ℕ) → Stepped
step_on s line command need None = step_of s line command need (region_of_command command)
step_on s line command need (Some d) = dict_step s d command need

-- one step, of the command at a line: the first refusal that applies, else the state changed; the need is the one free choice
abbrev pub step : State → ℕ → Command → Need → Stepped
step s line command need = step_on s line command need (dict_of command)

-- the region in which a command asks for segments
abbrev pub opened_in : Command → Option (List ℕ)
opened_in (OpenDict d method r kind) = Some r
opened_in command = region_of_command command

abbrev pub region_asked : State → Command → Option (List ℕ)
region_asked s command = region_asked_for s (dict_of command) (opened_in command)

-- what a step gives is this reply and this state, and the kinds are told so
pub record GivesStep (t : Stepped) (gone : List Gone) (answer : Reply) (after : State) (gone_after : List Gone) : Type 0 where
  pub replied : t.reply ≡ answer
  pub state_after : t.state ≡ after
  pub told : gone_after ≡ tell t.told gone
