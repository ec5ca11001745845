-- A region of a session, and what a command on it gives.
use Rattle.std.specs.Prelude.{ℕ, List, Option, None, Bool}
use Rattle.std.specs.Str.{bytes_eq}
use Rattle.vc_model.specs.Discipline.{Terms}
use Rattle.vc_model.specs.Segments.{Grant}
use Rattle.vc_region.specs.Region.{Region}
use Rattle.vc_script.specs.declared.reply.Reply.{Reply}
use Rattle.vc_script.specs.declared.reply.Reply.TheVariants.{Refused}
use Rattle.vc_script.specs.declared.refusal.Refusal.{Refusal}
use Rattle.vc_commands.specs.FreedNames.{FreedNames}

-- the label of a block in a session: its name, or none
abbrev pub Label : Type 0
Label = Option (List ℕ)

-- a region of the session: its name, the place of its discipline on the shelf, from 1 on, that discipline's terms, what it is by its method, and the names that it keeps as freed
pub record Home : Type 0 where
  pub name : List ℕ
  pub place : ℕ
  pub terms : Terms
  pub region : Region Label
  pub kept : FreedNames

-- whether a region has that name
abbrev pub is_home : List ℕ → Home → Bool
is_home r h = bytes_eq h.name r

-- what a command on one region gives: the region and the names that it keeps after it, the reply, and what was granted
pub record Changed : Type 0 where
  pub region : Region Label
  pub kept : FreedNames
  pub reply : Reply
  pub granted : Option Grant

-- a command that is granted no segment, and neither frees a name nor takes one
abbrev pub changed_to : Home → Region Label → Reply → Changed
changed_to h region reply = record { region = region; kept = h.kept; reply = reply; granted = None }

-- a refusal changes nothing
abbrev pub refusal_alone : Home → Refusal → Changed
refusal_alone h why = changed_to h h.region (Refused why)

-- a command that changes nothing tells something
abbrev pub reply_alone : Home → Reply → Changed
reply_alone h reply = changed_to h h.region reply
