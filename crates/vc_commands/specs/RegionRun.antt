-- What running a command on a region promises.
use Rattle.std.specs.Prelude.{◌≡◌, ◌≢◌, ℕ, List, [], Option, Some, None, Result, Ok, IfOk, OnErr}
use Rattle.vc_script.specs.Needs.{Need, need_shown}
use Rattle.vc_script.specs.declared.command.Command.{Command}
use Rattle.vc_script.specs.declared.refusal.Refusal.TheVariants.{NoSegment}
use Rattle.vc_script.specs.declared.reply.Reply.{Reply}
use Rattle.vc_script.specs.declared.reply.Reply.TheVariants.{Refused}
use Rattle.vc_region.specs.Region.{Region, region_with_labels}
use Rattle.vc_commands.specs.FreedNames.{FreedNames}
use Rattle.vc_commands.specs.Home.{Changed, Home, Label}
use Rattle.vc_model.specs.Discipline.{Discipline, NoneRefused}
use Rattle.vc_region.specs.Cells.{cells_in, rest_in}
use Rattle.vc_region.specs.Parts.{disc_in}
use Rattle.vc_commands.specs.Held.{Held, IsChange, LacksSegment, home_of, left_by}
use Rattle.vc_commands.specs.Labels.{kept_of, name_of_tag}
use Rattle.vc_commands.specs.declared.region.home.HomeEntry.{HomeEntry}
use Rattle.vc_commands.specs.declared.region.labels.Labels.{Labels}

-- what a command on one region gives is this reply, and after it the region and the names that it keeps are these
pub record GivesRegion (c : Changed) (after : Region Label × FreedNames) (reply : Reply) : Type 0 where
  pub region_after : c.region ≡ after.0
  pub kept_after : c.kept ≡ after.1
  pub replied : c.reply ≡ reply

-- a region under its name, with what its boxed discipline means, and the names of its tags
abbrev pub held_of : {I : Type 0} {V : I → Type 0} → ((x : I) × V x → Discipline) → List ℕ → HomeEntry I V → Labels → Held
held_of meaning name h labels =
    record {
      name = name;
      place = h.place;
      disc = disc_in meaning h.region;
      region = rest_in h.region;
      cells = cells_in h.region;
      labels = labels;
    }

-- a region with names for its tags, but for the bytes in its cells, and the names that it keeps as freed
abbrev pub region_with : {I : Type 0} {V : I → Type 0} → HomeEntry I V → Labels → Region Label × FreedNames
region_with h labels = (region_with_labels (name_of_tag labels) (rest_in h.region), kept_of labels)

-- by a definition, a command on a region gives this reply and leaves the region so, whatever its name
abbrev pub RunsRegion : {I : Type 0} {V : I → Type 0} → ((x : I) × V x → Discipline) → (Home → Changed) → HomeEntry I V → Labels → Region Label × FreedNames → Reply → Type 0
RunsRegion meaning command h labels after reply = (name : List ℕ) → GivesRegion (command (home_of (held_of meaning name h labels))) after reply

-- a region and its names changed, whatever its name
abbrev pub ChangesRegion : {I : Type 0} {V : I → Type 0} → ((x : I) × V x → Discipline) → HomeEntry I V → Labels → HomeEntry I V → Labels → Type 0
ChangesRegion meaning h labels after labels' = (name : List ℕ) → IsChange (held_of meaning name h labels) (held_of meaning name after labels')

-- the same after a command, with the cells that it leaves
abbrev pub LeavesRegion : {I : Type 0} {V : I → Type 0} → ((x : I) × V x → Discipline) → Command → HomeEntry I V → Labels → HomeEntry I V → Labels → Type 0
LeavesRegion meaning command h labels after labels' =
    (name : List ℕ) → IsChange (left_by command (held_of meaning name h labels)) (held_of meaning name after labels')

-- for the block that a command asks for a segment was refused; one that asks for none is refused none
abbrev pub LacksAsked : Option (ℕ × ℕ) → Held → Held → Type 0
LacksAsked None before after = ⊥
LacksAsked (Some asked) before after = LacksSegment before after asked

-- what a command on a region promises that may ask for a block of a size and an alignment: it gives what it is to by
-- the need that its reply shows, and with no memory the region and its names stay; a segment that was refused was asked
-- for, and else nothing was
pub record RunsHome {I : Type 0} {V : I → Type 0} (meaning : (x : I) × V x → Discipline)
    {E : Type 0} (result : Result Reply E) (gives : Home → Need → Changed) (asked : Option (ℕ × ℕ))
    (before : HomeEntry I V) (old : Labels) (after : HomeEntry I V) (new : Labels) : Type 0 where
  pub step : IfOk result (λ reply. RunsRegion meaning (λ h. gives h (need_shown reply))
      before old (region_with after new) reply)
  pub err : OnErr result (region_with after new ≡ region_with before old)
  pub unserved : result ≡ Ok (Refused NoSegment)
      → LacksAsked asked (held_of meaning [] before old) (held_of meaning [] after new)
  pub served : result ≢ Ok (Refused NoSegment)
      → NoneRefused (disc_in meaning before.region) (disc_in meaning after.region)
