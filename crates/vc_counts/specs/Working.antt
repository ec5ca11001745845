-- The region that a command works in, and what a run reads there before it and after it.
use Rattle.std.specs.Prelude.{ℕ, ◌+◌, ◌-◌, List, [], Option, Some, None, Bool, drop, map, max, sum, if◌then◌else◌}
use Rattle.vc_seg.specs.Tally.{tally_of}
use Rattle.vc_seg.specs.declared.tally.Tally.{Tally}
use Rattle.vc_commands.specs.Home.{Home}
use Rattle.vc_model.specs.Discipline.{Discipline}
use Rattle.vc_dtdisc.specs.Objects.{Object}
use Rattle.vc_objects.specs.Objects.{Dictionary, holder_size, slots_of, table_size}
use Rattle.vc_region.specs.Region.{segments_of}
use Rattle.vc_region.specs.Stat.{stat_of}
use Rattle.vc_script.specs.declared.command.Command.{Command}
use Rattle.vc_script.specs.declared.command.Command.TheVariants.{CloseRegion}
use Rattle.vc_steps.specs.Account.{state_of}
use Rattle.vc_steps.specs.DictHomes.{dicts_in}
use Rattle.vc_steps.specs.Dicts.{dict_of, region_asked_for}
use Rattle.vc_steps.specs.Homes.{held_in_session}
use Rattle.vc_steps.specs.Sizes.{size_in_home}
use Rattle.vc_steps.specs.State.{State, home_named}
use Rattle.vc_steps.specs.Step.{opened_in}
use Rattle.vc_steps.specs.declared.session.Session.{Session}
use Rattle.vc_views.specs.Numbers.{views_by}
use Rattle.vc_views.specs.Views.{DictHome, dict_named}
use Rattle.vc_counts.specs.declared.counts.Counts.{Counts}
use Rattle.vc_counts.specs.declared.reach.Reach.{Reach}
use Rattle.vc_counts.specs.declared.reach.Reach.TheVariants.{Nothing, Block, Table, Dict, All}

-- the region that a command names: the one in which it asks for segments, or that it closes
abbrev pub worked_in : Command → Option (List ℕ)
worked_in (CloseRegion r) = Some r
worked_in command = opened_in command

-- the region that a command works in, which is that of its dictionary where it names one
abbrev pub region_worked : State → Command → Option (List ℕ)
region_worked s command = region_asked_for s (dict_of command) (worked_in command)

-- the regions and the dictionaries of a session, over no shelf and no kinds
abbrev pub open_state : {I : Type 0} {V : I → Type 0} {D : Type 0} → ((x : I) × V x → Discipline) → Session D I V → State
open_state meaning session =
    state_of [] [] (held_in_session meaning session)
    (dicts_in (held_in_session meaning session) (views_by session.paths session.dicts.entries) session.dicts.entries)

abbrev pub home_at : Option (List ℕ) → List Home → Option Home
home_at None homes = None
home_at (Some r) homes = home_named r homes

-- the bytes of all blocks of a region
abbrev pub busy_home : Home → ℕ
busy_home h = (stat_of h.region).sbusy

abbrev pub busy_in_home : Option Home → ℕ
busy_in_home None = 0
busy_in_home (Some h) = busy_home h

-- the bytes of a dictionary's table; 0 where it has none
abbrev pub table_bytes : Dictionary → ℕ
table_bytes d = table_size (slots_of d.table)

abbrev pub table_at_home : Option DictHome → ℕ
table_at_home None = 0
table_at_home (Some d) = table_bytes d.dict

-- the bytes of the holders of objects, and of a dictionary's table and holders
abbrev pub holders_bytes : List Object → ℕ
holders_bytes objects = sum (map (λ o. holder_size o.bytes) objects)

abbrev pub dict_bytes : Dictionary → ℕ
dict_bytes d = table_bytes d + holders_bytes d.objects

abbrev pub dict_in : Option DictHome → ℕ
dict_in None = 0
dict_in (Some d) = dict_bytes d.dict

-- the bytes of what a command reaches, but for a holder that its reply tells of
abbrev pub reached_at : Reach → Option (List ℕ) → List Home → List DictHome → ℕ
reached_at Nothing name homes dicts = 0
reached_at (Block x) name homes dicts = size_in_home x (home_at name homes)
reached_at (Table d) name homes dicts = table_at_home (dict_named d dicts)
reached_at (Dict d) name homes dicts = dict_in (dict_named d dicts)
reached_at All name homes dicts = busy_in_home (home_at name homes)

abbrev pub segments_at_home : Option Home → List (ℕ × ℕ)
segments_at_home None = []
segments_at_home (Some h) = segments_of h.region

-- its segments
abbrev pub segments_at : Option (List ℕ) → List Home → List (ℕ × ℕ)
segments_at name homes = segments_at_home (home_at name homes)

-- of segments those behind the first ones, counted and in bytes
abbrev pub tally_behind : ℕ → List (ℕ × ℕ) → Tally
tally_behind first segments = tally_of (map (λ s. s.1) (drop first segments))

-- what is counted with one more command, from the bytes that it reached before it to those after it, and by its region's
-- segments from the one on that was the last before it, before it and after it
abbrev pub counts_after : Counts → Bool → ℕ → ℕ → Tally → Tally → Counts
counts_after c refused before after last now =
    record {
      done = c.done + (if refused then 0 else 1);
      refused = c.refused + (if refused then 1 else 0);
      segments = c.segments + (now.count - last.count);
      bytes = c.bytes + (now.bytes - last.bytes);
      busy = c.busy + after - before;
      peak = max c.peak (c.busy + after - before);
    }
