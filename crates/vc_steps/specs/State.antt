-- The state of a session: its shelf, its open regions, its kinds and its dictionaries.
use Rattle.std.specs.Prelude.{ℕ, ◌-◌, List, [], ◌∷◌, ◌++◌, Option, Some, None, Bool, length, find, slice_set, if◌then◌else◌}
use Rattle.std.specs.List.{list_any}
use Rattle.std.specs.Str.{bytes_eq}
use Rattle.vc_model.specs.Discipline.{Terms}
use Rattle.vc_model.specs.Numbered.{at_number}
use Rattle.vc_model.specs.Segments.{Grant}
use Rattle.vc_dtdisc.specs.Rules.{Rules}
use Rattle.vc_objects.specs.Objects.{option_list}
use Rattle.vc_region.specs.Region.{Region, segments_of}
use Rattle.vc_region.specs.Stat.{opened_region}
use Rattle.vc_seg.specs.declared.method.Method.{Method}
use Rattle.vc_script.specs.declared.reply.Reply.{Reply}
use Rattle.vc_script.specs.declared.reply.Reply.TheVariants.{Opened, Closed, Refused}
use Rattle.vc_script.specs.declared.refusal.Refusal.{Refusal}
use Rattle.vc_script.specs.declared.refusal.Refusal.TheVariants as why
use Rattle.vc_commands.specs.FreedNames.{FreedNames}
use Rattle.vc_seg.specs.declared.shelf.ShelfPlace.{ShelfPlace}
use Rattle.vc_seg.specs.declared.shelf.ShelfPlace.TheVariants.{Missing, Taken, Here}
use Rattle.vc_script.specs.declared.refusal.Refusal.TheVariants.{NoSuchDiscipline, DisciplineInUse}
use Rattle.vc_commands.specs.Home.{Changed, Home, Label, is_home}
use Rattle.vc_views.specs.Views.{DictHome}

-- for each place of the shelf the terms of the discipline that is here, None where it is taken; the regions in order of opening; the rules of each kind; and the dictionaries in order of opening
pub record State : Type 0 where
  pub shelf : List (Option Terms)
  pub homes : List Home
  pub kinds : List Rules
  pub dicts : List DictHome

-- what a step gives: the state after it, the reply, what was told to kinds (the kind's number and the object), and what was granted of segments
pub record Stepped : Type 0 where
  pub state : State
  pub reply : Reply
  pub told : List (ℕ × List ℕ)
  pub granted : List Grant

-- a step that tells no kind and is granted no segment
abbrev pub step_with_reply : State → Reply → Stepped
step_with_reply s reply = record { state = s; reply = reply; told = []; granted = [] }

-- a refusal changes nothing
abbrev pub step_with_refusal : State → Refusal → Stepped
step_with_refusal s why = step_with_reply s (Refused why)

abbrev pub home_named : List ℕ → List Home → Option Home
home_named r homes = find (is_home r) homes

-- a region is opened with a discipline of those terms
abbrev pub opened_with : State → List ℕ → ℕ → Region Label → Terms → Stepped
opened_with s r n region terms =
    step_with_reply
    (record s {
      shelf = slice_set s.shelf (n - 1) None;
      homes = s.homes ++ record { name = r; place = n; terms = terms; region = region; kept = [] } ∷ [];
    })
    (Opened r)

abbrev pub opened_over : State → List ℕ → ℕ → Region Label → Option (Option Terms) → Stepped
opened_over s r n region None = step_with_refusal s why.NoSuchDiscipline
opened_over s r n region (Some None) = step_with_refusal s why.DisciplineInUse
opened_over s r n region (Some (Some terms)) = opened_with s r n region terms

-- a region of that method is opened, unless one has the name or no discipline is at the place
abbrev pub open_step : State → List ℕ → Method → ℕ → Stepped
open_step s r method n =
    if list_any (is_home r) s.homes then step_with_refusal s why.RegionExists
    else opened_over s r n (opened_region method) (at_number s.shelf n)

-- the regions without the one of that name
abbrev pub without_home : List ℕ → List Home → List Home
without_home r [] = []
without_home r (h ∷ hs) = if is_home r h then hs else h ∷ without_home r hs

-- whether a dictionary lies in a region
abbrev pub is_home_busy : State → List ℕ → Bool
is_home_busy s r = list_any (λ d. bytes_eq d.home r) s.dicts

-- what is done with a region in which no dictionary lies
abbrev pub unless_busy : State → List ℕ → Stepped → Stepped
unless_busy s r t = if is_home_busy s r then step_with_refusal s why.Busy else t

-- a region gives its segments back, and its discipline is at its place again
abbrev pub step_with_close : State → List ℕ → Home → Stepped
step_with_close s r h =
    step_with_reply
    (record s { shelf = slice_set s.shelf (h.place - 1) (Some h.terms); homes = without_home r s.homes })
    (Closed r (length (segments_of h.region)))

abbrev pub close_home : State → List ℕ → Option Home → Stepped
close_home s r None = step_with_refusal s why.NoRegion
close_home s r (Some h) = unless_busy s r (step_with_close s r h)

abbrev pub close_step : State → List ℕ → Stepped
close_step s r = close_home s r (home_named r s.homes)

-- the regions, with another one of that name, and the names that it keeps
abbrev pub with_region : List ℕ → Region Label → FreedNames → List Home → List Home
with_region r region kept [] = []
with_region r region kept (h ∷ hs) =
    if is_home r h then (record h { region = region; kept = kept }) ∷ hs else h ∷ with_region r region kept hs

-- the state with the change of the region of that name
abbrev pub step_with_change : State → List ℕ → Changed → Stepped
step_with_change s r c =
    record {
      state = record s { homes = with_region r c.region c.kept s.homes };
      reply = c.reply;
      told = [];
      granted = option_list c.granted;
    }

-- why no discipline is taken from a place of the shelf
abbrev pub not_here : ShelfPlace → Refusal
not_here Missing = NoSuchDiscipline
not_here Taken = DisciplineInUse
not_here Here = DisciplineInUse
