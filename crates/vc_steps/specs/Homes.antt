-- What the regions of a session stand for.
use Rattle.std.specs.Prelude.{◌≡◌, ℕ, List, [], Option, length, map}
use Rattle.std.specs.List.{zip}
use Rattle.vc_model.specs.Discipline.{Discipline}
use Rattle.vc_dtdisc.specs.Rules.{Rules}
use Rattle.vc_seg.specs.Shelf.{slots_of}
use Rattle.vc_seg.specs.declared.shelf.Shelf.{Shelf}
use Rattle.vc_seg.specs.Boxed.{disc_in_box}
use Rattle.vc_steps.specs.State.{State}
use Rattle.vc_steps.specs.Account.{Account, IsSession, accounts, settled_accounts, state_of}
use Rattle.vc_commands.specs.Held.{Held}
use Rattle.vc_steps.specs.DictHomes.{AreDicts, dicts_in}
use Rattle.vc_views.specs.Numbers.{AreLinked, views_by}
use Rattle.vc_commands.specs.declared.region.home.HomeEntry.{HomeEntry}
use Rattle.vc_commands.specs.declared.region.labels.Labels.{Labels}
use Rattle.vc_steps.specs.declared.session.Session.{Session}
use Rattle.vc_commands.specs.RegionRun.{held_of}

abbrev pub held_entry : {I : Type 0} {V : I → Type 0} → ((x : I) × V x → Discipline) → (List ℕ × HomeEntry I V) × Labels → Held
held_entry meaning e = held_of meaning e.0.0 e.0.1 e.1

-- the open regions in order, each with its names
abbrev pub held_all : {I : Type 0} {V : I → Type 0} → ((x : I) × V x → Discipline) → List (List ℕ × HomeEntry I V) → List Labels → List Held
held_all meaning homes labels = map (held_entry meaning) (zip homes labels)

-- those of a session
abbrev pub held_in_session : {I : Type 0} {V : I → Type 0} {D : Type 0} → ((x : I) × V x → Discipline) → Session D I V → List Held
held_in_session meaning session = held_all meaning session.homes.entries session.labels.items

-- the disciplines of a shelf, and their accounts
abbrev pub slots_on : {I : Type 0} {V : I → Type 0} → ((x : I) × V x → Discipline) → Shelf I V → List (Option Discipline)
slots_on meaning shelf = slots_of (disc_in_box meaning) shelf.slots.items

abbrev pub accounts_on : {I : Type 0} {V : I → Type 0} → ((x : I) × V x → Discipline) → Shelf I V → List (Option Account)
accounts_on meaning shelf = accounts (slots_on meaning shelf)

-- the state that kinds and a shelf stand for where no region is open
abbrev pub state_on : {I : Type 0} {V : I → Type 0} → ((x : I) × V x → Discipline) → List Rules → Shelf I V → State
state_on meaning kinds shelf = state_of kinds (slots_on meaning shelf) [] []

-- the state that kinds, a shelf and a session stand for
abbrev pub state_over : {I : Type 0} {V : I → Type 0} {D : Type 0} → ((x : I) × V x → Discipline) → List Rules → Shelf I V → Session D I V → State
state_over meaning kinds shelf session =
    state_of kinds (slots_on meaning shelf) (held_in_session meaning session)
    (dicts_in (held_in_session meaning session) (views_by session.paths session.dicts.entries) session.dicts.entries)

-- each open region has its names, and a place of its own, whose discipline it holds
pub record HoldsRegions {I : Type 0} {V : I → Type 0} {D : Type 0} (meaning : (x : I) × V x → Discipline) (shelf : Shelf I V) (session : Session D I V) : Type 0 where
  pub named : length session.labels.items ≡ length session.homes.entries
  pub held : IsSession session.is_armed (slots_on meaning shelf) (held_in_session meaning session)

-- each dictionary is whole in its region, by its kind
abbrev pub HoldsDicts : {I : Type 0} {V : I → Type 0} {D : Type 0} → ((x : I) × V x → Discipline) → List Rules → Session D I V → Type 0
HoldsDicts meaning kinds session = AreDicts kinds (held_in_session meaning session) session.dicts.entries

-- a session stands over a shelf and kinds of these rules
pub record IsSessionOver {I : Type 0} {V : I → Type 0} {D : Type 0} (meaning : (x : I) × V x → Discipline) (rules : D → Rules) (shelf : Shelf I V) (session : Session D I V) (kinds : List D) : Type 0 where
  pub regions : HoldsRegions meaning shelf session
  pub dicts : HoldsDicts meaning (map rules kinds) session
  pub views : AreLinked session.paths session.dicts.entries

-- a session stands over any shelf and any kinds
abbrev pub StandsOverAny : {I : Type 0} {V : I → Type 0} {D : Type 0} → ((x : I) × V x → Discipline) → (D → Rules) → Session D I V → Type 0
StandsOverAny {I = I} {V = V} {D = D} meaning rules session = (shelf : Shelf I V) (kinds : List D) → IsSessionOver meaning rules shelf session kinds

-- the regions of a session and its dictionaries are whole over a shelf, if they were
pub record KeepsRegions {I : Type 0} {V : I → Type 0} {D : Type 0} (meaning : (x : I) × V x → Discipline) (session : Session D I V) (shelf' : Shelf I V) (session' : Session D I V) : Type 0 where
  pub regions : HoldsRegions meaning shelf' session'
  pub dicts : (kinds : List Rules) → HoldsDicts meaning kinds session → HoldsDicts meaning kinds session'
  -- and the view paths are as they were
  pub views : AreLinked session.paths session.dicts.entries → AreLinked session'.paths session'.dicts.entries
  -- whether it found no memory stays, and whether it arms disciplines
  pub spent : session'.is_spent ≡ session.is_spent
  pub armed : session'.is_armed ≡ session.is_armed

-- the accounts on the shelf when every open region is closed
abbrev pub settled_over : {I : Type 0} {V : I → Type 0} {D : Type 0} → ((x : I) × V x → Discipline) → Shelf I V → Session D I V → List (Option Account)
settled_over meaning shelf session = settled_accounts (accounts_on meaning shelf) (held_in_session meaning session)
