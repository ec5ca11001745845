-- What a run is at a moment.
use Rattle.std.specs.Prelude.{ℕ, Bool, false, List, [], Option, None}
use Rattle.vc_model.specs.Discipline.{Discipline}
use Rattle.vc_dtdisc.specs.Rules.{Gone, Rules}
use Rattle.vc_seg.specs.declared.shelf.Shelf.{Shelf}
use Rattle.vc_steps.specs.declared.session.Session.{Session}
use Rattle.vc_steps.specs.State.{State}
use Rattle.vc_steps.specs.Account.{Account, accounts, state_of}
use Rattle.vc_commands.specs.Held.{Held}
use Rattle.vc_steps.specs.Homes.{held_in_session, settled_over, slots_on, state_over}
use Rattle.vc_steps.specs.Told.{ended_told, gone_in, rules_in, tell}

-- the state, the open regions with their disciplines, whether these are armed, what the replies' sink tells, the accounts of the disciplines once every open region is closed, and what each kind was told of so far
pub record Moment : Type 0 where
  pub state : State
  pub regions : List Held
  pub armed : Bool
  pub written : Option (List ℕ)
  pub accounts : List (Option Account)
  pub gone : List Gone

-- of a session over a shelf, and kinds of these rules that were told so; no sink is told of
abbrev pub moment_by : {I : Type 0} {V : I → Type 0} {D : Type 0} → ((x : I) × V x → Discipline) → List Rules → List Gone → Shelf I V → Session D I V → Moment
moment_by meaning kinds gone shelf session =
    record {
      state = state_over meaning kinds shelf session;
      regions = held_in_session meaning session;
      armed = session.is_armed;
      written = None;
      accounts = settled_over meaning shelf session;
      gone = gone;
    }

-- of a session over a shelf and kinds
abbrev pub moment : {I : Type 0} {V : I → Type 0} {D : Type 0} → ((x : I) × V x → Discipline) → (D → Rules) → (D → Gone) → Shelf I V → Session D I V → List D → Moment
moment meaning rules gone shelf session kinds = moment_by meaning (rules_in rules kinds) (gone_in gone kinds) shelf session

-- at which no region is open, over these disciplines and kinds of these rules that were told so
abbrev pub at_rest_by : List Rules → List Gone → List (Option Discipline) → Moment
at_rest_by kinds gone slots =
    record {
      state = state_of kinds slots [] [];
      regions = [];
      armed = false;
      written = None;
      accounts = accounts slots;
      gone = gone;
    }

-- over these disciplines and kinds
abbrev pub at_rest : {K : Type 0} → (K → Rules) → (K → Gone) → List (Option Discipline) → List K → Moment
at_rest rules gone slots kinds = at_rest_by (rules_in rules kinds) (gone_in gone kinds) slots

-- of a shelf over which no region is open, and kinds of these rules that were told so
abbrev pub moment_at_rest_by : {I : Type 0} {V : I → Type 0} → ((x : I) × V x → Discipline) → List Rules → List Gone → Shelf I V → Moment
moment_at_rest_by meaning kinds gone shelf = at_rest_by kinds gone (slots_on meaning shelf)

-- of a shelf over which no region is open, and kinds
abbrev pub moment_at_rest : {I : Type 0} {V : I → Type 0} {K : Type 0} → ((x : I) × V x → Discipline) → (K → Rules) → (K → Gone) → Shelf I V → List K → Moment
moment_at_rest meaning rules gone shelf kinds = moment_at_rest_by meaning (rules_in rules kinds) (gone_in gone kinds) shelf

-- the same over another sink
abbrev pub over_sink : Moment → Option (List ℕ) → Moment
over_sink m written = record m { written = written }

-- the same once the kinds are told of what the session has at its end
abbrev pub moment_at_end : Moment → Moment
moment_at_end m = record m { gone = tell (ended_told m.state) m.gone }
