-- What lasts of a session through lines, of which the first may say that disciplines are armed.
use Rattle.std.specs.Prelude.{◌≡◌, ℕ, List, Option, Some, None, IsSomeAnd, true}
use Rattle.vc_dtdisc.specs.Rules.{Gone, Rules}
use Rattle.vc_model.specs.Discipline.{Discipline}
use Rattle.vc_script.specs.declared.tool.Tool.{Tool}
use Rattle.vc_seg.specs.declared.shelf.Shelf.{Shelf}
use Rattle.vc_session.specs.Run.{version_of}
use Rattle.vc_steps.specs.Account.{ArmsNone, KeepsAccounts, SameAsked}
use Rattle.vc_steps.specs.Homes.{slots_on}
use Rattle.vc_steps.specs.Moment.{Moment, moment, moment_at_rest}
use Rattle.vc_steps.specs.Steps.{Lasts}
use Rattle.vc_steps.specs.Told.{KeepRules}
use Rattle.vc_steps.specs.declared.session.Session.{Session}
use Rattle.vc_words.specs.declared.words.Words.{Words}

-- a session that arms disciplines so
abbrev pub arming : {I : Type 0} {V : I → Type 0} {D : Type 0} → Session D I V → Session D I V → Session D I V
arming like session = record session { is_armed = like.is_armed }

-- what lasts of a session that arms disciplines at the end, or doesn't, lasts of it as if it had from the start; and once it does it goes on
pub record LastsArming {I : Type 0} {V : I → Type 0} {D : Type 0} (meaning : (x : I) × V x → Discipline) (rules : D → Rules) (shelf : Shelf I V) (session : Session D I V) (kinds : List D) (shelf' : Shelf I V) (session' : Session D I V) (kinds' : List D) : Type 0 where
  pub lasts : Lasts meaning rules shelf (arming session' session) kinds shelf' session' kinds'
  pub armed : session.is_armed ≡ true → session'.is_armed ≡ true

-- a session was run over a shelf and kinds: that lasts of it, and that was run from the moment before to the one after
pub record RunsArming {I : Type 0} {V : I → Type 0} {D : Type 0} (meaning : (x : I) × V x → Discipline) (rules : D → Rules) (gone : D → Gone) (shelf : Shelf I V) (session : Session D I V) (kinds : List D) (shelf' : Shelf I V) (session' : Session D I V) (kinds' : List D) (ran : Moment → Moment → Type 0) : Type 0 where
  pub lasts : LastsArming meaning rules shelf session kinds shelf' session' kinds'
  pub runs : ran (moment meaning rules gone shelf session kinds) (moment meaning rules gone shelf' session' kinds')

-- that is known to be of version 1: generated commands, or a source's script by the bytes that it tells
abbrev pub IsVersionOne : Option ℕ → Tool → Option (List ℕ) → Type 0
IsVersionOne None tool told = IsSomeAnd told (λ input. version_of tool input ≡ 1)
IsVersionOne (Some n) tool told = Unit {0}

-- and so are refused words, with which nothing runs
abbrev pub AsksFirst : Option Words → Tool → Option (List ℕ) → Type 0
AsksFirst None tool told = Unit {0}
AsksFirst (Some w) tool told = IsVersionOne w.generate tool told

-- each place has its discipline, with the segments out and the terms that it had, and no fault less
pub record Keeps (first : Type 0) (before after : Moment) : Type 0 where
  pub accounts : KeepsAccounts before.accounts after.accounts
  -- and where version 1 was run, none was asked for an exception
  pub asked : first → SameAsked before.accounts after.accounts

-- what is kept of a shelf and kinds, whatever came of the run over them
pub record KeepsLent {I : Type 0} {V : I → Type 0} {D : Type 0} (meaning : (x : I) × V x → Discipline) (rules : D → Rules) (gone : D → Gone) (first : Type 0) (shelf : Shelf I V) (kinds : List D) (shelf' : Shelf I V) (kinds' : List D) : Type 0 where
  pub disciplines : Keeps first (moment_at_rest meaning rules gone shelf kinds) (moment_at_rest meaning rules gone shelf' kinds')
  -- the kinds have the rules that they had
  pub keeps_rules : KeepRules rules kinds kinds'
  -- of the disciplines that stand on the shelf none is armed but those that were
  pub arms_none : ArmsNone (slots_on meaning shelf) (slots_on meaning shelf')
