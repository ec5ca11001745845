-- What lasts of the shelf through a run: the accounts of its disciplines.
use Rattle.std.specs.Prelude.{◌≡◌, ◌≢◌, ℕ, ◌-◌, ◌≤◌, List, [], ◌∷◌, Bool, Option, Some, None, true, false, ⊤, find, map, option_map, slice_set, count_by, ◌==◌}
use Rattle.std.specs.List.{AllByRecursion}
use Rattle.std.specs.Str.{bytes_eq}
use Rattle.vc_model.specs.Count.{RoseBy}
use Rattle.vc_dtdisc.specs.Rules.{Rules}
use Rattle.vc_model.specs.Discipline.{Discipline, HasOut, Terms}
use Rattle.vc_model.specs.Numbered.{at_number}
use Rattle.vc_region.specs.Region.{segments_of}
use Rattle.vc_steps.specs.State.{State}
use Rattle.vc_views.specs.Views.{DictHome}
use Rattle.vc_commands.specs.RegionCommands.{block_asked}
use Rattle.vc_steps.specs.Step.{region_of_command}
use Rattle.vc_script.specs.declared.command.Command.{Command}
use Rattle.vc_commands.specs.Held.{out_without, Held, home_of, AreLabelsOf, LacksSegment}

-- how often a discipline was asked for an exception, and how often it made one
abbrev pub asked_of : Discipline → ℕ × ℕ
asked_of d = (d.exceptions.told, d.exceptions.yes)

-- the segments of a discipline that are out, its terms, its faults, and how often it was asked for an exception and made one
pub record Account : Type 0 where
  pub out : List (ℕ × ℕ)
  pub terms : Terms
  pub faults : ℕ
  pub asked : ℕ × ℕ

abbrev pub account : Discipline → Account
account d = record { out = d.out; terms = d.terms; faults = d.faults; asked = asked_of d }

-- the accounts on a shelf, None where a discipline is taken
abbrev pub accounts : List (Option Discipline) → List (Option Account)
accounts shelf = map (option_map account) shelf

-- the state that kinds, a shelf and open regions stand for, with these dictionaries
abbrev pub state_of : List Rules → List (Option Discipline) → List Held → List DictHome → State
state_of kinds shelf held dicts =
    record { shelf = map (option_map (λ d. d.terms)) shelf; homes = map home_of held; kinds = kinds; dicts = dicts }

-- the account of a discipline when segments that are the last of those out are back
abbrev pub account_back : Discipline → List (ℕ × ℕ) → Account
account_back d segments = record { out = out_without d segments; terms = d.terms; faults = d.faults; asked = asked_of d }

-- that of a region's discipline when the region's segments are back
abbrev pub account_after : Held → Account
account_after h = account_back h.disc (segments_of h.region)

-- the accounts on the shelf when every open region is closed, in order
abbrev pub settled_accounts : List (Option Account) → List Held → List (Option Account)
settled_accounts shelf [] = shelf
settled_accounts shelf (h ∷ hs) = settled_accounts (slice_set shelf (h.place - 1) (Some (account_after h))) hs

-- a region's discipline is taken from its place and is armed so, and the region's segments are the last that it lent
pub record IsHeldFrom (armed : Bool) (shelf : List (Option Discipline)) (h : Held) : Type 0 where
  pub place : at_number shelf h.place ≡ Some None
  pub armed_so : h.disc.exceptions.armed ≡ armed
  pub lent : HasOut h.disc (segments_of h.region)
  pub names : AreLabelsOf h.region h.labels

-- the open region that a command works in
abbrev pub held_named : List Held → Option (List ℕ) → Option Held
held_named held None = None
held_named held (Some r) = find (λ h. bytes_eq h.name r) held

abbrev pub Lacks : Option Held → Option Held → ℕ × ℕ → Type 0
Lacks None after asked = ⊥
Lacks (Some h) None asked = ⊥
Lacks (Some h) (Some g) asked = LacksSegment h g asked

-- from before a step to after it, the region of a command was refused the segment that its block needs
abbrev pub StepLacks : List Held → List Held → Command → Type 0
StepLacks before after command =
    Lacks (held_named before (region_of_command command)) (held_named after (region_of_command command)) (block_asked command)

-- open regions over a shelf, each with a place of its own, whose disciplines are all armed, or all not
abbrev pub IsSession : Bool → List (Option Discipline) → List Held → Type 0
IsSession armed shelf [] = ⊤
IsSession armed shelf (h ∷ hs) = IsHeldFrom armed shelf h × AllByRecursion (λ g. g.place ≢ h.place) hs × IsSession armed shelf hs

-- of the disciplines that stand on a shelf none is armed but those that were, and stand there as they are
abbrev pub ArmsNone : List (Option Discipline) → List (Option Discipline) → Type 0
ArmsNone before after = (n : ℕ) (d : Discipline) → at_number after n ≡ Some (Some d) → d.exceptions.armed ≡ true → at_number before n ≡ Some (Some d)

-- the faults of a place's discipline
abbrev pub faults_of : Option (Option Account) → ℕ
faults_of None = 0
faults_of (Some None) = 0
faults_of (Some (Some a)) = a.faults

-- the faults of a place by the refusals there: they never fall, rose by as many or more, and stand where nothing was refused and no discipline is armed, so that none makes an exception
pub record CountsFaults (armed : Bool) (refusals before after : ℕ) : Type 0 where
  pub never_falls : before ≤ after
  pub none : armed ≡ false → refusals ≡ 0 → after ≡ before
  pub rose : RoseBy refusals before after

abbrev pub without_faults : Account → List (ℕ × ℕ) × Terms
without_faults a = (a.out, a.terms)

-- every place has its discipline with the segments out and the terms that it had
abbrev pub SameButFaults : List (Option Account) → List (Option Account) → Type 0
SameButFaults before after = map (option_map without_faults) after ≡ map (option_map without_faults) before

-- no discipline was asked for an exception
abbrev pub SameAsked : List (Option Account) → List (Option Account) → Type 0
SameAsked before after = map (option_map (λ (a : Account). a.asked)) after ≡ map (option_map (λ (a : Account). a.asked)) before

-- from an earlier time to a later one with these refusals, each by its place: the disciplines are the same, and no fault was counted but for a refusal, or an exception of an armed one; where none is armed none was asked for an exception
pub record Settles (armed : Bool) (before after : List (Option Account)) (refusals : List ℕ) : Type 0 where
  pub same : SameButFaults before after
  pub faults : (place : ℕ) → CountsFaults armed (count_by (λ p. p == place) refusals) (faults_of (at_number before place)) (faults_of (at_number after place))
  pub asked : armed ≡ false → SameAsked before after

-- with any refusals the disciplines are the same, and no fault is less
pub record KeepsAccounts (before after : List (Option Account)) : Type 0 where
  pub same : SameButFaults before after
  pub faults : (place : ℕ) → faults_of (at_number before place) ≤ faults_of (at_number after place)
