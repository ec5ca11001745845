-- Which holders a linked list stands for: each names its neighbours in two of its words.
use Rattle.std.specs.Prelude.{◌≡◌, ◌≢◌, ℕ, List, [], ◌∷◌, ◌++◌, ◌+◌, ◌≤◌, true, false, Option, length, All}
use Rattle.std.specs.Option.{option_map}
use Rattle.vc_base.specs.declared.addr.Addr.{Addr}
use Rattle.vc_dtdisc.specs.Finds.{find_key}
use Rattle.vc_dtdisc.specs.Rules.{Rules}
use Rattle.vc_base.specs.Cells.{Blocks, HasBytes, IsAddress, IsHolder, word_at}
use Rattle.vc_base.specs.Holders.{AreDistinct, KeepsBut, contains, first_of, last_of}
use Rattle.vc_dtlist.specs.declared.dt_list.DtList.{DtList}

-- a holder whose first two words are the addresses before and behind it
pub record HasLinks (blocks : Blocks) (at before behind : ℕ) : Type 0 where
  pub address : IsAddress at
  pub holder : IsHolder blocks at
  pub previous : word_at blocks at 0 ≡ before
  pub next : word_at blocks at 1 ≡ behind

-- its other two words are 0
pub record IsPlain (blocks : Blocks) (at : ℕ) : Type 0 where
  pub third : word_at blocks at 2 ≡ 0
  pub fourth : word_at blocks at 3 ≡ 0

-- each of these holders names its neighbours, the first the one before them and the last the one behind them
abbrev pub Chain : Blocks → ℕ → List ℕ → ℕ → Type 0
Chain blocks before [] behind = Unit {0}
Chain blocks before (x ∷ xs) behind = HasLinks blocks x before (first_of xs behind) × Chain blocks x xs behind

-- a list's ends are those of these holders, which are linked: none before the first and none behind the last
pub record LinksFor (list : DtList) (blocks : Blocks) (holders : List ℕ) : Type 0 where
  pub first : list.first.0 ≡ first_of holders 0
  pub last : list.last.0 ≡ last_of 0 holders
  pub chain : Chain blocks 0 holders 0
  pub distinct : AreDistinct holders

-- a list stands for these holders: they are linked from end to end, and their other words are 0
pub record StandsFor (list : DtList) (blocks : Blocks) (holders : List ℕ) : Type 0 where
  pub links : LinksFor list blocks holders
  pub plain : All (IsPlain blocks) holders

-- it stands for some holders
pub record IsList (list : DtList) (blocks : Blocks) : Type 0 where
  pub holders : List ℕ
  pub stands : StandsFor list blocks holders

-- it stands for some holders, and this one may join them
pub record CanAdd (list : DtList) (blocks : Blocks) (at : ℕ) : Type 0 where
  pub holders : List ℕ
  pub stands : StandsFor list blocks holders
  pub apart : contains holders at ≡ false
  pub holder : IsHolder blocks at

-- it stands for some holders, and this is one of them
pub record IsIn (list : DtList) (blocks : Blocks) (at : ℕ) : Type 0 where
  pub holders : List ℕ
  pub stands : StandsFor list blocks holders
  pub within : contains holders at ≡ true

-- from old to new its holders change so, and the blocks keep all but the words of these holders and of one more
pub record Turned (at : ℕ) (holders : List ℕ) (before : Blocks) (new : DtList) (after : Blocks) (changed : List ℕ) : Type 0 where
  pub stands : StandsFor new after changed
  pub keeps : KeepsBut (at ∷ holders) before after

-- the same of holders that are linked, whatever their other words say, and those words stay
pub record Relinked (at : ℕ) (holders : List ℕ) (before : Blocks) (new : DtList) (after : Blocks) (changed : List ℕ) : Type 0 where
  pub links : LinksFor new after changed
  pub keeps : KeepsBut (at ∷ holders) before after
  pub words : (a k : ℕ) → 2 ≤ k → word_at after a k ≡ word_at before a k

-- each for whatever holders there were
abbrev pub Turns : ℕ → DtList → Blocks → DtList → Blocks → (List ℕ → List ℕ) → Type 0
Turns at old before new after change =
    (holders : List ℕ) → StandsFor old before holders → Turned at holders before new after (change holders)

abbrev pub Relinks : ℕ → DtList → Blocks → DtList → Blocks → (List ℕ → List ℕ) → Type 0
Relinks at old before new after change =
    (holders : List ℕ) → LinksFor old before holders → Relinked at holders before new after (change holders)

-- so with one more or one less: its holders change so in these cells, of which the rest stays
pub record TurnsIn {C : Type 0} (blocks : C → Blocks) (RestStays : C → C → Type 0) (at : ℕ) (from : DtList) (old : C) (to : DtList) (new : C) (change : List ℕ → List ℕ) : Type 0 where
  pub list : Turns at from (blocks old) to (blocks new) change
  pub rest : RestStays old new

-- some holders are linked, and this one may join them
pub record CanJoin (list : DtList) (blocks : Blocks) (at : ℕ) : Type 0 where
  pub holders : List ℕ
  pub links : LinksFor list blocks holders
  pub apart : contains holders at ≡ false
  pub holder : IsHolder blocks at

-- some holders are linked, and this is one of them
pub record IsJoined (list : DtList) (blocks : Blocks) (at : ℕ) : Type 0 where
  pub holders : List ℕ
  pub links : LinksFor list blocks holders
  pub within : contains holders at ≡ true

-- where there is a holder at that address, it has its words
abbrev pub HasWords : Blocks → ℕ → Type 0
HasWords blocks at = at ≢ 0 → HasBytes blocks at 32

-- these holders are linked as neighbours, either of which may be none, and one may join them between the two
pub record CanPlace (list : DtList) (blocks : Blocks) (before at behind : ℕ) : Type 0 where
  pub front : List ℕ
  pub rest : List ℕ
  pub links : LinksFor list blocks (front ++ rest)
  pub apart : contains (front ++ rest) at ≡ false
  pub holder : IsHolder blocks at
  pub previous : before ≡ last_of 0 front
  pub next : behind ≡ first_of rest 0

-- from old to new that one joined them there
abbrev pub LinksBetween : ℕ → ℕ → ℕ → DtList → Blocks → DtList → Blocks → Type 0
LinksBetween before at behind old from new to =
    (front rest : List ℕ) → StandsFor old from (front ++ rest) → contains (front ++ rest) at ≡ false
    → before ≡ last_of 0 front → behind ≡ first_of rest 0
    → Turned at (front ++ rest) from new to (front ++ at ∷ rest)

abbrev pub JoinsBetween : ℕ → ℕ → ℕ → DtList → Blocks → DtList → Blocks → Type 0
JoinsBetween before at behind old from new to =
    (front rest : List ℕ) → LinksFor old from (front ++ rest) → contains (front ++ rest) at ≡ false
    → before ≡ last_of 0 front → behind ≡ first_of rest 0
    → Relinked at (front ++ rest) from new to (front ++ at ∷ rest)

-- the number of an address
abbrev pub number_of : Addr → ℕ
number_of at = at.0

-- the first of these holders with that key was found, by at most one step for each
pub record Finds (rules : Rules) (blocks : Blocks) (key holders : List ℕ) (result : Option Addr) (before after : ℕ) : Type 0 where
  pub first : option_map number_of result ≡ find_key rules blocks key holders
  pub steps : after ≤ before + length holders
