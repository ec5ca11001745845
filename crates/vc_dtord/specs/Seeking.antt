-- Which holder of an ordered list comes behind a key, before it, or last of those that match another one.
use Rattle.std.specs.Prelude.{◌≡◌, ◌≢◌, ℕ, ◌+◌, ◌≤◌, Bool, true, List, None, Option, length, ◌==◌, if◌then◌else◌}
use Rattle.std.specs.List.{filter}
use Rattle.std.specs.Option.{option_map}
use Rattle.std.specs.Ordering.{is_lt}
use Rattle.std.specs.declared.cmp.Ordering.{Ordering}
use Rattle.std.specs.declared.cmp.Ordering.TheVariants.{Less, Equal, Greater}
use Rattle.std.proofs.Common.{ap}
use Rattle.vc_base.specs.declared.addr.Addr.{Addr}
use Rattle.vc_base.specs.Cells.{Blocks}
use Rattle.vc_base.specs.Holders.{contains, last_in, previous_in}
use Rattle.vc_dtdisc.specs.Finding.{last_of}
use Rattle.vc_dtdisc.specs.Finds.{object_at}
use Rattle.vc_dtdisc.specs.Objects.{is_match}
use Rattle.vc_dtdisc.specs.Rules.{Rules}
use Rattle.vc_dtlist.specs.Linked.{number_of}
use Rattle.vc_splay.specs.Store.{Store}
use Rattle.vc_splay.specs.Stands.{IsTree}
use Rattle.vc_splay.specs.Tree.{Tree, names}
use Rattle.vc_dtord.specs.Nodes.{stands_to}

-- whether the key of a holder's object is less than this one
abbrev pub is_below : Rules → Blocks → List ℕ → ℕ → Bool
is_below rules blocks key at = is_lt (stands_to rules blocks key at)

-- whether the object of another holder matches that of the first
abbrev pub matches : Rules → Blocks → ℕ → ℕ → Bool
matches rules blocks at other = is_match rules (object_at blocks at) (object_at blocks other)

-- the last of these holders that passes the test was found, by at most one step for each
pub record SeeksLast (test : ℕ → Bool) (holders : List ℕ) (result : Option Addr) (before after : ℕ) : Type 0 where
  pub last : option_map number_of result ≡ last_of (filter test holders)
  pub steps : after ≤ before + length holders

-- where a name stands against what is behind all that is sought
abbrev pub past : Ordering → Ordering
past Less = Less
past Equal = Less
past Greater = Greater

pub past-same : {o p : Ordering} → o ≡ p → past o ≡ past p
past-same e = ap past e

-- the last name that is before what is sought
abbrev pub last_before : (ℕ → Ordering) → List ℕ → Option ℕ
last_before side xs = last_of (filter (λ n. is_lt (side n)) xs)

-- the name right before this one, the last of all where it is 0
abbrev pub name_before : ℕ → List ℕ → Option ℕ
name_before at xs = if at == 0 then last_in xs else previous_in None at xs

-- it stands for some tree, and this name is 0 or in it
pub record IsInOrNone (s : Store) (root at : ℕ) : Type 0 where
  pub tree : Tree
  pub is_tree : IsTree s root tree
  pub within : at ≢ 0 → contains (names tree) at ≡ true
