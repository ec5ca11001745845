-- The chains of a table: holders whose keys' hashes belong to one slot.
use Rattle.std.specs.Prelude.{◌≡◌, ℕ, ◌+◌, ◌*◌, ◌%◌, ◌≤◌, ◌<◌, List, [], ◌∷◌, ◌++◌, Option, Some, false, true, ◌==◌, length}
use Rattle.std.specs.List.{filter}
use Rattle.std.specs.Option.{option_map}
use Rattle.vc_base.specs.declared.addr.Addr.{Addr}
use Rattle.vc_base.specs.Cells.{Blocks, HasBytes, IsAddress, IsHolder, word_at}
use Rattle.vc_base.specs.Holders.{contains, first_of}
use Rattle.vc_dtdisc.specs.Finding.{last_of}
use Rattle.vc_dtdisc.specs.Finds.{find_key, has_key, object_at}
use Rattle.vc_dtdisc.specs.Rules.{Rules}
use Rattle.vc_dtlist.specs.Linked.{number_of}

-- the hash of a holder's key
abbrev pub hash_at : Rules → Blocks → ℕ → ℕ
hash_at rules blocks at = rules.hash (rules.key (object_at blocks at))

-- word 3 of a holder is that hash
abbrev pub IsHashed : Rules → Blocks → ℕ → Type 0
IsHashed rules blocks at = word_at blocks at 3 ≡ hash_at rules blocks at

-- those of these holders whose hash belongs to slot k
abbrev pub chain_of : (ℕ → ℕ) → ℕ → ℕ → List ℕ → List ℕ
chain_of hash slots k holders = filter (λ at. hash at % slots == k) holders

-- from an address on each of these holders names the next one by its word 2, and the last names an address behind them
abbrev pub Leads : Blocks → ℕ → List ℕ → ℕ → Type 0
Leads blocks at [] behind = at ≡ behind
Leads blocks at (x ∷ xs) behind = (at ≡ x) × Leads blocks (word_at blocks x 2) xs behind

-- each slot of a table leads through the holders that belong to it, in their order
abbrev pub AreChained : (ℕ → ℕ) → Blocks → ℕ → ℕ → List ℕ → Type 0
AreChained hash blocks table slots holders =
    (k : ℕ) → k < slots → Leads blocks (word_at blocks table k) (chain_of hash slots k holders) 0

-- slot k of a table leads through these holders
pub record IsSlotChain (blocks : Blocks) (table k : ℕ) (chain : List ℕ) : Type 0 where
  pub place : HasBytes blocks table (8 * k + 8)
  pub leads : Leads blocks (word_at blocks table k) chain 0
  pub addresses : (a : ℕ) → contains chain a ≡ true → IsAddress a
  pub holders : (a : ℕ) → contains chain a ≡ true → IsHolder blocks a

-- a chain has these holders before one of it, or before its end where that is 0
pub record IsChainPlace (blocks : Blocks) (table k count stop : ℕ) (front rest : List ℕ) : Type 0 where
  pub chain : IsSlotChain blocks table k (front ++ rest)
  pub met : stop ≡ first_of rest 0
  pub apart : contains front stop ≡ false
  pub few : length front ≤ count

pub record HasChainPlace (blocks : Blocks) (table k count stop : ℕ) : Type 0 where
  pub front : List ℕ
  pub rest : List ℕ
  pub place : IsChainPlace blocks table k count stop front rest

-- those of these holders with this hash
abbrev pub with_hash : (ℕ → ℕ) → ℕ → List ℕ → List ℕ
with_hash hash value holders = filter (λ at. hash at == value) holders

-- the first of these holders with that key was found, by at most one step for each that belongs to the key's slot, and at
-- most one for each that has the key's hash
pub record FindsInSlot (rules : Rules) (slots : ℕ) (blocks : Blocks) (key holders : List ℕ) (result : Option Addr) (before after : ℕ) : Type 0 where
  pub first : option_map number_of result ≡ find_key rules blocks key holders
  pub steps : after ≤ before + length (chain_of (hash_at rules blocks) slots (rules.hash key % slots) holders)
  pub alike : after ≤ before + length (with_hash (hash_at rules blocks) (rules.hash key) holders)

-- the last of these holders that has the key of one of them was found, by at most one step for each that belongs to its
-- slot, and at most one for each behind it that has its hash
pub record FindsLast (rules : Rules) (slots : ℕ) (blocks : Blocks) (at : ℕ) (holders : List ℕ) (result before after : ℕ) : Type 0 where
  pub last : Some result ≡ last_of (filter (has_key rules blocks (rules.key (object_at blocks at))) holders)
  pub steps : after ≤ before + length (chain_of (hash_at rules blocks) slots (hash_at rules blocks at % slots) holders)
  pub behind : (front rest : List ℕ) → holders ≡ front ++ at ∷ rest
      → after ≤ before + length (with_hash (hash_at rules blocks) (hash_at rules blocks at) rest)
