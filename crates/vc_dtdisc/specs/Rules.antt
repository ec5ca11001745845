-- What a kind of dictionary means: its rules, the laws that they keep, and what it was told of.
use Rattle.std.specs.Prelude.{◌≡◌, ℕ, ◌+◌, ◌≤◌, List, length, min}
use Rattle.std.specs.Cmp.{IsTotalOrder}
use Rattle.std.specs.declared.cmp.Ordering.{Ordering}
use Rattle.std.specs.declared.cmp.Ordering.TheVariants.{Equal}
use Rattle.vc_model.specs.Count.{last_count, next_count}

-- an object's key, how two keys stand to each other, a key's hash, and the object that is made of a prototype
pub record Rules : Type 0 where
  pub key : List ℕ → List ℕ
  pub compare : List ℕ → List ℕ → Ordering
  pub hash : List ℕ → ℕ
  pub made : List ℕ → List ℕ

-- an object has 1 to 1,024 bytes
pub record IsObject (bytes : List ℕ) : Type 0 where
  pub least : 1 ≤ length bytes
  pub most : length bytes ≤ 1024

-- two objects match where their keys compare equal
abbrev pub Matches : Rules → List ℕ → List ℕ → Type 0
Matches rules a b = rules.compare (rules.key a) (rules.key b) ≡ Equal

-- the laws that each kind keeps
pub record AreLawful (rules : Rules) : Type 0 where
  -- compare is a total preorder: turned round for swapped keys, transitive, and the same for keys that are equal
  pub order : IsTotalOrder rules.compare
  pub hashes : (a b : List ℕ) → rules.compare a b ≡ Equal → rules.hash a ≡ rules.hash b
  pub made_matches : (obj : List ℕ) → Matches rules (rules.made obj) obj
  pub made_is_object : (obj : List ℕ) → IsObject obj → IsObject (rules.made obj)

-- how many objects and bytes a kind was told of
pub record Gone : Type 0 where
  pub objects : ℕ
  pub bytes : ℕ

-- these after one more object; each number stays at the greatest u64 once there
abbrev pub gone_after : Gone → List ℕ → Gone
gone_after gone obj = record {
  objects = next_count gone.objects;
  bytes = min (gone.bytes + length obj) last_count;
}
