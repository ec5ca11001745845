-- Holders as the nodes of a tree: words 0, 1 and 2 of each are the addresses of its left child, its right child and its
-- parent, 0 where there is none.
use Rattle.std.specs.Prelude.{◌≡◌, ℕ, ◌*◌, Bool, false, List, length, take, drop, is_some, nat_lt, ◌&&◌, if◌then◌else◌}
use Rattle.std.specs.Int.{w64, to_le_bytes}
use Rattle.std.specs.Str.{bytes_eq}
use Rattle.std.specs.declared.cmp.Ordering.{Ordering}
use Rattle.vc_base.specs.Cells.{Blocks, bytes_at, word, word_at}
use Rattle.vc_dtdisc.specs.Finds.{object_at}
use Rattle.vc_dtdisc.specs.Rules.{Rules}
use Rattle.vc_splay.specs.Store.{Store}

-- the bytes of word k
abbrev pub word_bytes : ℕ → List ℕ → List ℕ
word_bytes k bytes = take 8 (drop (8 * k) bytes)

-- whether word k is a number below 2^32, written as one
unfoldable pub is_link : ℕ → List ℕ → Bool
is_link k bytes =
    nat_lt (word k bytes) 4294967296 && bytes_eq (word_bytes k bytes) (to_le_bytes w64 (word k bytes))

-- whether these are the bytes of a holder, at an address, whose words 0, 1 and 2 are such numbers
unfoldable pub is_node_of : ℕ → List ℕ → Bool
is_node_of a bytes =
    nat_lt 0 a && (nat_lt a 4294967296 && (nat_lt 32 (length bytes) && (is_link 0 bytes && (is_link 1 bytes && is_link 2 bytes))))

-- whether such a holder stands at an address
abbrev pub is_node : Blocks → ℕ → Bool
is_node blocks a = is_node_of a (bytes_at blocks a)

-- these holders as a store, by address
abbrev pub node_store : Blocks → Store
node_store blocks = record {
  has = is_node blocks;
  kid = λ left a. word_at blocks a (if left then 0 else 1);
  parent = λ a. word_at blocks a 2;
}

-- a store of which a name is there only where this one is
abbrev pub beside : ℕ → Store → Store
beside mark s = record { has = λ a. s.has mark && s.has a; kid = s.kid; parent = s.parent }

-- from old to new only words 0, 1 and 2 of such holders changed, and each is one still
pub record StaysButLinks (old new : Blocks) : Type 0 where
  pub there : (a : ℕ) → is_some (new a) ≡ is_some (old a)
  pub sizes : (a : ℕ) → length (bytes_at new a) ≡ length (bytes_at old a)
  pub behind : (a : ℕ) → drop 24 (bytes_at new a) ≡ drop 24 (bytes_at old a)
  pub nodes : (a : ℕ) → is_node new a ≡ is_node old a
  pub others : (a : ℕ) → is_node old a ≡ false → new a ≡ old a

-- where the key of a holder's object stands to this one
abbrev pub stands_to : Rules → Blocks → List ℕ → ℕ → Ordering
stands_to rules blocks key a = rules.compare (rules.key (object_at blocks a)) key

-- where it stands to that of another holder's
abbrev pub stands_to_holder : Rules → Blocks → ℕ → ℕ → Ordering
stands_to_holder rules blocks mark a = stands_to rules blocks (rules.key (object_at blocks mark)) a
