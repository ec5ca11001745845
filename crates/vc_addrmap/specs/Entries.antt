-- Entries by name, and the store of nodes that they are.
use Rattle.std.specs.Prelude.{◌≡◌, ℕ, ◌+◌, ◌-◌, ◌<◌, Bool, false, Option, None, Some, is_some, nat_lt, option_map, unwrap_or, ◌==◌, ◌&&◌, if◌then◌else◌}
use Rattle.std.specs.Ordering.{nat_cmp}
use Rattle.std.specs.declared.cmp.Ordering.{Ordering}
use Rattle.slab.specs.Slab.{Slab, HasRoomFor, get, slab_len}
use Rattle.vc_splay.specs.Store.{Store}
use Rattle.vc_addrmap.specs.declared.entries.Entry.{Entry}

-- the entry of a name, which is a number from 1 to 2^32 - 1
abbrev pub entry_at : Slab Entry → ℕ → Option Entry
entry_at s n = if nat_lt 0 n && nat_lt n 4294967296 then get s (n - 1) else None

abbrev pub has_entry : Slab Entry → ℕ → Bool
has_entry s n = is_some (entry_at s n)

-- a number of an entry, 0 where there is none
abbrev pub part_at : (Entry → ℕ) → Slab Entry → ℕ → ℕ
part_at part s n = unwrap_or (option_map part (entry_at s n)) 0

-- its address and its number
abbrev pub address_at : Slab Entry → ℕ → ℕ
address_at s n = part_at (λ e. e.at) s n

abbrev pub value_at : Slab Entry → ℕ → ℕ
value_at s n = part_at (λ e. e.value) s n

-- the name of an entry's left or right child
abbrev pub child_of : Bool → Entry → ℕ
child_of left e = if left then e.left else e.right

-- the nodes and their links
abbrev pub entry_store : Slab Entry → Store
entry_store s = record {
  has = has_entry s;
  kid = λ left n. part_at (child_of left) s n;
  parent = λ n. part_at (λ e. e.up) s n;
}

-- where an entry stands to an address
abbrev pub entry_side : Slab Entry → ℕ → ℕ → Ordering
entry_side s at n = nat_cmp (address_at s n) at

-- all but links stayed: each entry has its address and number, and the entries have the room that they had
pub record StaysButLinks (old new : Slab Entry) : Type 0 where
  pub there : (n : ℕ) → has_entry new n ≡ has_entry old n
  pub addresses : (n : ℕ) → address_at new n ≡ address_at old n
  pub values : (n : ℕ) → value_at new n ≡ value_at old n
  pub count : slab_len new ≡ slab_len old
  pub vacant : new.vacant_key ≡ old.vacant_key
  pub capacity : new.capacity ≡ old.capacity

-- a name has this entry now, and all else stayed
pub record EntryWritten (old new : Slab Entry) (n : ℕ) (entry : Entry) : Type 0 where
  pub entries : (m : ℕ) → entry_at new m ≡ (if m == n then Some entry else entry_at old m)
  pub count : slab_len new ≡ slab_len old
  pub vacant : new.vacant_key ≡ old.vacant_key
  pub capacity : new.capacity ≡ old.capacity

-- an entry has this name now, which was no entry's
pub record EntryAdded (old new : Slab Entry) (n : ℕ) (entry : Entry) : Type 0 where
  pub new_name : has_entry old n ≡ false
  pub entries : (m : ℕ) → entry_at new m ≡ (if m == n then Some entry else entry_at old m)
  pub count : slab_len new ≡ slab_len old + 1

-- there is room for one more entry, and a name for it
pub record HasRoom (s : Slab Entry) : Type 0 where
  pub room : HasRoomFor s 1
  pub named : s.vacant_key < 4294967295

-- it is no entry's now, and there is room for one
pub record EntryTakenOut (old new : Slab Entry) (n : ℕ) : Type 0 where
  pub entries : (m : ℕ) → entry_at new m ≡ (if m == n then None else entry_at old m)
  pub count : slab_len new + 1 ≡ slab_len old
  pub room : HasRoom new
