-- A map from addresses to numbers as a function, and which entries stand for one.
use Rattle.std.specs.Prelude.{◌≡◌, ℕ, not, ◌&&◌, ◌+◌, ◌≤◌, List, [], ◌∷◌, Option, None, find, is_some, length, option_map, ◌==◌, if◌then◌else◌}
use Rattle.slab.specs.Slab.{Slab, slab_len}
use Rattle.vc_splay.specs.Stands.{IsTree}
use Rattle.vc_splay.specs.Tree.{Tree, names}
use Rattle.vc_addrmap.specs.declared.entries.Entry.{Entry}
use Rattle.vc_addrmap.specs.Entries.{address_at, entry_store, value_at}

-- the number of each address, where it has one
abbrev pub Numbers : Type 0
Numbers = ℕ → Option ℕ

-- no address has one
abbrev pub no_numbers : Numbers
no_numbers a = None

-- an address has this number, or none, and each other one what it had
abbrev pub with_number : ℕ → Option ℕ → Numbers → Numbers
with_number at number numbers a = if at == a then number else numbers a

-- the number of an address, where it has one, is that of another one now, and no longer its own
abbrev pub moved_number : ℕ → ℕ → Numbers → Numbers
moved_number from to numbers =
    if is_some (numbers from) then with_number to (numbers from) (with_number from None numbers) else numbers

-- how many fewer addresses have a number then: one where that other one had a number too
abbrev pub lost_by_move : ℕ → ℕ → Numbers → ℕ
lost_by_move from to numbers =
    if is_some (numbers from) && not (from == to) && is_some (numbers to) then 1 else 0

-- addresses rise along names, and none is below this one
abbrev pub AscendFrom : (ℕ → ℕ) → ℕ → List ℕ → Type 0
AscendFrom address low [] = Unit {0}
AscendFrom address low (n ∷ ns) = (low ≤ address n) × AscendFrom address (address n + 1) ns

-- a root stands for a tree of all entries, by address
pub record IsMap (s : Slab Entry) (root : ℕ) : Type 0 where
  pub tree : Tree
  pub is_tree : IsTree (entry_store s) root tree
  pub ascending : AscendFrom (address_at s) 0 (names tree)
  pub count : slab_len s ≡ length (names tree)

-- the name of the entry of an address
abbrev pub name_of_address : Slab Entry → List ℕ → ℕ → Option ℕ
name_of_address s ns a = find (λ n. address_at s n == a) ns

-- the numbers that these entries give
abbrev pub numbers_in : Slab Entry → List ℕ → Numbers
numbers_in s ns a = option_map (value_at s) (name_of_address s ns a)
