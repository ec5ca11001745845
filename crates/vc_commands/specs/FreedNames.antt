-- Names that are kept as freed, each with the line of its free, by name.
use Rattle.std.specs.Prelude.{ℕ, List, Option, not}
use Rattle.std.specs.declared.cmp.Ordering.{Ordering}
use Rattle.std.specs.Ordering.{eq_by_cmp, nat_cmp}
use Rattle.std.specs.Cmp.Lexicographic.{slice_cmp}
use Rattle.std.specs.FinMap.Entries.{find, put, where_key}

abbrev pub FreedNames : Type 0
FreedNames = List (List ℕ × ℕ)

-- the order of names, by their bytes
abbrev pub by_name : List ℕ → List ℕ → Ordering
by_name = slice_cmp nat_cmp

-- the line at which a name was freed, where it is kept
abbrev pub freed_line : List ℕ → FreedNames → Option ℕ
freed_line x kept = find by_name x kept

-- a name is kept with a line, in place of any line of before
abbrev pub with_line : List ℕ → ℕ → FreedNames → FreedNames
with_line x line kept = put by_name x line kept

-- a name is kept no more
abbrev pub without_name : List ℕ → FreedNames → FreedNames
without_name x kept = where_key by_name (λ y. not (eq_by_cmp by_name x y)) kept
