-- Which holders stand in order of their keys.
use Rattle.std.specs.Prelude.{◌≡◌, ℕ, Bool, true, false, List, [], ◌∷◌}
use Rattle.std.specs.List.{list_any}
use Rattle.std.specs.declared.cmp.Ordering.{Ordering}
use Rattle.std.specs.declared.cmp.Ordering.TheVariants.{Equal, Greater, Less}
use Rattle.vc_base.specs.Cells.{Blocks}
use Rattle.vc_dtdisc.specs.Finds.{object_at}
use Rattle.vc_dtdisc.specs.Rules.{Rules}

-- whether an answer of a comparison goes against the order, in which keys may be equal or not
abbrev pub is_against : Bool → Ordering → Bool
is_against alone Less = false
is_against alone Equal = alone
is_against alone Greater = true

-- how the key of one holder's object stands to that of another's
abbrev pub stand : Rules → Blocks → ℕ → ℕ → Ordering
stand rules blocks a b = rules.compare (rules.key (object_at blocks a)) (rules.key (object_at blocks b))

-- none of these goes against the order with one behind it
abbrev pub IsAscending : Rules → Blocks → Bool → List ℕ → Type 0
IsAscending rules blocks alone [] = Unit {0}
IsAscending rules blocks alone (x ∷ xs) =
    (list_any (λ y. is_against alone (stand rules blocks x y)) xs ≡ false) × IsAscending rules blocks alone xs
