-- Lists by a key, in ascending order.
use Rattle.std.specs.Prelude.{ℕ, List, [], ◌∷◌, Option, Some, None, filter, fold, nat_lt, if◌then◌else◌}

-- an item among others that stand by their keys, before those of greater ones
abbrev pub put_by : {A : Type 0} → (A → ℕ) → A → List A → List A
put_by key x [] = x ∷ []
put_by key x (y ∷ ys) = if nat_lt (key x) (key y) then x ∷ y ∷ ys else y ∷ put_by key x ys

-- the items by their keys
abbrev pub sorted_by : {A : Type 0} → (A → ℕ) → List A → List A
sorted_by key [] = []
sorted_by key (x ∷ xs) = put_by key x (sorted_by key xs)

-- the one with the lesser key of the least item so far and one more
abbrev pub lesser_by : {A : Type 0} → (A → ℕ) → Option A → A → Option A
lesser_by key None x = Some x
lesser_by key (Some least) x = if nat_lt (key x) (key least) then Some x else Some least

-- the item with the least key above one
abbrev pub least_above : {A : Type 0} → (A → ℕ) → ℕ → List A → Option A
least_above key after xs = fold (lesser_by key) None (filter (λ x. nat_lt after (key x)) xs)
