-- Lists of holders, by their addresses: how a list changes, and what a call on it keeps.
use Rattle.std.specs.Prelude.{◌≡◌, ℕ, Bool, false, List, [], ◌∷◌, length, Option, Some, None, is_some, ◌==◌, if◌then◌else◌}
use Rattle.std.specs.List.{list_any}
use Rattle.vc_base.specs.Cells.{Blocks, bytes_at, body_of}

-- whether the address is in the list
abbrev pub contains : List ℕ → ℕ → Bool
contains xs a = list_any (λ x. x == a) xs

-- no address stands twice
abbrev pub AreDistinct : List ℕ → Type 0
AreDistinct [] = Unit {0}
AreDistinct (x ∷ xs) = (contains xs x ≡ false) × AreDistinct xs

-- the first address, or another where there is none
abbrev pub first_of : List ℕ → ℕ → ℕ
first_of [] other = other
first_of (x ∷ xs) other = x

-- the last address, or another where there is none
abbrev pub last_of : ℕ → List ℕ → ℕ
last_of other [] = other
last_of other (x ∷ xs) = last_of x xs

-- with an address directly before another one, or last where that isn't there
abbrev pub inserted_before : ℕ → ℕ → List ℕ → List ℕ
inserted_before mark at [] = at ∷ []
inserted_before mark at (x ∷ xs) = if x == mark then at ∷ x ∷ xs else x ∷ inserted_before mark at xs

-- with an address directly behind another one, or last where that isn't there
abbrev pub inserted_after : ℕ → ℕ → List ℕ → List ℕ
inserted_after mark at [] = at ∷ []
inserted_after mark at (x ∷ xs) = if x == mark then x ∷ at ∷ xs else x ∷ inserted_after mark at xs

-- without that address
abbrev pub without : ℕ → List ℕ → List ℕ
without at [] = []
without at (x ∷ xs) = if x == at then xs else x ∷ without at xs

-- the first address, and the last
abbrev pub first_in : List ℕ → Option ℕ
first_in [] = None
first_in (x ∷ xs) = Some x

abbrev pub last_in : List ℕ → Option ℕ
last_in [] = None
last_in (x ∷ xs) = Some (last_of x xs)

-- the address behind that one
abbrev pub next_in : ℕ → List ℕ → Option ℕ
next_in at [] = None
next_in at (x ∷ xs) = if x == at then first_in xs else next_in at xs

-- the address before that one, in a list behind another address or none
abbrev pub previous_in : Option ℕ → ℕ → List ℕ → Option ℕ
previous_in before at [] = None
previous_in before at (x ∷ xs) = if x == at then before else previous_in (Some x) at xs

-- an address, or none where it is 0
abbrev pub some_address : ℕ → Option ℕ
some_address a = if a == 0 then None else Some a

-- which blocks there are, their sizes and what stands behind their words stay, and each block that isn't in the list
pub record KeepsBut (holders : List ℕ) (old new : Blocks) : Type 0 where
  pub there : (a : ℕ) → is_some (new a) ≡ is_some (old a)
  pub sizes : (a : ℕ) → length (bytes_at new a) ≡ length (bytes_at old a)
  pub bodies : (a : ℕ) → body_of (bytes_at new a) ≡ body_of (bytes_at old a)
  pub others : (a : ℕ) → contains holders a ≡ false → new a ≡ old a
