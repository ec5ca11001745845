-- Where something is found in a list, where something is put into it, and what it is without it.
use Rattle.std.specs.Prelude.{Bool, not, List, [], ◌∷◌, Option, Some, None, ◌&&◌, if◌then◌else◌}
use Rattle.std.specs.List.{list_any}

-- the first
abbrev pub first_of : {A : Type 0} → List A → Option A
first_of [] = None
first_of (x ∷ xs) = Some x

-- the last, or another one where there is none
abbrev pub last_from : {A : Type 0} → Option A → List A → Option A
last_from other [] = other
last_from other (x ∷ xs) = last_from (Some x) xs

-- the last, where there is one
abbrev pub last_of : {A : Type 0} → List A → Option A
last_of xs = last_from None xs

-- the one behind the first that passes a test
abbrev pub behind_first : {A : Type 0} → (A → Bool) → List A → Option A
behind_first test [] = None
behind_first test (x ∷ xs) = if test x then first_of xs else behind_first test xs

-- the one behind the last that passes a test
abbrev pub behind_last : {A : Type 0} → (A → Bool) → List A → Option A
behind_last test [] = None
behind_last test (x ∷ xs) = if test x && not (list_any test xs) then first_of xs else behind_last test xs

-- the one before the first that passes a test, in a list behind another one or none
abbrev pub before_first_from : {A : Type 0} → Option A → (A → Bool) → List A → Option A
before_first_from before test [] = None
before_first_from before test (x ∷ xs) = if test x then before else before_first_from (Some x) test xs

-- the one before the first that passes a test
abbrev pub before_first : {A : Type 0} → (A → Bool) → List A → Option A
before_first test xs = before_first_from None test xs

-- with one more directly before the first that passes a test, or last
abbrev pub put_before : {A : Type 0} → (A → Bool) → A → List A → List A
put_before test o [] = o ∷ []
put_before test o (x ∷ xs) = if test x then o ∷ x ∷ xs else x ∷ put_before test o xs

-- with one more directly behind the first that passes a test, or last
abbrev pub put_behind : {A : Type 0} → (A → Bool) → A → List A → List A
put_behind test o [] = o ∷ []
put_behind test o (x ∷ xs) = if test x then x ∷ o ∷ xs else x ∷ put_behind test o xs

-- without the first that passes a test
abbrev pub without_first : {A : Type 0} → (A → Bool) → List A → List A
without_first test [] = []
without_first test (x ∷ xs) = if test x then xs else x ∷ without_first test xs
