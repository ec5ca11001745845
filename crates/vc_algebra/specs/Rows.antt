-- Worked lists for the rows of ranges and operations: objects by their names, at places from 1 on.
use Rattle.std.specs.Prelude.{ℕ, List, [], ◌∷◌, map, Option}
use Rattle.vc_paths.specs.Path.{place_of}
use Rattle.vc_paths.specs.Rows.{apple, by_whole, fruit, objects_at, pear}
use Rattle.vc_paths.specs.Visible.{Seen}
use Rattle.vc_algebra.specs.Algebra.{by_op, range}
use Rattle.vc_algebra.specs.declared.op.Op.{Op}
use Rattle.vc_objects.specs.Rows.{by_fold}

-- names
abbrev pub banana : List ℕ
banana = 98 ∷ 97 ∷ 110 ∷ 97 ∷ 110 ∷ 97 ∷ []

abbrev pub fig : List ℕ
fig = 102 ∷ 105 ∷ 103 ∷ []

abbrev pub plum : List ℕ
plum = 112 ∷ 108 ∷ 117 ∷ 109 ∷ []

-- a name of one letter
abbrev pub letter : ℕ → List ℕ
letter c = c ∷ []

-- apple, fig and pear in dictionary 0, and banana, fig and plum in dictionary 1
abbrev pub left_fruit : List (Seen ℕ)
left_fruit = objects_at 0 1 (apple ∷ fig ∷ pear ∷ [])

abbrev pub right_fruit : List (Seen ℕ)
right_fruit = objects_at 1 1 (banana ∷ fig ∷ plum ∷ [])

-- A, a and b in dictionary 0, and a and C in dictionary 1
abbrev pub left_letters : List (Seen ℕ)
left_letters = objects_at 0 1 (letter 65 ∷ letter 97 ∷ letter 98 ∷ [])

abbrev pub right_letters : List (Seen ℕ)
right_letters = objects_at 1 1 (letter 97 ∷ letter 67 ∷ [])

-- where what an operation makes of them stands: the numbers of dictionaries, and places
abbrev pub fruit_by : Op → List (ℕ × ℕ)
fruit_by op = map place_of (by_op op by_whole left_fruit right_fruit)

abbrev pub letters_by : Op → List (ℕ × ℕ)
letters_by op = map place_of (by_op op by_fold left_letters right_letters)

-- where what a range shows of the first fruit stands, and of a pear over an apple, a pear and a zebra
abbrev pub fruit_between : Option (List ℕ) → Option (List ℕ) → List (ℕ × ℕ)
fruit_between low high = map place_of (range by_whole low high left_fruit)

abbrev pub path_between : Option (List ℕ) → Option (List ℕ) → List (ℕ × ℕ)
path_between low high = map place_of (range by_whole low high fruit)
