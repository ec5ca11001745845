-- The names that an image's region and its dictionaries have in a script.
use Rattle.std.specs.Prelude.{ℕ, List, ◌++◌, codes, decimal}

-- the region
abbrev pub region_name : List ℕ
region_name = codes "r"

-- a dictionary by its number, from 1 on, in the image's order
abbrev pub dict_name : ℕ → List ℕ
dict_name n = codes "d" ++ decimal n
