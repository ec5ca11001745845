-- The links of view paths: which dictionary each one views, by numbers from 0 to 255.
use Rattle.std.specs.Prelude.{◌≡◌, ℕ, ◌<◌, List, [], ◌∷◌, length, Bool, false, Option, Some, None, nat_lt, slice_get, slice_set, zero, suc, replicate, ◌==◌}
use Rattle.std.specs.List.{list_any}

-- what each dictionary views, by its number, or none
abbrev pub Links : Type 0
Links = List (Option ℕ)

-- there are so many numbers
abbrev pub numbers : ℕ
numbers = 256

-- a path has at most so many dictionaries
abbrev pub path_limit : ℕ
path_limit = 16

-- no dictionary views another
abbrev pub no_links : Links
no_links = replicate numbers None

-- the link at a number, if there is such a number
abbrev pub link_at : Option (Option ℕ) → Option ℕ
link_at None = None
link_at (Some link) = link

-- what a dictionary views
abbrev pub below : Links → ℕ → Option ℕ
below links d = link_at (slice_get links d)

-- a path goes on behind a link, or ends
abbrev pub onward : (ℕ → List ℕ) → Option ℕ → List ℕ
onward path None = []
onward path (Some e) = path e

-- a dictionary, what it views, and so on: the first so many of them
abbrev pub path_of : ℕ → Links → ℕ → List ℕ
path_of zero links d = []
path_of (suc most) links d = d ∷ onward (path_of most links) (below links d)

-- the path of a dictionary
abbrev pub path : Links → ℕ → List ℕ
path links d = path_of path_limit links d

-- whether a dictionary's path is longer than a path may be
abbrev pub is_too_long : Links → ℕ → Bool
is_too_long links d = nat_lt path_limit (length (path_of (suc path_limit) links d))

-- the numbers from one on, so many of them
abbrev pub numbers_from : ℕ → ℕ → List ℕ
numbers_from first zero = []
numbers_from first (suc more) = first ∷ numbers_from (suc first) more

-- whether some path is too long
abbrev pub are_too_long : Links → Bool
are_too_long links = list_any (is_too_long links) (numbers_from 0 numbers)

-- whether a link is to this one, and whether some dictionary views it
abbrev pub is_link_to : ℕ → Option ℕ → Bool
is_link_to d None = false
is_link_to d (Some e) = e == d

abbrev pub is_viewed : Links → ℕ → Bool
is_viewed links d = list_any (is_link_to d) links

-- with another link of a dictionary
abbrev pub links_with : ℕ → Option ℕ → Links → Links
links_with d link links = slice_set links d link

-- links of view paths: a number each, to numbers, and no path is too long
pub record ArePaths (links : Links) : Type 0 where
  pub all : length links ≡ numbers
  pub within : (d e : ℕ) → below links d ≡ Some e → e < numbers
  pub short : (d : ℕ) → is_too_long links d ≡ false
