-- What each layer of a path shows where the method is not ordered, and how far a walk over layers or over objects is.
use Rattle.std.specs.Prelude.{◌≡◌, ℕ, ◌<◌, Bool, not, List, [], ◌∷◌, map, Option, Some, None, IsSome, ◌==◌, if◌then◌else◌}
use Rattle.std.specs.List.{AllByRecursion, filter, list_any}
use Rattle.vc_dtdisc.specs.Objects.{Object, is_match}
use Rattle.vc_paths.specs.Layers.{Layered, bytes_there}
use Rattle.vc_paths.specs.Links.{Links, is_link_to, numbers, onward, path}
use Rattle.vc_paths.specs.Path.{IsAlike}

-- the numbers on the path from a link on
unfoldable pub down : Links → Option ℕ → List ℕ
down links at = onward (path links) at

-- numbers before the one that a link leads to, or all without it
abbrev pub above : Option ℕ → List ℕ → List ℕ
above end [] = []
above end (x ∷ xs) = if is_link_to x end then [] else x ∷ above end xs

-- whether a dictionary has a match of an object, by the rules of d
abbrev pub has_match : Layered → ℕ → List ℕ → ℕ → Bool
has_match all d bytes u = list_any (λ o. is_match (all.layer d).rules bytes o.bytes) (all.layer u).objects

-- whether the layers above e on the path of d hide an object of e
unfoldable pub is_covered : Layered → Links → ℕ → ℕ → List ℕ → Bool
is_covered all links d e bytes = list_any (has_match all d bytes) (above (Some e) (down links (Some d)))

-- those of some objects of e that they don't hide
abbrev pub unhidden_objects : Layered → Links → ℕ → ℕ → List Object → List Object
unhidden_objects all links d e objects = filter (λ o. not (is_covered all links d e o.bytes)) objects

-- where objects of a dictionary stand
abbrev pub places : ℕ → List Object → List (ℕ × ℕ)
places e objects = map (λ o. (e, o.at)) objects

-- where the objects of e stand that are seen through d
abbrev pub shown_in : Layered → Links → ℕ → ℕ → List (ℕ × ℕ)
shown_in all links d e = places e (unhidden_objects all links d e (all.layer e).objects)

-- the objects from the one at an address on
abbrev pub from_at : ℕ → List Object → List Object
from_at at [] = []
from_at at (x ∷ xs) = if x.at == at then x ∷ xs else from_at at xs

-- the objects up to the one at an address
abbrev pub up_to : ℕ → List Object → List Object
up_to at [] = []
up_to at (x ∷ xs) = if x.at == at then x ∷ [] else x ∷ up_to at xs

-- the objects from a place on; none without a place
abbrev pub objects_from : Option ℕ → List Object → List Object
objects_from None objects = []
objects_from (Some at) objects = from_at at objects

-- the objects up to a place; none without a place
abbrev pub objects_up_to : Option ℕ → List Object → List Object
objects_up_to None objects = []
objects_up_to (Some at) objects = up_to at objects

-- a place is that of an object, or there is none
abbrev pub IsPlaceIn : List Object → Option ℕ → Type 0
IsPlaceIn objects at = (a : ℕ) → at ≡ Some a → IsSome (bytes_there a objects)

-- a link on the path of d: the dictionaries from there on are like d
pub record IsOnPath (all : Layered) (links : Links) (d : ℕ) (at : Option ℕ) : Type 0 where
  pub number : (e : ℕ) → at ≡ Some e → e < numbers
  pub alike : AllByRecursion (IsAlike all d) (down links at)

-- the path of d from its first on, and a dictionary like d
pub record IsLayerOn (all : Layered) (links : Links) (d e : ℕ) : Type 0 where
  pub path : IsOnPath all links d (Some d)
  pub other : IsAlike all d e
