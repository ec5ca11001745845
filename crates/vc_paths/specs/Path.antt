-- The paths of dictionaries that layers hand in, and what is seen through them.
use Rattle.std.specs.Prelude.{◌≡◌, ℕ, ◌<◌, Bool, true, List, map, Option, ◌==◌, ◌&&◌}
use Rattle.std.specs.List.{AllByRecursion, list_any}
use Rattle.std.specs.Option.{option_map}
use Rattle.vc_base.specs.declared.addr.Addr.{Addr}
use Rattle.vc_base.specs.Methods.{is_ordered}
use Rattle.vc_dtdisc.specs.Objects.{Object}
use Rattle.vc_paths.specs.Layers.{Layered}
use Rattle.vc_paths.specs.Links.{Links, numbers, path}
use Rattle.vc_paths.specs.Visible.{Seen, visible_objects}

-- a dictionary of one method and one kind with another
pub record IsAlike (all : Layered) (d e : ℕ) : Type 0 where
  pub there : all.Has e
  pub method : (all.layer e).method ≡ (all.layer d).method
  pub kind : (all.layer e).kind ≡ (all.layer d).kind

-- each number on a path is a dictionary, of one method and one kind with the first
pub record IsPath (all : Layered) (links : Links) (d : ℕ) : Type 0 where
  pub number : d < numbers
  pub alike : AllByRecursion (IsAlike all d) (path links d)

-- the path of one whose method is ordered, or isn't
pub record IsPathBy (ordered : Bool) (all : Layered) (links : Links) (d : ℕ) : Type 0 where
  pub path : IsPath all links d
  pub method : is_ordered (all.layer d).method ≡ ordered

-- an object of a dictionary as it is seen on a path
abbrev pub seen_in : ℕ → Object → Seen ℕ
seen_in d o = record { dict = d; at = o.at; bytes = o.bytes }

abbrev pub objects_of : Layered → ℕ → List (Seen ℕ)
objects_of all d = map (seen_in d) (all.layer d).objects

-- what is seen through a dictionary
abbrev pub visible_of : Layered → Links → ℕ → List (Seen ℕ)
visible_of all links d = visible_objects (all.layer d).method (all.layer d).rules (map (objects_of all) (path links d))

-- where an object stands: the number of its dictionary and the address of its holder
abbrev pub place_of : Seen ℕ → ℕ × ℕ
place_of o = (o.dict, o.at)

-- a place that was answered, as numbers
abbrev pub numbers_of : ℕ × Addr → ℕ × ℕ
numbers_of p = (p.0, p.1.0)

-- a place is answered: that of an object, or none
abbrev pub Answers : Option (ℕ × Addr) → Option (Seen ℕ) → Type 0
Answers result o = option_map numbers_of result ≡ option_map place_of o

-- whether a place is this one
abbrev pub is_place : ℕ × ℕ → ℕ × ℕ → Bool
is_place p q = (q.0 == p.0) && (q.1 == p.1)

-- whether an object stands at a place
abbrev pub is_at : ℕ × ℕ → Seen ℕ → Bool
is_at p o = is_place p (place_of o)

-- an object is seen at a place
abbrev pub IsVisible : Layered → Links → ℕ → ℕ × ℕ → Type 0
IsVisible all links d p = list_any (is_at p) (visible_of all links d) ≡ true
