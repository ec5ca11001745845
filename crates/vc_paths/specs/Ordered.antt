-- What a search through ordered layers compares: objects at places, past another one where there is one.
use Rattle.std.specs.Prelude.{◌≡◌, ℕ, Bool, true, false, not, Option, Some, None, IsSome, if◌then◌else◌}
use Rattle.std.specs.List.{filter}
use Rattle.std.specs.Option.{option_map}
use Rattle.vc_base.specs.declared.addr.Addr.{Addr}
use Rattle.vc_base.specs.Methods.{is_ordered}
use Rattle.vc_dtdisc.specs.Objects.{is_greater, is_match}
use Rattle.vc_dtdisc.specs.Rules.{Rules}
use Rattle.vc_paths.specs.Direction.{end_of, neighbour}
use Rattle.vc_paths.specs.Layers.{Layered, bytes_there, stands_at}
use Rattle.vc_paths.specs.Path.{objects_of, seen_in}
use Rattle.vc_paths.specs.Visible.{Seen}

-- the object at a place
abbrev pub object_there : Layered → ℕ × Addr → Option (Seen ℕ)
object_there all p =
    option_map (λ bytes. record { dict = p.0; at = p.1.0; bytes = bytes }) (bytes_there p.1.0 (all.layer p.0).objects)

-- the object at a place that there may be
abbrev pub object_at : Layered → Option (ℕ × Addr) → Option (Seen ℕ)
object_at all None = None
object_at all (Some p) = object_there all p

-- a place in a dictionary, where there is one
abbrev pub place_in_dict : ℕ → Option Addr → Option (ℕ × Addr)
place_in_dict d None = None
place_in_dict d (Some at) = Some (d, at)

-- an object stands at a place, in a dictionary of one kind with another
pub record StandsInLike (all : Layered) (d : ℕ) (p : ℕ × Addr) : Type 0 where
  pub there : all.Has p.0
  pub kind : (all.layer p.0).kind ≡ (all.layer d).kind
  pub object : IsSome (bytes_there p.1.0 (all.layer p.0).objects)

-- an object stands at a place that there may be
abbrev pub IsStanding : Layered → ℕ → Option (ℕ × Addr) → Type 0
IsStanding all d None = Unit {0}
IsStanding all d (Some p) = StandsInLike all d p

-- an ordered dictionary, and a place that there may be of an object to compare with
pub record CanSeek (all : Layered) (e : ℕ) (other : Option (ℕ × Addr)) : Type 0 where
  pub dict : all.Has e
  pub method : is_ordered (all.layer e).method ≡ true
  pub compared : IsStanding all e other

-- whether an object matches another one
abbrev pub is_level : Rules → Seen ℕ → Seen ℕ → Bool
is_level rules x y = is_match rules x.bytes y.bytes

-- whether an object lies past another one, where there is one: it is greater, or on the way back less
abbrev pub is_past : Bool → Rules → Option (Seen ℕ) → Seen ℕ → Bool
is_past back rules None y = true
is_past back rules (Some x) y = if back then is_greater rules x.bytes y.bytes else is_greater rules y.bytes x.bytes

-- whether it is less, and whether it is greater
abbrev pub is_before : Rules → Option (Seen ℕ) → Seen ℕ → Bool
is_before rules x y = is_past true rules x y

abbrev pub is_behind : Rules → Option (Seen ℕ) → Seen ℕ → Bool
is_behind rules x y = is_past false rules x y

-- of two the one that a walk comes to first: the lesser, or on the way back the greater; the first where they match
abbrev pub nearer : Bool → Rules → Option (Seen ℕ) → Option (Seen ℕ) → Option (Seen ℕ)
nearer back rules best None = best
nearer back rules best (Some y) = if is_past (not back) rules best y then Some y else best

-- an object where it matches another one, and none where one of them is missing
abbrev pub if_level : Rules → Option (Seen ℕ) → Option (Seen ℕ) → Option (Seen ℕ)
if_level rules None y = None
if_level rules (Some x) None = None
if_level rules (Some x) (Some y) = if is_level rules x y then Some y else None

-- of the objects of a dictionary that pass a test, the place holds the one to which a walk comes first
pub record IsEnd (back : Bool) (all : Layered) (e : ℕ) (test : Seen ℕ → Bool) (at : Option Addr) : Type 0 where
  pub stands : IsStanding all e (place_in_dict e at)
  pub object : object_at all (place_in_dict e at) ≡ end_of back (filter test (objects_of all e))

-- where an object is compared with, its neighbour in its own layer doesn't match it
abbrev pub IsApart : Bool → Layered → Option (ℕ × Addr) → Type 0
IsApart back all None = Unit {0}
IsApart back all (Some p) =
    if_level (all.layer p.0).rules (object_there all p) (option_map (seen_in p.0) (neighbour back (stands_at p.1.0) (all.layer p.0).objects)) ≡ None
