-- Worked links and layers for the rows of definitions.
use Rattle.std.specs.Prelude.{ℕ, zero, suc, List, [], ◌∷◌, map, Bool, Option, Some, ◌==◌, if◌then◌else◌}
use Rattle.std.specs.Option.{option_map}
use Rattle.vc_base.specs.declared.dict_method.DictMethod.{DictMethod}
use Rattle.vc_base.specs.declared.dict_method.DictMethod.TheVariants.{DtBag, DtOset}
use Rattle.vc_dtdisc.specs.Objects.{has_key}
use Rattle.vc_dtdisc.specs.Rules.{Rules}
use Rattle.vc_dtdisc.specs.Shapes.{rules_of}
use Rattle.vc_dtdisc.specs.declared.shape.Shape.TheVariants.{Field, Whole}
use Rattle.vc_paths.specs.Layers.{Layer, Layered}
use Rattle.vc_paths.specs.Links.{Links, links_with, no_links}
use Rattle.vc_paths.specs.Path.{place_of}
use Rattle.vc_paths.specs.Visible.{Seen, visible_objects}

-- dictionaries 0, 1 and so on, of which each but the last one views the next: so many links
abbrev pub chain : ℕ → Links
chain zero = no_links
chain (suc n) = links_with n (Some (suc n)) (chain n)

-- whole keys by their bytes
abbrev pub by_whole : Rules
by_whole = rules_of Whole

-- keys of the first four bytes
abbrev pub by_four : Rules
by_four = rules_of (Field 0 4)

-- an empty dictionary of a method and a kind
abbrev pub empty : DictMethod → ℕ → Layer
empty method kind = record { method = method; kind = kind; rules = by_whole; objects = [] }

-- each number is a bag of kind 1
abbrev pub bags_of_kind : Layered
bags_of_kind = record { Has = λ d. Unit {0}; layer = λ d. empty DtBag 1 }

-- each is, but 0 is an ordered set
abbrev pub other_method : Layered
other_method = record { Has = λ d. Unit {0}; layer = λ d. if d == 0 then empty DtOset 1 else empty DtBag 1 }

-- each is, but 0 is of kind 2
abbrev pub other_kind : Layered
other_kind = record { Has = λ d. Unit {0}; layer = λ d. if d == 0 then empty DtBag 2 else empty DtBag 1 }

-- objects of a dictionary, at places from one on
abbrev pub objects_at : ℕ → ℕ → List (List ℕ) → List (Seen ℕ)
objects_at d at [] = []
objects_at d at (x ∷ xs) = record { dict = d; at = at; bytes = x } ∷ objects_at d (suc at) xs

-- the layers of a path of dictionaries from a number on, each with objects at places 1, 2 and so on
abbrev pub layers_from : ℕ → List (List (List ℕ)) → List (List (Seen ℕ))
layers_from d [] = []
layers_from d (layer ∷ lower) = objects_at d 1 layer ∷ layers_from (suc d) lower

-- what is seen through dictionary 0
abbrev pub objects_through : DictMethod → Rules → List (List (List ℕ)) → List (Seen ℕ)
objects_through method rules layers = visible_objects method rules (layers_from 0 layers)

-- where it stands: the numbers of dictionaries, and places
abbrev pub seen_at : DictMethod → Rules → List (List (List ℕ)) → List (ℕ × ℕ)
seen_at method rules layers = map place_of (objects_through method rules layers)

-- where one stands
abbrev pub place_seen : Option (Seen ℕ) → Option (ℕ × ℕ)
place_seen o = option_map place_of o

-- objects, by their names
abbrev pub x : List ℕ
x = 120 ∷ []

abbrev pub y : List ℕ
y = 121 ∷ []

abbrev pub apple : List ℕ
apple = 97 ∷ 112 ∷ 112 ∷ 108 ∷ 101 ∷ []

abbrev pub pear : List ℕ
pear = 112 ∷ 101 ∷ 97 ∷ 114 ∷ []

abbrev pub quince : List ℕ
quince = 113 ∷ 117 ∷ 105 ∷ 110 ∷ 99 ∷ 101 ∷ []

abbrev pub zebra : List ℕ
zebra = 122 ∷ 101 ∷ 98 ∷ 114 ∷ 97 ∷ []

abbrev pub key1_up : List ℕ
key1_up = 107 ∷ 101 ∷ 121 ∷ 49 ∷ 45 ∷ 117 ∷ 112 ∷ []

abbrev pub key1_low : List ℕ
key1_low = 107 ∷ 101 ∷ 121 ∷ 49 ∷ 45 ∷ 108 ∷ 111 ∷ 119 ∷ []

abbrev pub key2 : List ℕ
key2 = 107 ∷ 101 ∷ 121 ∷ 50 ∷ []

-- fruit over an ordered set of three, and whether one of them has a key
abbrev pub fruit : List (Seen ℕ)
fruit = objects_through DtOset by_whole ((pear ∷ []) ∷ (apple ∷ pear ∷ zebra ∷ []) ∷ [])

abbrev pub is_named : List ℕ → Seen ℕ → Bool
is_named key o = has_key by_whole key o.bytes
