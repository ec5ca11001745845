-- Which way a walk goes: onward from the first, or back from the last.
use Rattle.std.specs.Prelude.{ℕ, Bool, true, false, List, Option}
use Rattle.vc_dtdisc.specs.Finding.{before_first, behind_last, first_of, last_of}
use Rattle.vc_dtdisc.specs.Objects.{Object}
use Rattle.vc_dtdisc.specs.Rules.{Rules}
use Rattle.vc_paths.specs.Layers.{place_greater, place_in, place_less, stands_at}
use Rattle.vc_paths.specs.Shown.{objects_from, objects_up_to}

-- what a walk comes to first
abbrev pub end_of : {A : Type 0} → Bool → List A → Option A
end_of false xs = first_of xs
end_of true xs = last_of xs

-- what it comes to next, from those that pass a test on
abbrev pub neighbour : {A : Type 0} → Bool → (A → Bool) → List A → Option A
neighbour false test xs = behind_last test xs
neighbour true test xs = before_first test xs

-- the place of the neighbour of the object at an address
abbrev pub place_beside : Bool → ℕ → List Object → Option ℕ
place_beside back at objects = place_in (neighbour back (stands_at at) objects)

-- the place of what it comes to first past an object: of the first that is greater, or of the last that is less
abbrev pub place_past : Bool → Rules → List ℕ → List Object → Option ℕ
place_past false rules bytes objects = place_greater rules bytes objects
place_past true rules bytes objects = place_less rules bytes objects

-- the objects that a walk has yet to come to, with the one at the place where it is; none without a place
abbrev pub objects_left : Bool → Option ℕ → List Object → List Object
objects_left false at objects = objects_from at objects
objects_left true at objects = objects_up_to at objects
