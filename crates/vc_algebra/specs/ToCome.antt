-- What an operation on two ordered dictionaries has still to answer: it itself, over what is left of each.
use Rattle.std.specs.Prelude.{◌≡◌, ℕ, Bool, true, false, List, [], ◌∷◌, Option, Some, None, IfSome, drop, if◌then◌else◌}
use Rattle.std.specs.declared.cmp.Ordering.{Ordering}
use Rattle.std.specs.declared.cmp.Ordering.TheVariants.{Less, Equal, Greater}
use Rattle.vc_base.specs.declared.addr.Addr.{Addr}
use Rattle.vc_dtdisc.specs.Finding.{first_of}
use Rattle.vc_dtdisc.specs.Rules.{Rules}
use Rattle.vc_paths.specs.Layers.{Layered}
use Rattle.vc_paths.specs.Links.{Links}
use Rattle.vc_paths.specs.Ordered.{IsStanding}
use Rattle.vc_paths.specs.Path.{Answers, IsPathBy, IsVisible, is_at, numbers_of, visible_of}
use Rattle.vc_paths.specs.Visible.{Seen}
use Rattle.vc_algebra.specs.Algebra.{by_op}
use Rattle.vc_algebra.specs.declared.merge.Merge.{Merge}
use Rattle.vc_algebra.specs.declared.op.Op.{Op}
use Rattle.vc_algebra.specs.declared.op.Op.TheVariants.{Union, Meet, Minus}
use Rattle.vc_algebra.specs.declared.turn.Turn.{Turn}
use Rattle.vc_algebra.specs.declared.turn.Turn.TheVariants.{Left, Both, Right}

-- the objects from the one at a place on
abbrev pub from_there : ℕ × ℕ → List (Seen ℕ) → List (Seen ℕ)
from_there p [] = []
from_there p (x ∷ xs) = if is_at p x then x ∷ xs else from_there p xs

-- the objects from a place on; none without a place
abbrev pub from_place : Option (ℕ × Addr) → List (Seen ℕ) → List (Seen ℕ)
from_place None xs = []
from_place (Some p) xs = from_there (numbers_of p) xs

-- what is left of the first dictionary, and of the second
abbrev pub left_of : Layered → Links → Merge → List (Seen ℕ)
left_of all links m = from_place m.left (visible_of all links m.d)

abbrev pub right_of : Layered → Links → Merge → List (Seen ℕ)
right_of all links m = from_place m.right (visible_of all links m.e)

-- the operation over what is left of the two
abbrev pub seen_to_come : Layered → Links → Merge → List (Seen ℕ)
seen_to_come all links m = by_op m.op (all.layer m.d).rules (left_of all links m) (right_of all links m)

-- two ordered dictionaries of one kind with their paths, and places that are seen through them
pub record IsMerge (all : Layered) (links : Links) (m : Merge) : Type 0 where
  pub first : IsPathBy true all links m.d
  pub second : IsPathBy true all links m.e
  pub kinds : (all.layer m.e).kind ≡ (all.layer m.d).kind
  pub left : IfSome m.left (λ p. IsVisible all links m.d (numbers_of p))
  pub right : IfSome m.right (λ p. IsVisible all links m.e (numbers_of p))

-- an operation on two dictionaries that has all still to come
pub record Begins (all : Layered) (links : Links) (d e : ℕ) (op : Op) (m : Merge) : Type 0 where
  pub merge : IsMerge all links m
  pub first : m.d ≡ d
  pub second : m.e ≡ e
  pub operation : m.op ≡ op
  pub whole : seen_to_come all links m ≡ by_op op (all.layer d).rules (visible_of all links d) (visible_of all links e)

-- an operation on the same two
pub record IsOfSame (old new : Merge) : Type 0 where
  pub first : new.d ≡ old.d
  pub second : new.e ≡ old.e
  pub op : new.op ≡ old.op

-- which of the next two objects is less, where there are two; one alone is
abbrev pub turn_by : Ordering → Turn
turn_by Less = Left
turn_by Equal = Both
turn_by Greater = Right

abbrev pub turn_of : Rules → Option (Seen ℕ) → Option (Seen ℕ) → Option Turn
turn_of rules None None = None
turn_of rules (Some x) None = Some Left
turn_of rules None (Some y) = Some Right
turn_of rules (Some x) (Some y) = Some (turn_by (rules.compare (rules.key x.bytes) (rules.key y.bytes)))

-- whether the next object of the first is passed, or else that of the second
abbrev pub takes_left : Op → Turn → Bool
takes_left op Left = true
takes_left Union Both = false
takes_left Meet Both = true
takes_left Minus Both = true
takes_left op Right = false

-- whether the one that is passed is answered
abbrev pub comes : Op → Turn → Bool
comes Union Left = true
comes Union Both = false
comes Union Right = true
comes Meet Left = false
comes Meet Both = true
comes Meet Right = false
comes Minus Left = true
comes Minus Both = false
comes Minus Right = false

-- the next object of one of the two is passed
pub record Passes (all : Layered) (links : Links) (left : Bool) (old new : Merge) (result : Option (ℕ × Addr)) : Type 0 where
  pub place : Answers result (first_of (if left then left_of all links old else right_of all links old))
  pub first : left_of all links new ≡ (if left then drop 1 (left_of all links old) else left_of all links old)
  pub second : right_of all links new ≡ (if left then right_of all links old else drop 1 (right_of all links old))
  pub stands : IsStanding all new.d result
  pub merge : IsMerge all links new
  pub same : IsOfSame old new
