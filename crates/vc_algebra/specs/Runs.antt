-- Calls one after another, and what their answers list.
use Rattle.std.specs.Prelude.{◌≡◌, ℕ, ◌<◌, Bool, true, false, List, [], ◌∷◌, map, length, take, drop, Option, Some, None, IfSome, is_none}
use Rattle.std.specs.List.{AllByRecursion, list_any}
use Rattle.vc_base.specs.declared.addr.Addr.{Addr}
use Rattle.vc_dtdisc.specs.Finding.{behind_last, first_of}
use Rattle.vc_paths.specs.Layers.{Layered, Same}
use Rattle.vc_paths.specs.Links.{Links}
use Rattle.vc_paths.specs.Ordered.{IsStanding}
use Rattle.vc_paths.specs.Path.{Answers, IsPathBy, IsVisible, is_at, numbers_of, place_of, visible_of}
use Rattle.vc_paths.specs.Visible.{Seen}
use Rattle.vc_algebra.specs.Algebra.{if_upto, range}
use Rattle.vc_algebra.specs.ToCome.{seen_to_come}
use Rattle.vc_algebra.specs.declared.merge.Merge.{Merge}

-- the first of a range is answered
abbrev pub IsRangeFirst : Layered → Links → ℕ → Option (List ℕ) → Option (List ℕ) → Option (ℕ × Addr) → Type 0
IsRangeFirst all links d low high answer = Answers answer (first_of (range (all.layer d).rules low high (visible_of all links d)))

-- the object behind a place is answered where it isn't above the high bound
abbrev pub IsRangeNext : Layered → Links → ℕ → ℕ × Addr → Option (List ℕ) → Option (ℕ × Addr) → Type 0
IsRangeNext all links d from high answer = Answers answer (if_upto (all.layer d).rules high (behind_last (is_at (numbers_of from)) (visible_of all links d)))

-- how far a range has come: the path is there, and a place is that of an object which stands there and is seen through it
pub record IsRangeAt (all : Layered) (links : Links) (d : ℕ) (place : Option (ℕ × Addr)) : Type 0 where
  pub path : IsPathBy true all links d
  pub seen : IfSome place (λ p. IsVisible all links d (numbers_of p))
  pub stands : IsStanding all d place

-- the first that is still to come of an operation is answered, and the rest is left
pub record IsMergeNext (links : Links) (old new : Layered) (m n : Merge) (answer : Option (ℕ × Addr)) : Type 0 where
  pub place : Answers answer (first_of (seen_to_come old links m))
  pub rest : seen_to_come new links n ≡ drop 1 (seen_to_come old links m)

-- answers of a range's further calls, each behind the place that the one before it answered
abbrev pub AreRangeNexts : {L : Type 0} → (L → Layered) → Links → ℕ → Option (List ℕ) → L → Option (ℕ × Addr) → List (Option (ℕ × Addr)) → Type 0
AreRangeNexts {L} layered links d high layers last [] = Unit {0}
AreRangeNexts {L} layered links d high layers last (answer ∷ answers) =
    (from : ℕ × Addr) × (last ≡ Some from) × IsRangeNext (layered layers) links d from high answer
    × (new : L) × Same (layered layers) (layered new) × AreRangeNexts layered links d high new answer answers

-- answers of an operation's calls, each from the state that the one before it left
abbrev pub AreMergeNexts : {L : Type 0} → (L → Layered) → Links → L → Merge → List (Option (ℕ × Addr)) → Type 0
AreMergeNexts {L} layered links layers m [] = Unit {0}
AreMergeNexts {L} layered links layers m (answer ∷ answers) =
    (new : L) × (n : Merge) × IsMergeNext links (layered layers) (layered new) m n answer
    × AreMergeNexts layered links new n answers

-- the answers up to the first none
abbrev pub until_none : List (Option (ℕ × Addr)) → List (ℕ × Addr)
until_none [] = []
until_none (None ∷ answers) = []
until_none (Some p ∷ answers) = p ∷ until_none answers

-- whether one of the answers is none
abbrev pub has_none : List (Option (ℕ × Addr)) → Bool
has_none answers = list_any is_none answers

-- the answers up to the first none are the places of a list's first objects, in order, and those of all of them where one is
-- none; it comes at the latest behind so many as the list has, and behind it all are none
pub record AreListed (xs : List (Seen ℕ)) (answers : List (Option (ℕ × Addr))) : Type 0 where
  pub front : map numbers_of (until_none answers) ≡ take (length (until_none answers)) (map place_of xs)
  pub whole : has_none answers ≡ true → map numbers_of (until_none answers) ≡ map place_of xs
  pub ends : length xs < length answers → has_none answers ≡ true
  pub behind : AllByRecursion (λ answer. answer ≡ None) (drop (length (until_none answers)) answers)

-- an object stands elsewhere than another one
abbrev pub IsElsewhere : Seen ℕ → Seen ℕ → Type 0
IsElsewhere x y = is_at (place_of x) y ≡ false

-- no two stand at one place
abbrev pub HaveOwn : List (Seen ℕ) → Type 0
HaveOwn [] = Unit {0}
HaveOwn (x ∷ xs) = AllByRecursion (IsElsewhere x) xs × HaveOwn xs
