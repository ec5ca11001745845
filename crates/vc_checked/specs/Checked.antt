-- What the calls leave of a store.
use Rattle.std.specs.Prelude.{◌≡◌, ℕ, ◌+◌, ◌⊎◌, List, true, Option, Some, None}
use Rattle.vc_model.specs.Discipline.{Discipline}
use Rattle.vc_base.specs.declared.dict_method.DictMethod.{DictMethod}
use Rattle.vc_dtdisc.specs.Objects.{has_key}
use Rattle.vc_dtdisc.specs.Rules.{Gone, Rules}
use Rattle.vc_dtdisc.specs.Shapes.{BuiltInKind, rules_of}
use Rattle.vc_dtdisc.specs.declared.shape.Shape.{Shape}
use Rattle.vc_objects.specs.Leaves.{told_each, told_if}
use Rattle.vc_objects.specs.Promises.{opening_in}
use Rattle.vc_seg.specs.Answer.{IsRefusal}
use Rattle.vc_seg.specs.declared.fault.RegionFault.{RegionFault}
use Rattle.vc_store.specs.Reading.{AfterPut, Contents, LosesKey, found, no_objects, place_after}
use Rattle.vc_store.specs.declared.put.Put.{Put}
use Rattle.vc_store.specs.Stores.Stores.{AllStay, OthersStay, TriesAt, best_of, contents, gone_at, kind_at, numbers_of, rules_at, shown}
use Rattle.vc_store.specs.declared.stores.store.Store.{Store}
use Rattle.vc_checked.specs.Answers.{answer_of_put, answer_to_fault}
use Rattle.vc_checked.specs.Shown.{Room, SeeksFirst}
use Rattle.vc_checked.specs.declared.answer.Answer.{Answer}
use Rattle.vc_checked.specs.declared.answer.Answer.TheVariants.{Done, OutOfMemory, NoMethod, NoKind}

module _ {D : Type 0} {I : Type 0} {V : I → Type 0} (meaning : (x : I) × V x → Discipline)
    (rules_by : D → Rules) where
  -- all objects went, and their kind was told of each
  pub record Empties (gone_by : D → Gone) (n : ℕ) (old new : Store D I V) (answer : Answer) : Type 0 where
    pub answered : answer ≡ Done
    pub empty : contents new n ≡ no_objects (contents old n).method
    pub told : gone_at gone_by new n ≡ told_each (contents old n).objects (gone_at gone_by old n)

  -- an object was put, or wasn't
  pub record Inserts (n : ℕ) (object : List ℕ) (old new : Store D I V) (answer : Answer) : Type 0 where
    pub put : Put
    pub answered : answer ≡ answer_of_put put
    pub objects : AfterPut put (rules_at rules_by old n) object (contents old n) (contents new n).objects
    pub place : (contents new n).place ≡ place_after put (rules_at rules_by old n) object (contents old n)
    pub tried : TriesAt meaning rules_by put n object old new

-- the first object that has a key went and its kind was told of it, unless memory ran out, and then nothing changed
abbrev pub TakesByKey : Rules → List ℕ → Answer → Contents → Contents → Gone → Gone → Type 0
TakesByKey rules key Done old new gone gone' =
    LosesKey rules key old new × (gone' ≡ told_if true (found rules key old.objects) gone)
TakesByKey rules key answer old new gone gone' = (answer ≡ OutOfMemory) × (new ≡ old) × (gone' ≡ gone)

-- so where all of it was shown; nothing goes else
abbrev pub Goes : Rules → List ℕ → Answer → Answer → Contents → Contents → Gone → Gone → Type 0
Goes rules key Done answer looked new gone gone' = TakesByKey rules key answer looked new gone gone'
Goes rules key shown answer looked new gone gone' = (answer ≡ shown) × (new ≡ looked) × (gone' ≡ gone)

-- the first object that has a key is current and is shown, where there is one, and then it goes
pub record Deletes (rules : Rules) (key : List ℕ) (old new : Contents) (gone gone' : Gone) (r : Room) (answer : Answer) : Type 0 where
  pub looked : Contents
  pub shown : Answer
  pub seeks : SeeksFirst (has_key rules key) old looked r shown
  pub goes : Goes rules key shown answer looked new gone gone'

-- the rules of a kind of one of the shapes, and what it was told of
abbrev pub rules_by : BuiltInKind → Rules
rules_by kind = rules_of kind.shape

-- a kind of a shape that was told of nothing
abbrev pub IsNewKind : Shape → Option BuiltInKind → Type 0
IsNewKind shape None = ⊥
IsNewKind shape (Some kind) = (kind.shape ≡ shape) × (kind.gone ≡ record { objects = 0; bytes = 0 })

module _ {I : Type 0} {V : I → Type 0} (meaning : (x : I) × V x → Discipline) where
  -- a dictionary of no objects has the next number
  pub record IsOpened (method : DictMethod) (shape : Shape) (number : ℕ) (old new : Store BuiltInKind I V) (answer : Answer) : Type 0 where
    pub answered : answer ≡ Done
    pub next : number ≡ numbers_of old
    pub numbers : numbers_of new ≡ numbers_of old + 1
    pub empty : shown new number ≡ Some (no_objects method)
    pub kind : IsNewKind shape (kind_at new number)
    pub others : OthersStay old new number

  -- there was no room for its table, or no memory, and nothing changed
  pub record IsFull (method : DictMethod) (number number' : ℕ) (old new : Store BuiltInKind I V) (answer : Answer) : Type 0 where
    pub why : RegionFault
    pub answered : answer ≡ answer_to_fault why
    pub refused : IsRefusal (opening_in meaning (best_of old) method) why
    pub same : AllStay old new
    pub untold : number' ≡ number

  -- what becomes of a dictionary that is to be opened by a method and of a shape, where there are such
  abbrev pub Opens : Option DictMethod → Option Shape → ℕ → ℕ → Store BuiltInKind I V → Store BuiltInKind I V → Answer → Type 0
  Opens None shape number number' old new answer = (answer ≡ NoMethod) × (number' ≡ number) × (new ≡ old)
  Opens (Some method) None number number' old new answer = (answer ≡ NoKind) × (number' ≡ number) × (new ≡ old)
  Opens (Some method) (Some shape) number number' old new answer =
      IsOpened method shape number' old new answer ⊎ IsFull method number number' old new answer
