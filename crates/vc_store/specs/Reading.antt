-- What a reader of the contracts needs first: what a dictionary shows, and how its objects change.
use Rattle.std.specs.Prelude.{◌≡◌, ℕ, suc, ◌+◌, ◌-◌, Bool, true, false, List, [], ◌∷◌, ◌++◌, Option, Some, None, Result, IfOk, OnErr, OnOk, is_some, unwrap_or, length, take, drop, nat_le, nat_lt, slice_get, ◌==◌, ◌&&◌, if◌then◌else◌}
use Rattle.vc_base.specs.declared.dict_method.DictMethod.{DictMethod}
use Rattle.vc_base.specs.declared.dict_method.DictMethod.TheVariants.{DtSet, DtBag, DtOset, DtObag, DtList, DtStack, DtQueue}
use Rattle.std.specs.List.{find}
use Rattle.std.specs.Ordering.{is_ge}
use Rattle.vc_base.specs.Methods.{is_ordered, is_set}
use Rattle.vc_dtdisc.specs.Finding.{without_first}
use Rattle.vc_dtdisc.specs.Objects.{first_with, has_key, is_greater, placed_among}
use Rattle.vc_dtdisc.specs.Rules.{Gone, Rules}
use Rattle.vc_objects.specs.Leaves.{told_if}
use Rattle.vc_store.specs.declared.put.Put.{Put}
use Rattle.vc_store.specs.declared.put.Put.TheVariants as put

-- its method, its objects in walk order, and the place of the current one among them, counted from 0, or none
pub record Contents : Type 0 where
  pub method : DictMethod
  pub objects : List (List ℕ)
  pub place : Option ℕ

-- that of a method, with no object
abbrev pub no_objects : DictMethod → Contents
no_objects method = record { method = method; objects = []; place = None }

-- the object at a place, and the current one
abbrev pub object_at_index : Option ℕ → List (List ℕ) → Option (List ℕ)
object_at_index None objects = None
object_at_index (Some place) objects = slice_get objects place

abbrev pub current : Contents → Option (List ℕ)
current d = object_at_index d.place d.objects

-- the first place among so many objects, the last, the one behind another, and the one before it
abbrev pub first_place : ℕ → Option ℕ
first_place count = if count == 0 then None else Some 0

abbrev pub last_index : ℕ → Option ℕ
last_index count = if count == 0 then None else Some (count - 1)

abbrev pub next_place : ℕ → Option ℕ → Option ℕ
next_place count None = None
next_place count (Some place) = if nat_lt (place + 1) count then Some (place + 1) else None

abbrev pub previous_place : Option ℕ → Option ℕ
previous_place None = None
previous_place (Some place) = if place == 0 then None else Some (place - 1)

-- with another one current
abbrev pub with_place : Option ℕ → Contents → Contents
with_place place d = record { method = d.method; objects = d.objects; place = place }

-- the object at a place is current now, none where there is no place, and all else stays; whether there is one is answered
pub record GoesTo (place : Option ℕ) (answer : Bool) (old new : Contents) : Type 0 where
  pub moved : new ≡ with_place place old
  pub there : answer ≡ is_some place

-- an object has 1 to 1,024 bytes
abbrev pub is_object : List ℕ → Bool
is_object object = nat_le 1 (length object) && nat_le (length object) 1024

-- the first object that has a key
abbrev pub found : Rules → List ℕ → List (List ℕ) → Option (List ℕ)
found rules key objects = first_with (λ object. object) rules key objects

-- whether an object is sought from a key on: by an ordered method, where its key isn't less
abbrev pub is_sought_from : DictMethod → Rules → List ℕ → List ℕ → Bool
is_sought_from method rules key object = is_ordered method && is_ge (rules.compare (rules.key object) key)

-- the first object that passes a test is current now, where there is one; else nothing changed
pub record Sought (test : List ℕ → Bool) (answer : Bool) (old new : Contents) : Type 0 where
  pub there : answer ≡ is_some (find test old.objects)
  pub current : answer ≡ true → current new ≡ find test old.objects
  pub same : new ≡ with_place new.place old
  pub missed : answer ≡ false → new ≡ old

-- objects without the first that has a key
abbrev pub without_key : Rules → List ℕ → List (List ℕ) → List (List ℕ)
without_key rules key objects = without_first (has_key rules key) objects

-- objects with one more directly before a place, or first where there is none
abbrev pub put_before_place : Option ℕ → List ℕ → List (List ℕ) → List (List ℕ)
put_before_place None object objects = object ∷ objects
put_before_place (Some place) object objects = take place objects ++ object ∷ drop place objects

-- objects with one more where a method puts it: before the first that is greater, in a list before the current one, in a stack first, and else last
abbrev pub put_by_method : DictMethod → Rules → Option ℕ → List ℕ → List (List ℕ) → List (List ℕ)
put_by_method DtSet rules place object objects = objects ++ object ∷ []
put_by_method DtBag rules place object objects = objects ++ object ∷ []
put_by_method DtOset rules place object objects = placed_among (λ o. o) rules object objects
put_by_method DtObag rules place object objects = placed_among (λ o. o) rules object objects
put_by_method DtList rules place object objects = put_before_place place object objects
put_by_method DtStack rules place object objects = object ∷ objects
put_by_method DtQueue rules place object objects = objects ++ object ∷ []

-- how many stand before the first that passes a test
abbrev pub count_before : {A : Type 0} → (A → Bool) → List A → ℕ
count_before test [] = 0
count_before test (x ∷ xs) = if test x then 0 else suc (count_before test xs)

-- the place where that one stands then
abbrev pub put_place : DictMethod → Rules → Option ℕ → List ℕ → List (List ℕ) → ℕ
put_place DtSet rules place object objects = length objects
put_place DtBag rules place object objects = length objects
put_place DtOset rules place object objects = count_before (λ o. is_greater rules o object) objects
put_place DtObag rules place object objects = count_before (λ o. is_greater rules o object) objects
put_place DtList rules place object objects = unwrap_or place 0
put_place DtStack rules place object objects = 0
put_place DtQueue rules place object objects = length objects

-- whether one of a set's objects has the key of another one
abbrev pub has_same_key : Rules → List ℕ → Contents → Bool
has_same_key rules object d = is_set d.method && is_some (found rules (rules.key object) d.objects)

-- an object is put where it is one and none of a set's matches it, or it isn't for want of room; else nothing changes
abbrev pub AfterPut : Put → Rules → List ℕ → Contents → List (List ℕ) → Type 0
AfterPut put.WrongSize rules object d objects = (is_object object ≡ false) × (objects ≡ d.objects)
AfterPut put.Old rules object d objects =
    (is_object object ≡ true) × (has_same_key rules object d ≡ true) × (objects ≡ d.objects)
AfterPut put.New rules object d objects =
    (is_object object ≡ true) × (has_same_key rules object d ≡ false)
    × (objects ≡ put_by_method d.method rules d.place object d.objects)
AfterPut no_room rules object d objects =
    (is_object object ≡ true) × (has_same_key rules object d ≡ false) × (objects ≡ d.objects)

-- the current place once an object was to be put: its own where it is new, and else the one before
abbrev pub place_after : Put → Rules → List ℕ → Contents → Option ℕ
place_after put.New rules object d = Some (put_place d.method rules d.place object d.objects)
place_after other rules object d = d.place

-- the place of the first object that has a key; so many as there are where none has
abbrev pub found_place : Rules → List ℕ → List (List ℕ) → ℕ
found_place rules key objects = count_before (has_key rules key) objects

-- the current place when the object at another place went and so many are left: of the same object, or of the one behind it where it was that one
abbrev pub place_without : ℕ → ℕ → Option ℕ → Option ℕ
place_without gone left None = None
place_without gone left (Some place) =
    if nat_lt gone place then Some (place - 1) else if nat_lt place left then Some place else None

-- an object went: the first that has a key, where one has it
pub record LosesKey (rules : Rules) (key : List ℕ) (old new : Contents) : Type 0 where
  pub objects : new.objects ≡ without_key rules key old.objects
  pub place : new.place ≡ place_without (found_place rules key old.objects) (length new.objects) old.place

-- the first object that has a key is taken out where one has it, which is answered, or there is no memory for its bytes
pub record Removes {E : Type 0} (rules : Rules) (key : List ℕ) (result : Result Bool E) (out : List ℕ) (old new : Contents) (told told' : Gone) : Type 0 where
  -- its bytes come
  pub bytes : IfOk result (λ gone. (if gone then Some out else None) ≡ found rules key old.objects)
  pub lacks : OnOk result (LosesKey rules key old new)
  -- its kind is told of it
  pub tells : OnOk result (told' ≡ told_if true (found rules key old.objects) told)
  -- without memory nothing changes, and no byte comes
  pub same : OnErr result ((new ≡ old) × (told' ≡ told))
  pub emptied : OnErr result (out ≡ [])
