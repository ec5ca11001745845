-- What a store shows of its dictionaries, each by its number, and what holds of it from its opening to its close.
use Rattle.std.specs.Prelude.{◌≡◌, ◌≢◌, ℕ, ◌<◌, List, Option, Some, None, IsSome, length, option_map, slice_get}
use Rattle.std.specs.Vec.{vec_capacity}
use Rattle.std.specs.declared.alloc.Global.{Global}
use Rattle.std.specs.declared.dyn_box.DynBox.{DynBox}
use Rattle.vc_model.specs.Discipline.{Discipline, HasOut}
use Rattle.vc_base.specs.declared.dict_method.DictMethod.TheVariants.{DtList}
use Rattle.vc_dtdisc.specs.Rules.{Gone, Rules}
use Rattle.vc_dict.specs.declared.dict.Dict.{Dict}
use Rattle.vc_best.specs.Cells.{cells_in}
use Rattle.vc_best.specs.Parts.{disc_in, segments_in}
use Rattle.vc_best.specs.declared.best.Best.{Best}
use Rattle.vc_objects.specs.Leaves.{KeepsDisc, told_each}
use Rattle.vc_objects.specs.Parts.{IsWhole}
use Rattle.vc_store.specs.Contents.{contents_in}
use Rattle.vc_store.specs.Reading.{Contents, no_objects}
use Rattle.vc_store.specs.Tries.{IsTried, TriesToPut}
use Rattle.vc_store.specs.declared.put.Put.{Put}
use Rattle.vc_store.specs.declared.stores.store.Store.{Store}
use Rattle.vc_algebra.specs.InRegion.{ShareNoBlock, rules_or}

-- what there is, where there is something
abbrev pub joined : {A : Type 0} → Option (Option A) → Option A
joined None = None
joined (Some found) = found

-- what a dictionary shows, its kind's rules, and what its kind was told of; for no dictionary an empty list of whole keys
abbrev pub contents_or : Option Contents → Contents
contents_or None = no_objects DtList
contents_or (Some shown) = shown

abbrev pub gone_or : Option Gone → Gone
gone_or None = record { objects = 0; bytes = 0 }
gone_or (Some gone) = gone

module _ {D : Type 0} {I : Type 0} {V : I → Type 0} where
  -- its region, its dictionaries by number, none where one was shut, and their kinds
  abbrev pub best_of : Store D I V → Best I V
  best_of s = s.best

  abbrev pub dicts_of : Store D I V → List (Option Dict)
  dicts_of s = s.dicts.items

  abbrev pub kinds_of : Store D I V → List D
  kinds_of s = s.kinds.items

  -- how many numbers were handed out, from 0 on
  abbrev pub numbers_of : Store D I V → ℕ
  numbers_of s = length (dicts_of s)

  -- there is memory for one more of each
  pub record HasRoom (s : Store D I V) : Type 0 where
    pub dicts : numbers_of s < vec_capacity s.dicts
    pub kinds : length (kinds_of s) < vec_capacity s.kinds

  -- the dictionary of a number, where there is one, and the kind, which a number keeps when its dictionary is shut
  abbrev pub dict_at : Store D I V → ℕ → Option Dict
  dict_at s n = joined (slice_get (dicts_of s) n)

  abbrev pub kind_at : Store D I V → ℕ → Option D
  kind_at s n = slice_get (kinds_of s) n

  -- a number is that of a dictionary
  abbrev pub HasDict : Store D I V → ℕ → Type 0
  HasDict s n = IsSome (dict_at s n)

  -- what the dictionary of a number shows: its method, its objects, and the place of the current one
  abbrev pub shown : Store D I V → ℕ → Option Contents
  shown s n = option_map (λ d. contents_in d s.best) (dict_at s n)

  abbrev pub contents : Store D I V → ℕ → Contents
  contents s n = contents_or (shown s n)

  -- the rules of its kind, and what that was told of
  abbrev pub rules_at : (D → Rules) → Store D I V → ℕ → Rules
  rules_at rules_by s n = rules_or (option_map rules_by (kind_at s n))

  abbrev pub gone_at : (D → Gone) → Store D I V → ℕ → Gone
  gone_at gone_by s n = gone_or (option_map gone_by (kind_at s n))

  -- the discipline that lends its segments, what that means, and the segments
  abbrev pub lender : Store D I V → DynBox I Global V
  lender s = s.best.disc

  abbrev pub disc_of : Store D I V → ((x : I) × V x → Discipline) → Discipline
  disc_of s meaning = disc_in meaning s.best

  abbrev pub lent_to : Store D I V → List (ℕ × ℕ)
  lent_to s = segments_in s.best

  -- it is open over a discipline: each number has a kind, each dictionary stands for its objects by the rules of its kind, no block belongs to two of them, and its segments are the last that the discipline lent
  pub record IsOpen (rules_by : D → Rules) (s : Store D I V) (disc : Discipline) : Type 0 where
    pub kinds : length (kinds_of s) ≡ numbers_of s
    pub whole : (n : ℕ) (d : Dict) → dict_at s n ≡ Some d
        → IsWhole (rules_at rules_by s n) d (cells_in s.best)
    pub apart : (m n : ℕ) (d e : Dict) → m ≢ n → dict_at s m ≡ Some d → dict_at s n ≡ Some e
        → ShareNoBlock (cells_in s.best) d e
    pub lent : HasOut disc (segments_in s.best)

  -- it is open over its own discipline, and a number is that of one of its dictionaries
  pub record HasOpenDict (meaning : (x : I) × V x → Discipline) (rules_by : D → Rules)
      (s : Store D I V) (n : ℕ) : Type 0 where
    pub is_open : IsOpen rules_by s (disc_of s meaning)
    pub there : HasDict s n

  -- a call, or several, leave it open, and each dictionary a dictionary by the same rules and the same method; and all that its discipline had out besides its segments is out, by the same terms
  pub record StaysOpen (meaning : (x : I) × V x → Discipline) (rules_by : D → Rules)
      (old new : Store D I V) : Type 0 where
    pub is_open : IsOpen rules_by new (disc_of new meaning)
    pub there : (n : ℕ) → HasDict old n → HasDict new n
    pub rules : (n : ℕ) → HasDict old n → rules_at rules_by new n ≡ rules_at rules_by old n
    pub methods : (n : ℕ) → HasDict old n → (contents new n).method ≡ (contents old n).method
    pub lends : KeepsDisc (disc_of old meaning) (disc_of new meaning) (lent_to old) (lent_to new)

  -- every dictionary but that of a number stays: what it shows, and its kind with what that was told of
  pub record OthersStay (old new : Store D I V) (n : ℕ) : Type 0 where
    pub shown : (m : ℕ) → m ≢ n → shown new m ≡ shown old m
    pub kinds : (m : ℕ) → m ≢ n → kind_at new m ≡ kind_at old m

  -- a call changes at most what the dictionary of a number shows, and what its kind was told of
  pub record ChangesOne (meaning : (x : I) × V x → Discipline) (rules_by : D → Rules)
      (n : ℕ) (old new : Store D I V) : Type 0 where
    -- no number is handed out
    pub numbers : numbers_of new ≡ numbers_of old
    pub others : OthersStay old new n
    pub stays : StaysOpen meaning rules_by old new

  -- at most what it shows: the kinds stay, and are told of nothing
  pub record ChangesObjects (meaning : (x : I) × V x → Discipline) (rules_by : D → Rules)
      (n : ℕ) (old new : Store D I V) : Type 0 where
    pub kinds : kinds_of new ≡ kinds_of old
    pub beside : ChangesOne meaning rules_by n old new

  -- every dictionary stays, and no number is handed out, as where a call is refused
  pub record AllStay (old new : Store D I V) : Type 0 where
    pub shown : (m : ℕ) → shown new m ≡ shown old m
    pub kinds : kinds_of new ≡ kinds_of old
    pub numbers : numbers_of new ≡ numbers_of old

  -- the dictionary of a number, where there is one, is no more, and its kind was told of each of its objects; the others stay, and so does the region's discipline
  pub record Ends (meaning : (x : I) × V x → Discipline) (rules_by : D → Rules)
      (gone_by : D → Gone) (n : ℕ) (old new : Store D I V) : Type 0 where
    pub is_open : IsOpen rules_by new (disc_of new meaning)
    pub none : dict_at new n ≡ None
    pub told : gone_at gone_by new n
        ≡ told_each (contents old n).objects (gone_at gone_by old n)
    pub rules : rules_at rules_by new n ≡ rules_at rules_by old n
    pub others : OthersStay old new n
    pub numbers : numbers_of new ≡ numbers_of old
    pub disc : disc_of new meaning ≡ disc_of old meaning
    pub lends : KeepsDisc (disc_of old meaning) (disc_of new meaning) (lent_to old) (lent_to new)

  -- an object was put into the dictionary of a number, or what it wants was refused, by the region's rules
  abbrev pub TriesAt : ((x : I) × V x → Discipline) → (D → Rules) → Put → ℕ → List ℕ
      → Store D I V → Store D I V → Type 0
  TriesAt meaning rules_by answer n object old new =
      (d d' : Dict) → dict_at old n ≡ Some d → dict_at new n ≡ Some d'
      → IsTried answer (TriesToPut meaning answer (rules_at rules_by old n) object old.best d new.best d')

-- the kinds at the end: each with its rules, and told of each object that its dictionary had
pub record AreTold {D : Type 0} {I : Type 0} {V : I → Type 0} (rules_by : D → Rules)
    (gone_by : D → Gone) (s : Store D I V) (kinds : List D) : Type 0 where
  pub count : length kinds ≡ length (kinds_of s)
  pub rules : (n : ℕ) → rules_or (option_map rules_by (slice_get kinds n)) ≡ rules_at rules_by s n
  pub told : (n : ℕ) → gone_or (option_map gone_by (slice_get kinds n))
      ≡ told_each (contents s n).objects (gone_at gone_by s n)
