-- What a call on a dictionary answers, and what it leaves as it was.
use Rattle.std.specs.Prelude.{◌≡◌, ℕ, ◌⊎◌, List, ◌++◌, Bool, true, false, Option, Some, None, Result, Ok, Err, fold, if◌then◌else◌}
use Rattle.vc_model.specs.Layout.{Layout}
use Rattle.vc_base.specs.Holders.{contains}
use Rattle.vc_model.specs.Addr.{address}
use Rattle.vc_model.specs.Best.{best_need}
use Rattle.vc_model.specs.Discipline.{Discipline, Kept, NoneRefused, Unserved}
use Rattle.vc_model.specs.Outcome.{Outcome, Done, Refused, Put}
use Rattle.vc_dtdisc.specs.Rules.{Gone, Rules, gone_after}
use Rattle.vc_dict.specs.declared.dict.Dict.{Dict}
use Rattle.vc_seg.specs.declared.fault.RegionFault.{RegionFault}
use Rattle.vc_seg.specs.declared.fault.RegionFault.TheVariants as code
use Rattle.vc_best.specs.Cells.{cells_in, labelled_blocks, rest_in}
use Rattle.vc_best.specs.Parts.{disc_in, segments_in}
use Rattle.vc_best.specs.declared.best.Best.{Best}
use Rattle.vc_objects.specs.declared.fate.Fate.{Fate}
use Rattle.vc_objects.specs.declared.fate.Fate.TheVariants.{Stored, NoTable, NoHolder}
use Rattle.vc_objects.specs.declared.fate.Want.{Want}
use Rattle.vc_objects.specs.declared.fate.Want.TheVariants.{TooManySegments, NoSegment}
use Rattle.vc_objects.specs.Insert.{Grown, Inserted, with_object}
use Rattle.vc_objects.specs.Objects.{Dictionary, holder_size, own_blocks, table_size}
use Rattle.vc_objects.specs.Parts.{IsWhole, dictionary_in}
use Rattle.vc_objects.specs.Remove.{Removed}
use Rattle.vc_objects.specs.Turn.{Turned}

-- the terms stay, the faults have not fallen, and all that was out besides a region's segments is out
pub record KeepsDisc (old new : Discipline) (segments segments' : List (ℕ × ℕ)) : Type 0 where
  pub kept : Kept old new
  pub out : (rest : List (ℕ × ℕ)) → old.out ≡ rest ++ segments → new.out ≡ rest ++ segments'

-- a best region but for the blocks at these addresses before and at those after: the labelled blocks stay, the other cells do, and what is new was no cell
pub record Leaves {I : Type 0} {V : I → Type 0} (meaning : (x : I) × V x → Discipline) (before after : Best I V) (mine mine' : List ℕ) : Type 0 where
  pub disc : KeepsDisc (disc_in meaning before) (disc_in meaning after) (segments_in before) (segments_in after)
  pub labelled : labelled_blocks (rest_in after) ≡ labelled_blocks (rest_in before)
  pub others : (a : ℕ) → contains mine a ≡ false → contains mine' a ≡ false → cells_in after a ≡ cells_in before a
  pub fresh : (a : ℕ) → contains mine' a ≡ true → contains mine a ≡ false → cells_in before a ≡ None

-- a call on a dictionary leaves all else, its kind's number among it, and the dictionary whole
pub record LeavesRest {I : Type 0} {V : I → Type 0} (meaning : (x : I) × V x → Discipline) (rules : Rules) (before : Best I V) (old : Dict) (after : Best I V) (new : Dict) : Type 0 where
  pub whole : IsWhole rules new (cells_in after)
  pub kind : new.kind ≡ old.kind
  pub rest : Leaves meaning before after (own_blocks (dictionary_in old before)) (own_blocks (dictionary_in new after))

-- a call that only looks leaves the region and the dictionary, too
pub record Looks {I : Type 0} {V : I → Type 0} (meaning : (x : I) × V x → Discipline) (rules : Rules) (before : Best I V) (old : Dict) (after : Best I V) (new : Dict) : Type 0 where
  pub region : rest_in after ≡ rest_in before
  pub dict : dictionary_in new after ≡ dictionary_in old before
  pub disc : disc_in meaning after ≡ disc_in meaning before
  pub leaves : LeavesRest meaning rules before old after new

-- the region and the dictionary are those of an outcome
abbrev pub HasGrown : Outcome (Grown ℕ) → Layout ℕ → Dictionary → Type 0
HasGrown (Done g) region d = (region ≡ g.region) × (d ≡ g.dict)
HasGrown (Refused why) region d = ⊥

-- they are those with an object in the block that was put
abbrev pub HasHeld : Rules → Bool → List ℕ → Dictionary → Outcome (Put (Layout ℕ)) → Layout ℕ → Dictionary → Type 0
HasHeld rules append bytes old (Done p) region d = (region ≡ p.region) × (d ≡ with_object rules append bytes old (address p.at))
HasHeld rules append bytes old (Refused why) region d = ⊥

-- with no memory for an object nothing changed, or the table grew for it
abbrev pub IsHalted : Outcome (Grown ℕ) → Layout ℕ → Dictionary → Layout ℕ → Dictionary → Type 0
IsHalted grown region d region' d' = ((region' ≡ region) × (d' ≡ d)) ⊎ HasGrown grown region' d'

-- what a block wants by the fault of a best region; want of memory is none
abbrev pub want_by : RegionFault → Option Want
want_by code.NoSegment = Some NoSegment
want_by code.OutOfMemory = None
want_by fault = Some TooManySegments

-- whether a segment was refused for the table, and for the holder
abbrev pub lacks_segment : Want → Bool
lacks_segment TooManySegments = false
lacks_segment NoSegment = true

abbrev pub no_table : Fate → Bool
no_table Stored = false
no_table (NoTable want) = lacks_segment want
no_table (NoHolder want) = false

abbrev pub no_holder : Fate → Bool
no_holder Stored = false
no_holder (NoTable want) = false
no_holder (NoHolder want) = lacks_segment want

-- what an object's putting gives is this
pub record GivesInserted (c : Inserted ℕ) (r : Layout ℕ) (d : Dictionary) (told : Fate) : Type 0 where
  pub region : c.region ≡ r
  pub dict : c.dict ≡ d
  pub fate : c.fate ≡ told

-- for a table of the slots that are wanted a segment was refused
abbrev pub LacksTable : Option ℕ → Discipline → Discipline → Type 0
LacksTable None old new = ⊥
LacksTable (Some slots) old new = Unserved old new (best_need old.terms (table_size slots) 32)

-- the table grew with nothing refused, and then a segment of a size was
pub record LacksGrown (old new : Discipline) (size : ℕ) : Type 0 where
  pub between : Discipline
  pub grown : NoneRefused old between
  pub unserved : Unserved between new size

-- for a holder one was refused, and before it none where the table grew
abbrev pub LacksHolder : Option ℕ → List ℕ → Discipline → Discipline → Type 0
LacksHolder None bytes old new = Unserved old new (best_need old.terms (holder_size bytes) 32)
LacksHolder (Some slots) bytes old new = LacksGrown old new (best_need old.terms (holder_size bytes) 32)

-- a segment was refused so where a fault tells it, and else nothing was
abbrev pub RefusedBy : RegionFault → Type 0 → Discipline → Discipline → Type 0
RefusedBy code.NoSegment lacks old new = lacks
RefusedBy why lacks old new = NoneRefused old new

-- what a call that may bring a table asked for, by its answer
abbrev pub AskedTable : {A : Type 0} → Result A RegionFault → Option ℕ → Discipline → Discipline → Type 0
AskedTable (Ok done) wanted old new = NoneRefused old new
AskedTable (Err why) wanted old new = RefusedBy why (LacksTable wanted old new) old new

-- one that puts a holder, where the table has room
abbrev pub AskedHolder : {A : Type 0} → Result A RegionFault → List ℕ → Discipline → Discipline → Type 0
AskedHolder (Ok done) bytes old new = NoneRefused old new
AskedHolder (Err why) bytes old new = RefusedBy why (LacksHolder None bytes old new) old new

-- and one that puts an object, by what becomes of it
abbrev pub AskedForObject : {E : Type 0} → Result Fate E → Option ℕ → List ℕ → Discipline → Discipline → Type 0
AskedForObject (Ok (NoTable NoSegment)) wanted bytes old new = LacksTable wanted old new
AskedForObject (Ok (NoHolder NoSegment)) wanted bytes old new = LacksHolder wanted bytes old new
AskedForObject answer wanted bytes old new = NoneRefused old new

-- what taking an object out gives is this
pub record GivesRemoved (c : Removed ℕ) (r : Layout ℕ) (d : Dictionary) (bytes : Option (List ℕ)) : Type 0 where
  pub region : c.region ≡ r
  pub dict : c.dict ≡ d
  pub gone : c.gone ≡ bytes

-- what a kind was told of when it is told of these objects, too
abbrev pub told_each : List (List ℕ) → Gone → Gone
told_each objects gone = fold gone_after gone objects

abbrev pub told_if : Bool → Option (List ℕ) → Gone → Gone
told_if tells None gone = gone
told_if tells (Some object) gone = if tells then gone_after gone object else gone

-- what turning a dictionary gives is this
abbrev pub GivesTurned : Outcome (Turned ℕ) → Layout ℕ → Dictionary → Gone → Gone → Type 0
GivesTurned (Done t) region d gone gone' = (t.region ≡ region) × (t.dict ≡ d) × (gone' ≡ told_each t.gone gone)
GivesTurned (Refused why) region d gone gone' = ⊥
