-- What the calls on a dictionary of a best region promise, by their answers.
use Rattle.std.specs.Prelude.{◌≡◌, ℕ, List, [], Bool, true, false, Option, Some, None, length}
use Rattle.std.specs.Prelude.{Result, Ok, Err, IfErr, IfOk, OnErr, OnOk, if◌then◌else◌}
use Rattle.vc_base.specs.declared.dict_method.DictMethod.{DictMethod}
use Rattle.vc_base.specs.Methods.{is_list, is_set}
use Rattle.vc_model.specs.Discipline.{Discipline, HasOut}
use Rattle.vc_model.specs.Layout.{Layout}
use Rattle.vc_model.specs.Outcome.{Outcome, Put}
use Rattle.vc_dtdisc.specs.Objects.{bytes_of, first_with}
use Rattle.vc_dtdisc.specs.Rules.{Gone, IsObject, Rules}
use Rattle.vc_dict.specs.Methods.{slots_between}
use Rattle.vc_dict.specs.declared.dict.Dict.{Dict}
use Rattle.vc_seg.specs.Answer.{IsRefusal}
use Rattle.vc_seg.specs.declared.fault.RegionFault.{RegionFault}
use Rattle.vc_best.specs.Cells.{cells_in, labelled_blocks, rest_in}
use Rattle.vc_best.specs.Parts.{disc_in, segments_in}
use Rattle.vc_best.specs.declared.best.Best.{Best}
use Rattle.vc_objects.specs.Insert.{Grown, Inserted, alloc_unlabelled, grow, grown_to, insert}
use Rattle.vc_objects.specs.Insert.{open_dictionary, slots_wanted}
use Rattle.vc_objects.specs.Leaves.{AskedForObject, AskedHolder, AskedTable, GivesInserted, GivesRemoved}
use Rattle.vc_objects.specs.Leaves.{GivesTurned, HasGrown, HasHeld, IsHalted, KeepsDisc, Leaves}
use Rattle.vc_objects.specs.Leaves.{LeavesRest, no_holder, no_table, told_each, told_if}
use Rattle.vc_objects.specs.Objects.{holder_size, own_blocks}
use Rattle.vc_objects.specs.Parts.{IsWhole, dictionary_in}
use Rattle.vc_objects.specs.Remove.{Emptied, Removed}
use Rattle.vc_objects.specs.Turn.{Brought, Turned, bring_of, turn}
use Rattle.vc_objects.specs.Turning.{BringsCell, HasBrought}
use Rattle.vc_objects.specs.declared.fate.Fate.{Fate}
use Rattle.vc_objects.specs.declared.turning.NewTable.{NewTable}

module _ {I : Type 0} {V : I → Type 0} where
  -- neither a region nor a dictionary in it changed
  pub record IsStill (before : Best I V) (old : Dict) (after : Best I V) (new : Dict) : Type 0 where
    pub region : rest_in after ≡ rest_in before
    pub dict : dictionary_in new after ≡ dictionary_in old before

  -- a whole dictionary may want blocks: the segments of its region are out of the discipline
  pub record CanAsk (meaning : (x : I) × V x → Discipline) (rules : Rules)
      (best : Best I V) (dict : Dict) : Type 0 where
    pub whole : IsWhole rules dict (cells_in best)
    pub lent : HasOut (disc_in meaning best) (segments_in best)

  -- an object may be put into it: in a set none matches, to lists alone is appended
  pub record CanPut (meaning : (x : I) × V x → Discipline) (rules : Rules)
      (best : Best I V) (dict : Dict) (bytes : List ℕ) (append : Bool) : Type 0 where
    pub ask : CanAsk meaning rules best dict
    pub lone : is_set dict.method ≡ true
        → first_with bytes_of rules (rules.key bytes) (dictionary_in dict best).objects ≡ None
    pub object : IsObject bytes
    pub list : append ≡ true → is_list dict.method ≡ true

  -- what the definitions give in a best region: by the terms of its discipline, what it holds, and
  -- a dictionary in it
  module _ (meaning : (x : I) × V x → Discipline) (best : Best I V) where
    abbrev pub holder_in : List ℕ → Bool → Outcome (Put (Layout ℕ))
    holder_in bytes refused =
        alloc_unlabelled (disc_in meaning best).terms (rest_in best) 0 (holder_size bytes) refused

    abbrev pub bring_in : Option ℕ → Bool → Outcome (Brought ℕ)
    bring_in wanted refused = bring_of (disc_in meaning best).terms (rest_in best) 0 refused wanted

    abbrev pub table_in : Dict → ℕ → Bool → Outcome (Grown ℕ)
    table_in dict slots refused =
        grown_to (disc_in meaning best).terms (rest_in best) 0 (dictionary_in dict best) refused
        (Some slots)

    abbrev pub opening_in : DictMethod → Bool → Outcome (Grown ℕ)
    opening_in method refused =
        open_dictionary (disc_in meaning best).terms (rest_in best) 0 method refused

    abbrev pub growth_in : Dict → Bool → Outcome (Grown ℕ)
    growth_in dict refused =
        grow (disc_in meaning best).terms (rest_in best) 0 (dictionary_in dict best) refused

    abbrev pub insertion_in : Rules → Dict → Bool → List ℕ → Fate → Inserted ℕ
    insertion_in rules dict append bytes fate =
        insert rules (disc_in meaning best).terms (rest_in best) 0 (dictionary_in dict best)
        append bytes (no_table fate) (no_holder fate)

    abbrev pub turn_in : Rules → Dict → DictMethod → Bool → Outcome (Turned ℕ)
    turn_in rules dict method refused =
        turn rules (disc_in meaning best).terms (rest_in best) 0 (dictionary_in dict best) method
        refused

module _ {I : Type 0} {V : I → Type 0} (meaning : (x : I) × V x → Discipline) where
  -- a region stays, its cells with it, and its discipline but for its faults
  pub record StaysAll (before after : Best I V) : Type 0 where
    pub region : rest_in after ≡ rest_in before
    pub cells : cells_in after ≡ cells_in before
    pub leaves : Leaves meaning before after [] []

  -- a dictionary of a method and a kind with no object was made, and all else left
  pub record Opens (rules : Rules) (method : DictMethod) (kind : ℕ)
      (before : Best I V) (dict : Dict) (after : Best I V) : Type 0 where
    pub grown : HasGrown (opening_in meaning before method false)
        (rest_in after) (dictionary_in dict after)
    pub whole : IsWhole rules dict (cells_in after)
    pub leaves : Leaves meaning before after [] (own_blocks (dictionary_in dict after))
    pub numbered : dict.kind ≡ kind

  -- a table of the slots that are wanted came as a definition says, or nothing changed where it was
  -- refused; what was refused was asked for
  pub record Grows (result : Result Unit RegionFault) (gives : Bool → Outcome (Grown ℕ))
      (wanted : Option ℕ) (before : Best I V) (old : Dict) (after : Best I V) (new : Dict) : Type 0 where
    pub ok : OnOk result (HasGrown (gives false) (rest_in after) (dictionary_in new after))
    pub err : IfErr result (λ why. IsRefusal gives why × IsStill before old after new)
    pub asked : AskedTable result wanted (disc_in meaning before) (disc_in meaning after)

  -- so for the holder of an object, where the table has room
  pub record Holds (result : Result Unit RegionFault) (rules : Rules) (append : Bool)
      (bytes : List ℕ) (before : Best I V) (old : Dict) (after : Best I V) (new : Dict) : Type 0 where
    pub ok : OnOk result (HasHeld rules append bytes (dictionary_in old before)
        (holder_in meaning before bytes false) (rest_in after) (dictionary_in new after))
    pub err : IfErr result (λ why. IsRefusal (holder_in meaning before bytes) why
        × IsStill before old after new)
    pub asked : AskedHolder result bytes (disc_in meaning before) (disc_in meaning after)

  -- and for both of an object: with no memory nothing changed, or the table grew
  pub record Inserts {E : Type 0} (result : Result Fate E) (rules : Rules) (append : Bool)
      (bytes : List ℕ) (before : Best I V) (old : Dict) (after : Best I V) (new : Dict) : Type 0 where
    pub ok : IfOk result (λ fate. GivesInserted
        (insertion_in meaning before rules old append bytes fate)
        (rest_in after) (dictionary_in new after) fate)
    pub err : OnErr result (IsHalted (growth_in meaning before old false)
        (rest_in before) (dictionary_in old before) (rest_in after) (dictionary_in new after))
    pub leaves : LeavesRest meaning rules before old after new
    pub asked : AskedForObject result (slots_wanted (dictionary_in old before)) bytes
        (disc_in meaning before) (disc_in meaning after)

  -- a table of the slots that are wanted was brought, none where none is wanted, or it was refused
  -- and nothing changed
  abbrev pub AnswersTable : Result NewTable RegionFault → Option ℕ → Best I V → Best I V → Type 0
  AnswersTable (Ok table) wanted before after =
      HasBrought (bring_in meaning before wanted false) (rest_in after) table.at.0 table.slots
      × BringsCell wanted (cells_in before) (cells_in after) table.at.0 table.slots
  AnswersTable (Err why) wanted before after =
      IsRefusal (bring_in meaning before wanted) why × (rest_in after ≡ rest_in before)
      × (cells_in after ≡ cells_in before)

  pub record Brings (result : Result NewTable RegionFault) (wanted : Option ℕ)
      (before after : Best I V) : Type 0 where
    pub answer : AnswersTable result wanted before after
    pub disc : KeepsDisc (disc_in meaning before) (disc_in meaning after)
        (segments_in before) (segments_in after)
    pub labelled : labelled_blocks (rest_in after) ≡ labelled_blocks (rest_in before)
    -- what was refused was asked for
    pub asked : AskedTable result wanted (disc_in meaning before) (disc_in meaning after)

  -- a dictionary was turned to a method, and its kind told of what went, or no table came and
  -- nothing changed; the rules of the kind stay
  abbrev pub AnswersTurn : {A : Type 0} → Result A RegionFault → Rules → DictMethod
      → Best I V → Dict → Gone → Best I V → Dict → Gone → Type 0
  AnswersTurn (Ok done) rules method before old told after new told' =
      GivesTurned (turn_in meaning before rules old method false)
      (rest_in after) (dictionary_in new after) told told'
  AnswersTurn (Err why) rules method before old told after new told' =
      IsRefusal (turn_in meaning before rules old method) why
      × IsStill before old after new × (told' ≡ told)

  pub record Turns {A : Type 0} (result : Result A RegionFault)
      (rules rules' : Rules) (method : DictMethod) (before : Best I V) (old : Dict) (told : Gone)
      (after : Best I V) (new : Dict) (told' : Gone) : Type 0 where
    pub kind : rules' ≡ rules
    pub answer : AnswersTurn result rules method before old told after new told'
    pub leaves : LeavesRest meaning rules before old after new
    -- what was refused was asked for
    pub asked : AskedTable result
        (slots_between old.method method (length (dictionary_in old before).objects))
        (disc_in meaning before) (disc_in meaning after)

  -- an object was taken out, where one was found, and its kind, whose rules stay, told of it where
  -- that is wanted
  pub record TakesOut (gives : Removed ℕ) (rules rules' : Rules) (tells found : Bool) (out : List ℕ)
      (before : Best I V) (old : Dict) (told : Gone)
      (after : Best I V) (new : Dict) (told' : Gone) : Type 0 where
    pub kind : rules' ≡ rules
    pub given : GivesRemoved gives (rest_in after) (dictionary_in new after)
        (if found then Some out else None)
    pub leaves : LeavesRest meaning rules before old after new
    pub disc : disc_in meaning after ≡ disc_in meaning before
    pub gone : told' ≡ told_if tells (if found then Some out else None) told
    pub nothing : found ≡ false → out ≡ []

  -- objects were taken out, and the kind, whose rules stay, was told of each
  pub record Empties (gives : Emptied ℕ) (rules rules' : Rules)
      (before : Best I V) (old : Dict) (told : Gone)
      (after : Best I V) (new : Dict) (told' : Gone) : Type 0 where
    pub kind : rules' ≡ rules
    pub region : rest_in after ≡ gives.region
    pub dict : dictionary_in new after ≡ gives.dict
    pub leaves : LeavesRest meaning rules before old after new
    pub disc : disc_in meaning after ≡ disc_in meaning before
    pub gone : told' ≡ told_each gives.gone told
