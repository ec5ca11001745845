-- What a dictionary shows once an object was put into it, or an object of a set matched it.
use Rattle.vc_base.proofs.Common.{◌≡◌, ℕ, true, false, not, ◌&&◌, List, Some, None, IfNone, IfSome, Ok, Err, Option, Result, is_some, is_set, refl, ap, ◌∙◌, Discipline}
use Rattle.vc_base.specs.declared.fault.OutOfMemory.{OutOfMemory}
use Rattle.vc_base.proofs.Options.{is_some-map}
use Rattle.vc_dtdisc.specs.Objects as objects
use Rattle.vc_dtdisc.specs.Objects.{first_with}
use Rattle.vc_dtdisc.specs.Rules.{Rules}
use Rattle.vc_dict.specs.declared.dict.Dict.{Dict}
use Rattle.vc_best.specs.Cells.{cells_in, rest_in}
use Rattle.vc_best.specs.Parts.{disc_in}
use Rattle.vc_best.specs.declared.best.Best.{Best}
use Rattle.vc_objects.specs.Leaves.{LeavesRest, Looks}
use Rattle.vc_objects.specs.Objects.{Dictionary}
use Rattle.vc_objects.specs.Parts.{dictionary_in}
use Rattle.vc_objects.specs.Promises.{Inserts}
use Rattle.vc_objects.specs.declared.fate.Fate.{Fate}
use Rattle.vc_objects.specs.declared.fate.Fate.TheVariants.{Stored, NoTable, NoHolder}
use Rattle.vc_objects.specs.Puts.Puts.{is_matched}
use Rattle.vc_objects.proofs.PutLemmas.{matched-told}
use Rattle.vc_store.specs.Contents.{contents_in, contents_of}
use Rattle.vc_store.specs.Reading.{AfterPut, has_same_key, is_object, place_after}
use Rattle.vc_store.specs.Tries.{IsTried, TriesToPut, told_as, told_put}
use Rattle.vc_store.specs.declared.put.Put.{Put}
use Rattle.vc_store.specs.declared.put.Put.TheVariants as put
use Rattle.vc_store.proofs.Putting.{tried-placed}
use Rattle.vc_store.proofs.Shown.{distinct-objects, found-shown, tried-shown}

-- whether an object of a set matches is whether one that is shown does
matched-shown : (rules : Rules) (object : List ℕ) (d : Dictionary) → has_same_key rules object (contents_of d) ≡ is_matched rules object d
matched-shown rules object d =
    let first = first_with objects.bytes_of rules (rules.key object) d.objects in
    ap (λ t. is_set d.method && t) (ap is_some (found-shown rules (rules.key object) d.objects) ∙ is_some-map objects.bytes_of first)

-- one was tried where it is told so
told-tried : (fate : Result Fate OutOfMemory) (P : Type 0) → P → IsTried (told_as fate) P
told-tried (Ok Stored) P p = p
told-tried (Ok (NoTable want)) P p = p
told-tried (Ok (NoHolder want)) P p = p
told-tried (Err why) P p = p

-- what is shown behind an answer
module _ {I : Type 0} {V : I → Type 0} (meaning : (x : I) × V x → Discipline) (rules : Rules) (object : List ℕ) (before after : Best I V) (old new : Dict) where
  pub record Shows (answer : Put) : Type 0 where
    pub objects : AfterPut answer rules object (contents_in old before) (contents_in new after).objects
    pub place : (contents_in new after).place ≡ place_after answer rules object (contents_in old before)
    pub method : (contents_in new after).method ≡ (contents_in old before).method
    pub tried : IsTried answer (TriesToPut meaning answer rules object before old after new)

  module _ (is : is_object object ≡ true) (leaves : LeavesRest meaning rules before old after new) where
    still : is_matched rules object (dictionary_in old before) ≡ true → Looks meaning rules before old after new → Shows put.Old
    still matched looks = record {
      objects = (is, matched-shown rules object (dictionary_in old before) ∙ matched, ap (λ (d : Dictionary). (contents_of d).objects) looks.dict);
      place = ap (λ (d : Dictionary). (contents_of d).place) looks.dict;
      method = ap (λ (d : Dictionary). (contents_of d).method) looks.dict;
      tried = tt;
    }

    became : (fate : Result Fate OutOfMemory) → is_matched rules object (dictionary_in old before) ≡ false → Inserts meaning fate rules false object before old after new → Shows (told_as fate)
    became fate apart inserts =
        let tries : TriesToPut meaning (told_as fate) rules object before old after new = record { fate = fate; told = refl; ok = inserts.ok; err = inserts.err; asked = inserts.asked } in
        let shown = tried-shown rules object (disc_in meaning before) (disc_in meaning after) (rest_in before) (rest_in after) (dictionary_in old before) (dictionary_in new after) is
        (matched-shown rules object (dictionary_in old before) ∙ apart) (told_as fate) tries in
        record {
          objects = shown.0;
          place =
              tried-placed rules object (disc_in meaning before) (disc_in meaning after) (rest_in before) (rest_in after) (dictionary_in old before) (dictionary_in new after)
              (distinct-objects rules new (cells_in after) leaves.whole) (told_as fate) tries;
          method = shown.1;
          tried = told-tried fate (TriesToPut meaning (told_as fate) rules object before old after new) tries;
        }

    pub shows : (fate : Option (Result Fate OutOfMemory)) → is_some fate ≡ not (is_matched rules object (dictionary_in old before)) → IfNone fate (Looks meaning rules before old after new)
        → IfSome fate (λ r. Inserts meaning r rules false object before old after new) → Shows (told_put fate)
    shows None matched looks inserts = still (matched-told (is_matched rules object (dictionary_in old before)) false matched) looks
    shows (Some fate) matched looks inserts = became fate (matched-told (is_matched rules object (dictionary_in old before)) true matched) inserts
