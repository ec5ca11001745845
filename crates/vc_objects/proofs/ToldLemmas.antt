-- What an object's holder gives where no table is wanted.
use Rattle.vc_base.proofs.Common.{◌≡◌, ℕ, false, List, None, Some, Ok, Err, Option, Result, sym, refl, subst, inl, Discipline}
use Rattle.vc_model.proofs.Keeping.{NoneRefused-same}
use Rattle.vc_dtdisc.specs.Rules.{Rules}
use Rattle.vc_dict.specs.declared.dict.Dict.{Dict}
use Rattle.vc_seg.specs.declared.fault.RegionFault.{RegionFault}
use Rattle.vc_best.specs.Cells.{rest_in}
use Rattle.vc_best.specs.Parts.{disc_in}
use Rattle.vc_best.specs.declared.best.Best.{Best}
use Rattle.vc_objects.specs.Insert.{grow, grown_to, slots_wanted}
use Rattle.vc_objects.specs.Leaves.{HasGrown, LacksHolder, LeavesRest, want_by}
use Rattle.vc_objects.specs.Parts.{dictionary_in}
use Rattle.vc_objects.specs.Promises.{Holds, Inserts}
use Rattle.vc_objects.specs.declared.fate.Want.{Want}
use Rattle.vc_objects.proofs.Answering.{asked-no_holder, asked-spent, inserted-no_holder, inserted-stored}
use Rattle.vc_objects.specs.Puts.Puts.{told_by, told_want}

module _ {I : Type 0} {V : I → Type 0} (meaning : (x : I) × V x → Discipline) (rules : Rules) (bytes : List ℕ) (before after : Best I V) (old new : Dict) (room : slots_wanted (dictionary_in old before) ≡ None) (leaves : LeavesRest meaning rules before old after new) where
  abbrev was : Discipline
  was = disc_in meaning before

  abbrev is : Discipline
  is = disc_in meaning after

  -- the table stays as it is
  grown : HasGrown (grow was.terms (rest_in before) 0 (dictionary_in old before) false) (rest_in before) (dictionary_in old before)
  grown =
      subst (λ wanted. HasGrown (grown_to was.terms (rest_in before) 0 (dictionary_in old before) false wanted) (rest_in before) (dictionary_in old before)) (sym room) (refl, refl)

  refused : (fault : RegionFault) → Holds meaning (Err fault) rules false bytes before old after new → (o : Option Want) → want_by fault ≡ o → Inserts meaning (told_want o) rules false bytes before old after new
  refused fault h (Some want) e = record {
    ok =
        inserted-no_holder rules was.terms (rest_in before) (dictionary_in old before) false bytes (grow was.terms (rest_in before) 0 (dictionary_in old before) false) was.terms (rest_in before) (dictionary_in old before)
        (rest_in after) (dictionary_in new after) fault want refl grown h.err.0 e h.err.1.region h.err.1.dict;
    err = tt;
    leaves = leaves;
    asked = asked-no_holder (slots_wanted (dictionary_in old before)) bytes was was is fault want e (λ _. refl) (NoneRefused-same was) h.asked;
  }
  refused fault h None e = record {
    ok = tt;
    err = inl (h.err.1.region, h.err.1.dict);
    leaves = leaves;
    asked = asked-spent (LacksHolder None bytes was is) was is fault e h.asked;
  }

  pub inserts-told : (held : Result Unit RegionFault) → Holds meaning held rules false bytes before old after new → Inserts meaning (told_by held) rules false bytes before old after new
  inserts-told (Ok done) h = record {
    ok =
        inserted-stored rules was.terms (rest_in before) (dictionary_in old before) false bytes (grow was.terms (rest_in before) 0 (dictionary_in old before) false) was.terms (rest_in before) (dictionary_in old before)
        (rest_in after) (dictionary_in new after) refl grown h.ok;
    err = tt;
    leaves = leaves;
    asked = h.asked;
  }
  inserts-told (Err fault) h = refused fault h (want_by fault) refl
