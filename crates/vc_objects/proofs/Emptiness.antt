-- A dictionary with no object, and its first table.
use Rattle.vc_base.proofs.Common.{◌≡◌, ℕ, Bool, true, false, [], ◌∷◌, map, length, if◌then◌else◌, Some, None, Option, sym, refl, ap, ◌∙◌, subst, arith, none-some, same_Some, AllByRecursion, Blocks, contains, some_address, has_table, Terms, Layout}
use Rattle.vc_base.specs.declared.dict_method.DictMethod.{DictMethod}
use Rattle.vc_dtdisc.specs.Rules.{IsObject, Rules}
use Rattle.vc_dict.specs.Listed.{holders_of}
use Rattle.vc_dict.specs.Methods.{wanted_by}
use Rattle.vc_dict.specs.Stands.{Stands, slots_in, table_in}
use Rattle.vc_dict.specs.declared.dict.Dict.{Dict}
use Rattle.vc_dict.proofs.OwnLemmas.{holders-told}
use Rattle.vc_seg.specs.Answer.{IsRefusal}
use Rattle.vc_seg.specs.declared.fault.RegionFault.{RegionFault}
use Rattle.vc_objects.specs.Insert.{empty_dictionary, grown_to, open_dictionary}
use Rattle.vc_objects.specs.Leaves.{HasGrown}
use Rattle.vc_objects.specs.Objects.{Dictionary, own_blocks}
use Rattle.vc_objects.specs.Parts.{CanGrow, IsWhole, dictionary_of, object_of, table_of}
use Rattle.vc_objects.proofs.Adopting.{same-dictionary}

abbrev first_by : Bool → Option ℕ
first_by t = if t then Some 16 else None

by_first : (t : Bool) (n : ℕ) → first_by t ≡ Some n → (t ≡ true) × (n ≡ 16)
by_first true n e = (refl, sym (same_Some 16 n e))
by_first false n e = absurd (none-some n e)

by_none : (t : Bool) → first_by t ≡ None → t ≡ true → ⊥
by_none true e is = none-some 16 (sym e)
by_none false e is = cc

-- a dictionary of a method with no object, no current one and no table
pub record IsNew (rules : Rules) (d : Dict) (b : Blocks) (method : DictMethod) : Type 0 where
  pub empty : Stands rules d b []
  pub same : d.method ≡ method
  pub current : d.current.0 ≡ 0
  pub table : (table_in d).0 ≡ 0
  pub slots : slots_in d ≡ 0

module _ (rules : Rules) (d : Dict) (b : Blocks) (method : DictMethod) (is : IsNew rules d b method) where
  none : holders_of d b ≡ []
  none = holders-told rules d b [] is.empty

  pub dictionary-empty : dictionary_of d b ≡ empty_dictionary method
  dictionary-empty =
      same-dictionary d.method method (map (object_of b) (holders_of d b)) [] (some_address d.current.0) None (table_of (table_in d).0 (slots_in d)) None is.same
      (ap (map (object_of b)) none) (ap some_address is.current) (ap (λ n. table_of n (slots_in d)) is.table)

  pub owned-none : own_blocks (dictionary_of d b) ≡ []
  owned-none = ap own_blocks dictionary-empty

  pub wants-first : wanted_by d.method (slots_in d) d.count 1 ≡ (if has_table method then Some 16 else None)
  wants-first =
      ap (λ m. wanted_by m (slots_in d) d.count 1) is.same
      ∙ (ap (λ s. wanted_by method s d.count 1) is.slots ∙ ap (λ n. wanted_by method 0 n 1) is.empty.count)

  standing : Stands rules d b (holders_of d b)
  standing = subst (λ xs. Stands rules d b xs) (sym none) is.empty

  current-none : contains (0 ∷ holders_of d b) d.current.0 ≡ true
  current-none = ap (contains (0 ∷ holders_of d b)) is.current

  objects-none : AllByRecursion (λ o. IsObject o.bytes) (dictionary_of d b).objects
  objects-none = subst (λ xs. AllByRecursion (λ o. IsObject o.bytes) (map (object_of b) xs)) (sym none) tt

  -- a set or bag can get the first table
  pub grows-first : (n : ℕ) → wanted_by d.method (slots_in d) d.count 1 ≡ Some n → CanGrow rules d b n
  grows-first n wants =
      let by = by_first (has_table method) n (sym wants-first ∙ wants) in
      let long : length (holders_of d b) ≡ 0 = ap length none in
      record {
        stands = standing;
        current = current-none;
        objects = objects-none;
        method = ap has_table is.same ∙ by.0;
        allowed = record { doublings = 0; few = omega arith; value = by.1 };
        enough = λ _. omega (arith, long);
      }

  pub first-slots : (n : ℕ) → wanted_by d.method (slots_in d) d.count 1 ≡ Some n → n ≡ 16
  first-slots n wants = (by_first (has_table method) n (sym wants-first ∙ wants)).1

  -- the others are whole without one
  pub whole-empty : wanted_by d.method (slots_in d) d.count 1 ≡ None → IsWhole rules d b
  whole-empty wants = record {
    stands = standing;
    current = current-none;
    table = λ has. absurd (by_none (has_table method) (sym wants-first ∙ wants) (sym (ap has_table is.same) ∙ has));
    objects = objects-none;
  }

  -- what opening gives, without a table and with one
  pub opened-plain : (terms : Terms) (R : Layout ℕ) → wanted_by d.method (slots_in d) d.count 1 ≡ None → HasGrown (open_dictionary terms R 0 method false) R (dictionary_of d b)
  opened-plain terms R wants =
      subst (λ o. HasGrown (grown_to terms R 0 (empty_dictionary method) false o) R (dictionary_of d b)) (sym (sym wants-first ∙ wants)) (refl, dictionary-empty)

  pub opened-refused : (terms : Terms) (R : Layout ℕ) (n : ℕ) (why : RegionFault) → wanted_by d.method (slots_in d) d.count 1 ≡ Some n → IsRefusal (λ refused. grown_to terms R 0 (dictionary_of d b) refused (Some n)) why → IsRefusal (open_dictionary terms R 0 method) why
  opened-refused terms R n why wants h =
      subst (λ o. IsRefusal (λ refused. grown_to terms R 0 (empty_dictionary method) refused o) why) (sym (sym wants-first ∙ wants))
      (subst (λ D. IsRefusal (λ refused. grown_to terms R 0 D refused (Some n)) why) dictionary-empty h)

  pub opened-table : (terms : Terms) (R R' : Layout ℕ) (D' : Dictionary) (n : ℕ) → wanted_by d.method (slots_in d) d.count 1 ≡ Some n → HasGrown (grown_to terms R 0 (dictionary_of d b) false (Some n)) R' D'
      → HasGrown (open_dictionary terms R 0 method false) R' D'
  opened-table terms R R' D' n wants h =
      subst (λ o. HasGrown (grown_to terms R 0 (empty_dictionary method) false o) R' D') (sym (sym wants-first ∙ wants))
      (subst (λ D. HasGrown (grown_to terms R 0 D false (Some n)) R' D') dictionary-empty h)
