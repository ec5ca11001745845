-- A dictionary for which a table was brought.
use Rattle.vc_base.proofs.Common.{◌≡◌, ℕ, ◌*◌, ◌<◌, Bool, true, false, not, ◌&&◌, ◌≢◌, List, [], ◌∷◌, map, length, replicate, is_some, if◌then◌else◌, IsSome, Some, None, unwrap_or, sym, refl, ap, ◌∙◌, subst, inl, inr, ⊎_elim, true≢false, arith, ne_eqb, eqb_tells, cases_Bool, length-replicate, none-some, same_Some, AllByRecursion, Blocks, body_of, contains, has_table}
use Rattle.vc_base.specs.declared.dict_method.DictMethod.{DictMethod}
use Rattle.vc_base.proofs.CellsLemmas.{put_other, put_same}
use Rattle.vc_dtdisc.specs.Objects.{Object}
use Rattle.vc_dtdisc.specs.Rules.{IsObject, Rules}
use Rattle.vc_dthash.specs.Hashed.{IsTable}
use Rattle.vc_dthash.specs.Slots.{IsSlots, most_slots, slots_for}
use Rattle.vc_dict.specs.declared.dict.Dict.{Dict}
use Rattle.vc_dict.specs.Listed.{holders_of}
use Rattle.vc_base.proofs.Members.{within-tail}
use Rattle.vc_dict.specs.Methods.{slots_between}
use Rattle.vc_dict.specs.Stands.{Stands, table_in}
use Rattle.vc_dict.proofs.OwnLemmas.{Stands-own, Stands-table, holder-address, holder-there, holders-told}
use Rattle.vc_objects.specs.Objects.{Dictionary}
use Rattle.vc_objects.specs.Parts.{IsWhole, dictionary_of, object_of}
use Rattle.vc_objects.specs.Turning.{BringsCell, CanTurn}
use Rattle.vc_objects.proofs.Mapped.{objects-kept}
use Rattle.vc_objects.proofs.Doubling.{slots-allowed, slots-enough}

wanted_by : (u : Bool) (m n : ℕ) → (if u then Some m else None) ≡ Some n → n ≡ m
wanted_by true m n e = sym (same_Some m n e)
wanted_by false m n e = absurd (none-some n e)

module _ (rules : Rules) (method : DictMethod) (d : Dict) (b b1 : Blocks) (t s : ℕ) (whole : IsWhole rules d b) (brought : BringsCell (slots_between d.method method d.count) b b1 t s) where
  abbrev hs : List ℕ
  hs = holders_of d b

  -- it is no cell of the dictionary
  cell-apart : (a : ℕ) → a ≢ 0 → IsSome (b a) → a ≢ t
  cell-apart a some there e = true≢false (sym there ∙ ap is_some (ap b e ∙ brought.fresh (λ z. some (e ∙ z))))

  pub other-brought : (a : ℕ) → a ≢ t → b1 a ≡ b a
  other-brought a ne = elim (eqb_tells t 0) as (λ _. b1 a ≡ b a) [
    | inl same ↦ ap (λ (f : Blocks). f a) (brought.same same.1)
    | inr some ↦ ap (λ (f : Blocks). f a) (brought.made some.1) ∙ put_other a t (replicate (8 * s) 0) b ne
  ]

  own-there : (a : ℕ) → a ≢ 0 → contains ((table_in d).0 ∷ hs) a ≡ true → IsSome (b a)
  own-there a some w = elim (eqb_tells (table_in d).0 a) as (λ _. IsSome (b a)) [
    | inl same ↦ subst (λ z. IsSome (b z)) same.1 ((Stands-table _ _ _ _ whole.stands).some (λ z. some (sym same.1 ∙ z))).there
    | inr apart ↦ (holder-there rules d b hs a whole.stands (rw apart.0 at w)).there
  ]

  own-brought : (a : ℕ) → a ≢ 0 → contains ((table_in d).0 ∷ hs) a ≡ true → b1 a ≡ b a
  own-brought a some w = other-brought a (cell-apart a some (own-there a some w))

  stands-brought : Stands rules d b1 hs
  stands-brought = Stands-own rules d b b1 hs own-brought whole.stands

  pub told-brought : holders_of d b1 ≡ hs
  told-brought = holders-told rules d b1 hs stands-brought

  some-holder : (a : ℕ) → contains hs a ≡ true → a ≢ 0
  some-holder a h zero = let is = (holder-address rules d b hs a whole.stands h).some in omega (arith, is, zero)

  objects-brought : map (object_of b1) (holders_of d b1) ≡ map (object_of b) hs
  objects-brought =
      ap (map (object_of b1)) told-brought
      ∙ objects-kept b b1 hs (λ a h. ap (λ o. body_of (unwrap_or o [])) (own-brought a (some-holder a h) (within-tail (table_in d).0 hs a h)))

  pub dictionary-brought : dictionary_of d b1 ≡ dictionary_of d b
  dictionary-brought =
      ap (λ (os : List Object). let z : Dictionary = record { method = d.method; objects = os; current = (dictionary_of d b).current; table = (dictionary_of d b).table } in z) objects-brought

  whole-brought : IsWhole rules d b1
  whole-brought = record {
    stands = subst (λ xs. Stands rules d b1 xs) (sym told-brought) stands-brought;
    current = ap (λ xs. contains (0 ∷ xs) d.current.0) told-brought ∙ whole.current;
    table = whole.table;
    objects = subst (λ os. AllByRecursion (λ o. IsObject o.bytes) os) (sym objects-brought) whole.objects;
  }

  -- the table fits
  shows : t ≢ 0 → b1 t ≡ Some (replicate (8 * s) 0)
  shows ne = ap (λ (f : Blocks). f t) (brought.made ne) ∙ put_same t (replicate (8 * s) 0) b

  slots-told : t ≢ 0 → s ≡ slots_for d.count
  slots-told ne =
      wanted_by (has_table method && not (has_table d.method)) (slots_for d.count) s
      (brought.wants ∙ ap (λ z. if z then None else Some s) (ne_eqb t 0 ne))

  no-holder : t ≢ 0 → contains hs t ≡ false
  no-holder ne =
      ⊎_elim
      (λ (within : contains hs t ≡ true). absurd (cell-apart t ne (holder-there rules d b hs t whole.stands within).there refl))
      (λ (apart : contains hs t ≡ false). apart)
      (cases_Bool (contains hs t))

  fits : t ≢ 0 → IsTable b1 hs t s
  fits ne =
      let e = slots-told ne in
      record {
        slots_allowed = subst IsSlots (sym e) (slots-allowed d.count);
        there = ap is_some (shows ne);
        size = ap (λ o. length (unwrap_or o [])) (shows ne) ∙ length-replicate (8 * s) 0;
        enough = λ few. let h = slots-enough d.count (subst (λ z. z < most_slots) e few) in let count = whole.stands.count in omega (arith, h, count, e);
        apart = no-holder ne;
      }

  pub can-turn : CanTurn rules d b1 method t s
  can-turn = record {
    whole = whole-brought;
    needs = brought.wants;
    fits = λ ne. subst (λ xs. IsTable b1 xs t s) (sym told-brought) (fits ne);
    none = brought.none;
  }

-- the slots that a change needs are those of a table
pub allowed-between : (old new : DictMethod) (count s : ℕ) → slots_between old new count ≡ Some s → IsSlots s
allowed-between old new count s e =
    subst IsSlots (sym (wanted_by (has_table new && not (has_table old)) (slots_for count) s e)) (slots-allowed count)
