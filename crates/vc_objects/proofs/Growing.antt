-- Which table is wanted, and what there is once a set or bag has it.
use Rattle.vc_base.proofs.Common.{◌≡◌, ℕ, suc, ◌+◌, ◌*◌, ◌^◌, ◌<◌, ◌≤◌, Bool, true, false, ◌&&◌, ◌≢◌, List, map, length, if◌then◌else◌, nat_lt, ◌==◌, Some, None, Option, sym, refl, ap, ◌∙◌, subst, inl, inr, pow-suc, arith, pow_mono, ltb-true, le-ltb, ne_eqb, eqb_tells, cases_lt, length-map, none-some, same_Some, Blocks, has_table}
use Rattle.vc_dtdisc.specs.Rules.{Rules}
use Rattle.vc_dthash.specs.Hashed.{IsTable}
use Rattle.vc_dthash.specs.Slots.{IsSlots, most_slots, slots_for, wanted_slots}
use Rattle.vc_dict.specs.Listed.{holders_of}
use Rattle.vc_dict.specs.Methods.{wanted_by}
use Rattle.vc_dict.specs.Stands.{Stands, slots_in, table_in}
use Rattle.vc_dict.specs.declared.dict.Dict.{Dict}
use Rattle.vc_dict.proofs.OwnLemmas.{Stands-table, holders-told}
use Rattle.vc_objects.specs.Insert.{slots_wanted}
use Rattle.vc_objects.specs.Objects.{slots_of}
use Rattle.vc_objects.specs.Parts.{CanGrow, IsWhole, dictionary_of, object_of, table_of}
use Rattle.vc_objects.proofs.Doubling.{slots-least}

-- the slots of a dictionary's table are those that its heads tell
slots-told : (at slots : ℕ) → (at ≡ 0 → slots ≡ 0) → slots_of (table_of at slots) ≡ slots
slots-told at slots none =
    let by : Bool → ℕ = λ t. slots_of (if t then None else Some (record { at = at; slots = slots })) in
    elim (eqb_tells at 0) as (λ _. by (at == 0) ≡ slots) [
      | inl same ↦ ap by same.0 ∙ sym (none same.1)
      | inr apart ↦ ap by apart.0
    ]

-- what a dictionary wants is what its heads want
pub wanted-told : (rules : Rules) (d : Dict) (b : Blocks) (xs : List ℕ) → Stands rules d b xs → slots_wanted (dictionary_of d b) ≡ wanted_by d.method (slots_in d) d.count 1
wanted-told rules d b xs s =
    ap (λ slots. wanted_by d.method slots (length (map (object_of b) (holders_of d b))) 1) (slots-told (table_in d).0 (slots_in d) (Stands-table _ _ _ _ s).none)
    ∙ ap (λ count. wanted_by d.method (slots_in d) count 1) (length-map (holders_of d b) (object_of b) ∙ (ap length (holders-told rules d b xs s) ∙ sym s.count))

by_grow : (p q : Bool) (m n : ℕ) → (if p && q then Some m else None) ≡ Some n → (n ≡ m) × (q ≡ true)
by_grow true true m n e = (sym (same_Some m n e), refl)
by_grow true false m n e = absurd (none-some n e)
by_grow false q m n e = absurd (none-some n e)

by_table : (t : Bool) (o : Option ℕ) (n : ℕ) → (if t then o else None) ≡ Some n → (t ≡ true) × (o ≡ Some n)
by_table true o n e = (refl, e)
by_table false o n e = absurd (none-some n e)

-- a table that has too few slots gets twice as many
doubles : (slots count n : ℕ) → slots ≢ 0 → wanted_slots slots count 1 ≡ Some n → (n ≡ 2 * slots) × (slots < most_slots)
doubles slots count n ne e =
    let more = if nat_lt (2 * slots) (count + 1) && nat_lt slots most_slots then Some (2 * slots) else None in
    let h = by_grow (nat_lt (2 * slots) (count + 1)) (nat_lt slots most_slots) (2 * slots) n (sym (ap (λ t. if t then Some (slots_for 1) else more) (ne_eqb slots 0 ne)) ∙ e) in
    (h.0, ltb-true slots most_slots h.1)

-- and these are enough
enough-slots : (n count : ℕ) → n ≢ 0 → count + 1 ≤ 2 * n → wanted_slots n count 1 ≡ None
enough-slots n count ne h =
    let more = if nat_lt (2 * n) (count + 1) && nat_lt n most_slots then Some (2 * n) else None in
    ap (λ t. if t then Some (slots_for 1) else more) (ne_eqb n 0 ne)
    ∙ ap (λ t. if t && nat_lt n most_slots then Some (2 * n) else None) (le-ltb (2 * n) (count + 1) h)

few-doublings : (slots : ℕ) (is : IsSlots slots) → slots < most_slots → is.doublings + 1 ≤ 17
few-doublings slots is small = elim (cases_lt is.doublings 17) as (λ _. is.doublings + 1 ≤ 17) [
  | inl less ↦ omega (arith, less)
  | inr more ↦
      let p : 2 ^ 17 ≤ 2 ^ is.doublings = pow_mono {i = 17} {j = is.doublings} more in
      absurd (omega (arith, p, is.value, small))
]

doubled-slots : (slots : ℕ) → IsSlots slots → slots < most_slots → IsSlots (2 * slots)
doubled-slots slots is small =
    record { doublings = suc is.doublings; few = omega (arith, few-doublings slots is small); value = omega (arith, is.value, pow-suc 2 is.doublings) }

-- where slots are wanted a set or bag can get a table of these, and then none are wanted
module _ (rules : Rules) (d : Dict) (b : Blocks) (n : ℕ) (whole : IsWhole rules d b) (wants : wanted_by d.method (slots_in d) d.count 1 ≡ Some n) where
  tabled : (has_table d.method ≡ true) × (wanted_slots (slots_in d) d.count 1 ≡ Some n)
  tabled = by_table (has_table d.method) (wanted_slots (slots_in d) d.count 1) n wants

  table : IsTable b (holders_of d b) (table_in d).0 (slots_in d)
  table = (Stands-table _ _ _ _ whole.stands).some (whole.table tabled.0)

  grows : (n ≡ 2 * (slots_in d)) × ((slots_in d) < most_slots)
  grows = doubles (slots_in d) d.count n (λ e. omega (arith, slots-least (slots_in d) table.slots_allowed, e)) tabled.1

  pub can-grow : CanGrow rules d b n
  can-grow = record {
    stands = whole.stands;
    current = whole.current;
    objects = whole.objects;
    method = tabled.0;
    allowed = subst IsSlots (sym grows.0) (doubled-slots (slots_in d) table.slots_allowed grows.1);
    enough = λ few. omega (arith, table.enough grows.1, grows.0);
  }

  pub no-more : wanted_slots n d.count 1 ≡ None
  no-more =
      let some = slots-least (slots_in d) table.slots_allowed in
      enough-slots n d.count (λ e. omega (arith, some, e, grows.0)) (omega (arith, some, table.enough grows.1, grows.0, whole.stands.count))

  pub no-more-told : wanted_by d.method n (length (dictionary_of d b).objects) 1 ≡ None
  no-more-told =
      ap (λ count. wanted_by d.method n count 1) (length-map (holders_of d b) (object_of b) ∙ sym whole.stands.count)
      ∙ (ap (λ t. if t then wanted_slots n d.count 1 else None) tabled.0 ∙ no-more)
