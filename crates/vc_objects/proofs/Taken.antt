-- What is left of a dictionary and of its region when one of its holders is taken out and freed.
use Rattle.vc_base.proofs.Common.{◌≡◌, ℕ, ◌≤◌, Bool, true, false, ◌≢◌, List, [], ◌∷◌, map, if◌then◌else◌, ◌==◌, Some, None, Option, option_map, unwrap_or, sym, refl, ap, ◌∙◌, subst, inl, inr, ⊎_elim, true≢false, eqb_tells, cases_Bool, AllByRecursion, Blocks, IsHolder, body_of, AreDistinct, contains, first_in, without, has_table, Discipline, Layout}
use Rattle.vc_dtdisc.specs.Finding.{first_of}
use Rattle.vc_dtdisc.specs.Finds.{object_at}
use Rattle.vc_dtdisc.specs.Objects.{Object, address_of, without_object}
use Rattle.vc_dtdisc.specs.Rules.{Gone, IsObject, Rules}
use Rattle.vc_dtlist.proofs.HolderLemmas.{apart-append, apart-without}
use Rattle.vc_dict.specs.Changes as changes
use Rattle.vc_dict.specs.Listed.{holders_of}
use Rattle.vc_base.proofs.Members.{apart-head, apart-tail, apart-cons, apart-front, apart-rest, within-head, differs}
use Rattle.vc_dict.specs.Stands.{Became, Stands, slots_in, table_in}
use Rattle.vc_dict.specs.declared.dict.Dict.{Dict}
use Rattle.vc_dict.proofs.CurrentLemmas.{current-removed}
use Rattle.vc_dict.proofs.OwnLemmas.{Stands-own, holder-there, holders-distinct, none-at_0, table-apart}
use Rattle.vc_best.specs.Cells.{StaysButCells, cells_in, labelled_blocks, rest_in}
use Rattle.vc_seg.specs.Boxed.{disc_in_box}
use Rattle.vc_best.specs.Parts.{disc_in, segments_in}
use Rattle.vc_best.specs.declared.best.Best.{Best}
use Rattle.vc_best.proofs.CellCalls.{stays-disc, stays-segments}
use Rattle.vc_objects.specs.Unlabelled.{FreesCell}
use Rattle.vc_objects.specs.Insert.{layout_without}
use Rattle.vc_objects.specs.Leaves.{GivesRemoved, LeavesRest, Looks, told_if}
use Rattle.vc_objects.specs.Objects.{Dictionary, Table, option_list, own_blocks}
use Rattle.vc_objects.specs.Parts.{IsWhole, dictionary_in, object_of, table_of}
use Rattle.vc_objects.specs.Promises.{TakesOut}
use Rattle.vc_objects.specs.Remove.{remove_found}
use Rattle.vc_objects.proofs.Leaving.{keeps-same, none-at}
use Rattle.vc_objects.proofs.Looking.{IsWhole-told, apart-table, dictionary-same, dictionary-told}
use Rattle.vc_objects.proofs.Mapped.{current-mapped, first-mapped, objects-kept, without-mapped}
use Rattle.vc_objects.proofs.Owning.{each-object, owned-within}
use Rattle.vc_objects.proofs.Unlabelled.{left-cell}

-- a holder that goes is none of those that are left, which were there before
gone-apart : (at : ℕ) (xs : List ℕ) → AreDistinct xs → contains (without at xs) at ≡ false
gone-apart at [] d = refl
gone-apart at (x ∷ xs) d = elim (eqb_tells x at) as (λ _. contains (without at (x ∷ xs)) at ≡ false) [
  | inl same ↦ rw same.0 (subst (λ z. contains xs z ≡ false) same.1 d.0)
  | inr apart ↦ rw apart.0 (apart-cons x (without at xs) at apart.1 (gone-apart at xs d.1))
]

left-within : (xs : List ℕ) (at a : ℕ) → contains (without at xs) a ≡ true → contains xs a ≡ true
left-within xs at a h =
    ⊎_elim
    (λ (t : contains xs a ≡ true). t)
    (λ (t : contains xs a ≡ false). absurd (true≢false (sym h ∙ apart-without xs at a t)))
    (cases_Bool (contains xs a))

-- so it is with objects
all_by : (P : Object → Type 0) (t : Bool) (os ps : List Object) → AllByRecursion P os → AllByRecursion P ps → AllByRecursion P (if t then os else ps)
all_by P true os ps h k = h
all_by P false os ps h k = k

all-without : (P : Object → Type 0) (at : ℕ) (os : List Object) → AllByRecursion P os → AllByRecursion P (without_object address_of at os)
all-without P at [] h = h
all-without P at (x ∷ xs) h = all_by P (x.at == at) xs (x ∷ without_object address_of at xs) h.1 (h.0, all-without P at xs h.1)

apart_by : (t : Bool) (os ps : List Object) (a : ℕ) → contains (map (λ (o : Object). o.at) os) a ≡ false → contains (map (λ (o : Object). o.at) ps) a ≡ false → contains (map (λ (o : Object). o.at) (if t then os else ps)) a ≡ false
apart_by true os ps a h k = h
apart_by false os ps a h k = k

apart-objects : (at : ℕ) (os : List Object) (a : ℕ) → contains (map (λ (o : Object). o.at) os) a ≡ false → contains (map (λ (o : Object). o.at) (without_object address_of at os)) a ≡ false
apart-objects at [] a h = h
apart-objects at (x ∷ xs) a h =
    let behind = apart-tail x.at (map (λ (o : Object). o.at) xs) a h in
    apart_by (x.at == at) xs (x ∷ without_object address_of at xs) a behind
    (apart-cons x.at (map (λ (o : Object). o.at) (without_object address_of at xs)) a (apart-head x.at (map (λ (o : Object). o.at) xs) a h) (apart-objects at xs a behind))

-- a dictionary that an object is taken out of owns no more than before
pub fewer-owned : (r : Layout ℕ) (d : Dictionary) (o : Option Object) (a : ℕ) → contains (own_blocks d) a ≡ false → contains (own_blocks (remove_found r d o).dict) a ≡ false
fewer-owned r d None a h = h
fewer-owned r d (Some o) a h =
    let front = map (λ (t : Table). t.at) (option_list d.table) in
    apart-append front (map (λ (o : Object). o.at) (without_object address_of o.at d.objects)) a (apart-front front (map (λ (o : Object). o.at) d.objects) a h)
    (apart-objects o.at d.objects a (apart-rest front (map (λ (o : Object). o.at) d.objects) a h))

-- a holder was taken out of a whole dictionary
pub record IsTaken {I : Type 0} {V : I → Type 0} (rules : Rules) (before mid : Best I V) (old new : Dict) (at : ℕ) : Type 0 where
  pub whole : IsWhole rules old (cells_in before)
  pub within : contains (holders_of old (cells_in before)) at ≡ true
  pub became : Became rules (holders_of old (cells_in before)) old (cells_in before) new (cells_in mid) (without at (holders_of old (cells_in before)))
      (changes.current_without (Some at) old.current.0 (holders_of old (cells_in before)))

module _ {I : Type 0} {V : I → Type 0} {rules : Rules} {before mid : Best I V} {old new : Dict} {at : ℕ} (taken : IsTaken rules before mid old new at) where
  -- the holders before
  abbrev xs : List ℕ
  xs = holders_of old (cells_in before)

  -- its object stays
  pub object-stays : object_at (cells_in mid) at ≡ object_at (cells_in before) at
  object-stays = taken.became.keeps.bodies at (apart-table rules old (cells_in before) xs at taken.whole.stands taken.within)

  pub object-small : IsObject (object_at (cells_in mid) at)
  object-small =
      subst (λ z. IsObject z) (sym object-stays) (each-object IsObject (cells_in before) xs taken.whole.objects at taken.within)

  pub holder-stays : IsHolder (cells_in mid) at
  holder-stays =
      let h = holder-there rules old (cells_in before) xs at taken.whole.stands taken.within in
      record { there = taken.became.keeps.there at ∙ h.there; enough = subst (λ n. 33 ≤ n) (sym (taken.became.keeps.sizes at)) h.enough }

  -- and it is freed
  module _ (meaning : (x : I) × V x → Discipline) (after : Best I V) (stays : StaysButCells before mid) (free : FreesCell meaning mid at after) where
    left : (a : ℕ) → at ≢ a → cells_in after a ≡ cells_in mid a
    left a ne = ap (λ (f : Blocks). f a) free.cells ∙ left-cell (cells_in mid) at a ne

    others_apart : (a : ℕ) → contains (without at xs) a ≡ true → at ≢ a
    others_apart a h e =
        true≢false (sym h ∙ ap (contains (without at xs)) (sym e) ∙ gone-apart at xs (holders-distinct _ _ _ _ taken.whole.stands))

    table_differs : at ≢ (table_in new).0
    table_differs e =
        differs xs at (table_in old).0 taken.within (table-apart rules old (cells_in before) xs taken.whole.stands) (e ∙ ap (λ z. z.0) taken.became.table)

    own_apart : (a : ℕ) → contains ((table_in new).0 ∷ without at xs) a ≡ true → at ≢ a
    own_apart a h = elim (eqb_tells (table_in new).0 a) as (λ _. at ≢ a) [
      | inl same ↦ λ e. table_differs (e ∙ sym same.1)
      | inr apart ↦ others_apart a (rw apart.0 at h)
    ]

    stands-after : Stands rules new (cells_in after) (without at xs)
    stands-after =
        Stands-own rules new (cells_in mid) (cells_in after) (without at xs) (λ a _ h. left a (own_apart a h)) taken.became.stands

    objects-after : map (object_of (cells_in after)) (without at xs) ≡ without_object address_of at (dictionary_in old before).objects
    objects-after =
        objects-kept (cells_in before) (cells_in after) (without at xs)
        (λ a w. ap (λ o. body_of (unwrap_or o [])) (left a (others_apart a w))
        ∙ taken.became.keeps.bodies a (apart-table rules old (cells_in before) xs a taken.whole.stands (left-within xs at a w)))
        ∙ sym (without-mapped (cells_in before) at xs)

    pub dict-after : dictionary_in new after ≡ (remove_found (rest_in before) (dictionary_in old before) (Some (object_of (cells_in before) at))).dict
    dict-after =
        let os = without_object address_of at (dictionary_in old before).objects in
        let zero : contains xs 0 ≡ false = none-at_0 _ _ _ _ taken.whole.stands in
        let with : Option ℕ → Dictionary = λ c. record { method = old.method; objects = os; current = c; table = table_of (table_in old).0 (slots_in old) } in
        dictionary-told rules new (cells_in after) (without at xs) stands-after
        ∙ dictionary-same new.method old.method (map (object_of (cells_in after)) (without at xs)) os new.current.0 (changes.current_without (Some at) old.current.0 xs) (table_in new).0 (table_in old).0 (slots_in new) (slots_in old)
        taken.became.method objects-after taken.became.current (ap (λ z. z.0) taken.became.table) taken.became.slots
        ∙ ap with (sym (current-mapped (cells_in before) at old.current.0 xs zero))

    whole-after : IsWhole rules new (cells_in after)
    whole-after =
        IsWhole-told rules new (cells_in after) (without at xs) stands-after
        (subst (λ z. contains (0 ∷ without at xs) z ≡ true) (sym taken.became.current) (current-removed (Some at) old.current.0 xs taken.whole.current))
        (λ h e. taken.whole.table (sym (ap has_table taken.became.method) ∙ h) (sym (ap (λ z. z.0) taken.became.table) ∙ e))
        (subst (λ z. AllByRecursion (λ o. IsObject o.bytes) z) (sym objects-after) (all-without (λ o. IsObject o.bytes) at (dictionary_in old before).objects taken.whole.objects))

    others-after : (a : ℕ) → contains (own_blocks (dictionary_in old before)) a ≡ false → cells_in after a ≡ cells_in before a
    others-after a apart_own = elim (eqb_tells a 0) as (λ _. cells_in after a ≡ cells_in before a) [
      | inl zero ↦ ap (cells_in after) zero.1 ∙ none-at after ∙ sym (none-at before) ∙ ap (cells_in before) (sym zero.1)
      | inr some ↦
          let apart : contains ((table_in old).0 ∷ xs) a ≡ false = sym (owned-within old (cells_in before) a some.1) ∙ apart_own in
          let other : contains xs a ≡ false = apart-tail (table_in old).0 xs a apart in
          left a (differs xs at a taken.within other) ∙ taken.became.keeps.others a (apart-cons (table_in old).0 [] a (apart-head (table_in old).0 xs a apart) refl) other
    ]

    pub leaves-taken : LeavesRest meaning rules before old after new
    leaves-taken = record {
      whole = whole-after;
      kind = taken.became.kind;
      rest = record {
        disc = keeps-same (disc_in meaning before) (disc_in meaning after) (segments_in before) (segments_in after) (free.around.disc ∙ ap (disc_in_box meaning) stays.disc) (free.around.segments ∙ stays-segments before mid stays);
        labelled = free.around.labelled ∙ ap labelled_blocks stays.layout;
        others = λ a old_apart _. others-after a old_apart;
        fresh = λ a new_within old_apart.
            absurd (true≢false (sym new_within ∙ ap (λ d. contains (own_blocks d) a) dict-after ∙ fewer-owned (rest_in before) (dictionary_in old before) (Some (object_of (cells_in before) at)) a old_apart));
      };
    }

    pub region-taken : rest_in after ≡ layout_without (rest_in before) at
    region-taken = free.rest ∙ ap (λ r. layout_without r at) stays.layout

    gives-taken : GivesRemoved (remove_found (rest_in before) (dictionary_in old before) (Some (object_of (cells_in before) at))) (rest_in after) (dictionary_in new after) (Some (object_at (cells_in mid) at))
    gives-taken = record { region = sym region-taken; dict = sym dict-after; gone = ap (λ z. Some z) (sym object-stays) }

    -- so it is with the object that was asked for, of which its kind is told where that is wanted
    pub takes-found : (rules' : Rules) → rules' ≡ rules → (o : Option Object) (tells : Bool) (out : List ℕ) (told told' : Gone) → o ≡ Some (object_of (cells_in before) at) → out ≡ object_at (cells_in mid) at
        → told' ≡ told_if tells (Some (object_at (cells_in mid) at)) told → TakesOut meaning (remove_found (rest_in before) (dictionary_in old before) o) rules rules' tells true out before old told after new told'
    takes-found rules' kind o tells out told told' is copied gone = record {
      kind = kind;
      given =
          subst (λ z. GivesRemoved (remove_found (rest_in before) (dictionary_in old before) z) (rest_in after) (dictionary_in new after) (Some out)) (sym is)
          (subst (λ z. GivesRemoved (remove_found (rest_in before) (dictionary_in old before) (Some (object_of (cells_in before) at))) (rest_in after) (dictionary_in new after) (Some z)) (sym copied) gives-taken);
      leaves = leaves-taken;
      disc = free.around.disc ∙ stays-disc meaning before mid stays;
      gone = subst (λ z. told' ≡ told_if tells (Some z) told) (sym copied) gone;
      nothing = λ e. absurd (true≢false e);
    }

-- none was asked for
pub takes-none : {I : Type 0} {V : I → Type 0} (meaning : (x : I) × V x → Discipline) (rules : Rules) (before after : Best I V) (old new : Dict) (o : Option Object) (tells : Bool) (out : List ℕ) (told : Gone)
    → o ≡ None → Looks meaning rules before old after new → out ≡ [] → TakesOut meaning (remove_found (rest_in before) (dictionary_in old before) o) rules rules tells false out before old told after new told
takes-none meaning rules before after old new o tells out told none looks empty = record {
  kind = refl;
  given =
      subst (λ z. GivesRemoved (remove_found (rest_in before) (dictionary_in old before) z) (rest_in after) (dictionary_in new after) None) (sym none)
      (record { region = sym looks.region; dict = sym looks.dict; gone = refl });
  leaves = looks.leaves;
  disc = looks.disc;
  gone = refl;
  nothing = λ _. empty;
}

-- the first holder is one of them, and was taken out
first-within : (xs : List ℕ) (at : ℕ) → Some at ≡ first_in xs → contains xs at ≡ true
first-within [] at e = cc
first-within (x ∷ xs) at e = subst (λ z. contains (x ∷ xs) z ≡ true) (sym (ap (λ o. unwrap_or o 0) e)) (within-head x xs)

pub taken-first : {I : Type 0} {V : I → Type 0} {rules : Rules} {before mid : Best I V} {old new : Dict} {at : ℕ} → IsWhole rules old (cells_in before) → Some at ≡ first_in (holders_of old (cells_in before))
    → Became rules (holders_of old (cells_in before)) old (cells_in before) new (cells_in mid) (without at (holders_of old (cells_in before))) (changes.current_without (Some at) old.current.0 (holders_of old (cells_in before)))
    → IsTaken rules before mid old new at
taken-first whole first became = record { whole = whole; within = first-within _ _ first; became = became }

-- and it is that of the first object
pub first-object : (b : Blocks) (xs : List ℕ) (o : Option ℕ) → o ≡ first_in xs → first_of (map (object_of b) xs) ≡ option_map (object_of b) o
first-object b xs o e = first-mapped b xs ∙ ap (option_map (object_of b)) (sym e)
