-- What a dictionary shows of what a call does to it.
use Rattle.vc_base.proofs.Common.{◌≡◌, ℕ, ◌*◌, suc, Bool, true, false, List, [], ◌∷◌, ◌++◌, map, length, take, drop, if◌then◌else◌, ◌==◌, Some, None, Option, option_map, Result, Ok, Err, IfOk, OnErr, sym, refl, ap, ◌∙◌, subst, ⊎_elim, inl, inr, true≢false, none-some, same_Some, arith, eqb_tells, map-append, find, cond, is_some, nat_le, ◌&&◌, common_steps, Blocks, HasBytes, IsAddress, AreDistinct, contains, some_address, append-nil, HasOut, Discipline, Layout, Terms, Done, Outcome, Put, Refused}
use Rattle.vc_base.specs.declared.fault.OutOfMemory.{OutOfMemory}
use Rattle.std.specs.Ordering.{is_ge}
use Rattle.vc_base.specs.Methods.{is_ordered}
use Rattle.vc_model.specs.Addr.{address}
use Rattle.vc_model.specs.Discipline.{Kept, TookBack}
use Rattle.vc_base.specs.declared.dict_method.DictMethod.{DictMethod}
use Rattle.vc_base.specs.declared.dict_method.DictMethod.TheVariants.{DtSet, DtBag, DtOset, DtObag, DtList, DtStack, DtQueue}
use Rattle.vc_dtdisc.specs.Finding as finding
use Rattle.vc_dtdisc.specs.Objects as objects
use Rattle.vc_dtdisc.specs.Objects.{Object, address_of, first_with, inserted_among, placed_among}
use Rattle.vc_dtdisc.specs.Rules.{IsObject, Rules}
use Rattle.vc_dtdisc.proofs.ObjectsLemmas.{first_with-map, placed_among-map}
use Rattle.vc_objects.specs.Insert.{Grown, alloc_unlabelled, grow, grown_to, grown_with, held_in, insert, insert_of, slots_wanted, with_object}
use Rattle.vc_base.specs.declared.addr.Addr.{Addr}
use Rattle.vc_base.specs.Prelude.{number_of}
use Rattle.vc_base.proofs.Members.{within-head, within-tail}
use Rattle.vc_base.proofs.Lists.{find-map}
use Rattle.vc_base.proofs.Options.{is_some-map}
use Rattle.vc_dtdisc.specs.Finds.{object_at}
use Rattle.vc_dict.specs.Listed.{holders_of}
use Rattle.vc_dict.specs.declared.dict.Dict.{Dict}
use Rattle.vc_dict.proofs.OwnLemmas.{holder-address, holder-there, holders-distinct}
use Rattle.vc_best.specs.Cells.{cells_in}
use Rattle.vc_best.specs.declared.best.Best.{Best}
use Rattle.vc_objects.specs.Leaves.{GivesInserted, HasGrown, IsHalted, KeepsDisc, LeavesRest, Looks, no_holder, no_table}
use Rattle.vc_objects.specs.Objects.{Dictionary, holder_size}
use Rattle.vc_objects.specs.Parts.{IsWhole, dictionary_in, dictionary_of, object_of}
use Rattle.vc_objects.proofs.Mapped.{addresses-mapped}
use Rattle.vc_objects.specs.Remove.{bytes_of, remove, remove_found}
use Rattle.vc_objects.specs.declared.fate.Fate.{Fate}
use Rattle.vc_objects.specs.declared.fate.Fate.TheVariants.{Stored, NoTable, NoHolder}
use Rattle.vc_store.specs.declared.put.Put.{Put as Answer}
use Rattle.vc_store.specs.Contents.{before_address, contents_in, contents_of, current_place, with_holder_current}
use Rattle.vc_store.specs.Reading as reading
use Rattle.vc_store.specs.Reading.{AfterPut, Sought, current, found, has_same_key, is_object, is_sought_from, put_before_place, put_by_method, with_place, without_key}
use Rattle.vc_store.specs.Tries.{TriesBy, told_as}
use Rattle.vc_store.proofs.Places.{object-placed, place, place-told}

-- where an object stands before another one in a list of them
before_by : (t : Bool) (x o : Object) (xs : List Object) (n : ℕ) (ys : List Object)
    → map objects.bytes_of ys ≡ take n (bytes_of xs) ++ o.bytes ∷ drop n (bytes_of xs)
    → map objects.bytes_of (if t then o ∷ x ∷ xs else x ∷ ys)
    ≡ take (if t then 0 else suc n) (bytes_of (x ∷ xs)) ++ o.bytes ∷ drop (if t then 0 else suc n) (bytes_of (x ∷ xs))
before_by true x o xs n ys e = refl
before_by false x o xs n ys e = ap (λ zs. x.bytes ∷ zs) e

before-shown : (at : ℕ) (o : Object) (xs : List Object) → bytes_of (finding.put_before (λ x. x.at == at) o xs) ≡ take (before_address at xs) (bytes_of xs) ++ o.bytes ∷ drop (before_address at xs) (bytes_of xs)
before-shown at o [] = refl
before-shown at o (x ∷ xs) =
    before_by (x.at == at) x o xs (before_address at xs) (finding.put_before (λ x. x.at == at) o xs) (before-shown at o xs)

last-shown : (o : Object) (xs : List Object) → bytes_of (xs ++ o ∷ []) ≡ bytes_of xs ++ o.bytes ∷ []
last-shown o xs = map-append objects.bytes_of xs (o ∷ [])

at-shown : (current : Option ℕ) (o : Object) (xs : List Object) → bytes_of (objects.put_before_current address_of current o xs) ≡ put_before_place (current_place current xs) o.bytes (bytes_of xs)
at-shown None o xs = refl
at-shown (Some at) o xs = before-shown at o xs

-- an object that a method puts among others
pub put-shown : (method : DictMethod) (rules : Rules) (current : Option ℕ) (o : Object) (xs : List Object)
    → bytes_of (inserted_among address_of objects.bytes_of method rules current o xs) ≡ put_by_method method rules (current_place current xs) o.bytes (bytes_of xs)
put-shown DtSet rules current o xs = last-shown o xs
put-shown DtBag rules current o xs = last-shown o xs
put-shown DtOset rules current o xs = sym (placed_among-map objects.bytes_of (λ b. b) rules o xs)
put-shown DtObag rules current o xs = sym (placed_among-map objects.bytes_of (λ b. b) rules o xs)
put-shown DtList rules current o xs = at-shown current o xs
put-shown DtStack rules current o xs = refl
put-shown DtQueue rules current o xs = last-shown o xs

-- the first one that has a key
pub found-shown : (rules : Rules) (key : List ℕ) (xs : List Object) → found rules key (bytes_of xs) ≡ option_map objects.bytes_of (first_with objects.bytes_of rules key xs)
found-shown rules key xs = first_with-map objects.bytes_of (λ b. b) rules key xs

-- where a table grew, or was refused, all else of the dictionary stays
pub grown-same : (terms : Terms) (r : Layout ℕ) (d : Dictionary) (refused : Bool) (wanted : Option ℕ) (R : Layout ℕ) (E : Dictionary)
    → HasGrown (grown_to terms r 0 d refused wanted) R E → E ≡ record d { table = E.table }
grown-same terms r d refused None R E h = subst (λ (e : Dictionary). e ≡ record d { table = e.table }) (sym h.1) refl
grown-same terms r d refused (Some slots) R E h = by (alloc_unlabelled terms r 0 (8 * slots) refused) h
  where
    by : (o : Outcome (Put (Layout ℕ))) → HasGrown (grown_with d slots o) R E → E ≡ record d { table = E.table }
    by (Done p) h = subst (λ (e : Dictionary). e ≡ record d { table = e.table }) (sym h.1) refl
    by (Refused why) h = absurd h

-- what an object's fate says of the objects: stored it stands among them, and else they stay
abbrev pub AfterFate : Fate → Rules → List ℕ → Dictionary → Dictionary → Type 0
AfterFate Stored rules bytes d D = bytes_of D.objects ≡ put_by_method d.method rules (current_place d.current d.objects) bytes (bytes_of d.objects)
AfterFate (NoTable want) rules bytes d D = bytes_of D.objects ≡ bytes_of d.objects
AfterFate (NoHolder want) rules bytes d D = bytes_of D.objects ≡ bytes_of d.objects

module _ (rules : Rules) (terms : Terms) (r : Layout ℕ) (d : Dictionary) (bytes : List ℕ) where
  holder-shown : (g : Grown ℕ) (o : Outcome (Put (Layout ℕ))) (R : Layout ℕ) (D : Dictionary) (fate : Fate) → g.dict ≡ record d { table = g.dict.table }
      → GivesInserted (insert_of rules false bytes g o) R D fate → AfterFate fate rules bytes d D × (D.method ≡ d.method)
  holder-shown g (Done p) R D fate same h =
      let stored : bytes_of (with_object rules false bytes g.dict (address p.at)).objects ≡ put_by_method g.dict.method rules (current_place g.dict.current g.dict.objects) bytes (bytes_of g.dict.objects)
      = put-shown g.dict.method rules g.dict.current (record { at = address p.at; bytes = bytes }) g.dict.objects in
      let here : bytes_of D.objects ≡ put_by_method g.dict.method rules (current_place g.dict.current g.dict.objects) bytes (bytes_of g.dict.objects) = ap (λ (e : Dictionary). bytes_of e.objects) (sym h.dict) ∙ stored in
      let now : AfterFate Stored rules bytes d D = subst (λ (e : Dictionary). bytes_of D.objects ≡ put_by_method e.method rules (current_place e.current e.objects) bytes (bytes_of e.objects)) same here in
      (subst (λ f. AfterFate f rules bytes d D) h.fate now, ap (λ (e : Dictionary). e.method) (sym h.dict) ∙ ap (λ (e : Dictionary). e.method) same)
  holder-shown g (Refused why) R D fate same h =
      let now : bytes_of D.objects ≡ bytes_of d.objects = ap (λ (e : Dictionary). bytes_of e.objects) (sym h.dict ∙ same) in
      (subst (λ f. AfterFate f rules bytes d D) h.fate now, ap (λ (e : Dictionary). e.method) (sym h.dict ∙ same))

  table-shown : (o : Outcome (Grown ℕ)) (refused : Bool) (R : Layout ℕ) (D : Dictionary) (fate : Fate) → ((Q : Layout ℕ) (E : Dictionary) → HasGrown o Q E → E ≡ record d { table = E.table })
      → GivesInserted (held_in rules terms r 0 d false bytes refused o) R D fate → AfterFate fate rules bytes d D × (D.method ≡ d.method)
  table-shown (Done g) refused R D fate same h =
      holder-shown g (alloc_unlabelled terms g.region 0 (holder_size bytes) refused) R D fate (same g.region g.dict (refl, refl)) h
  table-shown (Refused why) refused R D fate same h =
      let now : bytes_of D.objects ≡ bytes_of d.objects = ap (λ (e : Dictionary). bytes_of e.objects) (sym h.dict) in
      (subst (λ f. AfterFate f rules bytes d D) h.fate now, ap (λ (e : Dictionary). e.method) (sym h.dict))

  pub fate-shown : (fate : Fate) (R : Layout ℕ) (D : Dictionary) → GivesInserted (insert rules terms r 0 d false bytes (no_table fate) (no_holder fate)) R D fate
      → AfterFate fate rules bytes d D × (D.method ≡ d.method)
  fate-shown fate R D h =
      table-shown (grow terms r 0 d (no_table fate)) (no_holder fate) R D fate (grown-same terms r d (no_table fate) (slots_wanted d)) h

  pub halted-shown : (R : Layout ℕ) (D : Dictionary) → IsHalted (grow terms r 0 d false) r d R D → (bytes_of D.objects ≡ bytes_of d.objects) × (D.method ≡ d.method)
  halted-shown R D h =
      ⊎_elim
      (λ still. (ap (λ (e : Dictionary). bytes_of e.objects) still.1, ap (λ (e : Dictionary). e.method) still.1))
      (λ grown.
      let same = grown-same terms r d false (slots_wanted d) R D grown in
      (ap (λ (e : Dictionary). bytes_of e.objects) same, ap (λ (e : Dictionary). e.method) same))
      h

-- what becomes of the objects where one was tried that none of a set matches
module _ (rules : Rules) (object : List ℕ) (old new : Discipline) (r r' : Layout ℕ) (d d' : Dictionary) (is : is_object object ≡ true) (lone : has_same_key rules object (contents_of d) ≡ false) where
  fates : (fate : Result Fate OutOfMemory) (answer : Answer) → told_as fate ≡ answer → IfOk fate (λ f. GivesInserted (insert rules old.terms r 0 d false object (no_table f) (no_holder f)) r' d' f)
      → OnErr fate (IsHalted (grow old.terms r 0 d false) r d r' d') → AfterPut answer rules object (contents_of d) (bytes_of d'.objects) × (d'.method ≡ d.method)
  fates (Ok Stored) answer e ok err =
      let h = fate-shown rules old.terms r d object Stored r' d' ok in (subst (λ a. AfterPut a rules object (contents_of d) (bytes_of d'.objects)) e (is, lone, h.0), h.1)
  fates (Ok (NoTable want)) answer e ok err =
      let h = fate-shown rules old.terms r d object (NoTable want) r' d' ok in (subst (λ a. AfterPut a rules object (contents_of d) (bytes_of d'.objects)) e (is, lone, h.0), h.1)
  fates (Ok (NoHolder want)) answer e ok err =
      let h = fate-shown rules old.terms r d object (NoHolder want) r' d' ok in (subst (λ a. AfterPut a rules object (contents_of d) (bytes_of d'.objects)) e (is, lone, h.0), h.1)
  fates (Err why) answer e ok err =
      let h = halted-shown rules old.terms r d object r' d' err in (subst (λ a. AfterPut a rules object (contents_of d) (bytes_of d'.objects)) e (is, lone, h.0), h.1)

  pub tried-shown : (answer : Answer) → TriesBy answer rules object old r d new r' d' → AfterPut answer rules object (contents_of d) (bytes_of d'.objects) × (d'.method ≡ d.method)
  tried-shown answer t = fates t.fate answer t.told t.ok t.err

-- the first that passes a test, and whether there is one
find-shown : (test : List ℕ → Bool) (xs : List Object) → find test (bytes_of xs) ≡ option_map objects.bytes_of (find (λ o. test o.bytes) xs)
find-shown test xs = find-map objects.bytes_of test xs

found-some : (test : List ℕ → Bool) (xs : List Object) (o : Option Addr) → option_map number_of o ≡ option_map address_of (find (λ o. test o.bytes) xs)
    → is_some o ≡ is_some (find test (bytes_of xs))
found-some test xs o e =
    let first = find (λ o. test o.bytes) xs in
    sym (is_some-map number_of o) ∙ (ap is_some e ∙ (is_some-map address_of first ∙ (sym (is_some-map objects.bytes_of first) ∙ ap is_some (sym (find-shown test xs)))))

-- the holder that is found is one of them, and has that object
found-at : (b : Blocks) (test : Object → Bool) (xs : List ℕ) (a : ℕ) → Some a ≡ option_map address_of (find test (map (object_of b) xs))
    → (contains xs a ≡ true) × (option_map objects.bytes_of (find test (map (object_of b) xs)) ≡ Some (object_at b a))
found-at b test [] a e = absurd (none-some a (sym e))
found-at b test (x ∷ xs) a e = by (test (object_of b x)) (found-at b test xs a) e
  where
    by : (t : Bool) → (Some a ≡ option_map address_of (find test (map (object_of b) xs)) → (contains xs a ≡ true) × (option_map objects.bytes_of (find test (map (object_of b) xs)) ≡ Some (object_at b a)))
        → Some a ≡ option_map address_of (cond t (Some (object_of b x)) (find test (map (object_of b) xs)))
        → (contains (x ∷ xs) a ≡ true) × (option_map objects.bytes_of (cond t (Some (object_of b x)) (find test (map (object_of b) xs))) ≡ Some (object_at b a))
    by true rest e =
        let same : x ≡ a = sym (same_Some a x e) in
        (subst (λ z. contains (x ∷ xs) z ≡ true) same (within-head x xs), ap (λ z. Some (object_at b z)) same)
    by false rest e = let h = rest e in (within-tail x xs a h.0, h.1)

-- another of its objects is current
module _ (rules : Rules) (d : Dict) (b : Blocks) (at : Addr) (whole : IsWhole rules d b) (w : contains (holders_of d b) at.0 ≡ true) where
  abbrev pub pointed : Dict
  pointed = record { method = d.method; kind = d.kind; count = d.count; current = at; heads = d.heads }

  pub pointed-whole : IsWhole rules pointed b
  pointed-whole = record {
    stands = record { form = whole.stands.form; heads = whole.stands.heads; count = whole.stands.count };
    current = within-tail 0 (holders_of d b) at.0 w;
    table = whole.table;
    objects = whole.objects;
  }

  pub pointed-address : some_address at.0 ≡ Some at.0
  pointed-address = elim (eqb_tells at.0 0) as (λ _. some_address at.0 ≡ Some at.0) [
    | inl same ↦
        let address : IsAddress at.0 = holder-address rules d b (holders_of d b) at.0 whole.stands w in
        absurd (let least = address.some in let zero = same.1 in omega (arith, least, zero))
    | inr apart ↦ rw apart.0 refl
  ]

  pub pointed-place : current_place (some_address at.0) (dictionary_of d b).objects ≡ Some (place at.0 (holders_of d b))
  pointed-place =
      ap (λ c. current_place c (dictionary_of d b).objects) pointed-address ∙ ap Some (place-told b at.0 (holders_of d b))

  pub pointed-shown : current (contents_of (dictionary_of pointed b)) ≡ Some (object_at b at.0)
  pointed-shown =
      ap (λ p. reading.object_at_index p (bytes_of (dictionary_of d b).objects)) pointed-place ∙ object-placed b (holders_of d b) at.0 w

-- the one that is found
seek-within : (test : List ℕ → Bool) (d : Dict) (b : Blocks) (at : Addr) → Some at.0 ≡ option_map address_of (find (λ o. test o.bytes) (dictionary_of d b).objects)
    → contains (holders_of d b) at.0 ≡ true
seek-within test d b at e = (found-at b (λ o. test o.bytes) (holders_of d b) at.0 e).0

seek-shown : (rules : Rules) (test : List ℕ → Bool) (d : Dict) (b : Blocks) (at : Addr) → IsWhole rules d b → Some at.0 ≡ option_map address_of (find (λ o. test o.bytes) (dictionary_of d b).objects)
    → current (contents_of (dictionary_of (record { method = d.method; kind = d.kind; count = d.count; current = at; heads = d.heads }) b)) ≡ find test (bytes_of (dictionary_of d b).objects)
seek-shown rules test d b at whole e =
    let h = found-at b (λ o. test o.bytes) (holders_of d b) at.0 e in
    pointed-shown rules d b at whole h.0 ∙ (sym h.1 ∙ sym (find-shown test (dictionary_of d b).objects))

module _ {I : Type 0} {V : I → Type 0} (meaning : (x : I) × V x → Discipline) (rules : Rules) (before after : Best I V) (old d : Dict) (at : Addr) where
  pub pointed-leaves : LeavesRest meaning rules before old after d → contains (holders_of d (cells_in after)) at.0 ≡ true
      → LeavesRest meaning rules before old after (record { method = d.method; kind = d.kind; count = d.count; current = at; heads = d.heads })
  pointed-leaves l w = record {
    whole = pointed-whole rules d (cells_in after) at l.whole w;
    kind = l.kind;
    rest = record { disc = l.rest.disc; labelled = l.rest.labelled; others = l.rest.others; fresh = l.rest.fresh };
  }

-- what was found is current, if there is one
module _ {I : Type 0} {V : I → Type 0} (meaning : (x : I) × V x → Discipline) (rules : Rules) (test : List ℕ → Bool) (before after : Best I V) (old d : Dict) (looks : Looks meaning rules before old after d) where
  same-objects : (dictionary_in d after).objects ≡ (dictionary_in old before).objects
  same-objects = ap (λ (c : Dictionary). c.objects) looks.dict

  here : (at : Addr) → Some at.0 ≡ option_map address_of (find (λ o. test o.bytes) (dictionary_in old before).objects)
      → Some at.0 ≡ option_map address_of (find (λ o. test o.bytes) (dictionary_in d after).objects)
  here at e = e ∙ ap (λ (os : List Object). option_map address_of (find (λ o. test o.bytes) os)) (sym same-objects)

  seen-current : (at : Option Addr) → option_map number_of at ≡ option_map address_of (find (λ o. test o.bytes) (dictionary_in old before).objects)
      → is_some at ≡ true → current (contents_in (with_holder_current at d) after) ≡ find test (contents_in old before).objects
  seen-current None e there = absurd (true≢false (sym there))
  seen-current (Some at) e there =
      seek-shown rules test d (cells_in after) at looks.leaves.whole (here at e)
      ∙ ap (λ (os : List Object). find test (bytes_of os)) same-objects

  seen-same : (at : Option Addr) → contents_in (with_holder_current at d) after ≡ with_place (contents_in (with_holder_current at d) after).place (contents_in old before)
  seen-same None = ap (λ (c : Dictionary). with_place (contents_in d after).place (contents_of c)) looks.dict
  seen-same (Some at) = ap (λ (c : Dictionary). with_place (contents_in (with_holder_current (Some at) d) after).place (contents_of c)) looks.dict

  seen-missed : (at : Option Addr) → is_some at ≡ false → contents_in (with_holder_current at d) after ≡ contents_in old before
  seen-missed None e = ap contents_of looks.dict
  seen-missed (Some at) e = absurd (true≢false e)

  module _ (at : Option Addr) (e : option_map number_of at ≡ option_map address_of (find (λ o. test o.bytes) (dictionary_in old before).objects)) (new : Dict) (shown : new ≡ with_holder_current at d) where
    pub seen : (answer : Bool) → answer ≡ is_some at → Sought test answer (contents_in old before) (contents_in new after)
    seen answer is = subst (λ (z : Dict). Sought test answer (contents_in old before) (contents_in z after)) (sym shown) record {
      there = is ∙ found-some test (dictionary_in old before).objects at e;
      current = λ t. seen-current at e (sym is ∙ t);
      same = seen-same at;
      missed = λ t. seen-missed at (sym is ∙ t);
    }

    pub seen-leaves : LeavesRest meaning rules before old after new
    seen-leaves = subst (λ (z : Dict). LeavesRest meaning rules before old after z) (sym shown) (by at e)
      where
        by : (at : Option Addr) → option_map number_of at ≡ option_map address_of (find (λ o. test o.bytes) (dictionary_in old before).objects)
            → LeavesRest meaning rules before old after (with_holder_current at d)
        by None e = looks.leaves
        by (Some at) e = pointed-leaves meaning rules before after old d at looks.leaves (seek-within test d (cells_in after) at (here at e))

-- what is sought from a key on, by a method that is ordered or isn't
find-none : {A : Type 0} (xs : List A) → find (λ x. false) xs ≡ None
find-none [] = refl
find-none (x ∷ xs) = find-none xs

module _ {A : Type 0} (method : DictMethod) (rules : Rules) (key : List ℕ) (bytes : A → List ℕ) (xs : List A) where
  pub from-ordered : is_ordered method ≡ true → find (λ x. is_sought_from method rules key (bytes x)) xs ≡ find (λ x. is_ge (rules.compare (rules.key (bytes x)) key)) xs
  from-ordered e = ap (λ t. find (λ x. t && is_ge (rules.compare (rules.key (bytes x)) key)) xs) e

  pub from-none : is_ordered method ≡ false → find (λ x. is_sought_from method rules key (bytes x)) xs ≡ None
  from-none e = ap (λ t. find (λ x. t && is_ge (rules.compare (rules.key (bytes x)) key)) xs) e ∙ find-none xs

-- without the first object that has a key
abbrev gone_from : Option Object → List Object → List Object
gone_from None xs = xs
gone_from (Some o) xs = objects.without_object address_of o.at xs

pub found-there : (test : Object → Bool) (xs : List Object) (o : Object) → find test xs ≡ Some o → contains (map address_of xs) o.at ≡ true
found-there test [] o e = absurd (none-some o e)
found-there test (x ∷ xs) o e = by (test x) (found-there test xs o) e
  where
    by : (t : Bool) → (find test xs ≡ Some o → contains (map address_of xs) o.at ≡ true) → cond t (Some x) (find test xs) ≡ Some o → contains (x.at ∷ map address_of xs) o.at ≡ true
    by true rest e = subst (λ (z : Object). contains (x.at ∷ map address_of xs) z.at ≡ true) (same_Some x o e) (within-head x.at (map address_of xs))
    by false rest e = within-tail x.at (map address_of xs) o.at (rest e)

gone-shown : (test : List ℕ → Bool) (xs : List Object) → AreDistinct (map address_of xs) → bytes_of (gone_from (find (λ o. test o.bytes) xs) xs) ≡ finding.without_first test (bytes_of xs)
gone-shown test [] d = refl
gone-shown test (x ∷ xs) d = by (test x.bytes) (gone-shown test xs d.1)
  where
    keep : (t : Bool) → t ≡ false → (o : Object) → bytes_of (if t then xs else x ∷ objects.without_object address_of o.at xs) ≡ x.bytes ∷ bytes_of (objects.without_object address_of o.at xs)
    keep true e o = absurd (true≢false e)
    keep false e o = refl

    drop_it : (t : Bool) → t ≡ true → bytes_of (if t then xs else x ∷ objects.without_object address_of x.at xs) ≡ bytes_of xs
    drop_it true e = refl
    drop_it false e = absurd (true≢false (sym e))

    same_at : (x.at == x.at) ≡ true
    same_at = elim (eqb_tells x.at x.at) as (λ _. (x.at == x.at) ≡ true) [
      | inl same ↦ same.0
      | inr apart ↦ absurd (apart.1 refl)
    ]

    other_at : (o : Object) → contains (map address_of xs) o.at ≡ true → (x.at == o.at) ≡ false
    other_at o w = elim (eqb_tells x.at o.at) as (λ _. (x.at == o.at) ≡ false) [
      | inl same ↦ absurd (true≢false (sym w ∙ subst (λ z. contains (map address_of xs) z ≡ false) same.1 d.0))
      | inr apart ↦ apart.0
    ]

    behind : (m : Option Object) → find (λ o. test o.bytes) xs ≡ m → bytes_of (gone_from m xs) ≡ finding.without_first test (bytes_of xs)
        → bytes_of (gone_from m (x ∷ xs)) ≡ x.bytes ∷ finding.without_first test (bytes_of xs)
    behind None e h = ap (λ ys. x.bytes ∷ ys) h
    behind (Some o) e h =
        keep (x.at == o.at) (other_at o (found-there (λ z. test z.bytes) xs o e)) o ∙ ap (λ ys. x.bytes ∷ ys) h

    by : (t : Bool) → bytes_of (gone_from (find (λ o. test o.bytes) xs) xs) ≡ finding.without_first test (bytes_of xs) → bytes_of (gone_from (cond t (Some x) (find (λ o. test o.bytes) xs)) (x ∷ xs)) ≡ (if t then bytes_of xs else x.bytes ∷ finding.without_first test (bytes_of xs))
    by true rest = drop_it (x.at == x.at) same_at
    by false rest = behind (find (λ o. test o.bytes) xs) refl rest

-- what taking it out gives
removed-is : (r : Layout ℕ) (d : Dictionary) (o : Option Object) → ((remove_found r d o).dict.objects ≡ gone_from o d.objects) × ((remove_found r d o).gone ≡ option_map objects.bytes_of o) × ((remove_found r d o).dict.method ≡ d.method)
removed-is r d None = (refl, refl, refl)
removed-is r d (Some o) = (refl, refl, refl)

module _ (rules : Rules) (key : List ℕ) (r : Layout ℕ) (d : Dictionary) where
  abbrev first : Option Object
  first = first_with objects.bytes_of rules key d.objects

  pub removed-shown : AreDistinct (map address_of d.objects) → bytes_of (remove rules r d key).dict.objects ≡ without_key rules key (bytes_of d.objects)
  removed-shown distinct = ap bytes_of (removed-is r d first).0 ∙ gone-shown (λ o. objects.has_key rules key o) d.objects distinct

  pub removed-gone : (remove rules r d key).gone ≡ found rules key (bytes_of d.objects)
  removed-gone = (removed-is r d first).1 ∙ sym (found-shown rules key d.objects)

  pub removed-method : (remove rules r d key).dict.method ≡ d.method
  removed-method = (removed-is r d first).2

-- no two objects of a dictionary have one holder
pub distinct-objects : (rules : Rules) (d : Dict) (b : Blocks) → IsWhole rules d b → AreDistinct (map address_of (dictionary_of d b).objects)
distinct-objects rules d b whole =
    subst AreDistinct (sym (addresses-mapped b (holders_of d b))) (holders-distinct rules d b (holders_of d b) whole.stands)

-- an object has 1 to 1,024 bytes where the test says so
both_by : (s t : Bool) → (s && t) ≡ true → (s ≡ true) × (t ≡ true)
both_by true t e = (refl, e)
both_by false t e = absurd (true≢false (sym e))

pub object-is : (object : List ℕ) → is_object object ≡ true → IsObject object
object-is object e =
    let parts = both_by (nat_le 1 (length object)) (nat_le (length object) 1024) e in
    let least : nat_le 1 (length object) ≡ true = parts.0 in
    let most : nat_le (length object) 1024 ≡ true = parts.1 in
    record { least = grind (arith, common_steps, least); most = grind (arith, common_steps, most) }

-- a current object is one of the objects, and stands in a holder
pub within-rest : (at : ℕ) (xs : List ℕ) → (at == 0) ≡ false → contains (0 ∷ xs) at ≡ true → contains xs at ≡ true
within-rest at xs some w = elim (eqb_tells 0 at) as (λ _. contains xs at ≡ true) [
  | inl same ↦ absurd (true≢false (subst (λ z. true ≡ (z == 0)) same.1 refl ∙ some))
  | inr apart ↦ rw apart.0 at w
]

pub current-there : (rules : Rules) (d : Dict) (b : Blocks) → IsWhole rules d b → contains (holders_of d b) d.current.0 ≡ true → HasBytes b d.current.0 32
current-there rules d b whole w =
    let h = holder-there rules d b (holders_of d b) d.current.0 whole.stands w in
    let enough = h.enough in
    record { there = h.there; enough = omega (arith, enough) }

-- what a discipline took back behind a call that only kept what was out
pub took-behind : (old mid new : Discipline) (s t : List (ℕ × ℕ)) → mid ≡ old → KeepsDisc old mid s t → TookBack mid new t [] → TookBack old new s []
took-behind old mid new s t same keeps took = record {
  kept = subst (λ d. Kept d new) same took.kept;
  faults = took.faults ∙ ap (λ (d : Discipline). d.faults) same;
  exceptions = took.exceptions ∙ ap (λ (d : Discipline). d.exceptions) same;
  out = λ rest is. took.out rest (keeps.out rest is);
}

-- with no segment lent there is nothing that a discipline has to show
pub lent-first : (d : Discipline) (segments : List (ℕ × ℕ)) → segments ≡ [] → HasOut d segments
lent-first d segments none = subst (λ s. HasOut d s) (sym none) (d.out, sym (append-nil d.out))
