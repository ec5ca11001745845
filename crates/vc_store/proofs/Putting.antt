-- At which place an object stands that a method put among others.
use Rattle.vc_base.proofs.Common.{◌≡◌, ℕ, suc, Bool, true, false, ◌≢◌, List, [], ◌∷◌, ◌++◌, map, length, if◌then◌else◌, ◌==◌, Some, None, Option, Result, Ok, Err, IfOk, OnErr, sym, refl, ap, ◌∙◌, subst, ⊎_elim, eq-eqb, ne_eqb, AreDistinct, contains, Discipline, Layout, Terms, Done, Outcome, Put, Refused}
use Rattle.vc_base.specs.declared.fault.OutOfMemory.{OutOfMemory}
use Rattle.vc_model.specs.Addr.{address}
use Rattle.vc_base.specs.declared.dict_method.DictMethod.{DictMethod}
use Rattle.vc_base.specs.declared.dict_method.DictMethod.TheVariants.{DtSet, DtBag, DtOset, DtObag, DtList, DtStack, DtQueue}
use Rattle.vc_base.proofs.Members.{within-head, within-tail}
use Rattle.vc_dtdisc.specs.Finding.{put_before}
use Rattle.vc_dtdisc.specs.Objects as objects
use Rattle.vc_dtdisc.specs.Objects.{Object, address_of, inserted_among, is_greater}
use Rattle.vc_dtdisc.specs.Rules.{Rules}
use Rattle.vc_objects.specs.Insert.{Grown, alloc_unlabelled, grow, held_in, insert, insert_of, slots_wanted, with_object}
use Rattle.vc_objects.specs.Leaves.{GivesInserted, HasGrown, IsHalted, no_holder, no_table}
use Rattle.vc_objects.specs.Objects.{Dictionary, holder_size}
use Rattle.vc_objects.specs.Remove.{bytes_of}
use Rattle.vc_objects.specs.declared.fate.Fate.{Fate}
use Rattle.vc_objects.specs.declared.fate.Fate.TheVariants.{Stored, NoTable, NoHolder}
use Rattle.vc_store.specs.declared.put.Put.{Put as Answer}
use Rattle.vc_store.specs.Contents.{before_address, contents_of, current_place}
use Rattle.vc_store.specs.Reading.{count_before, place_after, put_place}
use Rattle.vc_store.specs.Tries.{TriesBy, told_as}
use Rattle.vc_store.proofs.Places.{other-than}
use Rattle.vc_store.proofs.Shown.{grown-same}

first-here : (o : Object) (xs : List Object) → before_address o.at (o ∷ xs) ≡ 0
first-here o xs = rw (eq-eqb o.at o.at refl) refl

behind-here : (x o : Object) (xs : List Object) → x.at ≢ o.at → before_address o.at (x ∷ xs) ≡ suc (before_address o.at xs)
behind-here x o xs ne = rw (ne_eqb x.at o.at ne) refl

-- put before the first that passes a test it is one of them, and as many stand before it
put-within : (test : Object → Bool) (o : Object) (xs : List Object) → contains (map address_of (put_before test o xs)) o.at ≡ true
put-within test o [] = within-head o.at []
put-within test o (x ∷ xs) = by (test x) (put-within test o xs)
  where
    by : (t : Bool) → contains (map address_of (put_before test o xs)) o.at ≡ true → contains (map address_of (if t then o ∷ x ∷ xs else x ∷ put_before test o xs)) o.at ≡ true
    by true rest = within-head o.at (map address_of (x ∷ xs))
    by false rest = within-tail x.at (map address_of (put_before test o xs)) o.at rest

put-counted : (test : Object → Bool) (o : Object) (xs : List Object) → AreDistinct (map address_of (put_before test o xs)) → before_address o.at (put_before test o xs) ≡ count_before test xs
put-counted test o [] d = first-here o []
put-counted test o (x ∷ xs) d = by (test x) (put-counted test o xs) d
  where
    by : (t : Bool) → (AreDistinct (map address_of (put_before test o xs)) → before_address o.at (put_before test o xs) ≡ count_before test xs)
        → AreDistinct (map address_of (if t then o ∷ x ∷ xs else x ∷ put_before test o xs))
        → before_address o.at (if t then o ∷ x ∷ xs else x ∷ put_before test o xs) ≡ (if t then 0 else suc (count_before test xs))
    by true rest d = first-here o (x ∷ xs)
    by false rest d =
        behind-here x o (put_before test o xs) (other-than x.at o.at (map address_of (put_before test o xs)) d.0 (put-within test o xs))
        ∙ ap (λ n. suc n) (rest d.1)

last-is : (o : Object) (xs : List Object) → put_before (λ _. false) o xs ≡ xs ++ o ∷ []
last-is o [] = refl
last-is o (x ∷ xs) = ap (λ ys. x ∷ ys) (last-is o xs)

count-all : (xs : List Object) → count_before (λ _. false) xs ≡ length (bytes_of xs)
count-all [] = refl
count-all (x ∷ xs) = ap (λ n. suc n) (count-all xs)

count-bytes : (test : List ℕ → Bool) (xs : List Object) → count_before (λ x. test x.bytes) xs ≡ count_before test (bytes_of xs)
count-bytes test [] = refl
count-bytes test (x ∷ xs) = ap (λ n. if test x.bytes then 0 else suc n) (count-bytes test xs)

count-address : (at : ℕ) (xs : List Object) → count_before (λ x. x.at == at) xs ≡ before_address at xs
count-address at [] = refl
count-address at (x ∷ xs) = ap (λ n. if x.at == at then 0 else suc n) (count-address at xs)

last-placed : (o : Object) (xs : List Object) → AreDistinct (map address_of (xs ++ o ∷ [])) → before_address o.at (xs ++ o ∷ []) ≡ length (bytes_of xs)
last-placed o xs d =
    ap (λ ys. before_address o.at ys) (sym (last-is o xs))
    ∙ (put-counted (λ _. false) o xs (subst (λ (ys : List Object). AreDistinct (map address_of ys)) (sym (last-is o xs)) d) ∙ count-all xs)

key-placed : (rules : Rules) (o : Object) (xs : List Object) → AreDistinct (map address_of (put_before (λ x. is_greater rules x.bytes o.bytes) o xs))
    → before_address o.at (put_before (λ x. is_greater rules x.bytes o.bytes) o xs) ≡ count_before (λ b. is_greater rules b o.bytes) (bytes_of xs)
key-placed rules o xs d =
    put-counted (λ x. is_greater rules x.bytes o.bytes) o xs d ∙ count-bytes (λ b. is_greater rules b o.bytes) xs

-- where a method puts it
put-placed : (method : DictMethod) (rules : Rules) (current : Option ℕ) (o : Object) (xs : List Object)
    → AreDistinct (map address_of (inserted_among address_of objects.bytes_of method rules current o xs))
    → before_address o.at (inserted_among address_of objects.bytes_of method rules current o xs) ≡ put_place method rules (current_place current xs) o.bytes (bytes_of xs)
put-placed DtSet rules current o xs d = last-placed o xs d
put-placed DtBag rules current o xs d = last-placed o xs d
put-placed DtOset rules current o xs d = key-placed rules o xs d
put-placed DtObag rules current o xs d = key-placed rules o xs d
put-placed DtList rules None o xs d = first-here o xs
put-placed DtList rules (Some at) o xs d = put-counted (λ x. x.at == at) o xs d ∙ count-address at xs
put-placed DtStack rules current o xs d = first-here o xs
put-placed DtQueue rules current o xs d = last-placed o xs d

-- the place of the current one, of a dictionary and by an object's fate
abbrev place_in : Dictionary → Option ℕ
place_in d = current_place d.current d.objects

abbrev place_by : Fate → Rules → List ℕ → Dictionary → Option ℕ
place_by Stored rules bytes d = Some (put_place d.method rules (place_in d) bytes (bytes_of d.objects))
place_by (NoTable want) rules bytes d = place_in d
place_by (NoHolder want) rules bytes d = place_in d

module _ (rules : Rules) (terms : Terms) (r : Layout ℕ) (d : Dictionary) (bytes : List ℕ) (R : Layout ℕ) (D : Dictionary) (distinct : AreDistinct (map address_of D.objects)) where
  holder-placed : (g : Grown ℕ) (o : Outcome (Put (Layout ℕ))) (fate : Fate) → g.dict ≡ record d { table = g.dict.table }
      → GivesInserted (insert_of rules false bytes g o) R D fate → place_in D ≡ place_by fate rules bytes d
  holder-placed g (Done p) fate same h =
      let apart : AreDistinct (map address_of (with_object rules false bytes g.dict (address p.at)).objects) = subst (λ (e : Dictionary). AreDistinct (map address_of e.objects)) (sym h.dict) distinct in
      let here : place_in (with_object rules false bytes g.dict (address p.at)) ≡ place_by Stored rules bytes g.dict
      = ap Some (put-placed g.dict.method rules g.dict.current (record { at = address p.at; bytes = bytes }) g.dict.objects apart) in
      ap place_in (sym h.dict) ∙ (here ∙ (ap (λ e. place_by Stored rules bytes e) same ∙ ap (λ f. place_by f rules bytes d) h.fate))
  holder-placed g (Refused why) fate same h =
      ap place_in (sym h.dict ∙ same) ∙ ap (λ f. place_by f rules bytes d) h.fate

  table-placed : (o : Outcome (Grown ℕ)) (refused : Bool) (fate : Fate) → ((Q : Layout ℕ) (E : Dictionary) → HasGrown o Q E → E ≡ record d { table = E.table })
      → GivesInserted (held_in rules terms r 0 d false bytes refused o) R D fate → place_in D ≡ place_by fate rules bytes d
  table-placed (Done g) refused fate same h =
      holder-placed g (alloc_unlabelled terms g.region 0 (holder_size bytes) refused) fate (same g.region g.dict (refl, refl)) h
  table-placed (Refused why) refused fate same h =
      ap place_in (sym h.dict) ∙ ap (λ f. place_by f rules bytes d) h.fate

  fate-placed : (fate : Fate) → GivesInserted (insert rules terms r 0 d false bytes (no_table fate) (no_holder fate)) R D fate → place_in D ≡ place_by fate rules bytes d
  fate-placed fate h =
      table-placed (grow terms r 0 d (no_table fate)) (no_holder fate) fate (grown-same terms r d (no_table fate) (slots_wanted d)) h

  halted-placed : IsHalted (grow terms r 0 d false) r d R D → place_in D ≡ place_in d
  halted-placed h =
      ⊎_elim (λ still. ap place_in still.1) (λ grown. ap place_in (grown-same terms r d false (slots_wanted d) R D grown)) h

-- so where one was tried
module _ (rules : Rules) (object : List ℕ) (old new : Discipline) (r r' : Layout ℕ) (d d' : Dictionary) (distinct : AreDistinct (map address_of d'.objects)) where
  fates-placed : (fate : Result Fate OutOfMemory) → IfOk fate (λ f. GivesInserted (insert rules old.terms r 0 d false object (no_table f) (no_holder f)) r' d' f)
      → OnErr fate (IsHalted (grow old.terms r 0 d false) r d r' d') → place_in d' ≡ place_after (told_as fate) rules object (contents_of d)
  fates-placed (Ok Stored) ok err = fate-placed rules old.terms r d object r' d' distinct Stored ok
  fates-placed (Ok (NoTable want)) ok err = fate-placed rules old.terms r d object r' d' distinct (NoTable want) ok
  fates-placed (Ok (NoHolder want)) ok err = fate-placed rules old.terms r d object r' d' distinct (NoHolder want) ok
  fates-placed (Err why) ok err = halted-placed rules old.terms r d object r' d' distinct err

  pub tried-placed : (answer : Answer) → TriesBy answer rules object old r d new r' d' → place_in d' ≡ place_after answer rules object (contents_of d)
  tried-placed answer t = fates-placed t.fate t.ok t.err ∙ ap (λ a. place_after a rules object (contents_of d)) t.told
