-- What the definitions give for an object, by the answers of the calls that put its table and its holder.
use Rattle.vc_base.proofs.Common.{◌≡◌, ℕ, ◌*◌, Bool, false, List, map, length, OnOk, Some, None, Ok, Err, Option, Result, sym, refl, ap, ◌∙◌, subst, none-some, same_Some, contains, best_need, Discipline, NoneRefused, Served, Terms, Unserved, Layout, Done, Fault, Outcome, Put, Refused}
use Rattle.vc_base.specs.declared.fault.OutOfMemory.{OutOfMemory}
use Rattle.vc_base.proofs.Members.{apart-front, apart-rest}
use Rattle.vc_model.proofs.Keeping.{NoneRefused-equal, NoneRefused-served, NoneRefused-trans}
use Rattle.vc_model.specs.Outcome as model
use Rattle.vc_dict.specs.Methods.{wanted_by}
use Rattle.vc_dict.specs.declared.dict.Dict.{Dict}
use Rattle.vc_dtdisc.specs.Objects.{Object}
use Rattle.vc_dtdisc.specs.Rules.{Rules}
use Rattle.vc_dtlist.proofs.HolderLemmas.{apart-append}
use Rattle.vc_seg.proofs.Nothing.{nothing-refused}
use Rattle.vc_seg.specs.Answer.{Asks, IsPut, IsRefusal}
use Rattle.vc_seg.specs.declared.fault.RegionFault.{RegionFault}
use Rattle.vc_seg.specs.declared.fault.RegionFault.TheVariants as code
use Rattle.vc_best.specs.Parts.{disc_in, segments_in}
use Rattle.vc_best.specs.declared.best.Best.{Best}
use Rattle.vc_best.proofs.RestAlloc.{refusal-kept}
use Rattle.vc_objects.specs.declared.fate.Fate.TheVariants.{Stored, NoTable, NoHolder}
use Rattle.vc_objects.specs.declared.fate.Want.{Want}
use Rattle.vc_objects.specs.declared.fate.Want.TheVariants.{TooManySegments, NoSegment}
use Rattle.vc_objects.specs.Insert.{Grown, alloc_unlabelled, grow, grown_to, grown_with, insert_of, held_in, insert, slots_wanted, want_of, with_object, without_table}
use Rattle.vc_objects.specs.Leaves.{AskedForObject, GivesInserted, HasGrown, HasHeld, LacksHolder, LacksTable, LeavesRest, RefusedBy, lacks_segment, want_by}
use Rattle.vc_objects.specs.Objects.{Dictionary, Table, holder_size, option_list, own_blocks}
use Rattle.vc_objects.specs.Parts.{dictionary_in}
use Rattle.vc_objects.proofs.Leaving.{leaves-trans}

-- a block that was put is the table
pub grown-put : (o : Outcome (Put (Layout ℕ))) (D : Dictionary) (slots a : ℕ) (r R : Layout ℕ) (E : Dictionary) → IsPut o a r → R ≡ without_table r D.table
    → E ≡ record D { table = Some (record { at = a; slots = slots }) } → HasGrown (grown_with D slots o) R E
grown-put (Done p) D slots a r R E is region dict =
    (region ∙ ap (λ q. without_table q D.table) is.2, dict ∙ ap (λ n. record D { table = Some (record { at = n; slots = slots }) }) is.0)
grown-put (Refused why) D slots a r R E is region dict = absurd is

-- so is the refusal of such a block that of growth
pub grown-refused : (call : Bool → Outcome (Put (Layout ℕ))) (D : Dictionary) (slots : ℕ) (why : RegionFault) → IsRefusal call why → IsRefusal (λ refused. grown_with D slots (call refused)) why
grown-refused call D slots why is = refusal-kept call (λ refused. grown_with D slots (call refused)) (λ refused fault e. ap (grown_with D slots) e) why is

-- what is wanted of the table then
pub grown-wants : (o : Outcome (Put (Layout ℕ))) (D : Dictionary) (slots : ℕ) (R : Layout ℕ) (E : Dictionary) → HasGrown (grown_with D slots o) R E → slots_wanted E ≡ wanted_by D.method slots (length D.objects) 1
grown-wants (Done p) D slots R E h = ap slots_wanted h.1
grown-wants (Refused why) D slots R E h = absurd h

-- the method and the objects stay
pub grown-kept : (terms : Terms) (r : Layout ℕ) (D : Dictionary) (wanted : Option ℕ) (R : Layout ℕ) (E : Dictionary) → HasGrown (grown_to terms r 0 D false wanted) R E → (E.method ≡ D.method) × (E.objects ≡ D.objects)
grown-kept terms r D None R E h = (ap (λ (d : Dictionary). d.method) h.1, ap (λ (d : Dictionary). d.objects) h.1)
grown-kept terms r D (Some slots) R E h = by (alloc_unlabelled terms r 0 (8 * slots) false) h
  where
    by : (o : Outcome (Put (Layout ℕ))) → HasGrown (grown_with D slots o) R E → (E.method ≡ D.method) × (E.objects ≡ D.objects)
    by (Done p) h = (ap (λ (d : Dictionary). d.method) h.1, ap (λ (d : Dictionary). d.objects) h.1)
    by (Refused why) h = absurd h

-- what grew is so where nothing changed behind it
pub grown-still : (o : Outcome (Grown ℕ)) (Q R : Layout ℕ) (E D : Dictionary) → HasGrown o Q E → R ≡ Q → D ≡ E → HasGrown o R D
grown-still (Done g) Q R E D grown region dict = (region ∙ grown.0, dict ∙ grown.1)
grown-still (Refused why) Q R E D grown region dict = absurd grown

-- what follows from what holds after a call that did it
pub then-ok : (P Q : Type 0) (result : Result Unit RegionFault) → (P → Q) → OnOk result P → OnOk result Q
then-ok P Q (Ok done) f p = f p
then-ok P Q (Err why) f p = tt

-- the object stands in the block that was put
pub held-put : (rules : Rules) (append : Bool) (bytes : List ℕ) (E : Dictionary) (o : Outcome (Put (Layout ℕ))) (at : ℕ) (r R : Layout ℕ) (D : Dictionary) → IsPut o at r → R ≡ r
    → D ≡ with_object rules append bytes E at → HasHeld rules append bytes E o R D
held-put rules append bytes E (Done p) at r R D is region dict = (region ∙ is.2, dict ∙ ap (with_object rules append bytes E) is.0)
held-put rules append bytes E (Refused why) at r R D is region dict = absurd is

-- what a refused block wants
abbrev Found : {A : Type 0} → (Bool → Outcome A) → Want → Type 0
Found call want = (why : Fault) × (call (lacks_segment want) ≡ Refused why) × (want_of why ≡ want)

refusal-found : {A : Type 0} (call : Bool → Outcome A) (fault : RegionFault) (want : Want) → IsRefusal call fault → want_by fault ≡ Some want → Found call want
refusal-found {A} call fault want is e = by fault is e
  where
    by : (fault : RegionFault) → IsRefusal call fault → want_by fault ≡ Some want → Found call want
    by code.TooManySegments is e = subst (Found call) (same_Some TooManySegments want e) (model.TooManySegments, is, refl)
    by code.NoSegment is e = subst (Found call) (same_Some NoSegment want e) (model.NoSegment, is, refl)
    by code.OutOfMemory is e = absurd (none-some want e)
    by code.Fixed is e = subst (Found call) (same_Some TooManySegments want e) (model.Fixed, is, refl)
    by code.PoolSize is e = subst (Found call) (same_Some TooManySegments want e) (model.PoolSize, is, refl)
    by code.NotLast is e = subst (Found call) (same_Some TooManySegments want e) (model.NotLast, is, refl)
    by code.WrongMethod is e = subst (Found call) (same_Some TooManySegments want e) (model.WrongMethod, is, refl)

module _ (rules : Rules) (terms : Terms) (r : Layout ℕ) (d : Dictionary) (append : Bool) (bytes : List ℕ) where
  stored-in : (g : Grown ℕ) (o : Outcome (Put (Layout ℕ))) (R : Layout ℕ) (D : Dictionary) → HasHeld rules append bytes g.dict o R D → GivesInserted (insert_of rules append bytes g o) R D Stored
  stored-in g (Done p) R D h = record { region = sym h.0; dict = sym h.1; fate = refl }
  stored-in g (Refused why) R D h = absurd h

  -- the object is stored
  pub inserted-stored : (o : Outcome (Grown ℕ)) (terms' : Terms) (Q : Layout ℕ) (E : Dictionary) (R : Layout ℕ) (D : Dictionary) → terms' ≡ terms → HasGrown o Q E
      → HasHeld rules append bytes E (alloc_unlabelled terms' Q 0 (holder_size bytes) false) R D → GivesInserted (held_in rules terms r 0 d append bytes false o) R D Stored
  inserted-stored (Done g) terms' Q E R D same grown k =
      let h = subst (λ t. HasHeld rules append bytes E (alloc_unlabelled t Q 0 (holder_size bytes) false) R D) same k in
      stored-in g (alloc_unlabelled terms g.region 0 (holder_size bytes) false) R D
      (subst (λ e. HasHeld rules append bytes e (alloc_unlabelled terms g.region 0 (holder_size bytes) false) R D) grown.1
      (subst (λ q. HasHeld rules append bytes E (alloc_unlabelled terms q 0 (holder_size bytes) false) R D) grown.0 h))
  inserted-stored (Refused why) terms' Q E R D same grown k = absurd grown

  no-holder-in : (g : Grown ℕ) (o : Outcome (Put (Layout ℕ))) (why : Fault) (want : Want) → o ≡ Refused why → want_of why ≡ want → GivesInserted (insert_of rules append bytes g o) g.region g.dict (NoHolder want)
  no-holder-in g o why want e w = subst (λ p. GivesInserted (insert_of rules append bytes g p) g.region g.dict (NoHolder want)) (sym e) (record { region = refl; dict = refl; fate = ap NoHolder w })

  -- its holder isn't put
  pub inserted-no_holder : (o : Outcome (Grown ℕ)) (terms' : Terms) (Q : Layout ℕ) (E : Dictionary) (R : Layout ℕ) (D : Dictionary) (fault : RegionFault) (want : Want) → terms' ≡ terms → HasGrown o Q E
      → IsRefusal (alloc_unlabelled terms' Q 0 (holder_size bytes)) fault → want_by fault ≡ Some want → R ≡ Q → D ≡ E → GivesInserted (held_in rules terms r 0 d append bytes (lacks_segment want) o) R D (NoHolder want)
  inserted-no_holder (Done g) terms' Q E R D fault want same grown k w region dict =
      let is = subst (λ t. IsRefusal (alloc_unlabelled t Q 0 (holder_size bytes)) fault) same k in
      let found = refusal-found (alloc_unlabelled terms g.region 0 (holder_size bytes)) fault want (subst (λ q. IsRefusal (alloc_unlabelled terms q 0 (holder_size bytes)) fault) grown.0 is) w in
      let gives = no-holder-in g (alloc_unlabelled terms g.region 0 (holder_size bytes) (lacks_segment want)) found.0 want found.1 found.2 in
      record { region = gives.region ∙ sym (region ∙ grown.0); dict = gives.dict ∙ sym (dict ∙ grown.1); fate = gives.fate }
  inserted-no_holder (Refused why) terms' Q E R D fault want same grown k w region dict = absurd grown

  -- its table isn't
  pub inserted-no_table : (R : Layout ℕ) (D : Dictionary) (fault : RegionFault) (want : Want) → IsRefusal (grow terms r 0 d) fault → want_by fault ≡ Some want → R ≡ r → D ≡ d
      → GivesInserted (insert rules terms r 0 d append bytes (lacks_segment want) false) R D (NoTable want)
  inserted-no_table R D fault want is w region dict =
      let found = refusal-found (grow terms r 0 d) fault want is w in
      subst (λ o. GivesInserted (held_in rules terms r 0 d append bytes false o) R D (NoTable want)) (sym found.1)
      (record { region = sym region; dict = sym dict; fate = ap NoTable found.2 })

-- what the discipline says of a block that was asked for, and of one that has no memory
pub asked-block : (old new : Discipline) (segments segments' : List (ℕ × ℕ)) (size : ℕ) (fault : RegionFault) → Asks (Err fault) old new segments segments' size → RefusedBy fault (Unserved old new size) old new
asked-block old new segments segments' size code.TooManySegments h = NoneRefused-served old new segments segments' size h
asked-block old new segments segments' size code.NoSegment h = h
asked-block old new segments segments' size code.OutOfMemory h = nothing-refused old new h
asked-block old new segments segments' size code.Fixed h = NoneRefused-served old new segments segments' size h
asked-block old new segments segments' size code.PoolSize h = NoneRefused-served old new segments segments' size h
asked-block old new segments segments' size code.NotLast h = NoneRefused-served old new segments segments' size h
asked-block old new segments segments' size code.WrongMethod h = NoneRefused-served old new segments segments' size h

-- a block was put, and then the discipline stays
pub asked-then : {I : Type 0} {V : I → Type 0} (meaning : (x : I) × V x → Discipline) (old mid new : Best I V) (size : ℕ) → Served (disc_in meaning old) (disc_in meaning mid) (segments_in old) (segments_in mid) size
    → disc_in meaning new ≡ disc_in meaning mid → NoneRefused (disc_in meaning old) (disc_in meaning new)
asked-then meaning old mid new size served stays =
    let a = disc_in meaning old in
    let b = disc_in meaning mid in
    let c = disc_in meaning new in
    NoneRefused-trans a b c (NoneRefused-served a b (segments_in old) (segments_in mid) size served) (NoneRefused-equal b c stays)

pub asked-spent : (P : Type 0) (old new : Discipline) (fault : RegionFault) → want_by fault ≡ None → RefusedBy fault P old new → NoneRefused old new
asked-spent P old new code.TooManySegments e h = h
asked-spent P old new code.NoSegment e h = absurd (none-some NoSegment (sym e))
asked-spent P old new code.OutOfMemory e h = h
asked-spent P old new code.Fixed e h = h
asked-spent P old new code.PoolSize e h = h
asked-spent P old new code.NotLast e h = h
asked-spent P old new code.WrongMethod e h = h

-- of an object's table and of its holder
pub asked-no_table : (wanted : Option ℕ) (bytes : List ℕ) (old new : Discipline) (fault : RegionFault) (want : Want) → want_by fault ≡ Some want
    → RefusedBy fault (LacksTable wanted old new) old new → AskedForObject {E = OutOfMemory} (Ok (NoTable want)) wanted bytes old new
asked-no_table wanted bytes old new fault want e h = by fault e h
  where
    by : (fault : RegionFault) → want_by fault ≡ Some want → RefusedBy fault (LacksTable wanted old new) old new → AskedForObject {E = OutOfMemory} (Ok (NoTable want)) wanted bytes old new
    by code.TooManySegments e h = subst (λ w. AskedForObject {E = OutOfMemory} (Ok (NoTable w)) wanted bytes old new) (same_Some TooManySegments want e) h
    by code.NoSegment e h = subst (λ w. AskedForObject {E = OutOfMemory} (Ok (NoTable w)) wanted bytes old new) (same_Some NoSegment want e) h
    by code.OutOfMemory e h = absurd (none-some want e)
    by code.Fixed e h = subst (λ w. AskedForObject {E = OutOfMemory} (Ok (NoTable w)) wanted bytes old new) (same_Some TooManySegments want e) h
    by code.PoolSize e h = subst (λ w. AskedForObject {E = OutOfMemory} (Ok (NoTable w)) wanted bytes old new) (same_Some TooManySegments want e) h
    by code.NotLast e h = subst (λ w. AskedForObject {E = OutOfMemory} (Ok (NoTable w)) wanted bytes old new) (same_Some TooManySegments want e) h
    by code.WrongMethod e h = subst (λ w. AskedForObject {E = OutOfMemory} (Ok (NoTable w)) wanted bytes old new) (same_Some TooManySegments want e) h

lacks-behind : (wanted : Option ℕ) (bytes : List ℕ) (old mid new : Discipline) → (wanted ≡ None → mid ≡ old) → NoneRefused old mid → LacksHolder None bytes mid new → LacksHolder wanted bytes old new
lacks-behind None bytes old mid new same grown h = subst (λ d. LacksHolder None bytes d new) (same refl) h
lacks-behind (Some slots) bytes old mid new same grown h =
    record { between = mid; grown = grown; unserved = subst (λ t. Unserved mid new (best_need t (holder_size bytes) 32)) grown.kept.terms h }

pub asked-no_holder : (wanted : Option ℕ) (bytes : List ℕ) (old mid new : Discipline) (fault : RegionFault) (want : Want) → want_by fault ≡ Some want → (wanted ≡ None → mid ≡ old) → NoneRefused old mid
    → RefusedBy fault (LacksHolder None bytes mid new) mid new → AskedForObject {E = OutOfMemory} (Ok (NoHolder want)) wanted bytes old new
asked-no_holder wanted bytes old mid new fault want e same grown h = by fault e h
  where
    by : (fault : RegionFault) → want_by fault ≡ Some want → RefusedBy fault (LacksHolder None bytes mid new) mid new → AskedForObject {E = OutOfMemory} (Ok (NoHolder want)) wanted bytes old new
    by code.TooManySegments e h = subst (λ w. AskedForObject {E = OutOfMemory} (Ok (NoHolder w)) wanted bytes old new) (same_Some TooManySegments want e) (NoneRefused-trans old mid new grown h)
    by code.NoSegment e h = subst (λ w. AskedForObject {E = OutOfMemory} (Ok (NoHolder w)) wanted bytes old new) (same_Some NoSegment want e) (lacks-behind wanted bytes old mid new same grown h)
    by code.OutOfMemory e h = absurd (none-some want e)
    by code.Fixed e h = subst (λ w. AskedForObject {E = OutOfMemory} (Ok (NoHolder w)) wanted bytes old new) (same_Some TooManySegments want e) (NoneRefused-trans old mid new grown h)
    by code.PoolSize e h = subst (λ w. AskedForObject {E = OutOfMemory} (Ok (NoHolder w)) wanted bytes old new) (same_Some TooManySegments want e) (NoneRefused-trans old mid new grown h)
    by code.NotLast e h = subst (λ w. AskedForObject {E = OutOfMemory} (Ok (NoHolder w)) wanted bytes old new) (same_Some TooManySegments want e) (NoneRefused-trans old mid new grown h)
    by code.WrongMethod e h = subst (λ w. AskedForObject {E = OutOfMemory} (Ok (NoHolder w)) wanted bytes old new) (same_Some TooManySegments want e) (NoneRefused-trans old mid new grown h)

abbrev tables : Dictionary → List ℕ
tables g = map (λ (x : Table). x.at) (option_list g.table)

abbrev holders : Dictionary → List ℕ
holders g = map (λ (o : Object). o.at) g.objects

-- one call on a dictionary after another, where the first keeps the objects and the second the table
module _ {I : Type 0} {V : I → Type 0} (meaning : (x : I) × V x → Discipline) (rules : Rules) (r s t : Best I V) (d e f : Dict) where
  pub rest-trans : LeavesRest meaning rules r d s e → LeavesRest meaning rules s e t f → (dictionary_in e s).objects ≡ (dictionary_in d r).objects → (dictionary_in f t).table ≡ (dictionary_in e s).table
      → LeavesRest meaning rules r d t f
  rest-trans first second objects table = record {
    whole = second.whole;
    kind = second.kind ∙ first.kind;
    rest = leaves-trans meaning r s t (own_blocks (dictionary_in d r)) (own_blocks (dictionary_in e s)) (own_blocks (dictionary_in f t)) first.rest second.rest between;
  }
    where
      between : (a : ℕ) → contains (own_blocks (dictionary_in d r)) a ≡ false → contains (own_blocks (dictionary_in f t)) a ≡ false → contains (own_blocks (dictionary_in e s)) a ≡ false
      between a old new =
          apart-append (tables (dictionary_in e s)) (holders (dictionary_in e s)) a
          (subst (λ (x : Option Table). contains (map (λ (y : Table). y.at) (option_list x)) a ≡ false) table (apart-front (tables (dictionary_in f t)) (holders (dictionary_in f t)) a new))
          (ap (λ os. contains (map (λ (o : Object). o.at) os) a) objects ∙ apart-rest (tables (dictionary_in d r)) (holders (dictionary_in d r)) a old)
