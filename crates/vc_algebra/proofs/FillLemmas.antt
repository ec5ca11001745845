-- Dictionaries of a region that get objects: what one is asked for, and what it leaves of them all.
use Rattle.vc_base.proofs.Common.{◌≡◌, ◌≢◌, ℕ, Bool, true, false, ◌&&◌, ◌++◌, List, [], ◌∷◌, map, set, length, zero, suc, nat_lt, ◌==◌, slice_get, option_map, Some, None, Option, IfNone, IfSome, IsSome, is_some, not, Result, Ok, Err, sym, refl, ap, ◌∙◌, subst, inl, inr, none-some, same_Some, slice_get-map, map-append, true≢false, eqb_tells, eq-eqb, eqb-true, and_parts, and_from, ltb-true, lt-ltb, list_all, AllByRecursion, Blocks, contains, some_address, at_number, has_table, method_number, Discipline, HasOut}
use Rattle.vc_base.specs.declared.fault.OutOfMemory.{OutOfMemory}
use Rattle.vc_base.proofs.Members.{within-head, within-tail}
use Rattle.vc_base.proofs.Methods.{same-method}
use Rattle.vc_base.specs.declared.dict_method.DictMethod.{DictMethod}
use Rattle.vc_dtdisc.specs.Rules.{IsObject, Rules}
use Rattle.vc_dict.specs.Listed.{holders_of}
use Rattle.vc_dict.specs.Stands.{Stands, slots_in, table_in}
use Rattle.vc_dict.specs.declared.dict.Dict.{Dict}
use Rattle.vc_dict.proofs.OwnLemmas.{holders-told}
use Rattle.vc_dtdisc.specs.Shapes.{rules_of}
use Rattle.vc_dtdisc.specs.declared.shape.Shape.TheVariants.{Whole}
use Rattle.std.specs.Option.{option_transpose}
use Rattle.vc_objects.specs.Leaves.{LeavesRest, Looks}
use Rattle.vc_objects.specs.Insert.{empty_dictionary}
use Rattle.vc_objects.specs.Promises.{CanAsk, Inserts}
use Rattle.vc_objects.specs.Objects.{Dictionary, own_blocks}
use Rattle.vc_objects.specs.Parts.{IsWhole, dictionary_in, dictionary_of, table_of}
use Rattle.vc_objects.specs.declared.fate.Fate.{Fate}
use Rattle.vc_objects.proofs.Leaving.{keeps-out}
use Rattle.vc_objects.proofs.Looking.{dictionary-same, dictionary-told}
use Rattle.vc_objects.proofs.Mapped.{addresses-mapped}
use Rattle.vc_paths.specs.Layers.{Layer, Same}
use Rattle.vc_paths.specs.Path.{IsAlike}
use Rattle.vc_best.specs.Cells as best_cells
use Rattle.vc_best.specs.Parts as best_parts
use Rattle.vc_best.specs.declared.best.Best as best
use Rattle.vc_region.specs.Cells.{cells_in, rest_in, rest_of}
use Rattle.vc_region.specs.Parts.{disc_in, region_of, segments_in}
use Rattle.vc_region.specs.Region.{is_best}
use Rattle.vc_region.specs.Region as model
use Rattle.vc_region.specs.declared.region.Region as code
use Rattle.vc_region.specs.declared.region.Region.TheVariants.{Best}
use Rattle.vc_seg.specs.Boxed.{disc_in_box}
use Rattle.vc_algebra.specs.Filling.{CanFillIn, FillsDict, IsPutOrMatched, IsReadyToFill, is_like}
use Rattle.vc_objects.specs.Puts.Puts.{is_matched}
use Rattle.vc_objects.proofs.PutLemmas.{matched-told}
use Rattle.vc_algebra.specs.InRegion.{AreDictsIn, HasDictInRegion, HeldDict, IsDictIn, KeepsDictsIn, ShareNoBlock, held, layered_in, layers_of_region}
use Rattle.vc_algebra.specs.RegionLaws.{dict-at}
use Rattle.vc_algebra.proofs.LookLemmas.{Changed, all-at, by-rules, changed}

-- a current object that is none or one of some holders, told by their addresses
current-in : (c : ℕ) (xs : List ℕ) → contains (0 ∷ xs) c ≡ true → (at : ℕ) → some_address c ≡ Some at → contains xs at ≡ true
current-in c xs h at is = elim (eqb_tells c 0) as (λ _. contains xs at ≡ true) [
  | inl none ↦ absurd (none-some at (rw none.0 at is))
  | inr some ↦
      let same : c ≡ at = same_Some c at (rw some.0 at is) in
      subst (λ z. contains xs z ≡ true) same (elim (eqb_tells 0 c) as (λ _. contains xs c ≡ true) [
        | inl none ↦ absurd (some.1 (sym none.1))
        | inr apart ↦ rw apart.0 at h
      ])
]

current-from : (c : ℕ) (xs : List ℕ) → ((at : ℕ) → some_address c ≡ Some at → contains xs at ≡ true) → contains (0 ∷ xs) c ≡ true
current-from c xs each = elim (eqb_tells c 0) as (λ _. contains (0 ∷ xs) c ≡ true) [
  | inl none ↦ subst (λ z. contains (0 ∷ xs) z ≡ true) (sym none.1) (within-head 0 xs)
  | inr some ↦ within-tail 0 xs c (each c (rw some.0 refl))
]

-- a table at an address is one where there is a block
table-is : (at slots : ℕ) → at ≢ 0 → IsSome (table_of at slots)
table-is at slots some = elim (eqb_tells at 0) as (λ _. IsSome (table_of at slots)) [
  | inl none ↦ absurd (some none.1)
  | inr apart ↦ rw apart.0 refl
]

table-not : (at slots : ℕ) → IsSome (table_of at slots) → at ≢ 0
table-not at slots some none = absurd (true≢false (sym (subst (λ z. IsSome (table_of z slots)) none some)))

module _ (rules : Rules) (d : Dict) (b : Blocks) where
  abbrev xs : List ℕ
  xs = holders_of d b

  pub whole-settled : IsWhole rules d b → IsReadyToFill (dictionary_of d b)
  whole-settled whole = record {
    current = λ at is. ap (λ ys. contains ys at) (addresses-mapped b xs) ∙ current-in d.current.0 xs whole.current at is;
    table = λ h. table-is (table_in d).0 (slots_in d) (whole.table h);
  }

  pub settled-whole : Stands rules d b xs → AllByRecursion (λ o. IsObject o.bytes) (dictionary_of d b).objects → IsReadyToFill (dictionary_of d b) → IsWhole rules d b
  settled-whole stands objects settled = record {
    stands = stands;
    current = current-from d.current.0 xs (λ at is. sym (ap (λ ys. contains ys at) (addresses-mapped b xs)) ∙ settled.current at is);
    table = λ h. table-not (table_in d).0 (slots_in d) (settled.table h);
    objects = objects;
  }

-- one of a list, and a list with another one at its place
all-put : {A : Type 0} (P : A → Type 0) (xs : List A) (i : ℕ) (x : A) → P x → AllByRecursion P xs → AllByRecursion P (set xs i x)
all-put P [] i x p h = tt
all-put P (y ∷ ys) zero x p h = (p, h.1)
all-put P (y ∷ ys) (suc i) x p h = (h.0, all-put P ys i x p h.1)

all-last : {A : Type 0} (P : A → Type 0) (xs : List A) (x : A) → P x → AllByRecursion P xs → AllByRecursion P (xs ++ x ∷ [])
all-last P [] x p h = (p, tt)
all-last P (y ∷ ys) x p h = (h.0, all-last P ys x p h.1)

-- what putting gives
module _ {I : Type 0} {V : I → Type 0} (meaning : (x : I) × V x → Discipline) (rules : Rules) (bytes : List ℕ) (before after : best.Best I V) (old new : Dict) where
  pub put-told : (told : Option (Result Fate OutOfMemory)) → is_some told ≡ not (is_matched rules bytes (dictionary_in old before)) → IfNone told (Looks meaning rules before old after new)
      → IfSome told (λ r. Inserts meaning r rules false bytes before old after new)
      → IsPutOrMatched (option_transpose told) (best_parts.disc_in meaning before).terms rules bytes (best_cells.rest_in before) (dictionary_in old before) (best_cells.rest_in after) (dictionary_in new after)
  put-told None e looks inserts = (matched-told (is_matched rules bytes (dictionary_in old before)) false e, looks.region, looks.dict)
  put-told (Some (Ok fate)) e looks inserts = (matched-told (is_matched rules bytes (dictionary_in old before)) true e, inserts.ok)
  put-told (Some (Err why)) e looks inserts = (matched-told (is_matched rules bytes (dictionary_in old before)) true e, inserts.err)

-- one of a best region's dictionaries
module _ {I : Type 0} {V : I → Type 0} (meaning : (x : I) × V x → Discipline) (kinds : List Rules) (b : best.Best I V) (ds : List Dict) (i : ℕ) (d : Dict) (rules : Rules)
    (at : slice_get ds i ≡ Some d) (can : CanFillIn meaning kinds (Best b) ds) (kind : at_number kinds d.kind ≡ Some rules) where
  abbrev cells : Blocks
  cells = best_cells.cells_in b

  is : IsDictIn kinds cells d
  is = dict-at kinds cells ds i d at can.dicts

  there : slice_get (map (held cells) ds) i ≡ Some (held cells d)
  there = slice_get-map (held cells) ds i ∙ ap (option_map (held cells)) at

  -- it may be asked to take one
  pub can-ask : CanAsk meaning rules b d
  can-ask = record {
    whole = settled-whole rules d cells (by-rules kinds cells d rules kind is) is.objects (all-at (λ h. IsReadyToFill h.dict) (map (held cells) ds) i (held cells d) there can.settled);
    lent = can.lent;
  }

  -- what that leaves of them all
  module _ (c : best.Best I V) (d' : Dict) (leaves : LeavesRest meaning rules b d c d') where
    abbrev cells' : Blocks
    cells' = best_cells.cells_in c

    all : Changed kinds cells cells' ds (set ds i d') i (held cells' d')
    all = changed kinds cells cells' ds i d d' at can.dicts (record {
      is = record { rules = rules; kind = ap (at_number kinds) leaves.kind ∙ kind; stands = leaves.whole.stands; objects = leaves.whole.objects };
      others = λ a some apart apart'. leaves.rest.others a apart apart';
      fresh = leaves.rest.fresh;
    })

    pub can-filled : CanFillIn meaning kinds (Best c) (set ds i d')
    can-filled = record {
      best = refl;
      dicts = all.dicts;
      settled = subst (AllByRecursion (λ h. IsReadyToFill h.dict)) (sym all.held) (all-put (λ (h : HeldDict). IsReadyToFill h.dict) (map (held cells) ds) i (held cells' d') (whole-settled rules d' cells' leaves.whole) can.settled);
      lent = keeps-out (best_parts.disc_in meaning b) (best_parts.disc_in meaning c) (best_parts.segments_in b) (best_parts.segments_in c) leaves.rest.disc can.lent;
    }

    abbrev with_kind : ℕ → HeldDict
    with_kind k = record { kind = k; dict = dictionary_of d' cells' }

    pub fills : (result : Result (Option Fate) OutOfMemory) (bytes : List ℕ) → IsPutOrMatched result (best_parts.disc_in meaning b).terms rules bytes (best_cells.rest_in b) (dictionary_in d b) (best_cells.rest_in c) (dictionary_in d' c)
        → FillsDict meaning kinds result i bytes (Best b) (Best c) ds (set ds i d')
    fills result bytes put = record {
      before = best_cells.rest_in b;
      was = refl;
      after = best_cells.rest_in c;
      now = refl;
      old = held cells d;
      there = there;
      rules = rules;
      kind = kind;
      new = dictionary_of d' cells';
      others = all.held ∙ ap (λ k. set (map (held cells) ds) i (with_kind k)) leaves.kind;
      put = put;
    }

-- with one more that has no object
module _ (kinds : List Rules) (b : Blocks) (d : Dict) (stands : (rules : Rules) → Stands rules d b []) (current : d.current.0 ≡ 0) (table : (table_in d).0 ≡ 0) where
  pub dictionary-empty : (method : DictMethod) → d.method ≡ method → dictionary_of d b ≡ empty_dictionary method
  dictionary-empty method same =
      dictionary-told (rules_of Whole) d b [] (stands (rules_of Whole))
      ∙ dictionary-same d.method method [] [] d.current.0 0 (table_in d).0 0 (slots_in d) (slots_in d) same refl current table refl

  own-empty : own_blocks (dictionary_of d b) ≡ []
  own-empty = ap own_blocks (dictionary-empty d.method refl)

  is-empty : (rules : Rules) → at_number kinds d.kind ≡ Some rules → IsDictIn kinds b d
  is-empty rules kind = record {
    rules = rules;
    kind = kind;
    stands = subst (λ xs. Stands rules d b xs) (sym (holders-told rules d b [] (stands rules))) (stands rules);
    objects = subst (λ (x : Dictionary). AllByRecursion (λ o. IsObject o.bytes) x.objects) (sym (dictionary-empty d.method refl)) tt;
  }

  pub dicts-last : (rules : Rules) → at_number kinds d.kind ≡ Some rules → (ds : List Dict) → AreDictsIn kinds b ds → AreDictsIn kinds b (ds ++ d ∷ [])
  dicts-last rules kind [] are = (is-empty rules kind, tt, tt)
  dicts-last rules kind (e ∷ es) are =
      (are.0, all-last (ShareNoBlock b e) es d (λ a w. ap (λ xs. contains xs a) own-empty) are.1, dicts-last rules kind es are.2)

-- so in a region
pub can-opened : {I : Type 0} {V : I → Type 0} (meaning : (x : I) × V x → Discipline) (kinds : List Rules) (r : code.Region I V) (ds : List Dict) (d : Dict) (method : DictMethod)
    → ((rules : Rules) → Stands rules d (cells_in r) []) → d.current.0 ≡ 0 → (table_in d).0 ≡ 0 → d.method ≡ method → has_table method ≡ false → IsSome (at_number kinds d.kind)
    → CanFillIn meaning kinds r ds → CanFillIn meaning kinds r (ds ++ d ∷ [])
can-opened meaning kinds r ds d method stands current table same none some can =
    let rules = some-rules (at_number kinds d.kind) some in
    let b = cells_in r in
    record {
      best = can.best;
      dicts = dicts-last kinds b d stands current table rules.0 rules.1 ds can.dicts;
      settled =
          subst (AllByRecursion (λ h. IsReadyToFill h.dict)) (sym (map-append (held b) ds (d ∷ [])))
          (all-last (λ (h : HeldDict). IsReadyToFill h.dict) (map (held b) ds) (held b d)
          (subst IsReadyToFill (sym (dictionary-empty kinds b d stands current table method same)) (record {
            current = λ at is. absurd (none-some at is);
            table = λ h. absurd (true≢false (sym h ∙ none));
          }))
          can.settled);
      lent = can.lent;
    }
  where
    some-rules : (o : Option Rules) → IsSome o → (rules : Rules) × (o ≡ Some rules)
    some-rules None h = cc
    some-rules (Some rules) h = (rules, refl)

abbrev held_by : ℕ → Dictionary → HeldDict
held_by k x = record { kind = k; dict = x }

pub helds-opened : {I : Type 0} {V : I → Type 0} (r : code.Region I V) (ds : List Dict) (d : Dict) (method : DictMethod) (kind : ℕ) → ((rules : Rules) → Stands rules d (cells_in r) []) → d.current.0 ≡ 0 → (table_in d).0 ≡ 0 → d.method ≡ method → d.kind ≡ kind
    → map (held (cells_in r)) (ds ++ d ∷ []) ≡ map (held (cells_in r)) ds ++ held_by kind (empty_dictionary method) ∷ []
helds-opened r ds d method kind stands current table same k =
    map-append (held (cells_in r)) ds (d ∷ [])
    ∙ ap (λ h. map (held (cells_in r)) ds ++ h ∷ []) (ap (held_by d.kind) (dictionary-empty [] (cells_in r) d stands current table method same) ∙ ap (λ z. held_by z (empty_dictionary method)) k)

-- what looks leave may get objects still
segments-rest : (x : model.Region ℕ) → model.segments_of (rest_of x) ≡ model.segments_of x
segments-rest (model.OfBest layout) = refl
segments-rest (model.OfPool pool) = refl
segments-rest (model.OfLast layout) = refl
segments-rest (model.OfDebug debug) = refl
segments-rest (model.OfProfile profile) = refl

pub can-kept : {I : Type 0} {V : I → Type 0} (meaning : (x : I) × V x → Discipline) (kinds : List Rules) {r r' : code.Region I V} {ds ds' : List Dict} → KeepsDictsIn r r' ds ds' → AreDictsIn kinds (cells_in r') ds' → CanFillIn meaning kinds r ds → CanFillIn meaning kinds r' ds'
can-kept meaning kinds {r} {r'} {ds} {ds'} keeps dicts can = record {
  best = ap is_best keeps.region.region ∙ can.best;
  dicts = dicts;
  settled = subst (AllByRecursion (λ h. IsReadyToFill h.dict)) (sym keeps.same) can.settled;
  lent = subst (λ s. HasOut (disc_in meaning r') s) (sym (sym (segments-rest (region_of r')) ∙ ap model.segments_of keeps.region.region ∙ segments-rest (region_of r)))
      (subst (λ x. HasOut (disc_in_box meaning x) (segments_in r)) (sym keeps.region.disc) can.lent);
}

-- so behind calls on layers
pub can-after : {I : Type 0} {V : I → Type 0} (meaning : (x : I) × V x → Discipline) {kinds kinds' : List Rules} {r r' : code.Region I V} {ds ds' : List Dict} (d : ℕ) → Same (layered_in kinds r ds) (layered_in kinds' r' ds') → KeepsDictsIn r r' ds ds' → kinds' ≡ kinds → HasDictInRegion kinds r ds d → CanFillIn meaning kinds r ds → CanFillIn meaning kinds' r' ds'
can-after meaning {kinds} {kinds'} {r} {r'} {ds} {ds'} d same keeps e has can =
    can-kept meaning kinds' keeps (same.has d has).dicts (subst (λ k. CanFillIn meaning k r ds) (sym e) can)

-- a path, number by number
module _ {I : Type 0} {V : I → Type 0} (kinds : List Rules) (r : code.Region I V) (ds : List Dict) (best : is_best (rest_in r) ≡ true) (dicts : AreDictsIn kinds (cells_in r) ds) (d : ℕ) where
  abbrev layers : ℕ → Layer
  layers = layers_of_region kinds (cells_in r) ds

  abbrev test : ℕ → Bool
  test e = is_like (length ds) layers d e

  like-alike : (e : ℕ) → test e ≡ true → IsAlike (layered_in kinds r ds) d e
  like-alike e h =
      let parts = and_parts (nat_lt e (length ds) && (method_number (layers e).method == method_number (layers d).method)) ((layers e).kind == (layers d).kind) h in
      let first = and_parts (nat_lt e (length ds)) (method_number (layers e).method == method_number (layers d).method) parts.0 in
      record {
        there = record { best = best; dicts = dicts; there = ltb-true e (length ds) first.0 };
        method = same-method (layers e).method (layers d).method first.1;
        kind = eqb-true (layers e).kind (layers d).kind parts.1;
      }

  alike-like : (e : ℕ) → IsAlike (layered_in kinds r ds) d e → test e ≡ true
  alike-like e a =
      and_from (nat_lt e (length ds) && (method_number (layers e).method == method_number (layers d).method)) ((layers e).kind == (layers d).kind)
      (and_from (nat_lt e (length ds)) (method_number (layers e).method == method_number (layers d).method) (lt-ltb e (length ds) a.there.there) (eq-eqb (method_number (layers e).method) (method_number (layers d).method) (ap method_number a.method)))
      (eq-eqb (layers e).kind (layers d).kind a.kind)

  pub all-alike : (es : List ℕ) → list_all test es ≡ true → AllByRecursion (IsAlike (layered_in kinds r ds) d) es
  all-alike [] h = tt
  all-alike (e ∷ es) h =
      let parts = and_parts (test e) (list_all test es) h in
      (like-alike e parts.0, all-alike es parts.1)

  pub all-like : (es : List ℕ) → AllByRecursion (IsAlike (layered_in kinds r ds) d) es → list_all test es ≡ true
  all-like [] h = refl
  all-like (e ∷ es) h = and_from (test e) (list_all test es) (alike-like e h.0) (all-like es h.1)

-- a region of which no dictionary is known
pub can-begin : {I : Type 0} {V : I → Type 0} (meaning : (x : I) × V x → Discipline) (kinds : List Rules) (b : best.Best I V) (ds : List Dict) → ds ≡ [] → HasOut (best_parts.disc_in meaning b) (best_parts.segments_in b) → CanFillIn meaning kinds (Best b) ds
can-begin meaning kinds b ds none lent =
    subst (CanFillIn meaning kinds (Best b)) (sym none) (record { best = refl; dicts = tt; settled = tt; lent = lent })
