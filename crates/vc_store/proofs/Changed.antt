-- What a change of one dictionary leaves of a store.
use Rattle.vc_base.proofs.Common.{◌≡◌, ◌≢◌, ℕ, true, false, List, Option, Some, None, is_some, option_map, length, set, slice_get, refl, sym, ap, ◌∙◌, subst, inl, inr, eqb_tells, true≢false, false_from_ne_true, same_Some, Blocks, contains, HasOut, Discipline}
use Rattle.vc_base.proofs.Lists.{slice_get-set}
use Rattle.vc_dtdisc.specs.Rules.{Gone, Rules}
use Rattle.vc_dict.specs.declared.dict.Dict.{Dict}
use Rattle.vc_best.specs.Cells.{cells_in}
use Rattle.vc_best.specs.Parts.{disc_in, segments_in}
use Rattle.vc_objects.specs.Leaves.{LeavesRest}
use Rattle.vc_objects.specs.Objects.{own_blocks}
use Rattle.vc_objects.specs.Parts.{IsWhole, dictionary_in, dictionary_of}
use Rattle.vc_objects.proofs.Leaving.{keeps-out}
use Rattle.vc_store.specs.Contents.{contents_in, contents_of}
use Rattle.vc_store.specs.Reading.{Contents}
use Rattle.vc_store.specs.Tries.{IsTried, TriesToPut}
use Rattle.vc_store.specs.declared.put.Put.{Put}
use Rattle.vc_store.specs.Stores.Alike.{held_at}
use Rattle.vc_algebra.specs.InRegion.{ShareNoBlock, rules_or}
use Rattle.vc_store.specs.Stores.Stores.{ChangesObjects, ChangesOne, HasDict, IsOpen, OthersStay, StaysOpen, TriesAt, contents, contents_or, dict_at, dicts_of, disc_of, gone_at, gone_or, joined, kind_at, kinds_of, numbers_of, rules_at}
use Rattle.vc_store.specs.declared.stores.store.Store.{Store}
use Rattle.vc_store.proofs.Kept.{Kept, apart-new, other-kept}
use Rattle.vc_store.proofs.Numbers.{joined-there, length-put, set-other}

module _ {D : Type 0} {I : Type 0} {V : I → Type 0} (rules_by : D → Rules) (s s' : Store D I V) (n : ℕ) where
  abbrev cells : Blocks
  cells = cells_in s.best

  abbrev cells' : Blocks
  cells' = cells_in s'.best

  -- the dictionary of a number comes, changes or goes: the others are those of before, and nothing is written but its blocks and what was no block
  pub record Changes : Type 0 where
    pub mine : List ℕ
    pub mine' : List ℕ
    pub others : (a : ℕ) → contains mine a ≡ false → contains mine' a ≡ false → cells' a ≡ cells a
    pub fresh : (a : ℕ) → contains mine' a ≡ true → contains mine a ≡ false → cells a ≡ None
    pub clear : (m : ℕ) (e : Dict) → m ≢ n → dict_at s m ≡ Some e → (a : ℕ) → contains (own_blocks (dictionary_of e cells)) a ≡ true → contains mine a ≡ false
    pub same : (m : ℕ) → m ≢ n → dict_at s' m ≡ dict_at s m
    pub kinds : (m : ℕ) → m ≢ n → kind_at s' m ≡ kind_at s m
    pub whole : (d : Dict) → dict_at s' n ≡ Some d → IsWhole (rules_at rules_by s' n) d cells'
    pub own : (d : Dict) → dict_at s' n ≡ Some d → own_blocks (dictionary_of d cells') ≡ mine'
    pub count : length (kinds_of s') ≡ numbers_of s'

  module _ {disc : Discipline} (c : Changes) (is : IsOpen rules_by s disc) where
    kept : (m : ℕ) (e : Dict) (ne : m ≢ n) (at : dict_at s m ≡ Some e) → Kept cells cells' (rules_at rules_by s m) e (is.whole m e at)
    kept m e ne at =
        other-kept cells cells' (rules_at rules_by s m) e (is.whole m e at) c.mine c.mine' c.others c.fresh (c.clear m e ne at)

    away : (m : ℕ) (e : Dict) → m ≢ n → dict_at s m ≡ Some e → (a : ℕ) → contains (own_blocks (dictionary_of e cells)) a ≡ true → contains c.mine' a ≡ false
    away m e ne at =
        apart-new cells cells' (rules_at rules_by s m) e (is.whole m e at) c.mine c.mine' c.others c.fresh (c.clear m e ne at)

    before : (m : ℕ) (e : Dict) → m ≢ n → dict_at s' m ≡ Some e → dict_at s m ≡ Some e
    before m e ne at = sym (c.same m ne) ∙ at

    pub rules-same : (m : ℕ) → m ≢ n → rules_at rules_by s' m ≡ rules_at rules_by s m
    rules-same m ne = ap (λ k. rules_or (option_map rules_by k)) (c.kinds m ne)

    pub others-stay : OthersStay s s' n
    others-stay = record {
      shown = λ m ne.
          ap (option_map (λ d. contents_in d s'.best)) (c.same m ne) ∙ each m ne (dict_at s m) refl;
      kinds = c.kinds;
    }
      where
        each : (m : ℕ) → m ≢ n → (o : Option Dict) → dict_at s m ≡ o → option_map (λ d. contents_in d s'.best) o ≡ option_map (λ d. contents_in d s.best) o
        each m ne None at = refl
        each m ne (Some e) at = ap (λ x. Some (contents_of x)) (kept m e ne at).same

    pub others-kept : (m : ℕ) → m ≢ n → held_at s' m ≡ held_at s m
    others-kept m ne = ap (option_map (λ d. dictionary_in d s'.best)) (c.same m ne) ∙ each m ne (dict_at s m) refl
      where
        each : (m : ℕ) → m ≢ n → (o : Option Dict) → dict_at s m ≡ o → option_map (λ d. dictionary_in d s'.best) o ≡ option_map (λ d. dictionary_in d s.best) o
        each m ne None at = refl
        each m ne (Some e) at = ap (λ x. Some x) (kept m e ne at).same

    -- an address that another one has is none of this one's
    apart-from : (m : ℕ) (d e : Dict) → m ≢ n → dict_at s' m ≡ Some e → dict_at s' n ≡ Some d → ShareNoBlock cells' e d
    apart-from m d e ne at here a w =
        ap (λ xs. contains xs a) (c.own d here)
        ∙ away m e ne (before m e ne at) a (ap (λ x. contains (own_blocks x) a) (sym (kept m e ne (before m e ne at)).same) ∙ w)

    apart-both : (m k : ℕ) (d e : Dict) → m ≢ k → m ≢ n → k ≢ n → dict_at s' m ≡ Some d → dict_at s' k ≡ Some e → ShareNoBlock cells' d e
    apart-both m k d e apart ne ne' at at' a w =
        let was = before m d ne at in
        let was' = before k e ne' at' in
        ap (λ x. contains (own_blocks x) a) (kept k e ne' was').same
        ∙ is.apart m k d e apart was was' a (ap (λ x. contains (own_blocks x) a) (sym (kept m d ne was).same) ∙ w)

    turned : (d e : Dict) → ShareNoBlock cells' e d → ShareNoBlock cells' d e
    turned d e apart a w =
        false_from_ne_true (contains (own_blocks (dictionary_of e cells')) a) (λ t. true≢false (sym w ∙ apart a t))

    whole-at : (m : ℕ) (d : Dict) → dict_at s' m ≡ Some d → IsWhole (rules_at rules_by s' m) d cells'
    whole-at m d at = elim (eqb_tells m n) as (λ _. IsWhole (rules_at rules_by s' m) d cells') [
      | inl same ↦ subst (λ k. IsWhole (rules_at rules_by s' k) d cells') (sym same.1) (c.whole d (subst (λ k. dict_at s' k ≡ Some d) same.1 at))
      | inr apart ↦ subst (λ r. IsWhole r d cells') (sym (rules-same m apart.1)) (kept m d apart.1 (before m d apart.1 at)).whole
    ]

    apart-at : (m k : ℕ) (d e : Dict) → m ≢ k → dict_at s' m ≡ Some d → dict_at s' k ≡ Some e → ShareNoBlock cells' d e
    apart-at m k d e apart at at' = elim (eqb_tells m n) as (λ _. ShareNoBlock cells' d e) [
      | inl here ↦
          let other : k ≢ n = λ e. apart (here.1 ∙ sym e) in
          turned d e (apart-from k d e other at' (subst (λ j. dict_at s' j ≡ Some d) here.1 at))
      | inr there ↦ elim (eqb_tells k n) as (λ _. ShareNoBlock cells' d e) [
        | inl here ↦ apart-from m e d there.1 at (subst (λ j. dict_at s' j ≡ Some e) here.1 at')
        | inr both ↦ apart-both m k d e apart there.1 both.1 at at'
      ]
    ]

    pub still-open : (disc' : Discipline) → HasOut disc' (segments_in s'.best) → IsOpen rules_by s' disc'
    still-open disc' lent = record { kinds = c.count; whole = whole-at; apart = apart-at; lent = lent }

-- a call on the dictionary of a number: that and its kind, before and after
pub record Call {D : Type 0} {I : Type 0} {V : I → Type 0} (meaning : (x : I) × V x → Discipline) (rules_by : D → Rules) (s s' : Store D I V) (n : ℕ) (d d' : Dict) (k k' : D) : Type 0 where
  pub is : IsOpen rules_by s (disc_of s meaning)
  pub at : dict_at s n ≡ Some d
  pub kind : kind_at s n ≡ Some k
  pub dicts : dicts_of s' ≡ set (dicts_of s) n (Some d')
  pub kinds : kinds_of s' ≡ set (kinds_of s) n k'
  pub rules : rules_by k' ≡ rules_by k
  pub leaves : LeavesRest meaning (rules_by k) s.best d s'.best d'

module _ {D : Type 0} {I : Type 0} {V : I → Type 0} {meaning : (x : I) × V x → Discipline} {rules_by : D → Rules} {s s' : Store D I V} {n : ℕ} {d d' : Dict} {k k' : D} (c : Call meaning rules_by s s' n d d' k k') where
  abbrev after : Blocks
  after = cells_in s'.best

  pub there-now : dict_at s' n ≡ Some d'
  there-now =
      ap (λ xs. joined (slice_get xs n)) c.dicts
      ∙ ap joined (slice_get-set (dicts_of s) n (Some d) (Some d') (joined-there (slice_get (dicts_of s) n) d c.at))

  kind-now : kind_at s' n ≡ Some k'
  kind-now = ap (λ xs. slice_get xs n) c.kinds ∙ slice_get-set (kinds_of s) n k k' c.kind

  abbrev by_kind : Option D → Rules
  by_kind o = rules_or (option_map rules_by o)

  pub rules-before : rules_at rules_by s n ≡ rules_by k
  rules-before = ap by_kind c.kind

  rules-now : rules_at rules_by s' n ≡ rules_by k
  rules-now = ap by_kind kind-now ∙ c.rules

  pub same-numbers : numbers_of s' ≡ numbers_of s
  same-numbers = ap length c.dicts ∙ length-put (dicts_of s) n (Some d')

  it-is : (e : Dict) → dict_at s' n ≡ Some e → d' ≡ e
  it-is e here = same_Some d' e (sym there-now ∙ here)

  changes : Changes rules_by s s' n
  changes = record {
    mine = own_blocks (dictionary_in d s.best);
    mine' = own_blocks (dictionary_in d' s'.best);
    others = c.leaves.rest.others;
    fresh = c.leaves.rest.fresh;
    clear = λ m e ne was. c.is.apart m n e d ne was c.at;
    same = λ m ne. ap (λ xs. joined (slice_get xs m)) c.dicts ∙ ap joined (set-other (dicts_of s) n m (Some d') ne);
    kinds = λ m ne. ap (λ xs. slice_get xs m) c.kinds ∙ set-other (kinds_of s) n m k' ne;
    whole = λ e here. subst (λ x. IsWhole (rules_at rules_by s' n) x after) (it-is e here) (subst (λ r. IsWhole r d' after) (sym rules-now) c.leaves.whole);
    own = λ e here. ap (λ x. own_blocks (dictionary_of x after)) (sym (it-is e here));
    count = ap length c.kinds ∙ (length-put (kinds_of s) n k' ∙ (c.is.kinds ∙ sym same-numbers));
  }

  pub others-there : OthersStay s s' n
  others-there = others-stay rules_by s s' n changes c.is

  pub others-held : (m : ℕ) → m ≢ n → held_at s' m ≡ held_at s m
  others-held = others-kept rules_by s s' n changes c.is

  -- at its number, and at another one
  pub by-number : (P : ℕ → Type 0) → P n → ((m : ℕ) → m ≢ n → P m) → (m : ℕ) → P m
  by-number P here other m = elim (eqb_tells m n) as (λ _. P m) [
    | inl same ↦ subst P (sym same.1) here
    | inr apart ↦ other m apart.1
  ]

  pub shown-now : contents s' n ≡ contents_in d' s'.best
  shown-now = ap (λ o. contents_or (option_map (λ e. contents_in e s'.best) o)) there-now

  pub shown-before : contents s n ≡ contents_in d s.best
  shown-before = ap (λ o. contents_or (option_map (λ e. contents_in e s.best) o)) c.at

  pub stays-there : d'.method ≡ d.method → StaysOpen meaning rules_by s s'
  stays-there method = record {
    is_open =
        still-open rules_by s s' n changes c.is (disc_of s' meaning) (keeps-out (disc_in meaning s.best) (disc_in meaning s'.best) (segments_in s.best) (segments_in s'.best) c.leaves.rest.disc c.is.lent);
    there = by-number (λ m. HasDict s m → HasDict s' m) (λ _. ap is_some there-now) (λ m ne h. ap is_some (changes.same m ne) ∙ h);
    rules =
        by-number (λ m. HasDict s m → rules_at rules_by s' m ≡ rules_at rules_by s m) (λ _. rules-now ∙ sym rules-before) (λ m ne _. rules-same rules_by s s' n changes c.is m ne);
    methods =
        by-number (λ m. HasDict s m → (contents s' m).method ≡ (contents s m).method) (λ _.
        ap (λ (x : Contents). x.method) shown-now ∙ (method ∙ sym (ap (λ (x : Contents). x.method) shown-before))) (λ m ne _. ap (λ o. (contents_or o).method) (others-there.shown m ne));
    lends = c.leaves.rest.disc;
  }

  pub changes-one : d'.method ≡ d.method → ChangesOne meaning rules_by n s s'
  changes-one method = record { numbers = same-numbers; others = others-there; stays = stays-there method }

  pub changes-objects : kinds_of s' ≡ kinds_of s → d'.method ≡ d.method → ChangesObjects meaning rules_by n s s'
  changes-objects kinds method = record { kinds = kinds; beside = changes-one method }

  -- what is said of the dictionary by its kind's rules is said of its number
  pub moved : (P : Rules → Contents → Contents → Type 0) → P (rules_by k) (contents_in d s.best) (contents_in d' s'.best) → P (rules_at rules_by s n) (contents s n) (contents s' n)
  moved P h =
      subst (λ r. P r (contents s n) (contents s' n)) (sym rules-before)
      (subst (λ x. P (rules_by k) x (contents s' n)) (sym shown-before)
      (subst (λ x. P (rules_by k) (contents_in d s.best) x) (sym shown-now) h))

  pub tried-at : (answer : Put) (object : List ℕ) → IsTried answer (TriesToPut meaning answer (rules_by k) object s.best d s'.best d') → TriesAt meaning rules_by answer n object s s'
  tried-at answer object h e e' at at' =
      subst (λ r. IsTried answer (TriesToPut meaning answer r object s.best e s'.best e')) (sym rules-before)
      (subst (λ x. IsTried answer (TriesToPut meaning answer (rules_by k) object s.best x s'.best e')) (same_Some d e (sym c.at ∙ at))
      (subst (λ x. IsTried answer (TriesToPut meaning answer (rules_by k) object s.best d s'.best x)) (it-is e' at') h))

  -- and what its kind was told of
  pub told-at : (gone_by : D → Gone) (P : Gone → Gone → Type 0) → P (gone_by k) (gone_by k') → P (gone_at gone_by s n) (gone_at gone_by s' n)
  told-at gone_by P h =
      subst (λ x. P x (gone_at gone_by s' n)) (sym (ap (λ o. gone_or (option_map gone_by o)) c.kind))
      (subst (λ x. P (gone_by k) x) (sym (ap (λ o. gone_or (option_map gone_by o)) kind-now)) h)

  -- both at once
  pub all-moved : (gone_by : D → Gone) (P : Rules → Contents → Contents → Gone → Gone → Type 0) → P (rules_by k) (contents_in d s.best) (contents_in d' s'.best) (gone_by k) (gone_by k')
      → P (rules_at rules_by s n) (contents s n) (contents s' n) (gone_at gone_by s n) (gone_at gone_by s' n)
  all-moved gone_by P h =
      moved (λ r x y. P r x y (gone_at gone_by s n) (gone_at gone_by s' n)) (told-at gone_by (P (rules_by k) (contents_in d s.best) (contents_in d' s'.best)) h)
