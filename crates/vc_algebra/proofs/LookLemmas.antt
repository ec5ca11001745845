-- What a look at one dictionary of a region leaves of all of them.
use Rattle.vc_base.proofs.Common.{◌≡◌, ℕ, zero, suc, true, false, ◌≢◌, List, [], ◌∷◌, map, set, slice_get, option_map, unwrap_or, Some, None, IsSome, is_some, sym, refl, ap, ◌∙◌, subst, inl, inr, arith, eqb_tells, true≢false, false_from_ne_true, none-some, same_Some, slice_get-map, AllByRecursion, Blocks, IsAddress, body_of, contains, at_number}
use Rattle.vc_base.proofs.Members.{apart-cons, apart-head, apart-tail, within-tail}
use Rattle.vc_base.proofs.Quantifiers.{all-weaken}
use Rattle.vc_dtdisc.specs.Rules.{IsObject, Rules}
use Rattle.vc_dict.specs.Listed.{holders_of}
use Rattle.vc_dict.specs.Stands.{Became, Stands, slots_in, table_in}
use Rattle.vc_dict.specs.declared.dict.Dict.{Dict}
use Rattle.vc_dict.proofs.OwnLemmas.{Stands-own, Stands-table, holder-address, holder-there, holders-told, none-at_0}
use Rattle.vc_objects.specs.Objects.{Dictionary, own_blocks}
use Rattle.vc_objects.specs.Parts.{dictionary_of, object_of}
use Rattle.vc_objects.proofs.Looking.{apart-table, dictionary, dictionary-same, dictionary-told}
use Rattle.vc_objects.proofs.Mapped.{objects-kept}
use Rattle.vc_objects.proofs.Owning.{owned-within, owned-zero}
use Rattle.vc_best.specs.Cells as best_cells
use Rattle.vc_best.specs.declared.best.Best as best
use Rattle.vc_region.specs.Cells.{cells_in, rest_in}
use Rattle.vc_region.specs.Parts.{disc_of}
use Rattle.vc_region.specs.Region.{OfBest}
use Rattle.vc_region.specs.declared.region.Region as code
use Rattle.vc_region.specs.declared.region.Region.TheVariants.{Best}
use Rattle.vc_algebra.specs.InRegion.{AreDictsIn, HeldDict, IsDictIn, LeavesDictsIn, ShareNoBlock, held}
use Rattle.vc_algebra.specs.RegionLaws.{dict-at}

-- what is held by its parts
abbrev held_by : ℕ → Dictionary → HeldDict
held_by k d = record { kind = k; dict = d }

-- one of a list, where something holds of each
pub all-at : {A : Type 0} (P : A → Type 0) (xs : List A) (i : ℕ) (x : A) → slice_get xs i ≡ Some x → AllByRecursion P xs → P x
all-at P [] i x at h = absurd (none-some x at)
all-at P (y ∷ ys) zero x at h = subst P (same_Some y x at) h.0
all-at P (y ∷ ys) (suc i) x at h = all-at P ys i x at h.1

-- what stands there already is put there
set-itself : {A : Type 0} (xs : List A) (i : ℕ) (x : A) → slice_get xs i ≡ Some x → set xs i x ≡ xs
set-itself [] i x at = absurd (none-some x at)
set-itself (y ∷ ys) zero x at = ap (λ z. z ∷ ys) (sym (same_Some y x at))
set-itself (y ∷ ys) (suc i) x at = ap (λ zs. y ∷ zs) (set-itself ys i x at)

-- a dictionary by the rules that its kind has
pub by-rules : (kinds : List Rules) (cells : Blocks) (d : Dict) (rules : Rules) → at_number kinds d.kind ≡ Some rules → IsDictIn kinds cells d → Stands rules d cells (holders_of d cells)
by-rules kinds cells d rules kind is = subst (λ r. Stands r d cells (holders_of d cells)) (same_Some is.rules rules (sym is.kind ∙ kind)) is.stands

module _ (kinds : List Rules) (old new : Blocks) where
  -- a dictionary lies there still, and is what it was
  record Kept (d d' : Dict) : Type 0 where
    is : IsDictIn kinds new d'
    same : dictionary_of d' new ≡ dictionary_of d old
    held : held new d' ≡ held old d

  -- the blocks of its own, before and after
  abbrev own : Dict → List ℕ
  own d = own_blocks (dictionary_of d old)

  abbrev own' : Dict → List ℕ
  own' d = own_blocks (dictionary_of d new)

  -- a block stands at each of their addresses, and none at 0
  module _ (e : Dict) (is : IsDictIn kinds old e) where
    owned-some : (a : ℕ) → contains (own e) a ≡ true → a ≢ 0
    owned-some a h = λ zero.
        let address : IsAddress 0 = holder-address is.rules e old (holders_of e old) 0 is.stands (sym (owned-zero e old) ∙ subst (λ z. contains (own e) z ≡ true) zero h) in
        absurd (omega (arith, address.some))

    owned-there : (a : ℕ) → contains (own e) a ≡ true → IsSome (old a)
    owned-there a h =
        let some = owned-some a h in
        elim (eqb_tells (table_in e).0 a) as (λ _. IsSome (old a)) [
          | inl same ↦ subst (λ z. IsSome (old z)) same.1 ((Stands-table _ _ _ _ is.stands).some (λ zero. some (sym same.1 ∙ zero))).there
          | inr apart ↦ (holder-there is.rules e old (holders_of e old) a is.stands (rw apart.0 at (sym (owned-within e old a some) ∙ h))).there
        ]

  -- where the blocks of its own stay
  own-kept : (e : Dict) → IsDictIn kinds old e → ((a : ℕ) → a ≢ 0 → contains (own e) a ≡ true → new a ≡ old a) → Kept e e
  own-kept e is stay =
      let xs = holders_of e old in
      let table = (table_in e).0 in
      let blocks : (a : ℕ) → a ≢ 0 → contains (table ∷ xs) a ≡ true → new a ≡ old a = λ a some w. stay a some (owned-within e old a some ∙ w) in
      let stands = Stands-own is.rules e old new xs blocks is.stands in
      let told = holders-told is.rules e new xs stands in
      let some : (a : ℕ) → contains xs a ≡ true → a ≢ 0 = λ a w zero. true≢false (sym w ∙ ap (contains xs) zero ∙ none-at_0 is.rules e old xs is.stands) in
      let objects = objects-kept old new xs (λ a w. ap (λ x. body_of (unwrap_or x [])) (blocks a (some a w) (within-tail table xs a w))) in
      let same : dictionary_of e new ≡ dictionary_of e old = dictionary-told is.rules e new xs stands ∙ ap (λ os. dictionary e.method os e.current.0 table (slots_in e)) objects in
      record {
        is = record {
          rules = is.rules;
          kind = is.kind;
          stands = subst (λ z. Stands is.rules e new z) (sym told) stands;
          objects = subst (λ (z : Dictionary). AllByRecursion (λ o. IsObject o.bytes) z.objects) (sym same) is.objects;
        };
        same = same;
        held = ap (held_by e.kind) same;
      }

  -- the one that was looked at, by the rules of its kind
  module _ (d d' : Dict) (is : IsDictIn kinds old d) (rules : Rules) (kind : at_number kinds d.kind ≡ Some rules) (t : Became rules (holders_of d old) d old d' new (holders_of d old) d.current.0) where
    abbrev xs : List ℕ
    xs = holders_of d old

    look-kept : Kept d d'
    look-kept =
        let stands = by-rules kinds old d rules kind is in
        let objects = objects-kept old new xs (λ a w. t.keeps.bodies a (apart-table rules d old xs a stands w)) in
        let told = holders-told rules d' new xs t.stands in
        let same : dictionary_of d' new ≡ dictionary_of d old = dictionary-told rules d' new xs t.stands
        ∙ dictionary-same d'.method d.method (map (object_of new) xs) (map (object_of old) xs) d'.current.0 d.current.0 (table_in d').0 (table_in d).0 (slots_in d') (slots_in d) t.method objects t.current (ap (λ z. z.0) t.table) t.slots in
        record {
          is = record {
            rules = rules;
            kind = ap (at_number kinds) t.kind ∙ kind;
            stands = subst (λ z. Stands rules d' new z) (sym told) t.stands;
            objects = subst (λ (z : Dictionary). AllByRecursion (λ o. IsObject o.bytes) z.objects) (sym same) is.objects;
          };
          same = same;
          held = ap (λ k. held_by k (dictionary_of d' new)) t.kind ∙ ap (held_by d.kind) same;
        }

    -- no other block was written
    others-stay : (a : ℕ) → a ≢ 0 → contains (own d) a ≡ false → new a ≡ old a
    others-stay a some apart =
        let neither : contains ((table_in d).0 ∷ xs) a ≡ false = sym (owned-within d old a some) ∙ apart in
        t.keeps.others a (apart-cons (table_in d).0 [] a (apart-head (table_in d).0 xs a neither) refl) (apart-tail (table_in d).0 xs a neither)

  -- a block of another one is none of this one's
  abbrev IsClear : Dict → Dict → Type 0
  IsClear d e = (a : ℕ) → contains (own e) a ≡ true → contains (own d) a ≡ false

  turned : (d e : Dict) → ShareNoBlock old d e → IsClear d e
  turned d e apart a w = false_from_ne_true (contains (own d) a) (λ t. true≢false (sym w ∙ apart a t))

  -- one dictionary changes: it lies there still, and nothing is written but its blocks and what was no block
  pub record Changes (d d' : Dict) : Type 0 where
    pub is : IsDictIn kinds new d'
    pub others : (a : ℕ) → a ≢ 0 → contains (own d) a ≡ false → contains (own' d') a ≡ false → new a ≡ old a
    pub fresh : (a : ℕ) → contains (own' d') a ≡ true → contains (own d) a ≡ false → old a ≡ None

  module _ (d d' : Dict) (c : Changes d d') where
    -- what that leaves of another one
    module _ (e : Dict) (is : IsDictIn kinds old e) (clear : IsClear d e) where
      apart-new : (a : ℕ) → contains (own e) a ≡ true → contains (own' d') a ≡ false
      apart-new a w =
          false_from_ne_true (contains (own' d') a)
          (λ t. true≢false (sym (owned-there e is a w) ∙ ap is_some (c.fresh a t (clear a w))))

      other-kept : Kept e e
      other-kept = own-kept e is (λ a some w. c.others a some (clear a w) (apart-new a w))

      apart-before : ShareNoBlock new e d'
      apart-before a w = apart-new a (ap (λ z. contains (own_blocks z) a) (sym other-kept.same) ∙ w)

      apart-behind : ShareNoBlock new d' e
      apart-behind a w = false_from_ne_true (contains (own' e) a) (λ t. true≢false (sym w ∙ apart-before a t))

    both-kept : (e f : Dict) → Kept e e → Kept f f → ShareNoBlock old e f → ShareNoBlock new e f
    both-kept e f k l apart a w =
        ap (λ z. contains (own_blocks z) a) l.same ∙ apart a (ap (λ z. contains (own_blocks z) a) (sym k.same) ∙ w)

    -- and of several, of which this is none
    apart-all : (e : Dict) → Kept e e → (es : List Dict) → AreDictsIn kinds old es → AllByRecursion (IsClear d) es → AllByRecursion (ShareNoBlock old e) es → AllByRecursion (ShareNoBlock new e) es
    apart-all e k [] are clear apart = tt
    apart-all e k (f ∷ fs) are clear apart =
        (both-kept e f k (other-kept f are.0 clear.0) apart.0, apart-all e k fs are.2 clear.1 apart.1)

    all-behind : (es : List Dict) → AreDictsIn kinds old es → AllByRecursion (IsClear d) es → AllByRecursion (ShareNoBlock new d') es
    all-behind [] are clear = tt
    all-behind (f ∷ fs) are clear = (apart-behind f are.0 clear.0, all-behind fs are.2 clear.1)

    dicts-clear : (es : List Dict) → AreDictsIn kinds old es → AllByRecursion (IsClear d) es → AreDictsIn kinds new es
    dicts-clear [] are clear = tt
    dicts-clear (e ∷ es) are clear =
        let k = other-kept e are.0 clear.0 in
        (k.is, apart-all e k es are.2 clear.1 are.1, dicts-clear es are.2 clear.1)

    held-clear : (es : List Dict) → AreDictsIn kinds old es → AllByRecursion (IsClear d) es → map (held new) es ≡ map (held old) es
    held-clear [] are clear = refl
    held-clear (e ∷ es) are clear =
        ap (λ z. z ∷ map (held new) es) (other-kept e are.0 clear.0).held ∙ ap (λ zs. held old e ∷ zs) (held-clear es are.2 clear.1)

    -- all behind it are others
    clear-tail : (e : Dict) (es : List Dict) → e ≡ d → AllByRecursion (ShareNoBlock old e) es → AllByRecursion (IsClear d) es
    clear-tail e es same apart = all-weaken (ShareNoBlock old d) (IsClear d) es (turned d) (subst (λ z. AllByRecursion (ShareNoBlock old z) es) same apart)

    apart-set : (e : Dict) → Kept e e → IsDictIn kinds old e → (es : List Dict) (i : ℕ) → slice_get es i ≡ Some d → AreDictsIn kinds old es → AllByRecursion (ShareNoBlock old e) es → AllByRecursion (ShareNoBlock new e) (set es i d')
    apart-set e k is [] i at are apart = absurd (none-some d at)
    apart-set e k is (f ∷ fs) zero at are apart =
        let same = same_Some f d at in
        (apart-before e is (subst (ShareNoBlock old e) same apart.0), apart-all e k fs are.2 (clear-tail f fs same are.1) apart.1)
    apart-set e k is (f ∷ fs) (suc i) at are apart =
        (both-kept e f k (other-kept f are.0 (all-at (ShareNoBlock old f) fs i d at are.1)) apart.0, apart-set e k is fs i at are.2 apart.1)

    -- so all lie there still, with this one at its place
    dicts-set : (es : List Dict) (i : ℕ) → slice_get es i ≡ Some d → AreDictsIn kinds old es → AreDictsIn kinds new (set es i d')
    dicts-set [] i at are = absurd (none-some d at)
    dicts-set (e ∷ es) zero at are =
        let clear = clear-tail e es (same_Some e d at) are.1 in
        (c.is, all-behind es are.2 clear, dicts-clear es are.2 clear)
    dicts-set (e ∷ es) (suc i) at are =
        let k = other-kept e are.0 (all-at (ShareNoBlock old e) es i d at are.1) in
        (k.is, apart-set e k are.0 es i at are.2 are.1, dicts-set es i at are.2)

    held-set : (es : List Dict) (i : ℕ) → slice_get es i ≡ Some d → AreDictsIn kinds old es → map (held new) (set es i d') ≡ set (map (held old) es) i (held new d')
    held-set [] i at are = absurd (none-some d at)
    held-set (e ∷ es) zero at are =
        ap (λ zs. held new d' ∷ zs) (held-clear es are.2 (clear-tail e es (same_Some e d at) are.1))
    held-set (e ∷ es) (suc i) at are =
        ap (λ z. z ∷ map (held new) (set es i d')) (other-kept e are.0 (all-at (ShareNoBlock old e) es i d at are.1)).held
        ∙ ap (λ zs. held old e ∷ zs) (held-set es i at are.2)

  -- so with the dictionary at an index
  pub record Changed (es fs : List Dict) (i : ℕ) (now : HeldDict) : Type 0 where
    pub dicts : AreDictsIn kinds new fs
    pub held : map (held new) fs ≡ set (map (held old) es) i now

  pub changed : (es : List Dict) (i : ℕ) (d d' : Dict) → slice_get es i ≡ Some d → AreDictsIn kinds old es → Changes d d' → Changed es (set es i d') i (held new d')
  changed es i d d' at are c = record { dicts = dicts-set d d' c es i at are; held = held-set d d' c es i at are }

  -- a look at the dictionary at an index leaves all of them
  pub record Looked (es fs : List Dict) : Type 0 where
    pub dicts : AreDictsIn kinds new fs
    pub held : map (held new) fs ≡ map (held old) es

  pub looked : (es : List Dict) (i : ℕ) (d d' : Dict) (rules : Rules) → slice_get es i ≡ Some d → AreDictsIn kinds old es → IsDictIn kinds old d → at_number kinds d.kind ≡ Some rules → Became rules (holders_of d old) d old d' new (holders_of d old) d.current.0
      → Looked es (set es i d')
  looked es i d d' rules at are is kind t =
      let kept = look-kept d d' is rules kind t in
      let all = changed es i d d' at are (record {
        is = kept.is;
        others = λ a some apart _. others-stay d d' is rules kind t a some apart;
        fresh = λ a w apart. absurd (true≢false (sym w ∙ ap (λ z. contains (own_blocks z) a) kept.same ∙ apart));
      }) in
      record {
        dicts = all.dicts;
        held = all.held ∙ ap (set (map (held old) es) i) kept.held ∙ set-itself (map (held old) es) i (held old d) (slice_get-map (held old) es i ∙ ap (option_map (held old)) at);
      }

-- and of its region
pub left : {I : Type 0} {V : I → Type 0} (kinds : List Rules) (region : code.Region I V) (b c : best.Best I V) → region ≡ Best b → (ds : List Dict) (i : ℕ) (d d' : Dict) (rules : Rules) → slice_get ds i ≡ Some d → AreDictsIn kinds (cells_in region) ds → at_number kinds d.kind ≡ Some rules
    → Became rules (holders_of d (best_cells.cells_in b)) d (best_cells.cells_in b) d' (best_cells.cells_in c) (holders_of d (best_cells.cells_in b)) d.current.0 → best_cells.StaysButCells b c → LeavesDictsIn kinds region (Best c) ds (set ds i d')
left kinds region b c is ds i d d' rules at are kind t stays =
    let cells : best_cells.cells_in b ≡ cells_in region = ap cells_in (sym is) in
    let t' = subst (λ z. Became rules (holders_of d z) d z d' (best_cells.cells_in c) (holders_of d z) d.current.0) cells t in
    let all = looked kinds (cells_in region) (best_cells.cells_in c) ds i d d' rules at are (dict-at kinds (cells_in region) ds i d at are) kind t' in
    record {
      dicts = all.dicts;
      keeps = record {
        region = record { region = ap OfBest stays.layout ∙ ap rest_in (sym is); disc = stays.disc ∙ ap disc_of (sym is) };
        same = all.held;
      };
    }
