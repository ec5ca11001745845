-- What a change of some blocks of one region leaves of the dictionaries.
use Rattle.vc_base.proofs.Common.{◌≡◌, ℕ, zero, suc, true, false, List, [], ◌∷◌, map, set, slice_get, Some, remove, bytes_eq, sym, refl, ap, ◌∙◌, subst, ⊎_elim, cases_Bool, false_from_ne_true, false≢true, none-some, same_Some, AllByRecursion, contains}
use Rattle.vc_base.proofs.Texts.{bytes_eq-swapped, same_bytes}
use Rattle.vc_dtdisc.specs.Rules.{Rules}
use Rattle.vc_objects.specs.Objects.{Dictionary, own_blocks}
use Rattle.vc_objects.specs.Parts.{IsWhole, dictionary_of}
use Rattle.vc_views.specs.Dicts.{AreApartOver, AreDictsOver, DictRegion, DictSeen, IsDictOver, cells_held, dict_seen, dictionary_over, number_in, region_named}
use Rattle.vc_views.specs.LayerLaws.{Entry}
use Rattle.vc_views.specs.Leaves.{IsTouched}
use Rattle.vc_views.proofs.OwnBlocks.{dictionary-kept, whole-kept}

-- two dictionaries of one region have no block in common, by what is seen of them
abbrev pub AreApart : DictSeen → DictSeen → Type 0
AreApart s u = bytes_eq s.home u.home ≡ true → (a : ℕ) → contains (own_blocks s.dict) a ≡ true → contains (own_blocks u.dict) a ≡ false

abbrev pub AllApart : List DictSeen → Type 0
AllApart [] = Unit {0}
AllApart (s ∷ ss) = AllByRecursion (AreApart s) ss × AllApart ss

module _ (kinds : List Rules) (regions : List DictRegion) where
  apart-seen : (e : Entry) (es : List Entry) → AllByRecursion (AreApartOver regions e) es → AllByRecursion (AreApart (dict_seen regions e)) (map (dict_seen regions) es)
  apart-seen e [] all = tt
  apart-seen e (f ∷ es) all = (all.0, apart-seen e es all.1)

  apart-told : (e : Entry) (es : List Entry) → AllByRecursion (AreApart (dict_seen regions e)) (map (dict_seen regions) es) → AllByRecursion (AreApartOver regions e) es
  apart-told e [] all = tt
  apart-told e (f ∷ es) all = (all.0, apart-told e es all.1)

  -- all dictionaries are whole and apart
  pub each-whole : (es : List Entry) → AreDictsOver kinds regions es → AllByRecursion (IsDictOver kinds regions) es
  each-whole [] are = tt
  each-whole (e ∷ es) are = (are.0, each-whole es are.2)

  pub all-apart : (es : List Entry) → AreDictsOver kinds regions es → AllApart (map (dict_seen regions) es)
  all-apart [] are = tt
  all-apart (e ∷ es) are = (apart-seen e es are.1, all-apart es are.2)

  pub are-dicts : (es : List Entry) → AllByRecursion (IsDictOver kinds regions) es → AllApart (map (dict_seen regions) es) → AreDictsOver kinds regions es
  are-dicts [] each apart = tt
  are-dicts (e ∷ es) each apart = (each.0, apart-told e es apart.0, are-dicts es each.1 apart.1)

pub all-at : {A : Type 0} (P : A → Type 0) (xs : List A) (i : ℕ) (x : A) → slice_get xs i ≡ Some x → AllByRecursion P xs → P x
all-at P [] i x at all = absurd (none-some x at)
all-at P (y ∷ ys) zero x at all = subst P (same_Some y x at) all.0
all-at P (y ∷ ys) (suc i) x at all = all-at P ys i x at all.1

-- a dictionary has none of these blocks, where it lies in the region of that name
abbrev pub IsClear : List DictRegion → List ℕ → List ℕ → Entry → Type 0
IsClear regions r mine f = bytes_eq r f.1.home ≡ true → (a : ℕ) → contains mine a ≡ true → contains (own_blocks (dictionary_over regions f)) a ≡ false

module _ (kinds : List Rules) (regions : List DictRegion) (e : Entry) where
  abbrev mine : List ℕ
  mine = own_blocks (dictionary_over regions e)

  clear-before : (f : Entry) → AreApartOver regions f e → IsClear regions e.1.home mine f
  clear-before f apart = λ here a m.
      false_from_ne_true (contains (own_blocks (dictionary_over regions f)) a)
      (λ own. false≢true (sym (apart (bytes_eq-swapped f.1.home e.1.home ∙ here) a own) ∙ m))

  -- all others have none of the blocks of one
  pub clear-others : (es : List Entry) (i : ℕ) → slice_get es i ≡ Some e → AreDictsOver kinds regions es → AllByRecursion (IsClear regions e.1.home mine) (remove es i)
  clear-others [] i there are = absurd (none-some e there)
  clear-others (x ∷ es) zero there are = subst (λ z. AllByRecursion (AreApartOver regions z) es) (same_Some x e there) are.1
  clear-others (x ∷ es) (suc i) there are = (clear-before x (all-at (AreApartOver regions x) es i e there are.1), clear-others es i there are.2)

module _ (kinds : List Rules) (r mine : List ℕ) (old new : List DictRegion) (t : IsTouched r mine old new) where
  module _ (f : Entry) (d : IsDictOver kinds old f) where
    -- it lies in the region that changes
    module _ (here : bytes_eq f.1.home r ≡ true) (clear : IsClear old r mine f) where
      home-was : region_named old f.1.home ≡ Some t.before
      home-was = ap (region_named old) (same_bytes f.1.home r here) ∙ t.was

      home-now : region_named new f.1.home ≡ Some t.after
      home-now = ap (region_named new) (same_bytes f.1.home r here) ∙ t.now

      over-was : dictionary_over old f ≡ dictionary_of f.1.dict t.before.cells
      over-was = ap (λ o. dictionary_of f.1.dict (cells_held o)) home-was

      whole-was : IsWhole d.rules f.1.dict t.before.cells
      whole-was = subst (λ (h : DictRegion). IsWhole d.rules f.1.dict h.cells) (same_Some d.home t.before (sym d.found ∙ home-was)) d.whole

      cells-same : (a : ℕ) → contains (own_blocks (dictionary_of f.1.dict t.before.cells)) a ≡ true → t.after.cells a ≡ t.before.cells a
      cells-same a own =
          t.others a
          (false_from_ne_true (contains mine a)
          (λ m. false≢true (sym (subst (λ (x : Dictionary). contains (own_blocks x) a ≡ false) over-was (clear (bytes_eq-swapped r f.1.home ∙ here) a m)) ∙ own)))

      here-same : dictionary_over new f ≡ dictionary_over old f
      here-same =
          ap (λ o. dictionary_of f.1.dict (cells_held o)) home-now
          ∙ dictionary-kept d.rules f.1.dict t.before.cells whole-was t.after.cells cells-same ∙ sym over-was

      here-whole : IsDictOver kinds new f
      here-whole = record {
        home = t.after;
        found = home-now;
        best = t.best;
        rules = d.rules;
        kind = d.kind;
        whole = whole-kept d.rules f.1.dict t.before.cells whole-was t.after.cells cells-same;
      }

    -- it lies in another one
    module _ (away : bytes_eq f.1.home r ≡ false) where
      away-same : dictionary_over new f ≡ dictionary_over old f
      away-same = ap (λ o. dictionary_of f.1.dict (cells_held o)) (t.elsewhere f.1.home away)

      away-whole : IsDictOver kinds new f
      away-whole = record {
        home = d.home;
        found = t.elsewhere f.1.home away ∙ d.found;
        best = d.best;
        rules = d.rules;
        kind = d.kind;
        whole = d.whole;
      }

    pub one-same : IsClear old r mine f → dictionary_over new f ≡ dictionary_over old f
    one-same clear = ⊎_elim (λ h. here-same h clear) (λ h. away-same h) (cases_Bool (bytes_eq f.1.home r))

    pub one-whole : IsClear old r mine f → IsDictOver kinds new f
    one-whole clear = ⊎_elim (λ h. here-whole h clear) (λ h. away-whole h) (cases_Bool (bytes_eq f.1.home r))

  abbrev with_dict : Entry → Dictionary → DictSeen
  with_dict f d = record { name = f.0; home = f.1.home; number = number_in f; kind = f.1.dict.kind; dict = d }

  seen-same : (f : Entry) → dictionary_over new f ≡ dictionary_over old f → dict_seen new f ≡ dict_seen old f
  seen-same f same = ap (with_dict f) same

  seen-all : (es : List Entry) → AllByRecursion (IsDictOver kinds old) es → AllByRecursion (IsClear old r mine) es → map (dict_seen new) es ≡ map (dict_seen old) es
  seen-all [] ds cs = refl
  seen-all (f ∷ es) ds cs = ap (λ s. s ∷ map (dict_seen new) es) (seen-same f (one-same f ds.0 cs.0)) ∙ ap (λ ss. dict_seen old f ∷ ss) (seen-all es ds.1 cs.1)

  whole-all : (es : List Entry) → AllByRecursion (IsDictOver kinds old) es → AllByRecursion (IsClear old r mine) es → AllByRecursion (IsDictOver kinds new) es
  whole-all [] ds cs = tt
  whole-all (f ∷ es) ds cs = (one-whole f ds.0 cs.0, whole-all es ds.1 cs.1)

  -- the dictionary that has those blocks comes in its own place
  module _ (e n : Entry) (same : dict_seen new n ≡ dict_seen old e) (whole : IsDictOver kinds new n) where
    pub seen-set : (es : List Entry) (i : ℕ) → slice_get es i ≡ Some e → AllByRecursion (IsDictOver kinds old) es → AllByRecursion (IsClear old r mine) (remove es i) → map (dict_seen new) (set es i n) ≡ map (dict_seen old) es
    seen-set [] i there ds cs = absurd (none-some e there)
    seen-set (x ∷ es) zero there ds cs = ap (λ s. s ∷ map (dict_seen new) es) (same ∙ ap (dict_seen old) (sym (same_Some x e there))) ∙ ap (λ ss. dict_seen old x ∷ ss) (seen-all es ds.1 cs)
    seen-set (x ∷ es) (suc i) there ds cs = ap (λ s. s ∷ map (dict_seen new) (set es i n)) (seen-same x (one-same x ds.0 cs.0)) ∙ ap (λ ss. dict_seen old x ∷ ss) (seen-set es i there ds.1 cs.1)

    whole-set : (es : List Entry) (i : ℕ) → slice_get es i ≡ Some e → AllByRecursion (IsDictOver kinds old) es → AllByRecursion (IsClear old r mine) (remove es i) → AllByRecursion (IsDictOver kinds new) (set es i n)
    whole-set [] i there ds cs = absurd (none-some e there)
    whole-set (x ∷ es) zero there ds cs = (whole, whole-all es ds.1 cs)
    whole-set (x ∷ es) (suc i) there ds cs = (one-whole x ds.0 cs.0, whole-set es i there ds.1 cs.1)

    pub dicts-set : (es : List Entry) (i : ℕ) → slice_get es i ≡ Some e → AreDictsOver kinds old es → AllByRecursion (IsClear old r mine) (remove es i) → AreDictsOver kinds new (set es i n)
    dicts-set es i there are cs =
        let each = each-whole kinds old es are in
        are-dicts kinds new (set es i n) (whole-set es i there each cs)
        (subst AllApart (sym (seen-set es i there each cs)) (all-apart kinds old es are))
