-- What a change of one region, and of one dictionary's blocks in it, leaves of a session's dictionaries.
use Rattle.vc_base.proofs.Common.{◌≡◌, ℕ, zero, suc, true, false, List, [], ◌∷◌, ◌++◌, set, is_some, slice_get, Some, None, Option, remove, bytes_eq, sym, refl, ap, ◌∙◌, subst, ⊎_elim, cases_Bool, false_from_ne_true, false≢true, none-some, same_Some, AllByRecursion, contains}
use Rattle.vc_base.proofs.Texts.{bytes_eq-swapped, same_bytes}
use Rattle.vc_dtdisc.specs.Rules.{Rules}
use Rattle.vc_objects.specs.Objects.{Dictionary, own_blocks}
use Rattle.vc_objects.specs.Parts.{IsWhole, dictionary_of}
use Rattle.vc_region.specs.Region.{is_best}
use Rattle.vc_commands.specs.Held.{Held}
use Rattle.vc_steps.specs.Account.{held_named}
use Rattle.vc_steps.specs.DictHomes.{AreApartIn, AreDicts, IsDictOf, cells_of_held, dict_home, dicts_in, dict_over}
use Rattle.vc_views.proofs.LinkLists.{all-remove, found-set}
use Rattle.vc_steps.proofs.DictsStay.{Entry, Vs, home_of_entry}
use Rattle.vc_views.proofs.OwnBlocks.{dictionary-kept, owned-there, whole-kept}
use Rattle.vc_commands.proofs.Firsts.{IsFirst, find-first, find-set}

-- a region keeps its name and its cells, but for the blocks at these addresses before and at those after, and what is new was no cell
pub record Touches (h g : Held) (mine mine' : List ℕ) : Type 0 where
  pub name : g.name ≡ h.name
  pub best : is_best g.region ≡ true
  pub others : (a : ℕ) → contains mine a ≡ false → contains mine' a ≡ false → g.cells a ≡ h.cells a
  pub fresh : (a : ℕ) → contains mine' a ≡ true → contains mine a ≡ false → h.cells a ≡ None

-- a dictionary has none of these blocks, where it lies in the region of that name
abbrev pub IsClear : List Held → List ℕ → List ℕ → Entry → Type 0
IsClear held r mine f =
    bytes_eq r f.1.home ≡ true → (a : ℕ) → contains mine a ≡ true → contains (own_blocks (dict_over held f)) a ≡ false

-- where the cell is none no block is there
not-there : (o : Option (List ℕ)) → is_some o ≡ true → o ≡ None → ⊥
not-there o some none = false≢true (sym (ap is_some none) ∙ some)

module _ (kinds : List Rules) (hs : List Held) (j : ℕ) (h g : Held) (mine mine' : List ℕ) (first : IsFirst (λ (k : Held). bytes_eq k.name h.name) hs j) (at : slice_get hs j ≡ Some h) (t : Touches h g mine mine') where
  abbrev gs : List Held
  gs = set hs j g

  same-first : first.item ≡ h
  same-first = same_Some first.item h (sym first.at ∙ at)

  pub was-named : held_named hs (Some h.name) ≡ Some h
  was-named = find-first (λ k. bytes_eq k.name h.name) hs j first ∙ ap (λ k. Some k) same-first

  pub now-named : held_named gs (Some h.name) ≡ Some g
  now-named =
      find-set (λ k. bytes_eq k.name h.name) hs j h g at first.before
      (ap (λ n. bytes_eq n h.name) t.name ∙ (ap (λ (k : Held). bytes_eq k.name h.name) (sym same-first) ∙ first.passes))

  other-named : (r : List ℕ) → bytes_eq h.name r ≡ false → held_named gs (Some r) ≡ held_named hs (Some r)
  other-named r e = found-set (λ k. bytes_eq k.name r) hs j h g at e (ap (λ n. bytes_eq n r) t.name ∙ e)

  module _ (f : Entry) (d : IsDictOf kinds hs f) where
    -- it lies in the region that changes
    module _ (here : bytes_eq h.name f.1.home ≡ true) where
      was : held_named hs (Some f.1.home) ≡ Some h
      was = subst (λ n. held_named hs (Some n) ≡ Some h) (same_bytes h.name f.1.home here) was-named

      now : held_named gs (Some f.1.home) ≡ Some g
      now = subst (λ n. held_named gs (Some n) ≡ Some g) (same_bytes h.name f.1.home here) now-named

      whole-was : IsWhole d.rules f.1.dict h.cells
      whole-was = subst (λ (k : Held). IsWhole d.rules f.1.dict k.cells) (same_Some d.home h (sym d.found ∙ was)) d.whole

      own-was : (dict_over hs f) ≡ dictionary_of f.1.dict h.cells
      own-was = ap (λ o. dictionary_of f.1.dict (cells_of_held o)) was

      module _ (clear : IsClear hs h.name mine f) where
        apart-mine : (a : ℕ) → contains (own_blocks (dictionary_of f.1.dict h.cells)) a ≡ true → contains mine a ≡ false
        apart-mine a own =
            false_from_ne_true (contains mine a)
            (λ m. false≢true (sym (subst (λ (x : Dictionary). contains (own_blocks x) a ≡ false) own-was (clear here a m)) ∙ own))

        apart-new : (a : ℕ) → contains (own_blocks (dictionary_of f.1.dict h.cells)) a ≡ true → contains mine' a ≡ false
        apart-new a own =
            false_from_ne_true (contains mine' a)
            (λ m. not-there (h.cells a) (owned-there d.rules f.1.dict h.cells whole-was a own) (t.fresh a m (apart-mine a own)))

        cells-kept : (a : ℕ) → contains (own_blocks (dictionary_of f.1.dict h.cells)) a ≡ true → g.cells a ≡ h.cells a
        cells-kept a own = t.others a (apart-mine a own) (apart-new a own)

        home-here : dict_over gs f ≡ dict_over hs f
        home-here =
            ap (λ o. dictionary_of f.1.dict (cells_of_held o)) now
            ∙ (dictionary-kept d.rules f.1.dict h.cells whole-was g.cells cells-kept ∙ sym own-was)

        dict-here : IsDictOf kinds gs f
        dict-here = record {
          home = g;
          found = now;
          best = t.best;
          rules = d.rules;
          kind = d.kind;
          whole = whole-kept d.rules f.1.dict h.cells whole-was g.cells cells-kept;
        }

    -- it lies in another one
    module _ (away : bytes_eq h.name f.1.home ≡ false) where
      home-away : dict_over gs f ≡ dict_over hs f
      home-away = ap (λ o. dictionary_of f.1.dict (cells_of_held o)) (other-named f.1.home away)

      dict-away : IsDictOf kinds gs f
      dict-away = record {
        home = d.home;
        found = other-named f.1.home away ∙ d.found;
        best = d.best;
        rules = d.rules;
        kind = d.kind;
        whole = d.whole;
      }

    -- it stays, and none of the new blocks is its own
    pub home-kept : IsClear hs h.name mine f → dict_over gs f ≡ dict_over hs f
    home-kept clear = ⊎_elim (λ e. home-here e clear) (λ e. home-away e) (cases_Bool (bytes_eq h.name f.1.home))

    pub dict-kept : IsClear hs h.name mine f → IsDictOf kinds gs f
    dict-kept clear = ⊎_elim (λ e. dict-here e clear) (λ e. dict-away e) (cases_Bool (bytes_eq h.name f.1.home))

    pub clear-after : IsClear hs h.name mine f → IsClear hs h.name mine' f
    clear-after clear = λ here a m.
        false_from_ne_true (contains (own_blocks (dict_over hs f)) a)
        (λ own. false≢true (sym (apart-new here clear a (subst (λ (x : Dictionary). contains (own_blocks x) a ≡ true) (own-was here) own)) ∙ m))

  apart-one : (f x : Entry) → IsDictOf kinds hs f → IsClear hs h.name mine f → IsDictOf kinds hs x → IsClear hs h.name mine x → AreApartIn hs f x → AreApartIn gs f x
  apart-one f x df cf dx cx apart = λ here a own.
      subst (λ (k : Dictionary). contains (own_blocks k) a ≡ false) (sym (home-kept x dx cx))
      (apart here a (subst (λ (k : Dictionary). contains (own_blocks k) a ≡ true) (home-kept f df cf) own))

  apart-all : (f : Entry) → IsDictOf kinds hs f → IsClear hs h.name mine f → (es : List Entry) → AreDicts kinds hs es → AllByRecursion (IsClear hs h.name mine) es → AllByRecursion (AreApartIn hs f) es → AllByRecursion (AreApartIn gs f) es
  apart-all f df cf [] ds cs ps = tt
  apart-all f df cf (x ∷ es) ds cs ps = (apart-one f x df cf ds.0 cs.0 ps.0, apart-all f df cf es ds.2 cs.1 ps.1)

  -- dictionaries that have none of the blocks stay
  pub dicts-kept : (es : List Entry) → AreDicts kinds hs es → AllByRecursion (IsClear hs h.name mine) es → AreDicts kinds gs es
  dicts-kept [] ds cs = tt
  dicts-kept (e ∷ es) ds cs = (dict-kept e ds.0 cs.0, apart-all e ds.0 cs.0 es ds.2 cs.1 ds.1, dicts-kept es ds.2 cs.1)

  pub homes-kept : (vs : Vs) (es : List Entry) → AreDicts kinds hs es → AllByRecursion (IsClear hs h.name mine) es → dicts_in gs vs es ≡ dicts_in hs vs es
  homes-kept vs [] ds cs = refl
  homes-kept vs (e ∷ es) ds cs =
      ap (λ k. home_of_entry vs e k ∷ dicts_in gs vs es) (home-kept e ds.0 cs.0) ∙ ap (λ ks. dict_home hs vs e ∷ ks) (homes-kept vs es ds.2 cs.1)

  -- the dictionary that has the new blocks
  module _ (n : Entry) (dn : IsDictOf kinds gs n) (lies : bytes_eq h.name n.1.home ≡ true) (own : own_blocks (dict_over gs n) ≡ mine') where
    new-before : (f : Entry) → IsDictOf kinds hs f → IsClear hs h.name mine f → AreApartIn gs n f
    new-before f df cf = λ here a m.
        subst (λ (k : Dictionary). contains (own_blocks k) a ≡ false) (sym (home-kept f df cf))
        (clear-after f df cf (ap (λ r. bytes_eq r f.1.home) (same_bytes h.name n.1.home lies) ∙ here) a (subst (λ xs. contains xs a ≡ true) own m))

    new-behind : (f : Entry) → IsDictOf kinds hs f → IsClear hs h.name mine f → AreApartIn gs f n
    new-behind f df cf = λ here a m.
        false_from_ne_true (contains (own_blocks (dict_over gs n)) a)
        (λ m'. false≢true (sym (new-before f df cf (bytes_eq-swapped n.1.home f.1.home ∙ here) a m') ∙ m))

    new-apart : (es : List Entry) → AreDicts kinds hs es → AllByRecursion (IsClear hs h.name mine) es → AllByRecursion (AreApartIn gs n) es
    new-apart [] ds cs = tt
    new-apart (e ∷ es) ds cs = (new-before e ds.0 cs.0, new-apart es ds.2 cs.1)

    apart-push : (f : Entry) → IsDictOf kinds hs f → IsClear hs h.name mine f → (es : List Entry) → AreDicts kinds hs es → AllByRecursion (IsClear hs h.name mine) es → AllByRecursion (AreApartIn hs f) es → AllByRecursion (AreApartIn gs f) (es ++ n ∷ [])
    apart-push f df cf [] ds cs ps = (new-behind f df cf, tt)
    apart-push f df cf (x ∷ es) ds cs ps = (apart-one f x df cf ds.0 cs.0 ps.0, apart-push f df cf es ds.2 cs.1 ps.1)

    -- it comes last
    pub dicts-push : (es : List Entry) → AreDicts kinds hs es → AllByRecursion (IsClear hs h.name mine) es → AreDicts kinds gs (es ++ n ∷ [])
    dicts-push [] ds cs = (dn, tt, tt)
    dicts-push (e ∷ es) ds cs = (dict-kept e ds.0 cs.0, apart-push e ds.0 cs.0 es ds.2 cs.1 ds.1, dicts-push es ds.2 cs.1)

    pub homes-push : (vs : Vs) (es : List Entry) → AreDicts kinds hs es → AllByRecursion (IsClear hs h.name mine) es → dicts_in gs vs (es ++ n ∷ []) ≡ dicts_in hs vs es ++ dict_home gs vs n ∷ []
    homes-push vs [] ds cs = refl
    homes-push vs (e ∷ es) ds cs =
        ap (λ k. home_of_entry vs e k ∷ dicts_in gs vs (es ++ n ∷ [])) (home-kept e ds.0 cs.0) ∙ ap (λ ks. dict_home hs vs e ∷ ks) (homes-push vs es ds.2 cs.1)

    apart-set : (f : Entry) → IsDictOf kinds hs f → IsClear hs h.name mine f → (es : List Entry) (i : ℕ) (e : Entry) → slice_get es i ≡ Some e → AreDicts kinds hs es → AllByRecursion (IsClear hs h.name mine) (remove es i) → AllByRecursion (AreApartIn hs f) es → AllByRecursion (AreApartIn gs f) (set es i n)
    apart-set f df cf [] i e there ds cs ps = absurd (none-some e there)
    apart-set f df cf (x ∷ es) zero e there ds cs ps = (new-behind f df cf, apart-all f df cf es ds.2 cs ps.1)
    apart-set f df cf (x ∷ es) (suc i) e there ds cs ps = (apart-one f x df cf ds.0 cs.0 ps.0, apart-set f df cf es i e there ds.2 cs.1 ps.1)

    -- it comes in the place of another one
    pub dicts-set : (es : List Entry) (i : ℕ) (e : Entry) → slice_get es i ≡ Some e → AreDicts kinds hs es → AllByRecursion (IsClear hs h.name mine) (remove es i) → AreDicts kinds gs (set es i n)
    dicts-set [] i e there ds cs = absurd (none-some e there)
    dicts-set (x ∷ es) zero e there ds cs = (dn, new-apart es ds.2 cs, dicts-kept es ds.2 cs)
    dicts-set (x ∷ es) (suc i) e there ds cs = (dict-kept x ds.0 cs.0, apart-set x ds.0 cs.0 es i e there ds.2 cs.1 ds.1, dicts-set es i e there ds.2 cs.1)

    pub homes-set : (vs : Vs) (es : List Entry) (i : ℕ) (e : Entry) → slice_get es i ≡ Some e → AreDicts kinds hs es → AllByRecursion (IsClear hs h.name mine) (remove es i) → dicts_in gs vs (set es i n) ≡ set (dicts_in hs vs es) i (dict_home gs vs n)
    homes-set vs [] i e there ds cs = absurd (none-some e there)
    homes-set vs (x ∷ es) zero e there ds cs = ap (λ ks. dict_home gs vs n ∷ ks) (homes-kept vs es ds.2 cs)
    homes-set vs (x ∷ es) (suc i) e there ds cs =
        ap (λ k. home_of_entry vs x k ∷ dicts_in gs vs (set es i n)) (home-kept x ds.0 cs.0) ∙ ap (λ ks. dict_home hs vs x ∷ ks) (homes-set vs es i e there ds.2 cs.1)

-- no block is everyone's
pub clear-none : (hs : List Held) (r : List ℕ) (es : List Entry) → AllByRecursion (IsClear hs r []) es
clear-none hs r [] = tt
clear-none hs r (e ∷ es) = ((λ here a m. absurd (false≢true m)), clear-none hs r es)

module _ (kinds : List Rules) (hs : List Held) where
  -- the dictionary at a place
  pub dict-at : (es : List Entry) (i : ℕ) (e : Entry) → slice_get es i ≡ Some e → AreDicts kinds hs es → IsDictOf kinds hs e
  dict-at [] i e there ds = absurd (none-some e there)
  dict-at (x ∷ es) zero e there ds = subst (IsDictOf kinds hs) (same_Some x e there) ds.0
  dict-at (x ∷ es) (suc i) e there ds = dict-at es i e there ds.2

  all-at : (P : Entry → Type 0) (es : List Entry) (i : ℕ) (e : Entry) → slice_get es i ≡ Some e → AllByRecursion P es → P e
  all-at P [] i e there all = absurd (none-some e there)
  all-at P (x ∷ es) zero e there all = subst P (same_Some x e there) all.0
  all-at P (x ∷ es) (suc i) e there all = all-at P es i e there all.1

  -- without the one at a place
  pub dicts-remove : (es : List Entry) (i : ℕ) → AreDicts kinds hs es → AreDicts kinds hs (remove es i)
  dicts-remove [] zero ds = tt
  dicts-remove [] (suc i) ds = tt
  dicts-remove (e ∷ es) zero ds = ds.2
  dicts-remove (e ∷ es) (suc i) ds = (ds.0, all-remove (AreApartIn hs e) es i ds.1, dicts-remove es i ds.2)

  module _ (r : List ℕ) (e : Entry) (lies : bytes_eq r e.1.home ≡ true) where
    clear-behind : (f : Entry) → AreApartIn hs e f → IsClear hs r (own_blocks (dict_over hs e)) f
    clear-behind f apart = λ here a m. apart (ap (λ n. bytes_eq n f.1.home) (sym (same_bytes r e.1.home lies)) ∙ here) a m

    clear-before : (f : Entry) → AreApartIn hs f e → IsClear hs r (own_blocks (dict_over hs e)) f
    clear-before f apart = λ here a m.
        false_from_ne_true (contains (own_blocks (dict_over hs f)) a)
        (λ own.
        false≢true
        (sym (apart (bytes_eq-swapped f.1.home e.1.home ∙ (ap (λ n. bytes_eq n f.1.home) (sym (same_bytes r e.1.home lies)) ∙ here)) a own) ∙ m))

    clear-all : (es : List Entry) → AllByRecursion (AreApartIn hs e) es → AllByRecursion (IsClear hs r (own_blocks (dict_over hs e))) es
    clear-all [] ps = tt
    clear-all (x ∷ es) ps = (clear-behind x ps.0, clear-all es ps.1)

    -- all others have none of its blocks
    pub clear-others : (es : List Entry) (i : ℕ) → slice_get es i ≡ Some e → AreDicts kinds hs es → AllByRecursion (IsClear hs r (own_blocks (dict_over hs e))) (remove es i)
    clear-others [] i there ds = absurd (none-some e there)
    clear-others (x ∷ es) zero there ds =
        clear-all es (subst (λ z. AllByRecursion (AreApartIn hs z) es) (same_Some x e there) ds.1)
    clear-others (x ∷ es) (suc i) there ds = (clear-before x (all-at (AreApartIn hs x) es i e there ds.1), clear-others es i there ds.2)
