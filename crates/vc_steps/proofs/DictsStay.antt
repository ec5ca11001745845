-- What lasts of a session's dictionaries when a region is opened, closed, or changes.
use Rattle.vc_base.proofs.Common.{◌≡◌, ℕ, true, false, List, [], ◌∷◌, ◌++◌, map, set, slice_get, Some, Option, remove, bytes_eq, sym, refl, ap, ◌∙◌, subst, ⊎_elim, cases_Bool, or_parts, same_Some, AllByRecursion, list_any, contains}
use Rattle.vc_base.proofs.Quantifiers.{any-map}
use Rattle.vc_base.proofs.Texts.{bytes_eq-swapped, same_bytes}
use Rattle.vc_dtdisc.specs.Rules.{Rules}
use Rattle.vc_objects.specs.Objects.{Dictionary, own_blocks}
use Rattle.vc_objects.specs.Parts.{IsWhole, dictionary_of}
use Rattle.vc_region.specs.Region.{is_best}
use Rattle.vc_commands.specs.declared.dict.entry.DictEntry.{DictEntry}
use Rattle.vc_commands.specs.Held.{Held, home_of}
use Rattle.vc_steps.specs.Account.{held_named}
use Rattle.vc_steps.specs.DictHomes.{AreApartIn, AreDicts, IsDictOf, cells_of_held, dict_home, dicts_in, lies_in, dict_over}
use Rattle.vc_views.specs.Views.{DictHome}
use Rattle.vc_views.proofs.LinkLists.{found-push, found-remove, found-set}
use Rattle.vc_commands.specs.Home.{is_home}
use Rattle.vc_commands.proofs.Firsts.{IsFirst, find-first, find-set, first-unmap}

abbrev pub Entry : Type 0
Entry = List ℕ × DictEntry

-- what the dictionary of a number views, by name
abbrev pub Vs : Type 0
Vs = ℕ → Option (List ℕ)

-- a dictionary of an entry under its name
abbrev pub home_of_entry : Vs → Entry → Dictionary → DictHome
home_of_entry vs e dict = record { name = e.0; home = e.1.home; kind = e.1.dict.kind; views = vs e.1.number; dict = dict }

-- a dictionary that is one over the regions before is the same one over those after
abbrev pub Stays : List Rules → List Held → List Held → Entry → Type 0
Stays kinds before after e = IsDictOf kinds before e → IsDictOf kinds after e × (dict_over after e ≡ dict_over before e)

abbrev pub SameHome : List Held → List Held → Entry → Type 0
SameHome before after e = dict_over after e ≡ dict_over before e

pub apart-stays : (before after : List Held) (e f : Entry) → SameHome before after e → SameHome before after f → AreApartIn before e f → AreApartIn after e f
apart-stays before after e f same same' apart = λ near a mine.
    ap (λ (d : Dictionary). contains (own_blocks d) a) same'
    ∙ apart near a (sym (ap (λ (d : Dictionary). contains (own_blocks d) a) same) ∙ mine)

module _ (kinds : List Rules) (before after : List Held) where
  pub homes-stay : (es : List Entry) → AllByRecursion (Stays kinds before after) es → AreDicts kinds before es → AllByRecursion (SameHome before after) es
  homes-stay [] stay are = tt
  homes-stay (e ∷ es) stay are = ((stay.0 are.0).1, homes-stay es stay.1 are.2)

  pub all-apart-stay : (e : Entry) → SameHome before after e → (es : List Entry) → AllByRecursion (SameHome before after) es → AllByRecursion (AreApartIn before e) es → AllByRecursion (AreApartIn after e) es
  all-apart-stay e same [] all apart = tt
  all-apart-stay e same (f ∷ fs) all apart = (apart-stays before after e f same all.0 apart.0, all-apart-stay e same fs all.1 apart.1)

  -- each stays, and so all do
  pub dicts-stay : (es : List Entry) → AllByRecursion (Stays kinds before after) es → AreDicts kinds before es → AreDicts kinds after es
  dicts-stay [] stay are = tt
  dicts-stay (e ∷ es) stay are =
      let here = stay.0 are.0 in
      (here.0, all-apart-stay e here.1 es (homes-stay es stay.1 are.2) are.1, dicts-stay es stay.1 are.2)

  -- and so does what they stand for
  pub dicts_in-stay : (vs : Vs) (es : List Entry) → AllByRecursion (Stays kinds before after) es → AreDicts kinds before es → dicts_in after vs es ≡ dicts_in before vs es
  dicts_in-stay vs [] stay are = refl
  dicts_in-stay vs (e ∷ es) stay are =
      ap (λ d. home_of_entry vs e d ∷ dicts_in after vs es) (stay.0 are.0).1 ∙ ap (λ ds. dict_home before vs e ∷ ds) (dicts_in-stay vs es stay.1 are.2)

  pub all-stay : (es : List Entry) → ((e : Entry) → Stays kinds before after e) → AllByRecursion (Stays kinds before after) es
  all-stay [] each = tt
  all-stay (e ∷ es) each = (each e, all-stay es each)

  -- over a region of other cells, in which it is whole and stands for the same
  pub stays-over : (e : Entry) (h g : Held) → held_named before (Some e.1.home) ≡ Some h → held_named after (Some e.1.home) ≡ Some g → (is_best h.region ≡ true → is_best g.region ≡ true) → ((rules : Rules) → IsWhole rules e.1.dict h.cells → IsWhole rules e.1.dict g.cells × (dictionary_of e.1.dict g.cells ≡ dictionary_of e.1.dict h.cells)) → Stays kinds before after e
  stays-over e h g was now best whole is =
      let same : is.home ≡ h = same_Some is.home h (sym is.found ∙ was) in
      let over = whole is.rules (subst (λ (k : Held). IsWhole is.rules e.1.dict k.cells) same is.whole) in (
        record {
          home = g;
          found = now;
          best = best (ap (λ (k : Held). is_best k.region) (sym same) ∙ is.best);
          rules = is.rules;
          kind = is.kind;
          whole = over.0;
        },
        ap (λ o. dictionary_of e.1.dict (cells_of_held o)) now
            ∙ (over.1 ∙ ap (λ o. dictionary_of e.1.dict (cells_of_held o)) (sym was)),
      )

  -- over a region of the same cells
  pub stays-cells : (e : Entry) (h g : Held) → held_named before (Some e.1.home) ≡ Some h → held_named after (Some e.1.home) ≡ Some g → (is_best h.region ≡ true → is_best g.region ≡ true) → g.cells ≡ h.cells → Stays kinds before after e
  stays-cells e h g was now best cells =
      stays-over e h g was now best
      (λ rules whole. (subst (IsWhole rules e.1.dict) (sym cells) whole, ap (dictionary_of e.1.dict) cells))

  -- where the region of its name is the same one
  pub stays-found : (e : Entry) → ((h : Held) → held_named before (Some e.1.home) ≡ Some h → held_named after (Some e.1.home) ≡ Some h) → Stays kinds before after e
  stays-found e same is = stays-cells e is.home is.home is.found (same is.home is.found) (λ best. best) refl is

-- a region that is opened last is no dictionary's
pub stays-push : (kinds : List Rules) (hs : List Held) (g : Held) (e : Entry) → Stays kinds hs (hs ++ g ∷ []) e
stays-push kinds hs g e =
    stays-found kinds hs (hs ++ g ∷ []) e (λ h found. found-push (λ k. bytes_eq k.name e.1.home) hs g h found)

-- nor is one that is closed, where no dictionary lies in it
pub stays-remove : (kinds : List Rules) (hs : List Held) (i : ℕ) (h : Held) → slice_get hs i ≡ Some h → (e : Entry) → bytes_eq e.1.home h.name ≡ false → Stays kinds hs (remove hs i) e
stays-remove kinds hs i h at e other =
    stays-found kinds hs (remove hs i) e
    (λ k found. found-remove (λ k. bytes_eq k.name e.1.home) hs i h at (bytes_eq-swapped h.name e.1.home ∙ other) ∙ found)

-- whether a dictionary lies in a region
pub busy-lies : (hs : List Held) (vs : Vs) (es : List Entry) (r : List ℕ) → list_any (λ (d : DictHome). bytes_eq d.home r) (dicts_in hs vs es) ≡ lies_in r es
busy-lies hs vs es r = any-map (dict_home hs vs) (λ (d : DictHome). bytes_eq d.home r) es

pub all-other : (kinds : List Rules) (before after : List Held) (r : List ℕ) → ((e : Entry) → bytes_eq e.1.home r ≡ false → Stays kinds before after e) → (es : List Entry) → lies_in r es ≡ false → AllByRecursion (Stays kinds before after) es
all-other kinds before after r each [] none = tt
all-other kinds before after r each (e ∷ es) none =
    let parts = or_parts (bytes_eq e.1.home r) (lies_in r es) none in
    (each e parts.0, all-other kinds before after r each es parts.1)

-- the first region of a name changes
module _ (hs : List Held) (i : ℕ) (h g : Held) (at : slice_get hs i ≡ Some h) (name : g.name ≡ h.name) where
  -- the dictionaries of the others stay
  pub stays-elsewhere : (kinds : List Rules) (e : Entry) → bytes_eq e.1.home h.name ≡ false → Stays kinds hs (set hs i g) e
  stays-elsewhere kinds e other =
      let fails : bytes_eq h.name e.1.home ≡ false = bytes_eq-swapped h.name e.1.home ∙ other in
      stays-found kinds hs (set hs i g) e
      (λ k found. found-set (λ k. bytes_eq k.name e.1.home) hs i h g at fails (ap (λ n. bytes_eq n e.1.home) name ∙ fails) ∙ found)

  module _ (r : List ℕ) (first : IsFirst (is_home r) (map home_of hs) i) where
    here : IsFirst (λ (k : Held). bytes_eq k.name r) hs i
    here = first-unmap (is_home r) home_of hs i first

    was_h : here.item ≡ h
    was_h = same_Some here.item h (sym here.at ∙ at)

    -- it has the name
    pub its-name : bytes_eq h.name r ≡ true
    its-name = ap (λ (k : Held). bytes_eq k.name r) (sym was_h) ∙ here.passes

    pub found-before : held_named hs (Some r) ≡ Some h
    found-before = find-first (λ k. bytes_eq k.name r) hs i here ∙ ap (λ k. Some k) was_h

    pub found-after : held_named (set hs i g) (Some r) ≡ Some g
    found-after = find-set (λ k. bytes_eq k.name r) hs i h g at here.before (ap (λ n. bytes_eq n r) name ∙ its-name)

    -- and it stays a best one, and each of its dictionaries whole and the same
    pub stays-set : (kinds : List Rules) → (is_best h.region ≡ true → is_best g.region ≡ true) → (e : Entry) → (e.1.home ≡ r → (rules : Rules) → IsWhole rules e.1.dict h.cells → IsWhole rules e.1.dict g.cells × (dictionary_of e.1.dict g.cells ≡ dictionary_of e.1.dict h.cells)) → Stays kinds hs (set hs i g) e
    stays-set kinds best e whole =
        let same : h.name ≡ r = same_bytes h.name r its-name in
        ⊎_elim
        (λ own.
        let is : e.1.home ≡ r = same_bytes e.1.home h.name own ∙ same in
        stays-over kinds hs (set hs i g) e h g (ap (λ n. held_named hs (Some n)) is ∙ found-before) (ap (λ n. held_named (set hs i g) (Some n)) is ∙ found-after) best (whole is))
        (λ other. stays-elsewhere kinds e other)
        (cases_Bool (bytes_eq e.1.home h.name))

    -- or its cells stay
    pub stays-set_cells : (kinds : List Rules) → (is_best h.region ≡ true → is_best g.region ≡ true) → g.cells ≡ h.cells → (e : Entry) → Stays kinds hs (set hs i g) e
    stays-set_cells kinds best cells e =
        stays-set kinds best e
        (λ is rules whole. (subst (IsWhole rules e.1.dict) (sym cells) whole, ap (dictionary_of e.1.dict) cells))
