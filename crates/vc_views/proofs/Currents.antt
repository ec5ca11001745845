-- The dictionary at an index whose current object is set.
use Rattle.vc_base.proofs.Common.{◌≡◌, ℕ, zero, suc, ◌<◌, Bool, true, false, cond, ◌||◌, List, [], ◌∷◌, map, length, set, is_some, IsSome, ◌==◌, slice_get, Some, None, Option, option_map, find, sym, refl, ap, ◌∙◌, subst, inl, inr, true≢false, arith, eq-eqb, ne_eqb, eqb-true, or-true, eqb_tells, cases_Bool, length-map, none-some, same_Some, slice_get-map, AllByRecursion, values_of, AreDistinct, contains, some_address}
use Rattle.indexmap.specs.IndexMap.{set_value_at}
use Rattle.vc_base.specs.declared.addr.Addr.{Addr}
use Rattle.vc_dtdisc.specs.Finding.{before_first_from, behind_last, first_of}
use Rattle.vc_dtdisc.specs.Rules.{Rules}
use Rattle.vc_dict.specs.Listed.{holders_of}
use Rattle.vc_dict.specs.declared.dict.Dict.{Dict}
use Rattle.vc_dict.proofs.OwnLemmas.{holder-address}
use Rattle.vc_objects.specs.Parts.{IsWhole}
use Rattle.vc_paths.specs.Layers.{AreLayers, Layer, Layered, bytes_there}
use Rattle.vc_paths.specs.Links.{Links}
use Rattle.vc_paths.specs.Path.{IsPath, visible_of}
use Rattle.vc_paths.specs.Visible.{Seen}
use Rattle.vc_paths.proofs.SightLemmas.{IsThere, all-found, all-last, visible-there}
use Rattle.vc_commands.specs.Looking.{found_by_command, is_askable, look_found, own_place}
use Rattle.vc_commands.specs.declared.dict.entry.DictEntry.{DictEntry}
use Rattle.vc_script.specs.declared.command.Command.{Command}
use Rattle.vc_script.specs.declared.command.Command.TheVariants.{Search, MatchKey, First, Last, Next, Prev}
use Rattle.vc_views.specs.Dicts.{AreDictsOver, DictRegion, DictSeen, IsDictOver, dict_seen, has_number, layer_of, layer_seen, layered_by, number_at, number_in, number_or, with_current, with_current_at}
use Rattle.vc_views.specs.LayerLaws.{Entry, layer-is}
use Rattle.vc_views.proofs.AtHolders.{holder-here}
use Rattle.vc_views.proofs.Firsts.{value-set}
use Rattle.vc_views.proofs.LookLeaves.{dict-at, pair-at}
use Rattle.vc_views.proofs.BlockChanges.{AllApart, AreApart, all-apart, are-dicts, each-whole}

-- what a command finds is one of the objects
all-first : {A : Type 0} (P : A → Type 0) (xs : List A) (x : A) → AllByRecursion P xs → first_of xs ≡ Some x → P x
all-first P [] x h e = absurd (none-some x e)
all-first P (y ∷ ys) x h e = subst P (same_Some y x e) h.0

behind-by : {A : Type 0} (P : A → Type 0) (t : Bool) (o p : Option A) (x : A) → (o ≡ Some x → P x) → (p ≡ Some x → P x) → cond t o p ≡ Some x → P x
behind-by P true o p x f g e = f e
behind-by P false o p x f g e = g e

all-behind : {A : Type 0} (P : A → Type 0) (test : A → Bool) (xs : List A) (x : A) → AllByRecursion P xs → behind_last test xs ≡ Some x → P x
all-behind P test [] x h e = absurd (none-some x e)
all-behind P test (y ∷ ys) x h e = behind-by P _ (first_of ys) (behind_last test ys) x (λ k. all-first P ys x h.1 k) (λ k. all-behind P test ys x h.1 k) e

all-before : {A : Type 0} (P : A → Type 0) (o : Option A) (test : A → Bool) (xs : List A) (x : A) → (o ≡ Some x → P x) → AllByRecursion P xs → before_first_from o test xs ≡ Some x → P x
all-before P o test [] x b h e = absurd (none-some x e)
all-before P o test (y ∷ ys) x b h e =
    behind-by P (test y) o (before_first_from (Some y) test ys) x b (λ k. all-before P (Some y) test ys x (λ z. subst P (same_Some y x z) h.0) h.1 k) e

found-one : {N : Type 0} (P : Seen N → Type 0) (rules : Rules) (command : Command) (seen : List (Seen N)) (o : Seen N) → AllByRecursion P seen → found_by_command rules command seen ≡ Some o → P o
found-one P rules (Search d bytes) seen o h e = (all-found P _ seen o h e).0
found-one P rules (MatchKey d key) seen o h e = (all-found P _ seen o h e).0
found-one P rules (First d) seen o h e = all-first P seen o h e
found-one P rules (Last d) seen o h e = all-last P seen o h e
found-one P rules (Next d bytes) seen o h e = all-behind P _ seen o h e
found-one P rules (Prev d bytes) seen o h e = all-before P None _ seen o (λ k. absurd (none-some o k)) h e
found-one P rules command seen o h e = absurd (none-some o e)

-- the place of what is found is that of an object of the dictionary itself
module _ (all : Layered) (links : Links) (d : ℕ) (lawful : AreLayers all) (path : IsPath all links d) (rules : Rules) (command : Command) (a : ℕ) where
  seen-there : AllByRecursion (IsThere all d) (visible_of all links d)
  seen-there = visible-there all links d lawful path

  own-by : (t : Bool) (o : Seen ℕ) → (o.dict == d) ≡ t → IsThere all d o → cond t (Some o.at) None ≡ Some a → IsSome (bytes_there a (all.layer d).objects)
  own-by true o same there e =
      subst (λ z. IsSome (bytes_there z (all.layer d).objects)) (same_Some o.at a e)
      (subst (λ z. IsSome (bytes_there o.at (all.layer z).objects)) (eqb-true o.dict d same) (ap is_some there.bytes))
  own-by false o same there e = absurd (none-some a e)

  own-one : (p : Option (Seen ℕ)) → ((o : Seen ℕ) → p ≡ Some o → IsThere all d o) → own_place (λ e. e == d) p ≡ Some a → IsSome (bytes_there a (all.layer d).objects)
  own-one None there e = absurd (none-some a e)
  own-one (Some o) there e = own-by (o.dict == d) o refl (there o refl) e

  look-one : (t : Bool) → own_place (λ e. e == d) (cond t (found_by_command rules command (visible_of all links d)) None) ≡ Some a → IsSome (bytes_there a (all.layer d).objects)
  look-one true e = own-one (found_by_command rules command (visible_of all links d)) (λ o k. found-one (IsThere all d) rules command (visible_of all links d) o seen-there k) e
  look-one false e = absurd (none-some a e)

  pub own-there : own_place (λ e. e == d) (look_found rules command (visible_of all links d)) ≡ Some a → IsSome (bytes_there a (all.layer d).objects)
  own-there e = look-one (is_askable command) e

numbers-seen : (regions : List DictRegion) (es : List Entry) → map (λ (s : DictSeen). s.number) (map (dict_seen regions) es) ≡ map number_in es
numbers-seen regions [] = refl
numbers-seen regions (e ∷ es) = ap (λ ns. number_in e ∷ ns) (numbers-seen regions es)

among : (ss : List DictSeen) (i : ℕ) (s : DictSeen) → slice_get ss i ≡ Some s → contains (map (λ (z : DictSeen). z.number) ss) s.number ≡ true
among [] i s at = absurd (none-some s at)
among (x ∷ ss) zero s at = ap (λ b. b || contains (map (λ (z : DictSeen). z.number) ss) s.number) (eq-eqb x.number s.number (ap (λ (z : DictSeen). z.number) (same_Some x s at)))
among (x ∷ ss) (suc i) s at = elim (cases_Bool (x.number == s.number)) as (λ _. contains (map (λ (z : DictSeen). z.number) (x ∷ ss)) s.number ≡ true) [
  | inl k ↦ rw k refl
  | inr k ↦ rw k (among ss i s at)
]

-- where numbers are distinct, the dictionary of a number is the one that has it
found-distinct : (ss : List DictSeen) (i : ℕ) (s : DictSeen) → slice_get ss i ≡ Some s → AreDistinct (map (λ (z : DictSeen). z.number) ss) → find (has_number s.number) ss ≡ Some s
found-distinct [] i s at d = absurd (none-some s at)
found-distinct (x ∷ ss) zero s at d = let same = same_Some x s at in rw (eq-eqb x.number s.number (ap (λ (z : DictSeen). z.number) same)) (ap (λ z. Some z) same)
found-distinct (x ∷ ss) (suc i) s at d = elim (eqb_tells x.number s.number) as (λ _. find (has_number s.number) (x ∷ ss) ≡ Some s) [
  | inl k ↦ absurd (true≢false (sym (among ss i s at) ∙ subst (λ n. contains (map (λ (z : DictSeen). z.number) ss) n ≡ false) k.1 d.0))
  | inr k ↦ rw k.0 (found-distinct ss i s at d.1)
]

all-set : {A : Type 0} (P : A → Type 0) (xs : List A) (i : ℕ) (y : A) → P y → AllByRecursion P xs → AllByRecursion P (set xs i y)
all-set P [] zero y h all = tt
all-set P [] (suc i) y h all = tt
all-set P (x ∷ xs) zero y h all = (h, all.1)
all-set P (x ∷ xs) (suc i) y h all = (all.0, all-set P xs i y h all.1)

module _ (p : Option ℕ) where
  apart-from : (s : DictSeen) (i : ℕ) (ss : List DictSeen) → AllByRecursion (AreApart s) ss → AllByRecursion (AreApart s) (with_current_at i p ss)
  apart-from s i [] all = tt
  apart-from s zero (x ∷ ss) all = (all.0, all.1)
  apart-from s (suc i) (x ∷ ss) all = (all.0, apart-from s i ss all.1)

  all-of : (s : DictSeen) (ss : List DictSeen) → AllByRecursion (AreApart s) ss → AllByRecursion (AreApart (with_current p s)) ss
  all-of s [] all = tt
  all-of s (x ∷ ss) all = (all.0, all-of s ss all.1)

  -- the blocks of dictionaries stay
  apart-current : (i : ℕ) (ss : List DictSeen) → AllApart ss → AllApart (with_current_at i p ss)
  apart-current i [] all = tt
  apart-current zero (x ∷ ss) all = (all-of x ss all.0, all.1)
  apart-current (suc i) (x ∷ ss) all = (apart-from x i ss all.0, apart-current i ss all.1)

-- with no other current one nothing changes
pub current-none : (i : ℕ) (ss : List DictSeen) → with_current_at i None ss ≡ ss
current-none i [] = refl
current-none zero (s ∷ ss) = refl
current-none (suc i) (s ∷ ss) = ap (λ zs. s ∷ zs) (current-none i ss)

module _ (kinds : List Rules) (old new : List DictRegion) (es es' : List Entry) (seen : map (dict_seen new) es' ≡ map (dict_seen old) es) (are : AreDictsOver kinds new es') (distinct : AreDistinct (map number_in es))
    (i : ℕ) (e : Entry) (at_old : slice_get es i ≡ Some e) (n : List ℕ) (v : DictEntry) (at_new : slice_get es' i ≡ Some (n, v)) where
  seen-old : slice_get (map (dict_seen old) es) i ≡ Some (dict_seen old e)
  seen-old = slice_get-map (dict_seen old) es i ∙ ap (option_map (dict_seen old)) at_old

  seen-new : slice_get (map (dict_seen new) es') i ≡ Some (dict_seen new (n, v))
  seen-new = slice_get-map (dict_seen new) es' i ∙ ap (option_map (dict_seen new)) at_new

  same-seen : dict_seen old e ≡ dict_seen new (n, v)
  same-seen = same_Some (dict_seen old e) (dict_seen new (n, v)) (sym seen-old ∙ ap (λ ss. slice_get ss i) (sym seen) ∙ seen-new)

  abbrev is : IsDictOver kinds new (n, v)
  is = dict-at kinds new es' i (n, v) at_new are

  layer-at : (layered_by kinds old es).layer (number_in e) ≡ layer_of kinds new (n, v)
  layer-at =
      ap (layer_seen kinds) (found-distinct (map (dict_seen old) es) i (dict_seen old e) seen-old (subst AreDistinct (sym (numbers-seen old es)) distinct))
      ∙ ap (λ s. layer_seen kinds (Some s)) same-seen

  module _ (at : Addr) (there : IsSome (bytes_there at.0 ((layered_by kinds old es).layer (number_in e)).objects)) where
    within : contains (holders_of v.dict is.home.cells) at.0 ≡ true
    within =
        holder-here is.home.cells at.0 (holders_of v.dict is.home.cells)
        (subst (λ (l : Layer). IsSome (bytes_there at.0 l.objects)) (layer-at ∙ layer-is kinds new (n, v) is) there)

    abbrev pub current_dict : Dict
    current_dict = record v.dict { current = at }

    abbrev pub current_entry : Entry
    current_entry = (n, record v { dict = current_dict })

    some-at : some_address at.0 ≡ Some at.0
    some-at =
        let a = holder-address is.rules v.dict is.home.cells (holders_of v.dict is.home.cells) at.0 is.whole.stands within in
        rw (ne_eqb at.0 0 (λ z. absurd (omega (arith, a.some, z)))) refl

    whole-current : IsWhole is.rules current_dict is.home.cells
    whole-current = record {
      stands = record { form = is.whole.stands.form; heads = is.whole.stands.heads; count = is.whole.stands.count };
      current = ap (λ b. (0 == at.0) || b) within ∙ or-true (0 == at.0);
      table = is.whole.table;
      objects = is.whole.objects;
    }

    is-current : IsDictOver kinds new current_entry
    is-current = record { home = is.home; found = is.found; best = is.best; rules = is.rules; kind = is.kind; whole = whole-current }

    abbrev seen_with : Option ℕ → DictSeen
    seen_with p = record (dict_seen new (n, v)) { dict = record (dict_seen new (n, v)).dict { current = p } }

    seen-current : dict_seen new current_entry ≡ with_current (Some at.0) (dict_seen new (n, v))
    seen-current = ap seen_with some-at

    seen-at : (fs : List Entry) (k : ℕ) → slice_get fs k ≡ Some (n, v) → map (dict_seen new) (set fs k current_entry) ≡ with_current_at k (Some at.0) (map (dict_seen new) fs)
    seen-at [] k there = absurd (none-some (n, v) there)
    seen-at (f ∷ fs) zero there = ap (λ s. s ∷ map (dict_seen new) fs) (seen-current ∙ ap (λ z. with_current (Some at.0) (dict_seen new z)) (sym (same_Some f (n, v) there)))
    seen-at (f ∷ fs) (suc k) there = ap (λ ss. dict_seen new f ∷ ss) (seen-at fs k there)

    pub seen-set : map (dict_seen new) (set es' i current_entry) ≡ with_current_at i (Some at.0) (map (dict_seen old) es)
    seen-set = seen-at es' i at_new ∙ ap (with_current_at i (Some at.0)) seen

    pub dicts-set : AreDictsOver kinds new (set es' i current_entry)
    dicts-set =
        are-dicts kinds new (set es' i current_entry) (all-set (IsDictOver kinds new) es' i current_entry is-current (each-whole kinds new es' are))
        (subst AllApart (sym (seen-at es' i at_new)) (apart-current (Some at.0) i (map (dict_seen new) es') (all-apart kinds new es' are)))

-- the number of the dictionary at an index
pub number-is : (es : List Entry) (i : ℕ) (u : DictEntry) → slice_get (values_of es) i ≡ Some u → number_at i es ≡ u.number
number-is es i u read = ap number_or (pair-at es i u read).1

pub still-within : (old new : List DictRegion) (es es' : List Entry) (i : ℕ) → map (dict_seen new) es' ≡ map (dict_seen old) es → i < length es → i < length es'
still-within old new es es' i seen within = subst (λ n. i < n) (sym (sym (length-map es' (dict_seen new)) ∙ ap length seen ∙ length-map es (dict_seen old))) within

module _ (kinds : List Rules) (old new : List DictRegion) (es es' : List Entry) (seen : map (dict_seen new) es' ≡ map (dict_seen old) es) (are : AreDictsOver kinds new es') (distinct : AreDistinct (map number_in es))
    (i : ℕ) (u : DictEntry) (read_old : slice_get (values_of es) i ≡ Some u) (v : DictEntry) (read : slice_get (values_of es') i ≡ Some v) (at : Addr)
    (there : IsSome (bytes_there at.0 ((layered_by kinds old es).layer u.number).objects)) where
  abbrev with_at : DictEntry
  with_at = record v { dict = record v.dict { current = at } }

  abbrev was : (n : List ℕ) × (slice_get es i ≡ Some (n, u))
  was = pair-at es i u read_old

  abbrev now : (n : List ℕ) × (slice_get es' i ≡ Some (n, v))
  now = pair-at es' i v read

  set-is : set_value_at es' i with_at ≡ set es' i (now.0, with_at)
  set-is = value-set es' i (now.0, v) with_at now.1

  pub dicts-current : AreDictsOver kinds new (set_value_at es' i with_at)
  dicts-current = subst (AreDictsOver kinds new) (sym set-is) (dicts-set kinds old new es es' seen are distinct i (was.0, u) was.1 now.0 v now.1 at there)

  pub seen-after : map (dict_seen new) (set_value_at es' i with_at) ≡ with_current_at i (Some at.0) (map (dict_seen old) es)
  seen-after = ap (map (dict_seen new)) set-is ∙ seen-set kinds old new es es' seen are distinct i (was.0, u) was.1 now.0 v now.1 at there
