-- The dictionary of a number and the region of a name, by their indices.
use Rattle.vc_base.proofs.Common.{◌≡◌, ℕ, zero, suc, ◌<◌, Bool, true, false, cond, ◌||◌, List, [], ◌∷◌, map, length, get_or, take, drop, set, is_some, IsSome, ◌==◌, slice_get, Some, None, Option, option_map, position, find, bytes_eq, sym, refl, ap, ◌∙◌, subst, true≢false, arith, position-Some, none-some, same_Some, list_any, keys_of, lookup, values_of, Blocks}
use Rattle.std.proofs.lemmas.Option.{slice_get-get_or}
use Rattle.indexmap.specs.IndexMap.{set_value_at}
use Rattle.vc_base.proofs.Lists.{find-map}
use Rattle.vc_base.proofs.Texts.{bytes_eq-swapped, same_bytes}
use Rattle.vc_base.proofs.Quantifiers.{any-agree}
use Rattle.vc_best.specs.declared.best.Best as best
use Rattle.vc_region.specs.Cells.{cells_in, rest_in}
use Rattle.vc_region.specs.Region.{is_best}
use Rattle.vc_region.specs.declared.region.Region as code
use Rattle.vc_region.specs.declared.region.Region.TheVariants.{Best, Pool, Last, Debug, Profile}
use Rattle.vc_commands.specs.declared.region.home.HomeEntry.{HomeEntry}
use Rattle.vc_commands.proofs.Firsts.{IsFirst, first-unmap}
use Rattle.vc_views.specs.Dicts.{DictRegion, entry_numbered, is_numbered, region_named, region_seen}
use Rattle.vc_commands.specs.declared.dict.entry.DictEntry.{DictEntry}
use Rattle.vc_views.specs.LayerLaws.{Entry, some-there}

none-before : {A : Type 0} (test : A → Bool) (xs : List A) (i : ℕ) (d : A) → ((k : ℕ) → k < i → test (get_or xs k d) ≡ false) → i < length xs → list_any test (take i xs) ≡ false
none-before test xs zero d none within = refl
none-before test [] (suc i) d none within = refl
none-before test (x ∷ xs) (suc i) d none within =
    ap (λ b. b || list_any test (take i xs)) (none 0 (omega arith)) ∙ none-before test xs i d (λ k lt. none (suc k) (omega (arith, lt))) (omega (arith, within))

-- the first place that passes a test
pub first-at : {A : Type 0} (test : A → Bool) (xs : List A) (i : ℕ) → position test xs ≡ Some i → IsFirst test xs i
first-at test [] i at = absurd (none-some i at)
first-at test (x ∷ xs) i at =
    let p = position-Some test (x ∷ xs) i x at in
    record {
      item = get_or (x ∷ xs) i x;
      at = slice_get-get_or (x ∷ xs) i x p.0;
      passes = p.1;
      before = none-before test (x ∷ xs) i x p.2 p.0;
    }

-- the first of some names that is a name, and the name at its place
pub first-key : (names : List (List ℕ)) (r : List ℕ) (i : ℕ) → position (bytes_eq r) names ≡ Some i → IsFirst (λ n. bytes_eq n r) names i
first-key names r i at =
    let f = first-at (bytes_eq r) names i at in
    record {
      item = f.item;
      at = f.at;
      passes = bytes_eq-swapped f.item r ∙ f.passes;
      before = any-agree (λ n. bytes_eq n r) (λ n. bytes_eq r n) (take i names) (λ n. bytes_eq-swapped n r) ∙ f.before;
    }

pub key-at : (names : List (List ℕ)) (r : List ℕ) (i : ℕ) → position (bytes_eq r) names ≡ Some i → slice_get names i ≡ Some r
key-at names r i at =
    let f = first-key names r i at in
    f.at ∙ ap (λ n. Some n) (same_bytes f.item r f.passes)

-- where one from a place on passes, that place has an item
pub drop-find : {A : Type 0} (test : A → Bool) (xs : List A) (i : ℕ) → IsSome (find test (drop i xs)) → (x : A) × (slice_get xs i ≡ Some x) × (find test (drop i xs) ≡ cond (test x) (Some x) (find test (drop (suc i) xs)))
drop-find test [] zero h = cc
drop-find test [] (suc i) h = cc
drop-find test (x ∷ xs) zero h = (x, refl, refl)
drop-find test (x ∷ xs) (suc i) h = drop-find test xs i h

pub value-read : {A : Type 0} (es : List (List ℕ × A)) (i : ℕ) (e : List ℕ × A) (v : A) → slice_get es i ≡ Some e → slice_get (values_of es) i ≡ Some v → e.1 ≡ v
value-read [] i e v at read = absurd (none-some e at)
value-read (x ∷ es) zero e v at read = ap (λ (p : List ℕ × _). p.1) (sym (same_Some x e at)) ∙ same_Some x.1 v read
value-read (x ∷ es) (suc i) e v at read = value-read es i e v at read

pub value-set : {A : Type 0} (es : List (List ℕ × A)) (i : ℕ) (e : List ℕ × A) (y : A) → slice_get es i ≡ Some e → set_value_at es i y ≡ set es i (e.0, y)
value-set [] i e y at = absurd (none-some e at)
value-set (x ∷ es) zero e y at = ap (λ (p : List ℕ × _). (p.0, y) ∷ es) (same_Some x e at)
value-set (x ∷ es) (suc i) e y at = ap (λ zs. x ∷ zs) (value-set es i e y at)

-- what a dictionary needs of its region
abbrev part_seen : DictRegion → Bool × Blocks
part_seen h = (h.best, h.cells)

option-choice : {A B C : Type 0} (f : A → C) (g : B → C) (t : Bool) (a o : Option A) (b p : Option B) → option_map f a ≡ option_map g b → option_map f o ≡ option_map g p → option_map f (cond t a o) ≡ option_map g (cond t b p)
option-choice f g true a o b p same other = same
option-choice f g false a o b p same other = other

module _ {I : Type 0} {V : I → Type 0} where
  pub named-found : (es : List (List ℕ × HomeEntry I V)) (r : List ℕ) → region_named (map region_seen es) r ≡ option_map region_seen (find (λ e. bytes_eq e.0 r) es)
  named-found es r = find-map region_seen (λ (h : DictRegion). bytes_eq h.name r) es

  -- what is seen of the region of a name
  abbrev part_of : HomeEntry I V → Bool × Blocks
  part_of v = (is_best (rest_in v.region), cells_in v.region)

  pub named-looked : (es : List (List ℕ × HomeEntry I V)) (r : List ℕ) → option_map part_seen (region_named (map region_seen es) r) ≡ option_map part_of (lookup (bytes_eq r) es)
  named-looked [] r = refl
  named-looked (e ∷ es) r =
      ap (λ t. option_map part_seen (cond t (Some (region_seen e)) (region_named (map region_seen es) r))) (bytes_eq-swapped e.0 r)
      ∙ option-choice part_seen part_of (bytes_eq r e.0) (Some (region_seen e)) (region_named (map region_seen es) r) (Some e.1) (lookup (bytes_eq r) es) refl (named-looked es r)

  named-none : (o : Option DictRegion) (p : Option (HomeEntry I V)) (h : DictRegion) → option_map part_seen o ≡ option_map part_of p → o ≡ Some h → false ≡ is_some p → ⊥
  named-none o None h same is none = none-some (part_seen h) (sym same ∙ ap (option_map part_seen) is)
  named-none o (Some v) h same is none = true≢false (sym none)

  -- a region that is named is among the entries
  pub no-region : (es : List (List ℕ × HomeEntry I V)) (r : List ℕ) (h : DictRegion) → region_named (map region_seen es) r ≡ Some h → false ≡ is_some (lookup (bytes_eq r) es) → ⊥
  no-region es r h is none = named-none (region_named (map region_seen es) r) (lookup (bytes_eq r) es) h (named-looked es r) is none

  -- what is seen of it
  pub region-looked : (es : List (List ℕ × HomeEntry I V)) (r : List ℕ) (h : DictRegion) (v : HomeEntry I V) → region_named (map region_seen es) r ≡ Some h → lookup (bytes_eq r) es ≡ Some v → part_seen h ≡ part_of v
  region-looked es r h v is at = same_Some (part_seen h) (part_of v) (sym (ap (option_map part_seen) is) ∙ named-looked es r ∙ ap (option_map part_of) at)

  pub named-first : (es : List (List ℕ × HomeEntry I V)) (r : List ℕ) (j : ℕ) → position (bytes_eq r) (keys_of es) ≡ Some j → IsFirst (λ (e : List ℕ × HomeEntry I V). bytes_eq e.0 r) es j
  named-first es r j at = first-unmap (λ n. bytes_eq n r) (λ (e : List ℕ × HomeEntry I V). e.0) es j (first-key (keys_of es) r j at)

-- a region that is a best one is no other
pub no-other : {I : Type 0} {V : I → Type 0} (r : code.Region I V) → is_best (rest_in r) ≡ true → ((b : best.Best I V) → r ≡ Best b → ⊥) → ⊥
no-other (Best b) is never = never b refl
no-other (Pool p) is never = absurd (true≢false (sym is))
no-other (Last l) is never = absurd (true≢false (sym is))
no-other (Debug d) is never = absurd (true≢false (sym is))
no-other (Profile p) is never = absurd (true≢false (sym is))

pub entry-value : (d : ℕ) (es : List Entry) (i : ℕ) (v : DictEntry) → IsSome (entry_numbered d es) → slice_get es i ≡ entry_numbered d es → slice_get (values_of es) i ≡ Some v → option_map (λ (e : Entry). e.1) (entry_numbered d es) ≡ Some v
entry-value d es i v some at read =
    let e = some-there (entry_numbered d es) some in
    ap (option_map (λ (e : Entry). e.1)) e.1 ∙ ap (λ z. Some z) (value-read es i e.0 v (at ∙ e.1) read)

-- an entry that hasn't the number is passed, and one that has it is the first
module _ (d : ℕ) (es : List Entry) (i : ℕ) (v : DictEntry) (some : IsSome (entry_numbered d es)) (so_far : find (is_numbered d) (drop i es) ≡ entry_numbered d es) (read : slice_get (values_of es) i ≡ Some v) where
  next : (x : Entry) × (slice_get es i ≡ Some x) × (find (is_numbered d) (drop i es) ≡ cond (is_numbered d x) (Some x) (find (is_numbered d) (drop (suc i) es)))
  next = drop-find (is_numbered d) es i (subst IsSome (sym so_far) some)

  has-it : is_numbered d next.0 ≡ (v.number == d)
  has-it = ap (λ (w : DictEntry). w.number == d) (value-read es i next.0 v next.1 read)

  pub number-passed : (v.number == d) ≡ false → find (is_numbered d) (drop (suc i) es) ≡ entry_numbered d es
  number-passed other = sym (next.2 ∙ ap (λ t. cond t (Some next.0) (find (is_numbered d) (drop (suc i) es))) (has-it ∙ other)) ∙ so_far

  pub number-here : (v.number == d) ≡ true → slice_get es i ≡ entry_numbered d es
  number-here own = next.1 ∙ sym (next.2 ∙ ap (λ t. cond t (Some next.0) (find (is_numbered d) (drop (suc i) es))) (has-it ∙ own)) ∙ so_far
