-- The dictionary and the kind that stand at a number of a store.
use Rattle.vc_base.proofs.Common.{◌≡◌, ◌<◌, ℕ, List, Option, Some, None, option_map, length, slice_get, get_or, refl, sym, ap, ◌∙◌, subst, Bool, true, false, length-map, ◌==◌, if◌then◌else◌, Blocks, HasBytes, contains, Discipline}
use Rattle.std.proofs.lemmas.Option.{slice_get-get_or, slice_get_read}
use Rattle.std.specs.Vec.{with_item}
use Rattle.vc_dtdisc.specs.Rules.{Rules}
use Rattle.vc_dtdisc.specs.Finds as dtdisc
use Rattle.vc_dtdisc.specs.Objects as objects
use Rattle.vc_dict.specs.Listed.{holders_of}
use Rattle.vc_dict.specs.declared.dict.Dict.{Dict}
use Rattle.vc_best.specs.Cells.{cells_in}
use Rattle.vc_best.specs.declared.best.Best.{Best}
use Rattle.vc_objects.specs.Leaves.{LeavesRest}
use Rattle.vc_objects.specs.Objects.{own_blocks}
use Rattle.vc_objects.specs.Parts.{IsWhole, dictionary_in, dictionary_of}
use Rattle.vc_objects.proofs.Leaving.{keeps-same, leaves-still}
use Rattle.vc_objects.proofs.Remains.{counts-objects}
use Rattle.vc_objects.specs.Remove.{bytes_of}
use Rattle.vc_store.specs.Contents.{contents_in, current_place}
use Rattle.vc_store.specs.Reading.{Contents, GoesTo, current, object_at_index}
use Rattle.vc_store.proofs.Shown.{current-there, pointed-shown, within-rest}
pub use Rattle.vc_store.specs.Stores.AlikeLaws.{below-there}
use Rattle.vc_algebra.specs.InRegion.{rules_or}
use Rattle.vc_store.specs.Stores.Stores.{ChangesObjects, HasDict, HasOpenDict, IsOpen, contents, contents_or, dict_at, dicts_of, disc_of, joined, kind_at, kinds_of, lent_to, numbers_of, rules_at}
use Rattle.vc_store.specs.declared.stores.store.Store.{Store}
use Rattle.vc_store.specs.Moves.{IsWholeBySome, Moves}
use Rattle.vc_store.proofs.Changed.{Call, changes-objects, moved}
use Rattle.vc_store.proofs.Numbers.{at-below, set-itself}

-- what is read there
pub read-there : {A : Type 0} (xs : List (Option A)) (n : ℕ) (o : Option A) → n < length xs → o ≡ get_or xs n o → joined (slice_get xs n) ≡ o
read-there xs n o below e = ap joined (slice_get-get_or xs n o below) ∙ sym e

pub found-there : {D : Type 0} {I : Type 0} {V : I → Type 0} (s : Store D I V) (n : ℕ) (o : Option Dict) (d : Dict) → HasDict s n → o ≡ get_or (dicts_of s) n o → o ≡ Some d → dict_at s n ≡ Some d
found-there s n o d there read found = read-there (dicts_of s) n o (below-there (dicts_of s) n there) read ∙ found

module _ {D : Type 0} {I : Type 0} {V : I → Type 0} (rules_by : D → Rules) (s : Store D I V) (n : ℕ) {disc : Discipline} (is : IsOpen rules_by s disc) (below : n < numbers_of s) (k : D) (kind : k ≡ get_or (kinds_of s) n k) where
  pub kind-here : kind_at s n ≡ Some k
  kind-here = slice_get_read (kinds_of s) (length (kinds_of s)) n k refl (subst (λ c. n < c) (sym is.kinds) below) kind

  pub rules-here : rules_at rules_by s n ≡ rules_by k
  rules-here = ap (λ o. rules_or (option_map rules_by o)) kind-here

  pub whole-here : (d : Dict) → dict_at s n ≡ Some d → IsWhole (rules_by k) d (cells_in s.best)
  whole-here d at = subst (λ r. IsWhole r d (cells_in s.best)) rules-here (is.whole n d at)

-- the store with another region and dictionary, and with another kind as well
abbrev pub with_dict : {D : Type 0} {I : Type 0} {V : I → Type 0} → Store D I V → ℕ → Best I V → Dict → Store D I V
with_dict s n best d = record { best = best; dicts = with_item s.dicts n (Some d); kinds = s.kinds }

abbrev pub with_both : {D : Type 0} {I : Type 0} {V : I → Type 0} → Store D I V → ℕ → Best I V → Dict → D → Store D I V
with_both s n best d k =
    record { best = best; dicts = with_item s.dicts n (Some d); kinds = with_item s.kinds n k }

-- a call on the dictionary of a number, whose kind stays, or changes by the same rules
module _ {D : Type 0} {I : Type 0} {V : I → Type 0} (meaning : (x : I) × V x → Discipline) (rules_by : D → Rules) (s : Store D I V) (n : ℕ) (has : HasOpenDict meaning rules_by s n)
    (o : Option Dict) (d : Dict) (k : D) (read : o ≡ get_or (dicts_of s) n o) (found : o ≡ Some d) (kind : k ≡ get_or (kinds_of s) n k) where
  below : n < numbers_of s
  below = below-there (dicts_of s) n has.there

  at : dict_at s n ≡ Some d
  at = found-there s n o d has.there read found

  here : kind_at s n ≡ Some k
  here = kind-here rules_by s n has.is_open below k kind

  pub whole-read : IsWhole (rules_by k) d (cells_in s.best)
  whole-read = whole-here rules_by s n has.is_open below k kind d at

  module _ (b : Best I V) (d' : Dict) (leaves : LeavesRest meaning (rules_by k) s.best d b d') where
    pub call-kept : Call meaning rules_by s (with_dict s n b d') n d d' k k
    call-kept = record {
      is = has.is_open;
      at = at;
      kind = here;
      dicts = refl;
      kinds = sym (set-itself (kinds_of s) n k here);
      rules = refl;
      leaves = leaves;
    }

    pub call-changed : (k' : D) → rules_by k' ≡ rules_by k → Call meaning rules_by s (with_both s n b d' k') n d d' k k'
    call-changed k' rules = record {
      is = has.is_open;
      at = at;
      kind = here;
      dicts = refl;
      kinds = refl;
      rules = rules;
      leaves = leaves;
    }

-- what the dictionary that is read shows, and its current object
module _ {D : Type 0} {I : Type 0} {V : I → Type 0} (meaning : (x : I) × V x → Discipline) (rules_by : D → Rules) (s : Store D I V) (n : ℕ) (has : HasOpenDict meaning rules_by s n)
    (o : Option Dict) (d : Dict) (read : o ≡ get_or (dicts_of s) n o) (found : o ≡ Some d) where
  abbrev cells : Blocks
  cells = cells_in s.best

  whole-at : IsWhole (rules_at rules_by s n) d cells
  whole-at = has.is_open.whole n d (found-there s n o d has.there read found)

  shown-at : contents s n ≡ contents_in d s.best
  shown-at = ap (λ p. contents_or (option_map (λ e. contents_in e s.best) p)) (found-there s n o d has.there read found)

  pub current-none : (d.current.0 == 0) ≡ true → None ≡ current (contents s n)
  current-none none =
      sym (ap (λ t. object_at_index (current_place (if t then None else Some d.current.0) (dictionary_of d cells).objects) (bytes_of (dictionary_of d cells).objects)) none)
      ∙ sym (ap current shown-at)

  module _ (some : (d.current.0 == 0) ≡ false) where
    within : contains (holders_of d cells) d.current.0 ≡ true
    within = within-rest d.current.0 (holders_of d cells) some whole-at.current

    pub current-block : HasBytes cells d.current.0 32
    current-block = current-there (rules_at rules_by s n) d cells whole-at within

    pub current-some : Some (dtdisc.object_at cells d.current.0) ≡ current (contents s n)
    current-some =
        sym (pointed-shown (rules_at rules_by s n) d cells d.current whole-at within) ∙ sym (ap current shown-at)

-- what is told of it by its heads
module _ {D : Type 0} {I : Type 0} {V : I → Type 0} (s : Store D I V) (n : ℕ) (d : Dict) (at : dict_at s n ≡ Some d) where
  abbrev show : Option Dict → Contents
  show o = contents_or (option_map (λ e. contents_in e s.best) o)

  pub method-here : d.method ≡ (contents s n).method
  method-here = ap (λ o. (show o).method) (sym at)

  pub count-here : (rules : Rules) → IsWhole rules d (cells_in s.best) → d.count ≡ length (contents s n).objects
  count-here rules whole =
      sym (counts-objects rules d (cells_in s.best) whole)
      ∙ (sym (length-map (dictionary_of d (cells_in s.best)).objects objects.bytes_of) ∙ ap (λ o. length (show o).objects) (sym at))

-- a call that makes another object current
module _ {D : Type 0} {I : Type 0} {V : I → Type 0} (meaning : (x : I) × V x → Discipline) (rules_by : D → Rules) (s : Store D I V) (n : ℕ) (has : HasOpenDict meaning rules_by s n)
    (o : Option Dict) (d : Dict) (read : o ≡ get_or (dicts_of s) n o) (found : o ≡ Some d) where
  at-read : dict_at s n ≡ Some d
  at-read = found-there s n o d has.there read found

  pub whole-by : IsWholeBySome d (cells_in s.best)
  whole-by = record { rules = rules_at rules_by s n; whole = has.is_open.whole n d at-read }

  module _ (place : Contents → Option ℕ) (answer : Bool) (d' : Dict) (m : Moves (place (contents_in d s.best)) answer s.best d d') where
    its_kind : (k : D) × (kind_at s n ≡ Some k)
    its_kind = at-below (kinds_of s) n (subst (λ c. n < c) (sym has.is_open.kinds) (below-there (dicts_of s) n has.there))

    by-kind : rules_at rules_by s n ≡ rules_by its_kind.0
    by-kind = ap (λ k. rules_or (option_map rules_by k)) its_kind.1

    leaves : LeavesRest meaning (rules_by its_kind.0) s.best d s.best d'
    leaves = record {
      whole = subst (λ r. IsWhole r d' (cells_in s.best)) by-kind (m.whole (rules_at rules_by s n) (has.is_open.whole n d at-read));
      kind = m.kind;
      rest =
          leaves-still meaning s.best s.best (own_blocks (dictionary_in d s.best)) (own_blocks (dictionary_in d' s.best)) (keeps-same (disc_of s meaning) (disc_of s meaning) (lent_to s) (lent_to s) refl refl) refl refl m.own;
    }

    call-moved : Call meaning rules_by s (with_dict s n s.best d') n d d' its_kind.0 its_kind.0
    call-moved = record {
      is = has.is_open;
      at = at-read;
      kind = its_kind.1;
      dicts = refl;
      kinds = sym (set-itself (kinds_of s) n its_kind.0 its_kind.1);
      rules = refl;
      leaves = leaves;
    }

    -- told by what is shown at its number
    pub goes-there : GoesTo (place (contents s n)) answer (contents s n) (contents (with_dict s n s.best d') n)
    goes-there = moved call-moved (λ r x y. GoesTo (place x) answer x y) m.goes

    pub changes-moved : ChangesObjects meaning rules_by n s (with_dict s n s.best d')
    changes-moved = changes-objects call-moved refl (ap (λ (x : Contents). x.method) m.goes.moved)
