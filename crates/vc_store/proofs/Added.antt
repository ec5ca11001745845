-- What a dictionary that comes behind the others leaves of a store, and one that is refused.
use Rattle.vc_base.proofs.Common.{◌≡◌, ◌≢◌, ◌+◌, ℕ, false, [], ◌∷◌, ◌++◌, Some, None, option_map, is_some, length, length-append, slice_get, refl, sym, ap, ◌∙◌, subst, arith, same_Some, if◌then◌else◌, Blocks, Discipline, has_table}
use Rattle.vc_base.specs.declared.dict_method.DictMethod.{DictMethod}
use Rattle.vc_dtdisc.specs.Rules.{Rules}
use Rattle.vc_dict.specs.declared.dict.Dict.{Dict}
use Rattle.vc_best.specs.Cells.{cells_in, rest_in}
use Rattle.vc_best.specs.Parts.{disc_in, segments_in}
use Rattle.vc_objects.specs.Insert.{empty_dictionary}
use Rattle.vc_objects.specs.Leaves.{KeepsDisc}
use Rattle.vc_objects.specs.Objects.{own_blocks}
use Rattle.vc_objects.specs.Parts.{IsWhole, dictionary_in, dictionary_of}
use Rattle.vc_objects.specs.Promises.{Opens}
use Rattle.vc_objects.proofs.Leaving.{keeps-out}
use Rattle.vc_store.specs.Contents.{contents_in, contents_of}
use Rattle.vc_store.specs.Reading.{no_objects}
use Rattle.vc_store.proofs.Shown.{grown-same}
use Rattle.vc_algebra.specs.InRegion.{ShareNoBlock, rules_or}
use Rattle.vc_store.specs.Stores.Stores.{AllStay, HasDict, IsOpen, OthersStay, StaysOpen, contents_or, dict_at, dicts_of, disc_of, joined, kind_at, kinds_of, lent_to, numbers_of, rules_at, shown}
use Rattle.vc_store.specs.declared.stores.store.Store.{Store}
use Rattle.vc_store.proofs.Changed.{Changes, others-stay, rules-same, still-open}
use Rattle.vc_store.proofs.Here.{below-there}
use Rattle.vc_store.proofs.Numbers.{last-here, last-other}

-- neither a dictionary nor a kind nor a cell changes
module _ {D : Type 0} {I : Type 0} {V : I → Type 0} (meaning : (x : I) × V x → Discipline) (rules_by : D → Rules) (s s' : Store D I V) (is : IsOpen rules_by s (disc_of s meaning)) (dicts : dicts_of s' ≡ dicts_of s) (kinds : kinds_of s' ≡ kinds_of s)
    (cells : cells_in s'.best ≡ cells_in s.best) (lends : KeepsDisc (disc_of s meaning) (disc_of s' meaning) (lent_to s) (lent_to s')) where
  same-dict : (n : ℕ) → dict_at s' n ≡ dict_at s n
  same-dict n = ap (λ ds. joined (slice_get ds n)) dicts

  same-rules : (n : ℕ) → rules_at rules_by s' n ≡ rules_at rules_by s n
  same-rules n = ap (λ ks. rules_or (option_map rules_by (slice_get ks n))) kinds

  same-shown : (n : ℕ) → shown s' n ≡ shown s n
  same-shown n =
      ap (option_map (λ d. contents_in d s'.best)) (same-dict n)
      ∙ ap (λ (b : Blocks). option_map (λ d. contents_of (dictionary_of d b)) (dict_at s n)) cells

  pub all-still : AllStay s s'
  all-still = record { shown = same-shown; kinds = kinds; numbers = ap length dicts }

  pub stays-still : StaysOpen meaning rules_by s s'
  stays-still = record {
    is_open = record {
      kinds = ap length kinds ∙ (is.kinds ∙ sym (ap length dicts));
      whole = λ n d at.
          subst (λ r. IsWhole r d (cells_in s'.best)) (sym (same-rules n))
          (subst (λ b. IsWhole (rules_at rules_by s n) d b) (sym cells) (is.whole n d (sym (same-dict n) ∙ at)));
      apart = λ m n d e ne at at'.
          subst (λ b. ShareNoBlock b d e) (sym cells) (is.apart m n d e ne (sym (same-dict m) ∙ at) (sym (same-dict n) ∙ at'));
      lent = keeps-out (disc_of s meaning) (disc_of s' meaning) (lent_to s) (lent_to s') lends is.lent;
    };
    there = λ n h. ap is_some (same-dict n) ∙ h;
    rules = λ n _. same-rules n;
    methods = λ n _. ap (λ o. (contents_or o).method) (same-shown n);
    lends = lends;
  }

-- one comes behind the others
module _ {D : Type 0} {I : Type 0} {V : I → Type 0} (meaning : (x : I) × V x → Discipline) (rules_by : D → Rules) (s s' : Store D I V) (d : Dict) (k : D) (method : DictMethod) (is : IsOpen rules_by s (disc_of s meaning))
    (dicts : dicts_of s' ≡ dicts_of s ++ Some d ∷ []) (kinds : kinds_of s' ≡ kinds_of s ++ k ∷ []) (opens : Opens meaning (rules_by k) method 0 s.best d s'.best) where
  abbrev n : ℕ
  n = numbers_of s

  there-last : dict_at s' n ≡ Some d
  there-last = ap (λ ds. joined (slice_get ds n)) dicts ∙ ap joined (last-here (dicts_of s) (Some d))

  pub kind-last : kind_at s' n ≡ Some k
  kind-last =
      ap (λ ks. slice_get ks n) kinds
      ∙ subst (λ i. slice_get (kinds_of s ++ k ∷ []) i ≡ Some k) is.kinds (last-here (kinds_of s) k)

  rules-last : rules_at rules_by s' n ≡ rules_by k
  rules-last = ap (λ o. rules_or (option_map rules_by o)) kind-last

  pub number-more : numbers_of s' ≡ numbers_of s + 1
  number-more = ap length dicts ∙ length-append (dicts_of s) (Some d ∷ [])

  it-is : (e : Dict) → dict_at s' n ≡ Some e → d ≡ e
  it-is e here = same_Some d e (sym there-last ∙ here)

  count-more : length (kinds_of s') ≡ numbers_of s'
  count-more =
      let more = ap length kinds ∙ length-append (kinds_of s) (k ∷ []) in
      more ∙ (ap (λ i. i + 1) is.kinds ∙ sym number-more)

  added : Changes rules_by s s' n
  added = record {
    mine = [];
    mine' = own_blocks (dictionary_in d s'.best);
    others = opens.leaves.others;
    fresh = opens.leaves.fresh;
    clear = λ m e ne was a w. refl;
    same = λ m ne. ap (λ ds. joined (slice_get ds m)) dicts ∙ ap joined (last-other (dicts_of s) (Some d) m ne);
    kinds = λ m ne. ap (λ ks. slice_get ks m) kinds ∙ last-other (kinds_of s) k m (λ e. ne (e ∙ is.kinds));
    whole = λ e here. subst (λ x. IsWhole (rules_at rules_by s' n) x (cells_in s'.best)) (it-is e here) (subst (λ r. IsWhole r d (cells_in s'.best)) (sym rules-last) opens.whole);
    own = λ e here. ap (λ x. own_blocks (dictionary_of x (cells_in s'.best))) (sym (it-is e here));
    count = count-more;
  }

  pub others-added : OthersStay s s' n
  others-added = others-stay rules_by s s' n added is

  -- a number that has a dictionary is another one
  other : (m : ℕ) → HasDict s m → m ≢ n
  other m h e = let below = below-there (dicts_of s) m h in absurd (omega (arith, below, e))

  pub stays-added : StaysOpen meaning rules_by s s'
  stays-added = record {
    is_open =
        still-open rules_by s s' n added is (disc_of s' meaning) (keeps-out (disc_in meaning s.best) (disc_in meaning s'.best) (segments_in s.best) (segments_in s'.best) opens.leaves.disc is.lent);
    there = λ m h. ap is_some (added.same m (other m h)) ∙ h;
    rules = λ m h. rules-same rules_by s s' n added is m (other m h);
    methods = λ m h. ap (λ o. (contents_or o).method) (others-added.shown m (other m h));
    lends = opens.leaves.disc;
  }

  pub empty-added : shown s' n ≡ Some (no_objects method)
  empty-added =
      ap (option_map (λ e. contents_in e s'.best)) there-last
      ∙ ap (λ x. Some (contents_of x))
      (grown-same (disc_in meaning s.best).terms (rest_in s.best) (empty_dictionary method) false (if has_table method then Some 16 else None) (rest_in s'.best) (dictionary_in d s'.best) opens.grown)
