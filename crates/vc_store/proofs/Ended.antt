-- What a dictionary that is shut leaves of a store, and all of them, one after another.
use Rattle.vc_base.proofs.Common.{◌≡◌, ◌≢◌, ◌+◌, ◌<◌, ◌≤◌, ℕ, [], Some, None, option_map, length, set, slice_get, refl, sym, ap, ◌∙◌, subst, inl, inr, arith, eqb_tells, none-some, cases_lt, ⊎_elim, Discipline, TookBack}
use Rattle.std.proofs.lemmas.Option.{slice_get_past}
use Rattle.vc_base.proofs.Lists.{slice_get-set}
use Rattle.vc_dtdisc.specs.Rules.{Gone, Rules}
use Rattle.vc_dict.specs.declared.dict.Dict.{Dict}
use Rattle.vc_best.specs.Cells.{cells_in}
use Rattle.vc_best.specs.Parts.{disc_in, segments_in}
use Rattle.vc_objects.specs.Leaves.{KeepsDisc, Leaves, told_each}
use Rattle.vc_objects.specs.Objects.{own_blocks}
use Rattle.vc_objects.specs.Parts.{dictionary_in}
use Rattle.vc_objects.specs.Remove.{bytes_of}
use Rattle.vc_objects.proofs.Leaving.{keeps-out, keeps-same, keeps-trans}
use Rattle.vc_store.specs.Contents.{contents_in}
use Rattle.vc_store.proofs.Shown.{took-behind}
use Rattle.vc_algebra.specs.InRegion.{rules_or}
use Rattle.vc_store.specs.Stores.Stores.{AreTold, Ends, IsOpen, contents, contents_or, dict_at, dicts_of, disc_of, gone_at, gone_or, joined, kind_at, kinds_of, lent_to, numbers_of, rules_at, shown}
use Rattle.vc_store.specs.declared.stores.store.Store.{Store}
use Rattle.vc_store.proofs.Added.{all-still, stays-still}
use Rattle.vc_store.proofs.Changed.{Changes, others-stay, still-open}
use Rattle.vc_store.proofs.Numbers.{joined-there, length-put, set-itself, set-other}

-- one that is there goes
module _ {D : Type 0} {I : Type 0} {V : I → Type 0} (meaning : (x : I) × V x → Discipline) (rules_by : D → Rules) (gone_by : D → Gone) (s s' : Store D I V) (n : ℕ) (d : Dict) (k k' : D)
    (is : IsOpen rules_by s (disc_of s meaning)) (at : dict_at s n ≡ Some d) (kind : kind_at s n ≡ Some k) (dicts : dicts_of s' ≡ set (dicts_of s) n None) (kinds : kinds_of s' ≡ set (kinds_of s) n k') (rules : rules_by k' ≡ rules_by k)
    (leaves : Leaves meaning s.best s'.best (own_blocks (dictionary_in d s.best)) []) (disc : disc_of s' meaning ≡ disc_of s meaning) (told : gone_by k' ≡ told_each (bytes_of (dictionary_in d s.best).objects) (gone_by k)) where
  none-now : dict_at s' n ≡ None
  none-now =
      ap (λ xs. joined (slice_get xs n)) dicts
      ∙ ap joined (slice_get-set (dicts_of s) n (Some d) None (joined-there (slice_get (dicts_of s) n) d at))

  kind-now : kind_at s' n ≡ Some k'
  kind-now = ap (λ xs. slice_get xs n) kinds ∙ slice_get-set (kinds_of s) n k k' kind

  numbers-same : numbers_of s' ≡ numbers_of s
  numbers-same = ap length dicts ∙ length-put (dicts_of s) n None

  ending : Changes rules_by s s' n
  ending = record {
    mine = own_blocks (dictionary_in d s.best);
    mine' = [];
    others = leaves.others;
    fresh = leaves.fresh;
    clear = λ m e ne was. is.apart m n e d ne was at;
    same = λ m ne. ap (λ xs. joined (slice_get xs m)) dicts ∙ ap joined (set-other (dicts_of s) n m None ne);
    kinds = λ m ne. ap (λ xs. slice_get xs m) kinds ∙ set-other (kinds_of s) n m k' ne;
    whole = λ e here. absurd (none-some e (sym none-now ∙ here));
    own = λ e here. absurd (none-some e (sym none-now ∙ here));
    count = ap length kinds ∙ (length-put (kinds_of s) n k' ∙ (is.kinds ∙ sym numbers-same));
  }

  objects-before : bytes_of (dictionary_in d s.best).objects ≡ (contents s n).objects
  objects-before = ap (λ o. (contents_or (option_map (λ e. contents_in e s.best) o)).objects) (sym at)

  pub ended : Ends meaning rules_by gone_by n s s'
  ended = record {
    is_open =
        still-open rules_by s s' n ending is (disc_of s' meaning) (keeps-out (disc_in meaning s.best) (disc_in meaning s'.best) (segments_in s.best) (segments_in s'.best) leaves.disc is.lent);
    none = none-now;
    told =
        ap (λ o. gone_or (option_map gone_by o)) kind-now
        ∙ (told
        ∙ (ap (λ objects. told_each objects (gone_by k)) objects-before
        ∙ ap (λ o. told_each (contents s n).objects (gone_or (option_map gone_by o))) (sym kind)));
    rules =
        ap (λ o. rules_or (option_map rules_by o)) kind-now
        ∙ (rules ∙ ap (λ o. rules_or (option_map rules_by o)) (sym kind));
    others = others-stay rules_by s s' n ending is;
    numbers = numbers-same;
    disc = disc;
    lends = leaves.disc;
  }

-- there was none
module _ {D : Type 0} {I : Type 0} {V : I → Type 0} (meaning : (x : I) × V x → Discipline) (rules_by : D → Rules) (gone_by : D → Gone) (s s' : Store D I V) (n : ℕ) (is : IsOpen rules_by s (disc_of s meaning)) (none : slice_get (dicts_of s) n ≡ Some None)
    (dicts : dicts_of s' ≡ set (dicts_of s) n None) (kinds : kinds_of s' ≡ kinds_of s) (best : s'.best ≡ s.best) where
  same-dicts : dicts_of s' ≡ dicts_of s
  same-dicts = dicts ∙ set-itself (dicts_of s) n None none

  lends-same : KeepsDisc (disc_of s meaning) (disc_of s' meaning) (lent_to s) (lent_to s')
  lends-same =
      keeps-same (disc_of s meaning) (disc_of s' meaning) (lent_to s) (lent_to s') (ap (disc_in meaning) best) (ap segments_in best)

  none-before : dict_at s n ≡ None
  none-before = ap joined none

  pub ended-none : Ends meaning rules_by gone_by n s s'
  ended-none =
      let all = all-still meaning rules_by s s' is same-dicts kinds (ap cells_in best) lends-same in
      let stays = stays-still meaning rules_by s s' is same-dicts kinds (ap cells_in best) lends-same in
      record {
        is_open = stays.is_open;
        none = ap (λ xs. joined (slice_get xs n)) same-dicts ∙ none-before;
        told =
            ap (λ ks. gone_or (option_map gone_by (slice_get ks n))) kinds
            ∙ ap (λ o. told_each (contents_or (option_map (λ e. contents_in e s.best) o)).objects (gone_at gone_by s n)) (sym none-before);
        rules = ap (λ ks. rules_or (option_map rules_by (slice_get ks n))) kinds;
        others = record {
          shown = λ m _. all.shown m;
          kinds = λ m _. ap (λ ks. slice_get ks m) kinds;
        };
        numbers = all.numbers;
        disc = ap (disc_in meaning) best;
        lends = lends-same;
      }

-- all below a number were ended, and the others stay
pub record EndsBelow {D : Type 0} {I : Type 0} {V : I → Type 0} (meaning : (x : I) × V x → Discipline) (rules_by : D → Rules) (gone_by : D → Gone) (i : ℕ) (old new : Store D I V) : Type 0 where
  pub is_open : IsOpen rules_by new (disc_of new meaning)
  pub numbers : numbers_of new ≡ numbers_of old
  pub told : (m : ℕ) → m < i → gone_at gone_by new m ≡ told_each (contents old m).objects (gone_at gone_by old m)
  pub shown : (m : ℕ) → i ≤ m → shown new m ≡ shown old m
  pub gone : (m : ℕ) → i ≤ m → gone_at gone_by new m ≡ gone_at gone_by old m
  pub rules : (m : ℕ) → rules_at rules_by new m ≡ rules_at rules_by old m
  pub disc : disc_of new meaning ≡ disc_of old meaning
  pub lends : KeepsDisc (disc_of old meaning) (disc_of new meaning) (lent_to old) (lent_to new)

module _ {D : Type 0} {I : Type 0} {V : I → Type 0} (meaning : (x : I) × V x → Discipline) (rules_by : D → Rules) (gone_by : D → Gone) where
  pub below-start : (s : Store D I V) → IsOpen rules_by s (disc_of s meaning) → EndsBelow meaning rules_by gone_by 0 s s
  below-start s is = record {
    is_open = is;
    numbers = refl;
    told = λ m less. absurd (omega (arith, less));
    shown = λ m _. refl;
    gone = λ m _. refl;
    rules = λ m. refl;
    disc = refl;
    lends = keeps-same (disc_of s meaning) (disc_of s meaning) (lent_to s) (lent_to s) refl refl;
  }

  module _ (s0 s s' : Store D I V) (i : ℕ) (b : EndsBelow meaning rules_by gone_by i s0 s) (e : Ends meaning rules_by gone_by i s s') where
    told-next : (m : ℕ) → m < i + 1 → gone_at gone_by s' m ≡ told_each (contents s0 m).objects (gone_at gone_by s0 m)
    told-next m less = elim (eqb_tells m i) as (λ _. gone_at gone_by s' m ≡ told_each (contents s0 m).objects (gone_at gone_by s0 m)) [
      | inl same ↦
          subst (λ j. gone_at gone_by s' j ≡ told_each (contents s0 j).objects (gone_at gone_by s0 j)) (sym same.1)
          (e.told
          ∙ (ap (λ o. told_each (contents_or o).objects (gone_at gone_by s i)) (b.shown i (omega arith))
          ∙ ap (told_each (contents s0 i).objects) (b.gone i (omega arith))))
      | inr apart ↦
          let ne = apart.1 in
          ap (λ o. gone_or (option_map gone_by o)) (e.others.kinds m ne) ∙ b.told m (omega (arith, less, ne))
    ]

    rules-next : (m : ℕ) → rules_at rules_by s' m ≡ rules_at rules_by s0 m
    rules-next m = elim (eqb_tells m i) as (λ _. rules_at rules_by s' m ≡ rules_at rules_by s0 m) [
      | inl same ↦ subst (λ j. rules_at rules_by s' j ≡ rules_at rules_by s0 j) (sym same.1) (e.rules ∙ b.rules i)
      | inr apart ↦ ap (λ o. rules_or (option_map rules_by o)) (e.others.kinds m apart.1) ∙ b.rules m
    ]

    behind : (m : ℕ) → i + 1 ≤ m → m ≢ i
    behind m more same = absurd (omega (arith, more, same))

    pub below-next : EndsBelow meaning rules_by gone_by (i + 1) s0 s'
    below-next = record {
      is_open = e.is_open;
      numbers = e.numbers ∙ b.numbers;
      told = told-next;
      shown = λ m more. e.others.shown m (behind m more) ∙ b.shown m (omega (arith, more));
      gone = λ m more.
          ap (λ o. gone_or (option_map gone_by o)) (e.others.kinds m (behind m more)) ∙ b.gone m (omega (arith, more));
      rules = rules-next;
      disc = e.disc ∙ b.disc;
      lends =
          keeps-trans (disc_of s0 meaning) (disc_of s meaning) (disc_of s' meaning) (lent_to s0) (lent_to s) (lent_to s') b.lends e.lends;
    }

  module _ (s0 s : Store D I V) (i : ℕ) (all : numbers_of s0 ≤ i) (is : IsOpen rules_by s0 (disc_of s0 meaning)) (b : EndsBelow meaning rules_by gone_by i s0 s) where
    -- behind the last there is nothing to tell
    told-past : (m : ℕ) → i ≤ m → gone_at gone_by s m ≡ told_each (contents s0 m).objects (gone_at gone_by s0 m)
    told-past m more =
        let past : slice_get (dicts_of s0) m ≡ None = slice_get_past (dicts_of s0) m (omega (arith, all, more)) in
        b.gone m more
        ∙ ap (λ o. told_each (contents_or (option_map (λ e. contents_in e s0.best) (joined o))).objects (gone_at gone_by s0 m)) (sym past)

    pub all-told : AreTold rules_by gone_by s0 (kinds_of s)
    all-told = record {
      count = b.is_open.kinds ∙ (b.numbers ∙ sym is.kinds);
      rules = b.rules;
      told = λ m. ⊎_elim (λ less. b.told m less) (λ more. told-past m more) (cases_lt m i);
    }

    pub took-all : (new : Discipline) → TookBack (disc_of s meaning) new (lent_to s) [] → TookBack (disc_of s0 meaning) new (lent_to s0) []
    took-all new took =
        took-behind (disc_of s0 meaning) (disc_of s meaning) new (lent_to s0) (lent_to s) b.disc b.lends took
