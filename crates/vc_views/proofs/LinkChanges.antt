-- Links stay between dictionaries where a link ends, where one is set, and where a dictionary is opened, ends or changes.
use Rattle.vc_base.proofs.Common.{◌≡◌, ℕ, zero, suc, ◌<◌, true, false, ◌||◌, ◌≢◌, List, [], ◌∷◌, ◌++◌, map, length, ◌==◌, slice_get, slice_set, Some, None, Option, option_map, remove, find, option_and_then, sym, refl, ap, ◌∙◌, subst, ap₂, inl, inr, ⊎_elim, true≢false, arith, Decides-eqb, eqb_tells, cases_Bool, or_parts, none-some, same_Some, map-map, AllByRecursion, list_any, AreDistinct, contains}
use Rattle.vc_base.specs.declared.dict_method.DictMethod.{DictMethod}
use Rattle.vc_base.proofs.Lists.{find-map}
use Rattle.vc_base.proofs.Quantifiers.{any-map, all-push, all-map, all-unmap}
use Rattle.vc_base.proofs.Options.{option_map-Some}
use Rattle.vc_dict.specs.declared.dict.Dict.{Dict}
use Rattle.vc_objects.specs.Objects.{Dictionary}
use Rattle.vc_paths.specs.Links.{Links, below, is_viewed, links_with, numbers}
use Rattle.vc_paths.proofs.NewLinkLemmas.{below-linked, below-other}
use Rattle.vc_views.specs.Dicts.{HaveViewNumbers, entry_numbered, number_in}
use Rattle.vc_views.specs.Numbers.{AreLinked, IsViewLink, home_by, name_numbered, views_by}
use Rattle.vc_views.proofs.LinkLemmas.{others-same, viewed-by, viewer, views-none}
use Rattle.vc_views.proofs.LinkLists.{all-remove, any-remove, found-push, found-remove, found-set, map-set_same, none-found}
use Rattle.vc_views.proofs.NamedEntries.{Entry, other-number}

-- what tells links, a number, a method and a kind, and what tells views by name, a name and a number
abbrev pub link_part : Entry → ℕ × DictMethod × ℕ
link_part e = (number_in e, e.1.dict.method, e.1.dict.kind)

abbrev pub view_part : Entry → List ℕ × ℕ
view_part e = (e.0, number_in e)

-- a number that views nothing and isn't viewed is at no end of a link
not-equal : (n m : ℕ) → n ≢ m → (n == m) ≡ false
not-equal n m apart = elim (eqb_tells n m) as (λ _. (n == m) ≡ false) [
  | inl same ↦ absurd (apart same.1)
  | inr differ ↦ differ.0
]

upper-other : (links : Links) (d n m : ℕ) → below links d ≡ None → below links n ≡ Some m → d ≢ n
upper-other links d n m none b is = none-some m (sym none ∙ (ap (below links) is ∙ b))

lower-other : (links : Links) (d n m : ℕ) → is_viewed links d ≡ false → below links n ≡ Some m → d ≢ m
lower-other links d n m none b is = true≢false (sym (viewed-by links n m b) ∙ (ap (is_viewed links) (sym is) ∙ none))

-- numbers of dictionaries stay theirs where dictionaries keep them
numbered-alike : (es fs : List Entry) → map number_in fs ≡ map number_in es → HaveViewNumbers es → HaveViewNumbers fs
numbered-alike es fs same numbered = record {
  distinct = subst AreDistinct (sym same) numbered.distinct;
  below = all-unmap (λ n. n < numbers) number_in fs
      (subst (AllByRecursion (λ n. n < numbers)) (sym same) (all-map (λ n. n < numbers) number_in es numbered.below));
}

-- where a dictionary is opened by a number that none has
contains-push : (es : List Entry) (new : Entry) (n : ℕ) → contains (map number_in es) n ≡ false → (number_in new == n) ≡ false → contains (map number_in (es ++ new ∷ [])) n ≡ false
contains-push [] new n none other = rw other refl
contains-push (f ∷ fs) new n none other =
    let parts = or_parts (number_in f == n) (contains (map number_in fs) n) none in
    rw parts.0 (contains-push fs new n parts.1 other)

distinct-push : (es : List Entry) (new : Entry) → AreDistinct (map number_in es) → list_any (λ e. number_in e == number_in new) es ≡ false → AreDistinct (map number_in (es ++ new ∷ []))
distinct-push [] new distinct none = (refl, tt)
distinct-push (f ∷ fs) new distinct none =
    let parts = or_parts (number_in f == number_in new) (list_any (λ e. number_in e == number_in new) fs) none in
    let apart : number_in new ≢ number_in f = λ is. true≢false (sym ((Decides-eqb (number_in f) (number_in new)).1 (sym is)) ∙ parts.0) in
    (contains-push fs new (number_in f) distinct.0 (not-equal (number_in new) (number_in f) apart), distinct-push fs new distinct.1 parts.1)

numbered-push : (es : List Entry) (new : Entry) → HaveViewNumbers es → entry_numbered (number_in new) es ≡ None → number_in new < numbers → HaveViewNumbers (es ++ new ∷ [])
numbered-push es new numbered free within = record {
  distinct = distinct-push es new numbered.distinct (none-found (λ e. number_in e == number_in new) es free);
  below = all-push (λ e. number_in e < numbers) es new numbered.below within;
}

-- where one ends
contains-remove : (es : List Entry) (i n : ℕ) → contains (map number_in es) n ≡ false → contains (map number_in (remove es i)) n ≡ false
contains-remove es i n none =
    any-map number_in (λ x. x == n) (remove es i)
    ∙ any-remove (λ e. number_in e == n) es i (sym (any-map number_in (λ x. x == n) es) ∙ none)

distinct-remove : (es : List Entry) (i : ℕ) → AreDistinct (map number_in es) → AreDistinct (map number_in (remove es i))
distinct-remove [] zero distinct = tt
distinct-remove [] (suc i) distinct = tt
distinct-remove (f ∷ fs) zero distinct = distinct.1
distinct-remove (f ∷ fs) (suc i) distinct = (contains-remove fs i (number_in f) distinct.0, distinct-remove fs i distinct.1)

numbered-remove : (es : List Entry) (i : ℕ) → HaveViewNumbers es → HaveViewNumbers (remove es i)
numbered-remove es i numbered = record {
  distinct = distinct-remove es i numbered.distinct;
  below = all-remove (λ e. number_in e < numbers) es i numbered.below;
}

-- dictionaries of which these are the same
module _ (links : Links) (es fs : List Entry) (same : map link_part fs ≡ map link_part es) where
  numbers-same : map number_in fs ≡ map number_in es
  numbers-same = sym (map-map (λ p. p.0) link_part fs) ∙ ap (map (λ p. p.0)) same ∙ map-map (λ p. p.0) link_part es

  found-same : (n : ℕ) (e : Entry) → entry_numbered n es ≡ Some e → (f : Entry) × (entry_numbered n fs ≡ Some f) × (link_part f ≡ link_part e)
  found-same n e found =
      option_map-Some link_part (entry_numbered n fs) (link_part e)
      (sym (find-map link_part (λ p. p.0 == n) fs) ∙ ap (find (λ p. p.0 == n)) same ∙ find-map link_part (λ p. p.0 == n) es ∙ ap (option_map link_part) found)

  -- links stay between them
  pub linked-kept : AreLinked links es → AreLinked links fs
  linked-kept are = record {
    numbered = numbered-alike es fs numbers-same are.numbered;
    linked = λ n m b.
        let link = are.linked n m b in
        let upper = found-same n link.upper link.upper_is in
        let lower = found-same m link.lower link.lower_is in
        record {
          upper = upper.0;
          lower = lower.0;
          upper_is = upper.1;
          lower_is = lower.1;
          method = ap (λ p. p.1) lower.2 ∙ link.method ∙ sym (ap (λ p. p.1) upper.2);
          kind = ap (λ p. p.2) lower.2 ∙ link.kind ∙ sym (ap (λ p. p.2) upper.2);
        };
  }

name-part : (o : Option Entry) → option_map (λ (e : Entry). e.0) o ≡ option_map (λ p. p.0) (option_map view_part o)
name-part None = refl
name-part (Some e) = refl

name-found : (es : List Entry) (n : ℕ) → name_numbered es n ≡ option_map (λ p. p.0) (find (λ p. p.1 == n) (map view_part es))
name-found es n = name-part (entry_numbered n es) ∙ ap (option_map (λ p. p.0)) (sym (find-map view_part (λ p. p.1 == n) es))

-- and numbers view what they did
pub views-kept : (links : Links) (es fs : List Entry) → map view_part fs ≡ map view_part es → views_by links fs ≡ views_by links es
views-kept links es fs same = λ i n.
    option_and_then
    (λ m. (name-found fs m ∙ ap (λ ps. option_map (λ p. p.0) (find (λ p. p.1 == m) ps)) same ∙ sym (name-found es m)) i)
    (below links n)

-- a dictionary with other heads, of one method and kind with the old ones where links are to stay
module _ (links : Links) (es : List Entry) (i : ℕ) (e : Entry) (at : slice_get es i ≡ Some e) (new : Dict) where
  abbrev pub changed : List Entry
  changed = slice_set es i (e.0, record e.1 { dict = new })

  pub linked-changed : new.method ≡ e.1.dict.method → new.kind ≡ e.1.dict.kind → AreLinked links es → AreLinked links changed
  linked-changed method kind =
      linked-kept links es changed
      (map-set_same link_part es i e (e.0, record e.1 { dict = new }) at (ap₂ (λ (m : DictMethod) (k : ℕ). (number_in e, m, k)) method kind))

  pub views-changed : views_by links changed ≡ views_by links es
  views-changed = views-kept links es changed (map-set_same view_part es i e (e.0, record e.1 { dict = new }) at refl)

-- a link of one number ends
pub linked-ended : (links : Links) (es : List Entry) (d : ℕ) → d < length links → AreLinked links es → AreLinked (links_with d None links) es
linked-ended links es d within are = record {
  numbered = are.numbered;
  linked = λ n m b. elim (eqb_tells n d) as (λ _. IsViewLink es n m) [
    | inl same ↦ absurd (none-some m (sym (ap (below (links_with d None links)) same.1 ∙ below-linked links d None within) ∙ b))
    | inr apart ↦ are.linked n m (sym (below-other links d n None apart.1) ∙ b)
  ];
}

-- without links nothing is viewed
pub unviewed-all : (links : Links) → ((n : ℕ) → below links n ≡ None) → (n : ℕ) → is_viewed links n ≡ false
unviewed-all links none n =
    ⊎_elim
    (λ is.
    let v = viewer links n is in
    absurd (none-some n (sym (none v.0) ∙ v.1)))
    (λ is. is)
    (cases_Bool (is_viewed links n))

-- where links end one number after another, those that ended stay none
pub ended-more : (links : Links) (k : ℕ) → k < length links → ((n : ℕ) → n < k → below links n ≡ None) → (n : ℕ) → n < suc k → below (links_with k None links) n ≡ None
ended-more links k within none n before = elim (eqb_tells n k) as (λ _. below (links_with k None links) n ≡ None) [
  | inl same ↦ ap (below (links_with k None links)) same.1 ∙ below-linked links k None within
  | inr apart ↦
      let ne = apart.1 in
      below-other links k n None ne ∙ none n (omega (arith, ne, before))
]

-- it is set to another one of the same method and kind
pub linked-set : (links : Links) (es : List Entry) (d e : ℕ) → d < length links → IsViewLink es d e → AreLinked links es → AreLinked (links_with d (Some e) links) es
linked-set links es d e within is are = record {
  numbered = are.numbered;
  linked = λ n m b. elim (eqb_tells n d) as (λ _. IsViewLink es n m) [
    | inl same ↦
        let both : Some e ≡ Some m = sym (ap (below (links_with d (Some e) links)) same.1 ∙ below-linked links d (Some e) within) ∙ b in
        subst (λ z. IsViewLink es z m) (sym same.1) (subst (IsViewLink es d) (same_Some e m both) is)
    | inr apart ↦ are.linked n m (sym (below-other links d n (Some e) apart.1) ∙ b)
  ];
}

-- a number that no dictionary has views none
free-views : (links : Links) (es : List Entry) (n : ℕ) → AreLinked links es → entry_numbered n es ≡ None → (o : Option ℕ) → below links n ≡ o → o ≡ None
free-views links es n are free None b = refl
free-views links es n are free (Some m) b =
    let link = are.linked n m b in
    absurd (none-some link.upper (sym free ∙ link.upper_is))

pub views-free : (links : Links) (es : List Entry) (n : ℕ) → AreLinked links es → entry_numbered n es ≡ None → views_by links es n ≡ None
views-free links es n are free = views-none links es n (free-views links es n are free (below links n) refl)

-- one more dictionary, of a number that none has
module _ (links : Links) (es : List Entry) (new : Entry) (are : AreLinked links es) (free : entry_numbered (number_in new) es ≡ None) where
  pub linked-more : number_in new < numbers → AreLinked links (es ++ new ∷ [])
  linked-more within = record {
    numbered = numbered-push es new are.numbered free within;
    linked = λ n m b.
        let link = are.linked n m b in
        record {
          upper = link.upper;
          lower = link.lower;
          upper_is = found-push (λ e. number_in e == n) es new link.upper link.upper_is;
          lower_is = found-push (λ e. number_in e == m) es new link.lower link.lower_is;
          method = link.method;
          kind = link.kind;
        };
  }

  views-pushed : (n : ℕ) (o : Option ℕ) → below links n ≡ o → option_and_then (name_numbered (es ++ new ∷ [])) o ≡ option_and_then (name_numbered es) o
  views-pushed n None b = refl
  views-pushed n (Some m) b =
      let link = are.linked n m b in
      ap (option_map (λ (e : Entry). e.0)) (found-push (λ e. number_in e == m) es new link.lower link.lower_is ∙ sym link.lower_is)

  -- numbers view what they did
  pub views-more : views_by links (es ++ new ∷ []) ≡ views_by links es
  views-more = λ i n. views-pushed n (below links n) refl i

-- a dictionary that views none and isn't viewed
module _ (links : Links) (es : List Entry) (are : AreLinked links es) (i : ℕ) (e : Entry) (at : slice_get es i ≡ Some e) (unviewed : is_viewed links (number_in e) ≡ false) (unlinked : below links (number_in e) ≡ None) where
  upper-apart : (n m : ℕ) → below links n ≡ Some m → (number_in e == n) ≡ false
  upper-apart n m b = not-equal (number_in e) n (upper-other links (number_in e) n m unlinked b)

  lower-apart : (n m : ℕ) → below links n ≡ Some m → (number_in e == m) ≡ false
  lower-apart n m b = not-equal (number_in e) m (lower-other links (number_in e) n m unviewed b)

  -- links stay between dictionaries without it
  pub linked-removed : AreLinked links (remove es i)
  linked-removed = record {
    numbered = numbered-remove es i are.numbered;
    linked = λ n m b.
        let link = are.linked n m b in
        record {
          upper = link.upper;
          lower = link.lower;
          upper_is = found-remove (λ f. number_in f == n) es i e at (upper-apart n m b) ∙ link.upper_is;
          lower_is = found-remove (λ f. number_in f == m) es i e at (lower-apart n m b) ∙ link.lower_is;
          method = link.method;
          kind = link.kind;
        };
  }

  views-left : (n : ℕ) (o : Option ℕ) → below links n ≡ o → option_and_then (name_numbered (remove es i)) o ≡ option_and_then (name_numbered es) o
  views-left n None b = refl
  views-left n (Some m) b = ap (option_map (λ (f : Entry). f.0)) (found-remove (λ f. number_in f == m) es i e at (lower-apart n m b))

  -- and the others view what they did
  pub views-removed : views_by links (remove es i) ≡ views_by links es
  views-removed = λ j n. views-left n (below links n) refl j

  -- the same with another one of its number in its place
  module _ (f : Entry) (number : number_in f ≡ number_in e) where
    pub linked-remade : AreLinked links (slice_set es i f)
    linked-remade = record {
      numbered = numbered-alike es (slice_set es i f) (map-set_same number_in es i e f at number) are.numbered;
      linked = λ n m b.
          let link = are.linked n m b in
          record {
            upper = link.upper;
            lower = link.lower;
            upper_is = found-set (λ g. number_in g == n) es i e f at (upper-apart n m b) (ap (λ z. z == n) number ∙ upper-apart n m b) ∙ link.upper_is;
            lower_is = found-set (λ g. number_in g == m) es i e f at (lower-apart n m b) (ap (λ z. z == m) number ∙ lower-apart n m b) ∙ link.lower_is;
            method = link.method;
            kind = link.kind;
          };
    }

-- a dictionary that isn't viewed ends: what it views ends, and then it goes
module _ (links : Links) (es : List Entry) (are : AreLinked links es) (i : ℕ) (e : Entry) (at : slice_get es i ≡ Some e) (unviewed : is_viewed links (number_in e) ≡ false) (within : number_in e < length links) where
  abbrev pub without : Links
  without = links_with (number_in e) None links

  -- with no link no more are viewed
  still-viewed : (n : ℕ) → is_viewed without n ≡ true → is_viewed links n ≡ true
  still-viewed n is =
      let v = viewer without n is in
      elim (eqb_tells v.0 (number_in e)) as (λ _. is_viewed links n ≡ true) [
        | inl same ↦ absurd (none-some n (sym (ap (below without) same.1 ∙ below-linked links (number_in e) None within) ∙ v.1))
        | inr apart ↦ viewed-by links v.0 n (sym (below-other links (number_in e) v.0 None apart.1) ∙ v.1)
      ]

  pub unviewed-still : (n : ℕ) → is_viewed links n ≡ false → is_viewed without n ≡ false
  unviewed-still n none =
      ⊎_elim (λ is. absurd (true≢false (sym (still-viewed n is) ∙ none))) (λ is. is) (cases_Bool (is_viewed without n))

  pub linked-shut : AreLinked without (remove es i)
  linked-shut =
      linked-removed without es (linked-ended links es (number_in e) within are) i e at
      (unviewed-still (number_in e) unviewed) (below-linked links (number_in e) None within)

  number-gone : (fs : List Entry) (k : ℕ) → AreDistinct (map number_in fs) → slice_get fs k ≡ Some e → contains (map number_in (remove fs k)) (number_in e) ≡ false
  number-gone [] k distinct there = absurd (none-some e there)
  number-gone (f ∷ fs) zero distinct there = subst (λ (g : Entry). contains (map number_in fs) (number_in g) ≡ false) (same_Some f e there) distinct.0
  number-gone (f ∷ fs) (suc k) distinct there =
      ap (λ b. b || contains (map number_in (remove fs k)) (number_in e)) (other-number (number_in f) fs k e distinct.0 there)
      ∙ number-gone fs k distinct.1 there

  -- the others are as they were by name
  pub homes-shut : (over : Entry → Dictionary) → map (home_by over (views_by without (remove es i))) (remove es i) ≡ map (home_by over (views_by links es)) (remove es i)
  homes-shut over =
      ap (λ views. map (home_by over views) (remove es i))
      (views-removed without es (linked-ended links es (number_in e) within are) i e at
      (unviewed-still (number_in e) unviewed) (below-linked links (number_in e) None within))
      ∙ sym (others-same over (views_by links es) (views_by without es) e None
      (views-none without es (number_in e) (below-linked links (number_in e) None within))
      (λ n apart. ap (option_and_then (name_numbered es)) (below-other links (number_in e) n None apart))
      (remove es i) (number-gone es i are.numbered.distinct at))

-- where no number has a link
pub linked-none : (links : Links) (es : List Entry) → ((n : ℕ) → below links n ≡ None) → HaveViewNumbers es → AreLinked links es
linked-none links es none numbered = record {
  numbered = numbered;
  linked = λ n m b. absurd (none-some m (sym (none n) ∙ b));
}

-- one that has none has none when another one's ends
pub ended-still : (links : Links) (d n : ℕ) → d < length links → below links n ≡ None → below (links_with d None links) n ≡ None
ended-still links d n within none = elim (eqb_tells n d) as (λ _. below (links_with d None links) n ≡ None) [
  | inl same ↦ ap (below (links_with d None links)) same.1 ∙ below-linked links d None within
  | inr apart ↦ below-other links d n None apart.1 ∙ none
]
