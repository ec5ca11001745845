-- Whether a dictionary is viewed, and what it views, by names and by numbers, and its view set.
use Rattle.vc_base.proofs.Common.{◌≡◌, ℕ, zero, suc, ◌<◌, true, false, cond, ◌||◌, ◌≢◌, List, [], ◌∷◌, map, length, is_some, ◌==◌, slice_get, Some, None, Option, option_map, option_and_then, bytes_eq, sym, refl, ap, ◌∙◌, subst, ap₂, true≢false, Decides-eqb, or_parts, IsDistinct-head, IsDistinct-tail, any_passes_from_place, none-some, same_Some, bytes_eq-Decides, IsDistinct, list_any, keys_of, AreDistinct, contains}
use Rattle.vc_base.proofs.Quantifiers.{any-map}
use Rattle.vc_objects.specs.Objects.{Dictionary}
use Rattle.vc_paths.specs.Links.{ArePaths, Links, below, is_link_to, is_viewed, link_at, links_with, numbers}
use Rattle.vc_paths.proofs.NewLinkLemmas.{below-linked, below-other}
use Rattle.vc_views.specs.Dicts.{HaveViewNumbers, entry_numbered, number_in}
use Rattle.vc_views.specs.Numbers.{AreLinked, home_by, name_numbered, views_by}
use Rattle.vc_views.specs.Views.{DictHome, is_linked_in, is_viewed_name, is_viewed_in, views_it, with_view}
use Rattle.vc_views.proofs.LinkLists.{same-test, stands-any}
use Rattle.vc_views.proofs.NamedEntries.{Entry, by-number, find-stands, found-number, other-name, other-number, same-named}
use Rattle.vc_views.proofs.NumbersToNames.{all-at, home, homes}

-- a number is viewed where a link is to it
link-there : (o : Option (Option ℕ)) (m : ℕ) → link_at o ≡ Some m → o ≡ Some (Some m)
link-there None m is = absurd (none-some m is)
link-there (Some link) m is = ap (λ l. Some l) is

pub viewed-by : (links : Links) (n m : ℕ) → below links n ≡ Some m → is_viewed links m ≡ true
viewed-by links n m b = any_passes_from_place (is_link_to m) links n (Some m) (link-there (slice_get links n) m b) ((Decides-eqb m m).1 refl)

link-is : (m : ℕ) (o : Option ℕ) → is_link_to m o ≡ true → o ≡ Some m
link-is m None is = absurd (true≢false (sym is))
link-is m (Some e) is = ap (λ x. Some x) ((Decides-eqb e m).0 is)

pub viewer : (links : Links) (m : ℕ) → is_viewed links m ≡ true → (n : ℕ) × (below links n ≡ Some m)
viewer links m is =
    let there = stands-any (is_link_to m) links is in
    (there.1.0, ap link_at there.1.1 ∙ link-is m there.0 there.1.2)

-- a number that isn't viewed and views none
none-of : (o : Option ℕ) → is_some o ≡ false → o ≡ None
none-of None none = refl
none-of (Some m) none = absurd (true≢false none)

pub unlinked : (links : Links) (n : ℕ) → (is_viewed links n || is_some (below links n)) ≡ false → (is_viewed links n ≡ false) × (below links n ≡ None)
unlinked links n none =
    let parts = or_parts (is_viewed links n) (is_some (below links n)) none in
    (parts.0, none-of (below links n) parts.1)

-- the number of a dictionary is one of those of links
pub number-within : (links : Links) (entries : List Entry) (i : ℕ) (e : Entry) → ArePaths links → HaveViewNumbers entries → slice_get entries i ≡ Some e → number_in e < length links
number-within links entries i e paths numbered at =
    subst (λ z. number_in e < z) (sym paths.all) (all-at (λ f. number_in f < numbers) entries i e numbered.below at)

module _ (links : Links) (entries : List Entry) where
  -- what a number views by name, by its link
  pub views-none : (n : ℕ) → below links n ≡ None → views_by links entries n ≡ None
  views-none n b = ap (option_and_then (name_numbered entries)) b

  pub views-some : (n m : ℕ) (f : Entry) → below links n ≡ Some m → entry_numbered m entries ≡ Some f → views_by links entries n ≡ Some f.0
  views-some n m f b found = ap (option_and_then (name_numbered entries)) b ∙ ap (option_map (λ (e : Entry). e.0)) found

module _ (over : Entry → Dictionary) (links : Links) (entries : List Entry) (names : IsDistinct bytes_eq (keys_of entries)) (linked : AreLinked links entries) where
  -- a number views another one by name where it has a link
  views-told : (n : ℕ) (o : Option ℕ) → below links n ≡ o → is_some (option_and_then (name_numbered entries) o) ≡ is_some o
  views-told n None b = refl
  views-told n (Some m) b = ap (λ o. is_some (option_map (λ (e : Entry). e.0) o)) (linked.linked n m b).lower_is

  module _ (i : ℕ) (e : Entry) (at : slice_get entries i ≡ Some e) where
    found : entry_numbered (number_in e) entries ≡ Some e
    found = by-number entries i e linked.numbered.distinct at

    -- a view by its name is a link to its number
    link-named : (n : ℕ) (o : Option ℕ) → below links n ≡ o → is_viewed_name e.0 (option_and_then (name_numbered entries) o) ≡ true → is_viewed links (number_in e) ≡ true
    link-named n None b passes = absurd (true≢false (sym passes))
    link-named n (Some m) b passes =
        let link = linked.linked n m b in
        let name : bytes_eq link.lower.0 e.0 ≡ true = sym (ap (λ o. is_viewed_name e.0 (option_map (λ (f : Entry). f.0) o)) link.lower_is) ∙ passes in
        let one : m ≡ number_in e = same-named entries names (number_in e) m e link.lower found link.lower_is ((bytes_eq-Decides link.lower.0 e.0).0 name) in
        viewed-by links n (number_in e) (b ∙ ap (λ z. Some z) one)

    forth : list_any (λ f. views_it e.0 (home over links entries f)) entries ≡ true → is_viewed links (number_in e) ≡ true
    forth some =
        let there = stands-any (λ f. views_it e.0 (home over links entries f)) entries some in
        link-named (number_in there.0) (below links (number_in there.0)) refl there.1.2

    back : is_viewed links (number_in e) ≡ true → list_any (λ f. views_it e.0 (home over links entries f)) entries ≡ true
    back is =
        let v = viewer links (number_in e) is in
        let link = linked.linked v.0 (number_in e) v.1 in
        let there = find-stands (λ f. number_in f == v.0) entries link.upper link.upper_is in
        any_passes_from_place (λ f. views_it e.0 (home over links entries f)) entries there.0 link.upper there.1
        (ap (λ n. is_viewed_name e.0 (views_by links entries n)) (found-number entries v.0 link.upper link.upper_is)
        ∙ ap (is_viewed_name e.0) (views-some links entries v.0 (number_in e) e v.1 found)
        ∙ (bytes_eq-Decides e.0 e.0).1 refl)

    -- a dictionary is viewed where its number is
    pub viewed-named : is_viewed_in (homes over links entries) e.0 ≡ is_viewed links (number_in e)
    viewed-named =
        any-map (home over links entries) (views_it e.0) entries
        ∙ same-test (list_any (λ f. views_it e.0 (home over links entries f)) entries) (is_viewed links (number_in e)) forth back

    -- and is viewed or views one where its number is, or has a link
    pub linked-named : is_linked_in (homes over links entries) (home over links entries e) ≡ (is_viewed links (number_in e) || is_some (below links (number_in e)))
    linked-named = ap₂ (λ a b. a || b) viewed-named (views-told (number_in e) (below links (number_in e)) refl)

-- dictionaries of which one views another one than before
module _ (over : Entry → Dictionary) (views views' : ℕ → Option (List ℕ)) (d : Entry) (viewed : Option (List ℕ)) (same : views' (number_in d) ≡ viewed) (others : (n : ℕ) → n ≢ number_in d → views' n ≡ views n) where
  pub others-same : (es : List Entry) → contains (map number_in es) (number_in d) ≡ false → map (home_by over views) es ≡ map (home_by over views') es
  others-same [] none = refl
  others-same (f ∷ fs) none =
      let parts = or_parts (number_in f == number_in d) (contains (map number_in fs) (number_in d)) none in
      let apart : number_in f ≢ number_in d = λ is. true≢false (sym ((Decides-eqb (number_in f) (number_in d)).1 is) ∙ parts.0) in
      ap₂ (λ (o : Option (List ℕ)) (hs : List DictHome). (let h : DictHome = record { name = f.0; home = f.1.home; kind = f.1.dict.kind; views = o; dict = over f } in h) ∷ hs)
      (sym (others (number_in f) apart)) (others-same fs parts.1)

  with-view : (es : List Entry) (i : ℕ) → IsDistinct bytes_eq (keys_of es) → AreDistinct (map number_in es) → slice_get es i ≡ Some d
      → with_view d.0 viewed (map (home_by over views) es) ≡ map (home_by over views') es
  with-view [] i names distinct at = absurd (none-some d at)
  with-view (f ∷ fs) zero names distinct at =
      let one : f ≡ d = same_Some f d at in
      let named : (g : Entry) → DictHome = λ g. record { name = g.0; home = g.1.home; kind = g.1.dict.kind; views = viewed; dict = over g } in
      ap (λ t. cond t (named f ∷ map (home_by over views) fs) (home_by over views f ∷ with_view d.0 viewed (map (home_by over views) fs)))
      ((bytes_eq-Decides f.0 d.0).1 (ap (λ (g : Entry). g.0) one))
      ∙ ap₂ (λ (o : Option (List ℕ)) (hs : List DictHome). (let h : DictHome = record { name = f.0; home = f.1.home; kind = f.1.dict.kind; views = o; dict = over f } in h) ∷ hs)
      (sym same ∙ ap views' (ap number_in (sym one)))
      (others-same fs (subst (λ (g : Entry). contains (map number_in fs) (number_in g) ≡ false) one distinct.0))
  with-view (f ∷ fs) (suc i) names distinct at =
      let apart : number_in f ≢ number_in d = λ is. true≢false (sym ((Decides-eqb (number_in f) (number_in d)).1 is) ∙ other-number (number_in f) fs i d distinct.0 at) in
      ap (λ t. cond t ((record (home_by over views f) { views = viewed }) ∷ map (home_by over views) fs) (home_by over views f ∷ with_view d.0 viewed (map (home_by over views) fs)))
      (other-name f.0 fs i d (IsDistinct-head bytes_eq f.0 (keys_of fs) names) at)
      ∙ ap₂ (λ (o : Option (List ℕ)) (hs : List DictHome). (let h : DictHome = record { name = f.0; home = f.1.home; kind = f.1.dict.kind; views = o; dict = over f } in h) ∷ hs)
      (sym (others (number_in f) apart))
      (with-view fs i (IsDistinct-tail bytes_eq f.0 (keys_of fs) names) distinct.1 at)

module _ (over : Entry → Dictionary) (links : Links) (entries : List Entry) (names : IsDistinct bytes_eq (keys_of entries)) (distinct : AreDistinct (map number_in entries)) (i : ℕ) (d : Entry) (at : slice_get entries i ≡ Some d) (within : number_in d < length links) where
  -- with another link of a number its dictionary views the one of that link, by name
  pub view-linked : (link : Option ℕ) → with_view d.0 (option_and_then (name_numbered entries) link) (homes over links entries) ≡ homes over (links_with (number_in d) link links) entries
  view-linked link =
      with-view over (views_by links entries) (views_by (links_with (number_in d) link links) entries) d (option_and_then (name_numbered entries) link)
      (ap (option_and_then (name_numbered entries)) (below-linked links (number_in d) link within))
      (λ n apart. ap (option_and_then (name_numbered entries)) (below-other links (number_in d) n link apart))
      entries i names distinct at

  -- so it does with the number of a dictionary, and views none with no link
  pub view-some : (j : ℕ) (e : Entry) → slice_get entries j ≡ Some e → with_view d.0 (Some e.0) (homes over links entries) ≡ homes over (links_with (number_in d) (Some (number_in e)) links) entries
  view-some j e there =
      ap (λ o. with_view d.0 (option_map (λ (f : Entry). f.0) o) (homes over links entries)) (sym (by-number entries j e distinct there))
      ∙ view-linked (Some (number_in e))

  pub view-none : with_view d.0 None (homes over links entries) ≡ homes over (links_with (number_in d) None links) entries
  view-none = view-linked None
