-- Why a dictionary can't view another one: by names and by numbers alike.
use Rattle.vc_base.proofs.Common.{◌≡◌, ℕ, suc, ◌<◌, Bool, true, false, not, ◌&&◌, List, [], ◌∷◌, map, length, if◌then◌else◌, nat_lt, ◌==◌, slice_get, Some, None, Option, option_map, bytes_eq, sym, refl, ap, ◌∙◌, ap₂, ⊎_elim, true≢false, arith, Decides-eqb, and_parts, cases_Bool, any_passes_from_place, none-some, same_Some, bytes_eq-Decides, IsDistinct, list_any, keys_of, contains, method_number}
use Rattle.vc_base.proofs.Quantifiers.{any-map}
use Rattle.vc_base.proofs.Methods.{same-method}
use Rattle.vc_objects.specs.Objects.{Dictionary}
use Rattle.vc_paths.specs.declared.fault.ViewFault.{ViewFault}
use Rattle.vc_paths.specs.declared.fault.ViewFault.TheVariants.{Cycle, Differs, TooDeep}
use Rattle.vc_paths.specs.Layers.{Layered}
use Rattle.vc_paths.specs.Links.{ArePaths, Links, are_too_long, below, is_too_long, links_with, numbers, path, path_limit, path_of}
use Rattle.vc_paths.specs.View.{are_alike, view_fault}
use Rattle.vc_paths.proofs.NewLinkLemmas.{none-any, some-any, none-short}
use Rattle.vc_script.specs.declared.refusal.Refusal.TheVariants.{ViewCycle, ViewDiffers, ViewTooDeep}
use Rattle.vc_views.specs.Dicts.{entry_numbered, number_in}
use Rattle.vc_views.specs.Numbers.{AreLinked, IsViewLink}
use Rattle.vc_views.specs.Views.{are_like, is_dict, is_too_deep, path_in, path_to, refusal_of_view, view_refusal, with_view}
use Rattle.vc_views.proofs.LinkChanges.{linked-set}
use Rattle.vc_views.proofs.LinkLemmas.{number-within, view-some}
use Rattle.vc_views.proofs.LinkLists.{same-test, stands-any}
use Rattle.vc_views.proofs.NamedEntries.{Entry, by-number, find-stands, same-named}
use Rattle.vc_views.proofs.NumbersToNames.{AreLayersIn, IsLayerIn, all-at, home, homes, path-each, path_to-each}

length-each : {A B C : Type 0} (f : A → C) (g : B → C) (xs : List A) (ys : List B) → map f xs ≡ map g ys → length xs ≡ length ys
length-each f g xs ys same = sym (counted f xs) ∙ ap length same ∙ counted g ys
  where
    counted : {A C : Type 0} (f : A → C) (xs : List A) → length (map f xs) ≡ length xs
    counted f [] = refl
    counted f (x ∷ xs) = ap (λ n. suc n) (counted f xs)

module _ (over : Entry → Dictionary) (links : Links) (entries : List Entry) (names : IsDistinct bytes_eq (keys_of entries)) (are : AreLinked links entries) where
  abbrev is_deep : Entry → Bool
  is_deep e = nat_lt path_limit (length (path_to (suc path_limit) (homes over links entries) (home over links entries e)))

  deep-each : (n : ℕ) (e : Entry) → entry_numbered n entries ≡ Some e → is_deep e ≡ is_too_long links n
  deep-each n e found =
      ap (nat_lt path_limit)
      (length-each (λ h. true) (λ x. true) (path_to (suc path_limit) (homes over links entries) (home over links entries e)) (path_of (suc path_limit) links n)
      (path_to-each over links entries names are (λ h. true) (λ x. true) (λ x f there. refl) (suc path_limit) n e found))

  long-none : list_any is_deep entries ≡ false → (n : ℕ) (o : Option ℕ) → below links n ≡ o → is_too_long links n ≡ false
  long-none none n None b = none-short links n b
  long-none none n (Some m) b =
      let link = are.linked n m b in
      let there = find-stands (λ f. number_in f == n) entries link.upper link.upper_is in
      sym (deep-each n link.upper link.upper_is)
      ∙ ⊎_elim
      (λ is. absurd (true≢false (sym (any_passes_from_place is_deep entries there.0 link.upper there.1 is) ∙ none)))
      (λ is. is)
      (cases_Bool (is_deep link.upper))

  long-any : list_any is_deep entries ≡ true → are_too_long links ≡ true
  long-any some =
      let there = stands-any is_deep entries some in
      let e = there.0 in
      some-any (is_too_long links) 0 numbers (number_in e)
      (sym (deep-each (number_in e) e (by-number entries there.1.0 e are.numbered.distinct there.1.1)) ∙ there.1.2)
      (omega arith)
      (all-at (λ f. number_in f < numbers) entries there.1.0 e are.numbered.below there.1.1)

  long-test : (t : Bool) → list_any is_deep entries ≡ t → are_too_long links ≡ t
  long-test true some = long-any some
  long-test false none = none-any (is_too_long links) 0 numbers (λ n first last. long-none none n (below links n) refl)

  -- some path by names is too deep where one by numbers is too long
  pub deep-named : is_too_deep (homes over links entries) ≡ are_too_long links
  deep-named =
      any-map (home over links entries) (λ d. nat_lt path_limit (length (path_to (suc path_limit) (homes over links entries) d))) entries
      ∙ sym (long-test (list_any is_deep entries) refl)

-- a refusal by three tests is that of a fault by the same, the last of which counts for dictionaries that are alike
refusal-told : (alike cycle deep long : Bool) → (alike ≡ true → deep ≡ long)
    → (if not alike then Some ViewDiffers else if cycle then Some ViewCycle else if deep then Some ViewTooDeep else None)
    ≡ option_map refusal_of_view (if not alike then Some Differs else if cycle then Some Cycle else if long then Some TooDeep else None)
refusal-told false cycle deep long same = refl
refusal-told true true deep long same = refl
refusal-told true false deep long same = ap (λ t. if t then Some ViewTooDeep else None) (same refl) ∙ last long
  where
    last : (t : Bool) → (if t then Some ViewTooDeep else None) ≡ option_map refusal_of_view (if t then Some TooDeep else None)
    last true = refl
    last false = refl

module _ (over : Entry → Dictionary) (all : Layered) (links : Links) (entries : List Entry) (names : IsDistinct bytes_eq (keys_of entries)) (are : AreLinked links entries)
    (layers : AreLayersIn over all entries) (paths : ArePaths links) (i : ℕ) (d : Entry) (at : slice_get entries i ≡ Some d) (j : ℕ) (e : Entry) (there : slice_get entries j ≡ Some e) where
  d_found : entry_numbered (number_in d) entries ≡ Some d
  d_found = by-number entries i d are.numbered.distinct at

  e_found : entry_numbered (number_in e) entries ≡ Some e
  e_found = by-number entries j e are.numbered.distinct there

  first : IsLayerIn over all (number_in d) d
  first = layers (number_in d) d d_found

  second : IsLayerIn over all (number_in e) e
  second = layers (number_in e) e e_found

  like-named : are_like (home over links entries d) (home over links entries e) ≡ are_alike all (number_in d) (number_in e)
  like-named =
      ap₂ (λ a b. a && b)
      (ap₂ (λ m n. method_number m == method_number n) (first.over_method ∙ sym first.method) (second.over_method ∙ sym second.method))
      (ap₂ (λ k l. k == l) (sym first.kind) (sym second.kind))

  named-each : (n : ℕ) (f : Entry) → entry_numbered n entries ≡ Some f → is_dict d.0 (home over links entries f) ≡ (n == number_in d)
  named-each n f found =
      same-test (bytes_eq f.0 d.0) (n == number_in d)
      (λ is. (Decides-eqb n (number_in d)).1 (same-named entries names (number_in d) n d f d_found found ((bytes_eq-Decides f.0 d.0).0 is)))
      (λ is.
      let one : f ≡ d = same_Some f d (sym found ∙ ap (λ x. entry_numbered x entries) ((Decides-eqb n (number_in d)).0 is) ∙ d_found) in
      (bytes_eq-Decides f.0 d.0).1 (ap (λ (g : Entry). g.0) one))

  cycle-named : list_any (is_dict d.0) (path_in (homes over links entries) (home over links entries e)) ≡ contains (path links (number_in e)) (number_in d)
  cycle-named =
      sym (any-map (is_dict d.0) (λ b. b) (path_in (homes over links entries) (home over links entries e)))
      ∙ ap (list_any (λ b. b)) (path-each over links entries names are (is_dict d.0) (λ n. n == number_in d) named-each j e there)
      ∙ any-map (λ n. n == number_in d) (λ b. b) (path links (number_in e))

  -- dictionaries that are alike may be linked
  linked-alike : are_alike all (number_in d) (number_in e) ≡ true → IsViewLink entries (number_in d) (number_in e)
  linked-alike alike =
      let parts = and_parts (method_number (all.layer (number_in d)).method == method_number (all.layer (number_in e)).method) ((all.layer (number_in d)).kind == (all.layer (number_in e)).kind) alike in
      record {
        upper = d;
        lower = e;
        upper_is = d_found;
        lower_is = e_found;
        method = sym second.method ∙ sym (same-method (all.layer (number_in d)).method (all.layer (number_in e)).method parts.0) ∙ first.method;
        kind = sym second.kind ∙ sym ((Decides-eqb (all.layer (number_in d)).kind (all.layer (number_in e)).kind).0 parts.1) ∙ first.kind;
      }

  within : number_in d < length links
  within = number-within links entries i d paths are.numbered at

  deep-linked : are_alike all (number_in d) (number_in e) ≡ true
      → is_too_deep (with_view d.0 (Some e.0) (homes over links entries)) ≡ are_too_long (links_with (number_in d) (Some (number_in e)) links)
  deep-linked alike =
      ap is_too_deep (view-some over links entries names are.numbered.distinct i d at within j e there)
      ∙ deep-named over (links_with (number_in d) (Some (number_in e)) links) entries names
      (linked-set links entries (number_in d) (number_in e) within (linked-alike alike) are)

  -- the refusal of a view by names is that of its fault by numbers
  pub refusal-named : view_refusal (homes over links entries) (home over links entries d) (home over links entries e) ≡ option_map refusal_of_view (view_fault all links (number_in d) (number_in e))
  refusal-named =
      ap₂ (λ alike cycle. if not alike then Some ViewDiffers
      else if cycle then Some ViewCycle
      else if is_too_deep (with_view d.0 (Some e.0) (homes over links entries)) then Some ViewTooDeep
      else None) like-named cycle-named
      ∙ refusal-told (are_alike all (number_in d) (number_in e)) (contains (path links (number_in e)) (number_in d))
      (is_too_deep (with_view d.0 (Some e.0) (homes over links entries))) (are_too_long (links_with (number_in d) (Some (number_in e)) links)) deep-linked

  -- where there is no fault, links stay between dictionaries with the view set
  alike-none : (alike : Bool) (rest : Option ViewFault) → (if not alike then Some Differs else rest) ≡ None → alike ≡ true
  alike-none true rest none = refl
  alike-none false rest none = absurd (none-some Differs (sym none))

  pub linked-viewed : view_fault all links (number_in d) (number_in e) ≡ None → AreLinked (links_with (number_in d) (Some (number_in e)) links) entries
  linked-viewed none =
      linked-set links entries (number_in d) (number_in e) within
      (linked-alike (alike-none (are_alike all (number_in d) (number_in e))
      (if contains (path links (number_in e)) (number_in d) then Some Cycle else if are_too_long (links_with (number_in d) (Some (number_in e)) links) then Some TooDeep else None) none)) are
