-- Which objects the layers above hide, layer by layer.
use Rattle.vc_base.proofs.Common.{◌≡◌, ℕ, Bool, true, false, ◌||◌, List, [], ◌∷◌, is_some, Some, None, Option, option_map, find, sym, refl, ap, ◌∙◌, inl, inr, eq-eqb, ne_eqb, cases_Bool, list_any, number_of}
use Rattle.vc_base.specs.declared.addr.Addr.{Addr}
use Rattle.vc_dtdisc.specs.Objects.{Object, has_key, is_match}
use Rattle.vc_base.proofs.Options.{is_some-map}
use Rattle.vc_paths.specs.Layers.{AreLayers, Layered, bytes_there, place_with, Same, Layer}
use Rattle.vc_paths.specs.Links.{ArePaths, Links, below}
use Rattle.vc_paths.specs.Path.{IsAlike}
use Rattle.vc_paths.specs.Shown.{above, down, has_match, is_covered}
use Rattle.vc_paths.proofs.DownLemmas.{above-on, above-stop, down-none, down-on}

-- something is found where something passes
found-any : (t : Object → Bool) (xs : List Object) → is_some (find t xs) ≡ list_any t xs
found-any t [] = refl
found-any t (x ∷ xs) = elim (cases_Bool (t x)) as (λ _. is_some (find t (x ∷ xs)) ≡ list_any t (x ∷ xs)) [
  | inl h ↦ rw h refl
  | inr h ↦ rw h (found-any t xs)
]

-- a match is found where a dictionary has one
pub like-found : (all : Layered) (u : ℕ) (bytes : List ℕ) (r : Option Addr) → option_map number_of r ≡ place_with (all.layer u).rules ((all.layer u).rules.key bytes) (all.layer u).objects → is_some r ≡ has_match all u bytes u
like-found all u bytes r e =
    let rules = (all.layer u).rules in
    sym (is_some-map number_of r)
    ∙ ap is_some e
    ∙ is_some-map (λ o. o.at) (find (λ o. has_key rules (rules.key bytes) o.bytes) (all.layer u).objects)
    ∙ found-any (λ o. has_key rules (rules.key bytes) o.bytes) (all.layer u).objects

-- like dictionaries have the same rules
pub match-same : (all : Layered) (d u : ℕ) (bytes : List ℕ) → AreLayers all → IsAlike all d d → IsAlike all d u → has_match all u bytes u ≡ has_match all d bytes u
match-same all d u bytes laws here there =
    ap (λ rules. list_any (λ o. is_match rules bytes o.bytes) (all.layer u).objects) (laws.kinds u d there.there here.there there.kind)

-- so what a dictionary that stayed told of a match of the object at a place is told by the rules of the path
pub match-told : {all now : Layered} {d u : ℕ} (e at : ℕ) {r : Bool} → Same all now → AreLayers all → IsAlike all d d → IsAlike all d u
    → ((bytes : List ℕ) → bytes_there at (now.layer e).objects ≡ Some bytes → r ≡ has_match now u bytes u)
    → (bytes : List ℕ) → bytes_there at (all.layer e).objects ≡ Some bytes → has_match all d bytes u ≡ r
match-told {all} {now} {d} {u} e at same laws here there told bytes is =
    sym (told bytes (ap (λ (z : ℕ → Layer). bytes_there at (z e).objects) same.layers ∙ is)
    ∙ ap (λ (z : ℕ → Layer). list_any (λ o. is_match (z u).rules bytes o.bytes) (z u).objects) same.layers
    ∙ match-same all d u bytes laws here there)

-- what hides an object is told by a walk over the layers above, which ends at its own
pub cover-is : (all : Layered) (links : Links) (d e : ℕ) (bytes : List ℕ) → is_covered all links d e bytes ≡ list_any (has_match all d bytes) (above (Some e) (down links (Some d)))
unfolding is_covered
cover-is all links d e bytes = refl

module _ (test : ℕ → Bool) {links : Links} (p : ArePaths links) (e : ℕ) where
  pub cover-stop : {at : Option ℕ} {u : ℕ} → at ≡ Some u → e ≡ u → list_any test (above (Some e) (down links at)) ≡ false
  cover-stop {at} {u} is same =
      ap (λ z. list_any test (above (Some e) z)) (down-on p is refl) ∙ ap (list_any test) (above-stop (Some e) u (down links (below links u)) (eq-eqb e u same))

  cover-on : {at : Option ℕ} {u : ℕ} {next : Option ℕ} → at ≡ Some u → (e ≡ u → ⊥) → next ≡ below links u
      → list_any test (above (Some e) (down links at)) ≡ (test u || list_any test (above (Some e) (down links next)))
  cover-on {at} {u} {next} is other on =
      ap (λ z. list_any test (above (Some e) z)) (down-on p is on) ∙ ap (list_any test) (above-on (Some e) u (down links next) (ne_eqb e u other))

  pub cover-there : {at : Option ℕ} {u : ℕ} → at ≡ Some u → (e ≡ u → ⊥) → test u ≡ true → list_any test (above (Some e) (down links at)) ≡ true
  cover-there {at} {u} is other h = cover-on is other refl ∙ ap (λ z. z || list_any test (above (Some e) (down links (below links u)))) h

  pub cover-less : {at : Option ℕ} {u : ℕ} {next : Option ℕ} → at ≡ Some u → (e ≡ u → ⊥) → next ≡ below links u → test u ≡ false
      → list_any test (above (Some e) (down links at)) ≡ list_any test (above (Some e) (down links next))
  cover-less {at} {u} {next} is other on h = cover-on is other on ∙ ap (λ z. z || list_any test (above (Some e) (down links next))) h

  pub cover-end : {at : Option ℕ} → at ≡ None → list_any test (above (Some e) (down links at)) ≡ false
  cover-end is = ap (λ z. list_any test (above (Some e) z)) (ap (down links) is ∙ down-none links)
