-- What is seen through a path, layer by layer, where the method is not ordered.
use Rattle.vc_base.proofs.Common.{◌≡◌, ℕ, true, false, not, eqb, ◌≢◌, List, [], ◌∷◌, ◌++◌, map, Some, filter, flat_map, sym, refl, ap, ◌∙◌, true≢false, append_assoc, append-nil, eq-eqb, ne_eqb, or_left, or_right, filter_agree, map-append, list_any, AreDistinct, contains, is_ordered}
use Rattle.vc_base.proofs.Quantifiers.{any-map, any-agree}
use Rattle.vc_base.proofs.Lists.{filter-map}
use Rattle.vc_dtdisc.specs.Objects.{Object, is_match}
use Rattle.vc_dtdisc.specs.Rules.{Rules}
use Rattle.vc_paths.specs.Layers.{Layered}
use Rattle.vc_paths.specs.Links.{ArePaths, Links, path}
use Rattle.vc_paths.specs.Path.{objects_of, place_of, seen_in, visible_of}
use Rattle.vc_paths.specs.Shown.{above, down, has_match, is_covered, places, shown_in}
use Rattle.vc_paths.specs.Visible.{Seen, is_hidden, stacked_objects}
use Rattle.vc_paths.proofs.DownLemmas.{above-on, above-stop}
use Rattle.vc_paths.proofs.EndLemmas.{any-flat_map}
use Rattle.vc_paths.proofs.PathLemmas.{path-distinct}

-- maps that agree on a list
pub flat-agree : {A : Type 0} (f g : ℕ → List A) (xs : List ℕ) → ((e : ℕ) → contains xs e ≡ true → f e ≡ g e) → flat_map f xs ≡ flat_map g xs
flat-agree f g [] h = refl
flat-agree f g (x ∷ xs) h =
    ap (λ z. z ++ flat_map f xs) (h x (or_left (eqb x x) (contains xs x) (eq-eqb x x refl)))
    ∙ ap (λ z. g x ++ z) (flat-agree f g xs (λ e w. h e (or_right (eqb x e) (contains xs e) w)))

map-flat : {A B : Type 0} (f : A → B) (g : ℕ → List A) (xs : List ℕ) → map f (flat_map g xs) ≡ flat_map (λ x. map f (g x)) xs
map-flat f g [] = refl
map-flat f g (x ∷ xs) = map-append f (g x) (flat_map g xs) ∙ ap (λ z. map f (g x) ++ z) (map-flat f g xs)

-- those of a layer that some layers above it don't hide
abbrev left_of : (rules : Rules) (layer : ℕ → List (Seen ℕ)) (upper : List (Seen ℕ)) → ℕ → List (Seen ℕ)
left_of rules layer upper e = filter (λ o. not (is_hidden rules upper o)) (layer e)

-- of layers with numbers of their own, each is seen behind those before its number
stacked-each : (rules : Rules) (layer : ℕ → List (Seen ℕ)) (upper : List (Seen ℕ)) (xs : List ℕ) → AreDistinct xs
    → stacked_objects rules upper (map layer xs) ≡ flat_map (λ e. left_of rules layer (upper ++ flat_map layer (above (Some e) xs)) e) xs
stacked-each rules layer upper [] d = refl
stacked-each rules layer upper (x ∷ xs) d =
    let seen = λ (e : ℕ). left_of rules layer (upper ++ flat_map layer (above (Some e) (x ∷ xs))) e in
    let here : upper ≡ upper ++ flat_map layer (above (Some x) (x ∷ xs))
    = sym (append-nil upper) ∙ ap (λ z. upper ++ flat_map layer z) (sym (above-stop (Some x) x xs (eq-eqb x x refl))) in
    let on : (e : ℕ) → contains xs e ≡ true → left_of rules layer ((upper ++ layer x) ++ flat_map layer (above (Some e) xs)) e ≡ seen e
    = λ e w.
    let ne : e ≢ x = λ same. true≢false (sym w ∙ ap (contains xs) same ∙ d.0) in
    ap (λ z. left_of rules layer z e)
    (append_assoc upper (layer x) (flat_map layer (above (Some e) xs)) ∙ ap (λ z. upper ++ flat_map layer z) (sym (above-on (Some e) x xs (ne_eqb e x ne)))) in
    ap (λ z. z ++ stacked_objects rules (upper ++ layer x) (map layer xs)) (ap (λ z. left_of rules layer z x) here)
    ∙ ap (λ z. seen x ++ z)
    (stacked-each rules layer (upper ++ layer x) xs d.1 ∙ flat-agree (λ e. left_of rules layer ((upper ++ layer x) ++ flat_map layer (above (Some e) xs)) e) seen xs on)

-- the objects of some layers hide one where some of them has a match
hidden-match : (all : Layered) (d e : ℕ) (upper : List ℕ) (o : Object) → is_hidden (all.layer d).rules (flat_map (objects_of all) upper) (seen_in e o) ≡ list_any (has_match all d o.bytes) upper
hidden-match all d e upper o =
    let test = λ (u : Seen ℕ). is_match (all.layer d).rules o.bytes u.bytes in
    any-flat_map test (objects_of all) upper
    ∙ any-agree (λ u. list_any test (objects_of all u)) (has_match all d o.bytes) upper (λ u. any-map (seen_in u) test (all.layer u).objects)

placed-map : (e : ℕ) (xs : List Object) → map place_of (map (seen_in e) xs) ≡ places e xs
placed-map e [] = refl
placed-map e (x ∷ xs) = ap (λ z. (e, x.at) ∷ z) (placed-map e xs)

left-places : (all : Layered) (d e : ℕ) (upper : List ℕ) → map place_of (left_of (all.layer d).rules (objects_of all) (flat_map (objects_of all) upper) e) ≡ places e (filter (λ o. not (list_any (has_match all d o.bytes) upper)) (all.layer e).objects)
left-places all d e upper =
    let keeps = λ (o : Seen ℕ). not (is_hidden (all.layer d).rules (flat_map (objects_of all) upper) o) in
    ap (map place_of) (filter-map (seen_in e) keeps (all.layer e).objects)
    ∙ placed-map e (filter (λ o. keeps (seen_in e o)) (all.layer e).objects)
    ∙ ap (places e) (filter_agree (λ o. keeps (seen_in e o)) (λ o. not (list_any (has_match all d o.bytes) upper)) (λ o. ap not (hidden-match all d e upper o)) (all.layer e).objects)

stacked-places : (all : Layered) (d : ℕ) (xs : List ℕ) → AreDistinct xs
    → map place_of (stacked_objects (all.layer d).rules [] (map (objects_of all) xs)) ≡ flat_map (λ e. places e (filter (λ o. not (list_any (has_match all d o.bytes) (above (Some e) xs))) (all.layer e).objects)) xs
stacked-places all d xs apart =
    let seen = λ (e : ℕ). left_of (all.layer d).rules (objects_of all) (flat_map (objects_of all) (above (Some e) xs)) e in
    ap (map place_of) (stacked-each (all.layer d).rules (objects_of all) [] xs apart)
    ∙ map-flat place_of seen xs
    ∙ flat-agree (λ e. map place_of (seen e)) (λ e. places e (filter (λ o. not (list_any (has_match all d o.bytes) (above (Some e) xs))) (all.layer e).objects)) xs
    (λ e _. left-places all d e (above (Some e) xs))

-- the places of what is seen through a dictionary
pub visible-places : (all : Layered) (links : Links) (d : ℕ) → ArePaths links → is_ordered (all.layer d).method ≡ false → map place_of (visible_of all links d) ≡ flat_map (shown_in all links d) (down links (Some d))
unfolding down is_covered
visible-places all links d p h =
    rw h (stacked-places all d (path links d) (path-distinct links d p))
