-- From numbers to names: what is seen through a dictionary, and what a look there finds.
use Rattle.vc_base.proofs.Common.{◌≡◌, ℕ, Bool, true, false, List, ◌∷◌, map, length, ◌==◌, slice_get, Some, None, Option, option_map, bytes_eq, unwrap_or, sym, refl, ap, ◌∙◌, ap₂, arith, ne_eqb, Decides-eqb, none-some, same_Some, map-map, bytes_eq-Decides, IsDistinct, keys_of}
use Rattle.std.proofs.lemmas.Bool.Decides.{same_from_decides}
use Rattle.vc_dtdisc.specs.Rules.{Rules}
use Rattle.vc_objects.specs.Objects.{Dictionary}
use Rattle.vc_paths.specs.Layers.{Layered}
use Rattle.vc_paths.specs.Links.{Links, path}
use Rattle.vc_paths.specs.Path.{objects_of, seen_in, visible_of}
use Rattle.vc_paths.specs.Visible.{rename, visible_objects}
use Rattle.vc_paths.proofs.RenamedLayers.{visible-renamed}
use Rattle.vc_script.specs.declared.command.Command.{Command}
use Rattle.vc_commands.specs.Looking.{look_found, look_reply, own_place}
use Rattle.vc_views.specs.Dicts.{entry_numbered, number_in}
use Rattle.vc_views.specs.Numbers.{AreLinked, name_numbered}
use Rattle.vc_views.specs.Views.{named_layer, seen_through, seen_under}
use Rattle.vc_views.proofs.NamedEntries.{Entry, by-number, same-named}
use Rattle.vc_views.proofs.NamedLooks.{look_place-renamed, look_reply-renamed}
use Rattle.vc_views.proofs.NumbersToNames.{AreLayersIn, home, homes, path-each}

-- the name of the dictionary of a number, or another one where there is none
abbrev pub name_or : List Entry → List ℕ → ℕ → List ℕ
name_or entries other n = unwrap_or (name_numbered entries n) other

-- a name that is longer by a byte is another one
longer : (x : ℕ) (name : List ℕ) (t : Bool) → bytes_eq (x ∷ name) name ≡ t → t ≡ false
longer x name true same = absurd (omega (arith, ap length ((bytes_eq-Decides (x ∷ name) name).0 same)))
longer x name false differ = refl

module _ (over : Entry → Dictionary) (all : Layered) (links : Links) (entries : List Entry)
    (names : IsDistinct bytes_eq (keys_of entries)) (linked : AreLinked links entries) (layers : AreLayersIn over all entries) where
  module _ (other : List ℕ) where
    -- the objects of a dictionary are those of its number's layer, under its name
    layer-named : (n : ℕ) (e : Entry) → entry_numbered n entries ≡ Some e
        → named_layer (home over links entries e) ≡ map (rename (name_or entries other)) (objects_of all n)
    layer-named n e found =
        let is = layers n e found in
        let name : name_or entries other n ≡ e.0 = ap (λ o. unwrap_or (option_map (λ (f : Entry). f.0) o) other) found in
        ap (λ x. map (seen_under x) (over e).objects) (sym name)
        ∙ sym (map-map (rename (name_or entries other)) (seen_in n) (over e).objects)
        ∙ ap (λ os. map (rename (name_or entries other)) (map (seen_in n) os)) (sym is.objects)

    -- what is seen through a dictionary is what is seen through its number, under the names
    pub seen-named : (i : ℕ) (e : Entry) → slice_get entries i ≡ Some e → (rules : Rules) → rules ≡ (all.layer (number_in e)).rules
        → seen_through rules (homes over links entries) (home over links entries e) ≡ map (rename (name_or entries other)) (visible_of all links (number_in e))
    seen-named i e at rules are =
        let found = by-number entries i e linked.numbered.distinct at in
        let is = layers (number_in e) e found in
        ap₂ (λ m os. visible_objects m rules os) (is.over_method ∙ sym is.method)
        (path-each over links entries names linked named_layer (λ n. map (rename (name_or entries other)) (objects_of all n)) layer-named i e at
        ∙ sym (map-map (map (rename (name_or entries other))) (objects_of all) (path links (number_in e))))
        ∙ ap (λ r. visible_objects (all.layer (number_in e)).method r (map (map (rename (name_or entries other))) (map (objects_of all) (path links (number_in e))))) are
        ∙ visible-renamed (name_or entries other) (all.layer (number_in e)).rules (all.layer (number_in e)).method (map (objects_of all) (path links (number_in e)))

  -- only the name of the dictionary's own number is its name
  own-name : (n m : ℕ) (e : Entry) (o : Option Entry) → entry_numbered n entries ≡ Some e → entry_numbered m entries ≡ o
      → bytes_eq (unwrap_or (option_map (λ (f : Entry). f.0) o) (0 ∷ e.0)) e.0 ≡ (m == n)
  own-name n m e None found is =
      longer 0 e.0 (bytes_eq (0 ∷ e.0) e.0) refl
      ∙ sym (ne_eqb m n (λ same. none-some e (sym is ∙ ap (λ k. entry_numbered k entries) same ∙ found)))
  own-name n m e (Some f) found is =
      same_from_decides (bytes_eq f.0 e.0) (m == n) (
        λ t. same-named entries names n m e f found is ((bytes_eq-Decides f.0 e.0).0 t),
        λ same. (bytes_eq-Decides f.0 e.0).1 (ap (λ (g : Entry). g.0) (same_Some f e (sym is ∙ ap (λ k. entry_numbered k entries) same ∙ found))),
      )
      (Decides-eqb m n)

  module _ (i : ℕ) (e : Entry) (at : slice_get entries i ≡ Some e) (rules : Rules) (are : rules ≡ (all.layer (number_in e)).rules) (command : Command) where
    -- a look replies the same
    pub look-named : look_reply rules command (seen_through rules (homes over links entries) (home over links entries e))
        ≡ look_reply rules command (visible_of all links (number_in e))
    look-named =
        ap (λ seen. look_reply rules command seen) (seen-named e.0 i e at rules are)
        ∙ look_reply-renamed (name_or entries e.0) rules command (visible_of all links (number_in e))

    -- and finds an object of the dictionary itself at the same place, if any
    pub place-named : own_place (λ name. bytes_eq name e.0) (look_found rules command (seen_through rules (homes over links entries) (home over links entries e)))
        ≡ own_place (λ n. n == number_in e) (look_found rules command (visible_of all links (number_in e)))
    place-named =
        ap (λ seen. own_place (λ name. bytes_eq name e.0) (look_found rules command seen)) (seen-named (0 ∷ e.0) i e at rules are)
        ∙ look_place-renamed (name_or entries (0 ∷ e.0)) (λ n. n == number_in e) (λ name. bytes_eq name e.0)
        (λ n. own-name (number_in e) n e (entry_numbered n entries) (by-number entries i e linked.numbered.distinct at) refl)
        rules command (visible_of all links (number_in e))
