-- The dictionary of a name, among those of a session.
use Rattle.vc_base.proofs.Common.{◌≡◌, ℕ, zero, suc, ◌<◌, true, false, cond, ◌||◌, List, [], ◌∷◌, map, length, get_or, take, set, is_some, slice_get, Some, None, position, bytes_eq, sym, refl, ap, ◌∙◌, subst, ⊎_elim, arith, cases_Bool, or_parts, position-Some, none-some, same_Some, list_any, keys_of, lookup, values_of}
use Rattle.vc_base.proofs.Texts.{bytes_eq-swapped, same_bytes}
use Rattle.vc_objects.specs.Objects.{Dictionary}
use Rattle.vc_commands.specs.Held.{Held}
use Rattle.vc_steps.specs.DictHomes.{dict_home, dicts_in}
use Rattle.vc_steps.specs.Dicts.{with_dict}
use Rattle.vc_views.specs.Views.{dict_named, is_dict, DictHome}
use Rattle.vc_steps.proofs.DictsStay.{Entry, Vs}
use Rattle.vc_commands.proofs.Firsts.{IsFirst, find-first, find-none, first-unmap}
use Rattle.vc_views.proofs.Firsts.{first-key}

dict-set_at : (d : List ℕ) (dict : Dictionary) (ks : List DictHome) (i : ℕ) (k : DictHome) → slice_get ks i ≡ Some k → is_dict d k ≡ true → list_any (is_dict d) (take i ks) ≡ false → with_dict d dict ks ≡ set ks i (record k { dict = dict })
dict-set_at d dict [] i k at passes none = absurd (none-some k at)
dict-set_at d dict (l ∷ ks) zero k at passes none =
    let same : l ≡ k = same_Some l k at in
    ap (λ b. cond b ((record l { dict = dict }) ∷ ks) (l ∷ with_dict d dict ks)) (ap (is_dict d) same ∙ passes)
    ∙ ap (λ (z : DictHome). (record z { dict = dict }) ∷ ks) same
dict-set_at d dict (l ∷ ks) (suc i) k at passes none =
    let parts = or_parts (is_dict d l) (list_any (is_dict d) (take i ks)) none in
    ap (λ b. cond b ((record l { dict = dict }) ∷ ks) (l ∷ with_dict d dict ks)) parts.0
    ∙ ap (λ zs. l ∷ zs) (dict-set_at d dict ks i k at passes parts.1)

-- what stands at a place, by its key and its value
pub pair-read : {A : Type 0} (es : List (List ℕ × A)) (i : ℕ) (k : List ℕ) (x : A) → slice_get (keys_of es) i ≡ Some k → slice_get (values_of es) i ≡ Some x → slice_get es i ≡ Some (k, x)
pair-read [] i k x key value = absurd (none-some k key)
pair-read (e ∷ es) zero k x key value = ap (λ n. Some (n, e.1)) (same_Some e.0 k key) ∙ ap (λ y. Some (k, y)) (same_Some e.1 x value)
pair-read (e ∷ es) (suc i) k x key value = pair-read es i k x key value

module _ (hs : List Held) (vs : Vs) where
  names-dicts : (es : List Entry) → keys_of es ≡ map (λ (k : DictHome). k.name) (dicts_in hs vs es)
  names-dicts [] = refl
  names-dicts (e ∷ es) = ap (λ ns. e.0 ∷ ns) (names-dicts es)

  -- some dictionary has the name
  pub any-dict : (es : List Entry) (d : List ℕ) → list_any (is_dict d) (dicts_in hs vs es) ≡ is_some (lookup (bytes_eq d) es)
  any-dict [] d = refl
  any-dict (e ∷ es) d =
      ap (λ b. b || list_any (is_dict d) (dicts_in hs vs es)) (bytes_eq-swapped e.0 d)
      ∙ (ap (λ b. bytes_eq d e.0 || b) (any-dict es d)
      ∙ ⊎_elim
      (λ y. ap (λ b. b || is_some (lookup (bytes_eq d) es)) y ∙ sym (ap (λ b. is_some (cond b (Some e.1) (lookup (bytes_eq d) es))) y))
      (λ y. ap (λ b. b || is_some (lookup (bytes_eq d) es)) y ∙ sym (ap (λ b. is_some (cond b (Some e.1) (lookup (bytes_eq d) es))) y))
      (cases_Bool (bytes_eq d e.0)))

  -- none has it
  pub dict-none : (es : List Entry) (d : List ℕ) → is_some (lookup (bytes_eq d) es) ≡ false → dict_named d (dicts_in hs vs es) ≡ None
  dict-none es d none = find-none (is_dict d) (dicts_in hs vs es) (any-dict es d ∙ none)

  -- the first key is that of the first dictionary of the name
  pub first-dict : (es : List Entry) (d : List ℕ) (i : ℕ) → position (bytes_eq d) (keys_of es) ≡ Some i → IsFirst (is_dict d) (dicts_in hs vs es) i
  first-dict es d i at =
      first-unmap (λ n. bytes_eq n d) (λ (k : DictHome). k.name) (dicts_in hs vs es) i
      (subst (λ ns. IsFirst (λ n. bytes_eq n d) ns i) (names-dicts es) (first-key (keys_of es) d i at))

  pub home-at : (es : List Entry) (i : ℕ) (e : Entry) → slice_get es i ≡ Some e → slice_get (dicts_in hs vs es) i ≡ Some (dict_home hs vs e)
  home-at [] i e at = absurd (none-some e at)
  home-at (x ∷ es) zero e at = ap (λ z. Some (dict_home hs vs z)) (same_Some x e at)
  home-at (x ∷ es) (suc i) e at = home-at es i e at

  module _ (es : List Entry) (d : List ℕ) (i : ℕ) (e : Entry) (at : slice_get es i ≡ Some e) (first : IsFirst (is_dict d) (dicts_in hs vs es) i) where
    same-home : first.item ≡ dict_home hs vs e
    same-home = same_Some first.item (dict_home hs vs e) (sym first.at ∙ home-at es i e at)

    pub dict-found : dict_named d (dicts_in hs vs es) ≡ Some (dict_home hs vs e)
    dict-found = find-first (is_dict d) (dicts_in hs vs es) i first ∙ ap (λ k. Some k) same-home

    pub dict-set : (dict : Dictionary) → with_dict d dict (dicts_in hs vs es) ≡ set (dicts_in hs vs es) i (record (dict_home hs vs e) { dict = dict })
    dict-set dict =
        dict-set_at d dict (dicts_in hs vs es) i first.item first.at first.passes first.before
        ∙ ap (λ (k : DictHome). set (dicts_in hs vs es) i (record k { dict = dict })) same-home
