-- No two open regions have one name, and no two dictionaries.
use Rattle.vc_base.proofs.Common.{◌≡◌, ℕ, Bool, true, false, cond, List, [], ◌∷◌, map, length, Some, None, find, bytes_eq, sym, refl, ap, ◌∙◌, subst, arith, IsDistinct-head, IsDistinct-tail, AllByRecursion, IsDistinct, keys_of, Discipline}
use Rattle.vc_commands.specs.Held.{Held, home_of}
use Rattle.vc_commands.specs.Home.{Home, is_home}
use Rattle.vc_commands.specs.declared.region.home.HomeEntry.{HomeEntry}
use Rattle.vc_commands.specs.declared.region.labels.Labels.{Labels}
use Rattle.vc_dtdisc.specs.Finding.{without_first}
use Rattle.vc_base.proofs.Texts.{same_bytes, bytes_eq-swapped}
use Rattle.vc_steps.proofs.DictsStay.{Entry, Vs}
use Rattle.vc_steps.specs.DictHomes.{dicts_in}
use Rattle.vc_steps.specs.Dicts.{without_dict}
use Rattle.vc_steps.specs.Homes.{held_all}
use Rattle.vc_steps.specs.State.{home_named, without_home}
use Rattle.vc_views.specs.Views.{DictHome, dict_named, is_dict}
use Rattle.vc_counts.proofs.DictWorks.{HaveOwnNames}
use Rattle.vc_counts.proofs.Works.{AreAlone}

-- items with names of their own
module _ {A : Type 0} (named : A → List ℕ) where
  abbrev has_name : List ℕ → A → Bool
  has_name r a = bytes_eq (named a) r

  none-named : (r : List ℕ) (xs : List A) → AllByRecursion (λ n. bytes_eq r n ≡ false) (map named xs) → find (has_name r) xs ≡ None
  none-named r [] all = refl
  none-named r (x ∷ xs) all = ap (λ b. cond b (Some x) (find (has_name r) xs)) (bytes_eq-swapped (named x) r ∙ all.0) ∙ none-named r xs all.1

  alone-by : (r : List ℕ) (b : Bool) (x : A) (xs left : List A) → b ≡ has_name r x → (has_name r x ≡ true → find (has_name r) xs ≡ None) → find (has_name r) left ≡ None → find (has_name r) (cond b xs (x ∷ left)) ≡ None
  alone-by r true x xs left is here there = here (sym is)
  alone-by r false x xs left is here there = ap (λ b. cond b (Some x) (find (has_name r) left)) (sym is) ∙ there

  alone-named : (xs : List A) → IsDistinct bytes_eq (map named xs) → (r : List ℕ) → find (has_name r) (without_first (has_name r) xs) ≡ None
  alone-named [] distinct r = refl
  alone-named (x ∷ xs) distinct r =
      alone-by r (has_name r x) x xs (without_first (has_name r) xs) refl
      (λ is. none-named r xs (subst (λ n. AllByRecursion (λ m. bytes_eq n m ≡ false) (map named xs)) (same_bytes (named x) r is) (IsDistinct-head bytes_eq (named x) (map named xs) distinct)))
      (alone-named xs (IsDistinct-tail bytes_eq (named x) (map named xs) distinct) r)

homes-without : (r : List ℕ) (hs : List Home) → without_home r hs ≡ without_first (is_home r) hs
homes-without r [] = refl
homes-without r (h ∷ hs) = ap (λ left. cond (is_home r h) hs (h ∷ left)) (homes-without r hs)

dicts-without : (d : List ℕ) (ds : List DictHome) → without_dict d ds ≡ without_first (is_dict d) ds
dicts-without d [] = refl
dicts-without d (e ∷ ds) = ap (λ left. cond (is_dict d e) ds (e ∷ left)) (dicts-without d ds)

module _ {I : Type 0} {V : I → Type 0} (meaning : (x : I) × V x → Discipline) where
  names-of : (homes : List (List ℕ × HomeEntry I V)) (labels : List Labels) → length labels ≡ length homes → keys_of homes ≡ map (λ (k : Home). k.name) (map home_of (held_all meaning homes labels))
  names-of [] labels same = refl
  names-of (e ∷ es) [] same = absurd (omega (arith, same))
  names-of (e ∷ es) (l ∷ ls) same = ap (λ ns. e.0 ∷ ns) (names-of es ls (omega (arith, same)))

  -- those of a session are keys of a map
  pub alone-held : (homes : List (List ℕ × HomeEntry I V)) (labels : List Labels) → length labels ≡ length homes → IsDistinct bytes_eq (keys_of homes) → AreAlone (map home_of (held_all meaning homes labels))
  alone-held homes labels same distinct r =
      let hs : List Home = map home_of (held_all meaning homes labels) in
      ap (home_named r) (homes-without r hs)
      ∙ alone-named (λ (h : Home). h.name) hs (subst (IsDistinct bytes_eq) (names-of homes labels same) distinct) r

module _ (held : List Held) (vs : Vs) where
  dicts-named : (es : List Entry) → keys_of es ≡ map (λ (k : DictHome). k.name) (dicts_in held vs es)
  dicts-named [] = refl
  dicts-named (e ∷ es) = ap (λ ns. e.0 ∷ ns) (dicts-named es)

  pub lone-dicts : (es : List Entry) → IsDistinct bytes_eq (keys_of es) → HaveOwnNames (dicts_in held vs es)
  lone-dicts es distinct d =
      let ds : List DictHome = dicts_in held vs es in
      ap (dict_named d) (dicts-without d ds)
      ∙ alone-named (λ (k : DictHome). k.name) ds (subst (IsDistinct bytes_eq) (dicts-named es) distinct) d
