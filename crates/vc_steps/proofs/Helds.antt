-- Open regions, by their names and as they stand for lists.
use Rattle.vc_base.proofs.Common.{◌≡◌, ℕ, zero, suc, ◌+◌, ◌<◌, false, cond, ◌||◌, List, [], ◌∷◌, ◌++◌, map, length, get_or, take, set, is_some, slice_get, Some, remove, position, bytes_eq, sym, refl, ap, ◌∙◌, subst, ⊎_elim, arith, cases_Bool, position-Some, none-some, same_Some, list_any, keys_of, lookup, values_of, Discipline}
use Rattle.indexmap.specs.IndexMap.{set_value_at}
use Rattle.vc_base.proofs.Texts.{same_bytes, bytes_eq-swapped}
use Rattle.vc_commands.specs.declared.region.home.HomeEntry.{HomeEntry}
use Rattle.vc_commands.specs.declared.region.labels.Labels.{Labels}
use Rattle.vc_commands.specs.Home.{Home, is_home}
use Rattle.vc_commands.specs.Held.{home_of}
use Rattle.vc_commands.specs.RegionRun.{held_of}
use Rattle.vc_steps.specs.Homes.{held_all}
use Rattle.vc_commands.proofs.Firsts.{IsFirst, first-unmap}
use Rattle.vc_views.proofs.Firsts.{first-key}

-- what stands at an index of a list
pub slice-or : {A : Type 0} (xs : List A) (i : ℕ) (x : A) → i < length xs → x ≡ get_or xs i x → slice_get xs i ≡ Some x
slice-or [] i x within is = absurd (omega (arith, within))
slice-or (y ∷ ys) zero x within is = ap (λ z. Some z) (sym is)
slice-or (y ∷ ys) (suc i) x within is = slice-or ys i x (omega (arith, within)) is

pub some-at : {A : Type 0} (xs : List A) (i : ℕ) → i < length xs → (x : A) × (slice_get xs i ≡ Some x)
some-at [] i within = absurd (omega (arith, within))
some-at (y ∷ ys) zero within = (y, refl)
some-at (y ∷ ys) (suc i) within = some-at ys i (omega (arith, within))

pub length-remove : {A : Type 0} (xs : List A) (i : ℕ) → i < length xs → length (remove xs i) + 1 ≡ length xs
length-remove [] i within = absurd (omega (arith, within))
length-remove (y ∷ ys) zero within = omega arith
length-remove (y ∷ ys) (suc i) within = omega (arith, length-remove ys i (omega (arith, within)))

module _ {I : Type 0} {V : I → Type 0} (meaning : (x : I) × V x → Discipline) where
  abbrev Homes : Type 0
  Homes = List (List ℕ × HomeEntry I V)

  -- some region has the name
  pub any-named : (homes : Homes) (labels : List Labels) (r : List ℕ) → length labels ≡ length homes → list_any (is_home r) (map home_of (held_all meaning homes labels)) ≡ is_some (lookup (bytes_eq r) homes)
  any-named [] labels r same = refl
  any-named (e ∷ es) [] r same = absurd (omega (arith, same))
  any-named (e ∷ es) (l ∷ ls) r same =
      ap (λ b. b || list_any (is_home r) (map home_of (held_all meaning es ls))) (bytes_eq-swapped e.0 r)
      ∙ (ap (λ b. bytes_eq r e.0 || b) (any-named es ls r (omega (arith, same)))
      ∙ ⊎_elim
      (λ y. ap (λ b. b || is_some (lookup (bytes_eq r) es)) y ∙ sym (ap (λ b. is_some (cond b (Some e.1) (lookup (bytes_eq r) es))) y))
      (λ y. ap (λ b. b || is_some (lookup (bytes_eq r) es)) y ∙ sym (ap (λ b. is_some (cond b (Some e.1) (lookup (bytes_eq r) es))) y))
      (cases_Bool (bytes_eq r e.0)))

  names-homes : (homes : Homes) (labels : List Labels) → length labels ≡ length homes → keys_of homes ≡ map (λ (k : Home). k.name) (map home_of (held_all meaning homes labels))
  names-homes [] labels same = refl
  names-homes (e ∷ es) [] same = absurd (omega (arith, same))
  names-homes (e ∷ es) (l ∷ ls) same = ap (λ ns. e.0 ∷ ns) (names-homes es ls (omega (arith, same)))

  -- the first region of a name is the first home of it
  pub first-named : (homes : Homes) (labels : List Labels) (r : List ℕ) (i : ℕ) → length labels ≡ length homes → position (bytes_eq r) (keys_of homes) ≡ Some i → IsFirst (is_home r) (map home_of (held_all meaning homes labels)) i
  first-named homes labels r i same at =
      first-unmap (λ n. bytes_eq n r) (λ (k : Home). k.name) (map home_of (held_all meaning homes labels)) i
      (subst (λ ns. IsFirst (λ n. bytes_eq n r) ns i) (names-homes homes labels same) (first-key (keys_of homes) r i at))

  -- what a region at a place stands for
  pub held-entry : (homes : Homes) (labels : List Labels) (i : ℕ) (e : List ℕ × HomeEntry I V) (l : Labels) → slice_get homes i ≡ Some e → slice_get labels i ≡ Some l → slice_get (held_all meaning homes labels) i ≡ Some (held_of meaning e.0 e.1 l)
  held-entry [] labels i e l at own = absurd (none-some e at)
  held-entry (f ∷ fs) [] i e l at own = absurd (none-some l own)
  held-entry (f ∷ fs) (k ∷ ks) zero e l at own =
      ap (λ (g : List ℕ × HomeEntry I V). Some (held_of meaning g.0 g.1 k)) (same_Some f e at) ∙ ap (λ k. Some (held_of meaning e.0 e.1 k)) (same_Some k l own)
  held-entry (f ∷ fs) (k ∷ ks) (suc i) e l at own = held-entry fs ks i e l at own

  pub held-read : (homes : Homes) (labels : List Labels) (i : ℕ) (r : List ℕ) (h : HomeEntry I V) (l : Labels) → slice_get (keys_of homes) i ≡ Some r → slice_get (values_of homes) i ≡ Some h → slice_get labels i ≡ Some l → slice_get (held_all meaning homes labels) i ≡ Some (held_of meaning r h l)
  held-read [] labels i r h l name read own = absurd (none-some r name)
  held-read (e ∷ es) [] i r h l name read own = absurd (none-some l own)
  held-read (e ∷ es) (k ∷ ks) zero r h l name read own =
      ap (λ n. Some (held_of meaning n e.1 k)) (same_Some e.0 r name)
      ∙ (ap (λ g. Some (held_of meaning r g k)) (same_Some e.1 h read) ∙ ap (λ m. Some (held_of meaning r h m)) (same_Some k l own))
  held-read (e ∷ es) (k ∷ ks) (suc i) r h l name read own = held-read es ks i r h l name read own

  -- another region in that place
  pub held-set : (homes : Homes) (labels : List Labels) (i : ℕ) (r : List ℕ) (h : HomeEntry I V) (l : Labels) → length labels ≡ length homes → slice_get (keys_of homes) i ≡ Some r → held_all meaning (set_value_at homes i h) (set labels i l) ≡ set (held_all meaning homes labels) i (held_of meaning r h l)
  held-set [] labels i r h l same name = absurd (none-some r name)
  held-set (e ∷ es) [] i r h l same name = absurd (omega (arith, same))
  held-set (e ∷ es) (k ∷ ks) zero r h l same name = ap (λ n. held_of meaning n h l ∷ held_all meaning es ks) (same_Some e.0 r name)
  held-set (e ∷ es) (k ∷ ks) (suc i) r h l same name = ap (λ hs. held_of meaning e.0 e.1 k ∷ hs) (held-set es ks i r h l (omega (arith, same)) name)

  pub length-set : (homes : Homes) (labels : List Labels) (i : ℕ) (h : HomeEntry I V) (l : Labels) → length labels ≡ length homes → length (set labels i l) ≡ length (set_value_at homes i h)
  length-set [] [] zero h l same = refl
  length-set [] [] (suc i) h l same = refl
  length-set [] (k ∷ ks) i h l same = absurd (omega (arith, same))
  length-set (e ∷ es) [] i h l same = absurd (omega (arith, same))
  length-set (e ∷ es) (k ∷ ks) zero h l same = same
  length-set (e ∷ es) (k ∷ ks) (suc i) h l same = ap suc (length-set es ks i h l (omega (arith, same)))

  -- a new name goes last
  pub held-new : (homes : Homes) (labels : List Labels) (r : List ℕ) (h : HomeEntry I V) (l : Labels) → length labels ≡ length homes → held_all meaning (homes ++ (r, h) ∷ []) (labels ++ l ∷ []) ≡ held_all meaning homes labels ++ held_of meaning r h l ∷ []
  held-new [] [] r h l same = refl
  held-new [] (k ∷ ks) r h l same = absurd (omega (arith, same))
  held-new (e ∷ es) [] r h l same = absurd (omega (arith, same))
  held-new (e ∷ es) (k ∷ ks) r h l same = ap (λ hs. held_of meaning e.0 e.1 k ∷ hs) (held-new es ks r h l (omega (arith, same)))

  -- one is taken out
  pub held-remove : (homes : Homes) (labels : List Labels) (i : ℕ) → length labels ≡ length homes → held_all meaning (remove homes i) (remove labels i) ≡ remove (held_all meaning homes labels) i
  held-remove [] [] zero same = refl
  held-remove [] [] (suc i) same = refl
  held-remove [] (k ∷ ks) i same = absurd (omega (arith, same))
  held-remove (e ∷ es) [] i same = absurd (omega (arith, same))
  held-remove (e ∷ es) (k ∷ ks) zero same = refl
  held-remove (e ∷ es) (k ∷ ks) (suc i) same = ap (λ hs. held_of meaning e.0 e.1 k ∷ hs) (held-remove es ks i (omega (arith, same)))
