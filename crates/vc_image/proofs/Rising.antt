-- Sorted holders of which none match ascend.
use Rattle.vc_base.proofs.Common.{◌≡◌, ℕ, Bool, true, false, ◌||◌, List, [], ◌∷◌, Some, None, Ordering, Less, Equal, Greater, list_any, ordering_reverse, sym, refl, ap, ◌∙◌, true≢false}
use Rattle.std.specs.Cmp.{IsTotalOrder}
use Rattle.std.specs.Ordering.{is_eq, is_gt}
use Rattle.vc_base.specs.Cells.{Blocks}
use Rattle.vc_dtdisc.specs.Finds.{find_key, has_key, object_at}
use Rattle.vc_dtdisc.specs.Objects.{is_greater}
use Rattle.vc_dtdisc.specs.Rules.{Rules}
use Rattle.vc_dtord.specs.Ordered.{IsSorted}
use Rattle.vc_image_check.specs.Lists.Ascending.{IsAscending, is_against, stand}
use Rattle.vc_image_check.specs.Dicts.Alone.{AreAlone}
use Rattle.vc_image.proofs.Sizes.{either-none}

module _ (rules : Rules) (order : IsTotalOrder rules.compare) (b : Blocks) where
  abbrev key-of : ℕ → List ℕ
  key-of x = rules.key (object_at b x)

  -- a key that isn't found is that of none
  unfound : (x y : ℕ) (ys : List ℕ) → find_key rules b (key-of x) (y ∷ ys) ≡ None → (has_key rules b (key-of x) y ≡ false) × (find_key rules b (key-of x) ys ≡ None)
  unfound x y ys h = by (has_key rules b (key-of x) y) refl
    where
      by : (t : Bool) → has_key rules b (key-of x) y ≡ t → (has_key rules b (key-of x) y ≡ false) × (find_key rules b (key-of x) ys ≡ None)
      by true t = let q : Some y ≡ None = rw t at h in absurd (cc)
      by false t = (t, rw t at h)

  one-against : (alone : Bool) (x y : ℕ) → is_greater rules (object_at b x) (object_at b y) ≡ false → (alone ≡ true → has_key rules b (key-of x) y ≡ false) → is_against alone (stand rules b x y) ≡ false
  one-against alone x y g f = by (stand rules b x y) refl alone refl
    where
      by : (o : Ordering) → stand rules b x y ≡ o → (t : Bool) → alone ≡ t → is_against alone (stand rules b x y) ≡ false
      by Less e t q = ap (is_against alone) e
      by Greater e t q = absurd (true≢false (sym (ap is_gt e) ∙ g))
      by Equal e false q = ap (is_against alone) e ∙ q
      by Equal e true q =
          let turned : rules.compare (key-of y) (key-of x) ≡ Equal = order.antisymm (key-of y) (key-of x) ∙ ap ordering_reverse e in
          absurd (true≢false (sym (ap is_eq turned) ∙ f q))

  none-against : (alone : Bool) (x : ℕ) (ys : List ℕ) → list_any (λ y. is_greater rules (object_at b x) (object_at b y)) ys ≡ false → (alone ≡ true → find_key rules b (key-of x) ys ≡ None)
      → list_any (λ y. is_against alone (stand rules b x y)) ys ≡ false
  none-against alone x [] g f = refl
  none-against alone x (y ∷ ys) g f =
      let p = either-none (is_greater rules (object_at b x) (object_at b y)) (list_any (λ z. is_greater rules (object_at b x) (object_at b z)) ys) g in
      ap (λ t. t || list_any (λ z. is_against alone (stand rules b x z)) ys) (one-against alone x y p.0 (λ t. (unfound x y ys (f t)).0))
      ∙ none-against alone x ys p.1 (λ t. (unfound x y ys (f t)).1)

  pub ascending-of : (alone : Bool) (xs : List ℕ) → IsSorted rules b xs → (alone ≡ true → AreAlone rules b xs) → IsAscending rules b alone xs
  ascending-of alone [] s l = tt
  ascending-of alone (x ∷ xs) s l = (none-against alone x xs s.0 (λ t. (l t).0), ascending-of alone xs s.1 (λ t. (l t).1))
