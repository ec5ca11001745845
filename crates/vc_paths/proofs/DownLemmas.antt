-- The way down a path, link by link.
use Rattle.vc_base.proofs.Common.{◌≡◌, ℕ, ◌<◌, true, false, List, [], ◌∷◌, ◌++◌, length, Some, None, Option, sym, refl, ap, ◌∙◌, subst, arith, same_Some, AllByRecursion}
use Rattle.vc_paths.specs.Layers.{Layered}
use Rattle.vc_paths.specs.Links.{ArePaths, Links, below, is_link_to, numbers}
use Rattle.vc_paths.specs.Path.{IsAlike, IsPath}
use Rattle.vc_paths.specs.Shown.{IsOnPath, above, down}
use Rattle.vc_paths.proofs.PathLemmas.{path-step}

pub down-none : (links : Links) → down links None ≡ []
unfolding down
down-none links = refl

pub down-step : (links : Links) (e : ℕ) → ArePaths links → down links (Some e) ≡ e ∷ down links (below links e)
unfolding down
down-step links e p = path-step links e p

-- each step of a walk passes one number, and leaves fewer
pub down-on : {links : Links} {at : Option ℕ} {e : ℕ} {next : Option ℕ} → ArePaths links → at ≡ Some e → next ≡ below links e → down links at ≡ e ∷ down links next
down-on {links} {at} {e} p is on = ap (down links) is ∙ down-step links e p ∙ ap (λ z. e ∷ down links z) (sym on)

pub down-next : {links : Links} {at : Option ℕ} {e : ℕ} {next : Option ℕ} → ArePaths links → at ≡ Some e → next ≡ below links e → length (down links next) < length (down links at)
down-next {links} {at} {e} {next} p is on =
    let step : length (down links at) ≡ length (e ∷ down links next) = ap length (down-on p is on) in
    omega arith

-- the numbers before an end
pub above-stop : (end : Option ℕ) (x : ℕ) (xs : List ℕ) → is_link_to x end ≡ true → above end (x ∷ xs) ≡ []
above-stop end x xs h = rw h refl

pub above-on : (end : Option ℕ) (x : ℕ) (xs : List ℕ) → is_link_to x end ≡ false → above end (x ∷ xs) ≡ x ∷ above end xs
above-on end x xs h = rw h refl

pub above-none : (xs : List ℕ) → above None xs ≡ xs
above-none [] = refl
above-none (x ∷ xs) = ap (λ z. x ∷ z) (above-none xs)

-- all on the way are like the first
pub on-start : {all : Layered} {links : Links} {d : ℕ} → IsPath all links d → IsOnPath all links d (Some d)
unfolding down
on-start {all} {links} {d} p = record {
  number = λ e is. subst (λ z. z < numbers) (same_Some d e is) p.number;
  alike = p.alike;
}

pub on-head : {all : Layered} {links : Links} {d : ℕ} {at : Option ℕ} {e : ℕ} → ArePaths links → at ≡ Some e → IsOnPath all links d at → IsAlike all d e
on-head {all} {links} {d} p is on = (subst (AllByRecursion (IsAlike all d)) (down-on p is refl) on.alike).0

pub on-next : {all : Layered} {links : Links} {d : ℕ} {at : Option ℕ} {e : ℕ} {next : Option ℕ} → ArePaths links → at ≡ Some e → next ≡ below links e → IsOnPath all links d at → IsOnPath all links d next
on-next {all} {links} {d} {at} {e} p is step on = record {
  number = λ n there. p.within e n (sym step ∙ there);
  alike = (subst (AllByRecursion (IsAlike all d)) (down-on p is step) on.alike).1;
}

-- where a path is parted: what stands behind is the way on from there
pub record IsParted (all : Layered) (links : Links) (d : ℕ) (e : ℕ) (lower : List ℕ) : Type 0 where
  pub on : IsOnPath all links d (Some e)
  pub rest : lower ≡ down links (below links e)

head_same : (x y : ℕ) (xs ys : List ℕ) → x ∷ xs ≡ y ∷ ys → x ≡ y
head_same x y xs ys e = cc

tail_same : (x y : ℕ) (xs ys : List ℕ) → x ∷ xs ≡ y ∷ ys → xs ≡ ys
tail_same x y xs ys e = cc

empty-apart : (y : ℕ) (ys : List ℕ) → [] ≡ y ∷ ys → ⊥
empty-apart y ys e = cc

pub parted-at : (all : Layered) (links : Links) (d : ℕ) (upper : List ℕ) (at : Option ℕ) (e : ℕ) (lower : List ℕ) → ArePaths links → IsOnPath all links d at → down links at ≡ upper ++ e ∷ lower → IsParted all links d e lower
parted-at all links d [] None e lower p on is = absurd (empty-apart e lower (sym (down-none links) ∙ is))
parted-at all links d (y ∷ ys) None e lower p on is = absurd (empty-apart y (ys ++ e ∷ lower) (sym (down-none links) ∙ is))
parted-at all links d [] (Some x) e lower p on is =
    let step = sym (down-step links x p) ∙ is in
    let same = head_same x e (down links (below links x)) lower step in
    record {
      on = subst (λ z. IsOnPath all links d (Some z)) same on;
      rest = sym (tail_same x e (down links (below links x)) lower step) ∙ ap (λ z. down links (below links z)) same;
    }
parted-at all links d (y ∷ ys) (Some x) e lower p on is =
    parted-at all links d ys (below links x) e lower p (on-next p refl refl on)
    (tail_same x y (down links (below links x)) (ys ++ e ∷ lower) (sym (down-step links x p) ∙ is))
