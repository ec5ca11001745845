-- What the values of a map give, one by one.
use Rattle.vc_base.proofs.Common.{List, [], ◌∷◌, sym, subst, AlwaysYields, TakesFirst}
use Rattle.std.specs.Map.Iter.{deref}
use Rattle.vc_base.proofs.Lists.{head-same, tail-same}

-- all of them, in order
pub values-yield : {X : Type 0} (xs : List X) → AlwaysYields (TakesFirst (deref {X = X})) (λ y. y.now) xs xs
values-yield [] = λ x t p. cc
values-yield {X} (y ∷ ys) = (
  (λ t p. cc),
  λ x t p. (
    sym (head-same y x.now ys t p),
    subst (λ s. AlwaysYields (TakesFirst (deref {X = X})) (λ y. y.now) s ys) (tail-same y x.now ys t p) (values-yield ys),
  ),
)
