-- Holders in order of their keys, each compared with the one before it.
use Rattle.vc_base.proofs.Common.{◌≡◌, ℕ, ◌+◌, ◌-◌, ◌<◌, ◌≤◌, Bool, true, false, ◌||◌, List, [], ◌∷◌, Ordering, Less, Equal, Greater, length, get_or, drop, sym, refl, ap, ◌∙◌, subst, arith, true≢false, drop-cons, add-one, ordering_reverse, list_any}
use Rattle.std.specs.Cmp.{IsTotalOrder}
use Rattle.vc_base.specs.Cells.{Blocks}
use Rattle.vc_dtdisc.specs.Finds.{object_at}
use Rattle.vc_dtdisc.specs.Rules.{Rules}
use Rattle.vc_image_check.specs.Lists.Ascending.{IsAscending, is_against, stand}

module _ (rules : Rules) (order : IsTotalOrder rules.compare) (blocks : Blocks) (alone : Bool) where
  abbrev against : ℕ → ℕ → Bool
  against x y = is_against alone (stand rules blocks x y)

  -- in order, one by one
  abbrev pub Adjacent : ℕ → List ℕ → Type 0
  Adjacent x [] = Unit {0}
  Adjacent x (y ∷ ys) = (against x y ≡ false) × Adjacent y ys

  reverse-equal : (a : Ordering) → Equal ≡ ordering_reverse a → a ≡ Equal
  reverse-equal Less e = absurd (cc)
  reverse-equal Equal e = refl
  reverse-equal Greater e = absurd (cc)

  -- what stands in order twice stands in order
  through : (x y z : ℕ) (a b : Ordering) → stand rules blocks x y ≡ a → stand rules blocks y z ≡ b → is_against alone a ≡ false → is_against alone b ≡ false → against x z ≡ false
  through x y z Less Less e f p q = ap (is_against alone) (order.trans _ _ _ e f)
  through x y z Less Equal e f p q =
      let kx = rules.key (object_at blocks x) in
      let ky = rules.key (object_at blocks y) in
      let kz = rules.key (object_at blocks z) in
      let same : rules.compare kz ky ≡ Equal = reverse-equal (rules.compare kz ky) (sym f ∙ order.antisymm ky kz) in
      let turned : rules.compare kx kz ≡ rules.compare kx ky = order.antisymm kx kz ∙ ap ordering_reverse (order.congr kz ky kx same) ∙ sym (order.antisymm kx ky) in
      ap (is_against alone) (turned ∙ e)
  through x y z Less Greater e f p q = absurd (true≢false q)
  through x y z Equal b e f p q = ap (is_against alone) (order.congr _ _ _ e ∙ f) ∙ q
  through x y z Greater b e f p q = absurd (true≢false p)

  adjacent-all : (x y : ℕ) (ys : List ℕ) → against x y ≡ false → Adjacent y ys → list_any (λ z. against x z) ys ≡ false
  adjacent-all x y [] h a = refl
  adjacent-all x y (z ∷ zs) h a =
      let first = through x y z (stand rules blocks x y) (stand rules blocks y z) refl refl h a.0 in
      rw first (adjacent-all x z zs first a.1)

  pub adjacent-ascending : (x : ℕ) (xs : List ℕ) → Adjacent x xs → IsAscending rules blocks alone (x ∷ xs)
  adjacent-ascending x [] a = (refl, tt)
  adjacent-ascending x (y ∷ ys) a = (rw a.0 (adjacent-all x y ys a.0 a.1), adjacent-ascending y ys a.1)

  or-first : (p q : Bool) → (p || q) ≡ false → p ≡ false
  or-first true q h = absurd (true≢false h)
  or-first false q h = refl

  pub ascending-adjacent : (x : ℕ) (xs : List ℕ) → IsAscending rules blocks alone (x ∷ xs) → Adjacent x xs
  ascending-adjacent x [] h = tt
  ascending-adjacent x (y ∷ ys) h = (or-first (against x y) (list_any (λ z. against x z) ys) h.0, ascending-adjacent y ys h.1)

  -- the whole ascends exactly where what is left does behind the one before it
  pub record Walked (xs : List ℕ) (i : ℕ) : Type 0 where
    pub to : IsAscending rules blocks alone xs → Adjacent (get_or xs (i - 1) 0) (drop i xs)
    pub from : Adjacent (get_or xs (i - 1) 0) (drop i xs) → IsAscending rules blocks alone xs

  pub walked-start : (xs : List ℕ) → 1 ≤ length xs → Walked xs 1
  walked-start [] some = absurd (omega (arith, some))
  walked-start (x ∷ xs) some = record { to = ascending-adjacent x xs; from = adjacent-ascending x xs }

  at-place : (xs : List ℕ) (i : ℕ) → i < length xs → drop i xs ≡ get_or xs i 0 ∷ drop (i + 1) xs
  at-place xs i lt = drop-cons xs i 0 lt ∙ ap (λ k. get_or xs i 0 ∷ drop k xs) (sym (add-one i))

  abbrev At : List ℕ → ℕ → Type 0
  At xs i = Adjacent (get_or xs (i - 1) 0) (drop i xs)

  pub walked-next : (xs : List ℕ) (i : ℕ) → i < length xs → against (get_or xs (i - 1) 0) (get_or xs i 0) ≡ false → Walked xs i → Walked xs (i + 1)
  walked-next xs i lt ok w =
      let here : i + 1 - 1 ≡ i = omega arith in
      record {
        to = λ h. subst (λ k. Adjacent (get_or xs k 0) (drop (i + 1) xs)) (sym here) (subst (Adjacent (get_or xs (i - 1) 0)) (at-place xs i lt) (w.to h)).1;
        from = λ a. w.from (subst (Adjacent (get_or xs (i - 1) 0)) (sym (at-place xs i lt)) (ok, subst (λ k. Adjacent (get_or xs k 0) (drop (i + 1) xs)) here a));
      }

  pub walked-not : (xs : List ℕ) (i : ℕ) → i < length xs → against (get_or xs (i - 1) 0) (get_or xs i 0) ≡ true → Walked xs i → IsAscending rules blocks alone xs → ⊥
  walked-not xs i lt bad w h = true≢false (sym bad ∙ (subst (Adjacent (get_or xs (i - 1) 0)) (at-place xs i lt) (w.to h)).0)

  pub walked-end : (xs : List ℕ) (i : ℕ) → drop i xs ≡ [] → Walked xs i → IsAscending rules blocks alone xs
  walked-end xs i e w = w.from (subst (Adjacent (get_or xs (i - 1) 0)) (sym e) tt)
