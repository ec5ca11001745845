-- Sorted holders: over blocks with the same objects, with one more and with one less, and where they stand to a key.
use Rattle.vc_base.proofs.Common.{◌≡◌, ℕ, ◌≤◌, Bool, true, false, cond, List, [], ◌∷◌, is_gt, Ordering, Less, Equal, Greater, sym, refl, ap, ◌∙◌, inl, inr, true≢false, arith, eqb_tells, IsTotalOrder, list_any, ordering_index, ordering_reverse, Blocks, contains, without}
use Rattle.std.proofs.lemmas.Cmp.{upto}
use Rattle.vc_base.proofs.Members.{within-head, within-tail}
use Rattle.vc_base.proofs.Orders.{reversed}
use Rattle.vc_dtdisc.specs.Finding.{put_before}
use Rattle.vc_dtdisc.specs.Finds.{object_at}
use Rattle.vc_dtdisc.specs.Rules.{Rules}
use Rattle.vc_splay.specs.Guide.{Rises, RisesFrom, order_with_name}
use Rattle.vc_dtord.specs.Nodes.{stands_to}
use Rattle.vc_dtord.specs.Ordered.{IsSorted, is_less, order_with}
use Rattle.vc_dtord.proofs.AnyLemmas.{any-at, any-cons, any-head, any-less, any-tail, any-without}

-- an order of the objects is the same over blocks with the same objects
pub less-same : (rules : Rules) (b b' : Blocks) (x y : ℕ) → object_at b' x ≡ object_at b x → object_at b' y ≡ object_at b y → is_less rules b' x y ≡ is_less rules b x y
less-same rules b b' x y e f =
    ap (λ o. is_gt (rules.compare (rules.key o) (rules.key (object_at b' x)))) f ∙ ap (λ o. is_gt (rules.compare (rules.key (object_at b y)) (rules.key o))) e

pub IsSorted-same : (rules : Rules) (b b' : Blocks) (xs : List ℕ) → ((a : ℕ) → contains xs a ≡ true → object_at b' a ≡ object_at b a) → IsSorted rules b xs → IsSorted rules b' xs
IsSorted-same rules b b' [] e s = tt
IsSorted-same rules b b' (x ∷ xs) e s = (
  any-less (λ y. is_less rules b y x) (λ y. is_less rules b' y x) xs (λ a w h. less-same rules b b' a x (e a (within-tail x xs a w)) (e x (within-head x xs)) ∙ h) s.0,
  IsSorted-same rules b b' xs (λ a w. e a (within-tail x xs a w)) s.1,
)

-- without one of them
pub IsSorted-without : (rules : Rules) (b : Blocks) (xs : List ℕ) (at : ℕ) → IsSorted rules b xs → IsSorted rules b (without at xs)
IsSorted-without rules b [] at s = tt
IsSorted-without rules b (x ∷ xs) at s = elim (eqb_tells x at) as (λ _. IsSorted rules b (without at (x ∷ xs))) [
  | inl same ↦ rw same.0 s.1
  | inr apart ↦ rw apart.0 (any-without (λ y. is_less rules b y x) xs at s.0, IsSorted-without rules b xs at s.1)
]

less-one : (rules : Rules) (b : Blocks) (x y : ℕ) → IsTotalOrder rules.compare → is_less rules b x y ≡ true → is_less rules b y x ≡ false
less-one rules b x y order e =
    ap is_gt (order.antisymm (rules.key (object_at b x)) (rules.key (object_at b y))) ∙ reversed (rules.compare (rules.key (object_at b y)) (rules.key (object_at b x))) e

inserted_by : (p test : ℕ → Bool) (at x : ℕ) (xs : List ℕ) (t : Bool) → test x ≡ t → p at ≡ false → list_any p (x ∷ xs) ≡ false → list_any p (put_before test at xs) ≡ false → list_any p (put_before test at (x ∷ xs)) ≡ false
inserted_by p test at x xs true t e h rest = rw t (any-cons p at (x ∷ xs) e h)
inserted_by p test at x xs false t e h rest = rw t (any-cons p x (put_before test at xs) (any-head p x xs h) rest)

pub any-inserted : (p test : ℕ → Bool) (at : ℕ) (xs : List ℕ) → p at ≡ false → list_any p xs ≡ false → list_any p (put_before test at xs) ≡ false
any-inserted p test at [] e h = any-cons p at [] e refl
any-inserted p test at (x ∷ xs) e h = inserted_by p test at x xs (test x) refl e h (any-inserted p test at xs e (any-tail p x xs h))

placed_by : (rules : Rules) (b : Blocks) (at x : ℕ) (xs : List ℕ) (t : Bool) → IsTotalOrder rules.compare → is_less rules b at x ≡ t → IsSorted rules b (x ∷ xs) → IsSorted rules b (order_with rules b at xs) → IsSorted rules b (order_with rules b at (x ∷ xs))
placed_by rules b at x xs true order t s rest =
    let back = less-one rules b at x order t in
    let key : ℕ → List ℕ = λ a. rules.key (object_at b a) in
    rw t (
      any-cons (λ y. is_less rules b y at) x xs back
          (any-less (λ y. is_less rules b y x) (λ y. is_less rules b y at) xs (λ a w h. upto order (key at) (key x) (key a) back h) s.0),
      s,
    )
placed_by rules b at x xs false order t s rest =
    rw t (any-inserted (λ y. is_less rules b y x) (is_less rules b at) at xs t s.0, rest)

-- with one behind the last that isn't greater
pub IsSorted-placed : (rules : Rules) (b : Blocks) (at : ℕ) (xs : List ℕ) → IsTotalOrder rules.compare → IsSorted rules b xs → IsSorted rules b (order_with rules b at xs)
IsSorted-placed rules b at [] order s = (refl, tt)
IsSorted-placed rules b at (x ∷ xs) order s = placed_by rules b at x xs (is_less rules b at x) order refl s (IsSorted-placed rules b at xs order s.1)

-- one that is put behind the last that isn't behind what is sought is put before the first that is greater
pub linked-placed : (side : ℕ → Ordering) (test : ℕ → Bool) (at : ℕ) (xs : List ℕ) → ((x : ℕ) → is_gt (side x) ≡ test x) → order_with_name side at xs ≡ put_before test at xs
linked-placed side test at [] e = refl
linked-placed side test at (x ∷ xs) e =
    ap (λ z. cond z (at ∷ x ∷ xs) (x ∷ order_with_name side at xs)) (e x) ∙ ap (λ ys. cond (test x) (at ∷ x ∷ xs) (x ∷ ys)) (linked-placed side test at xs e)

-- along sorted holders, where they stand to a key never falls
module _ (rules : Rules) (order : IsTotalOrder rules.compare) (b : Blocks) (key : List ℕ) where
  rises_by : (x y : ℕ) (p q : Ordering) → is_less rules b y x ≡ false → stands_to rules b key x ≡ p → stands_to rules b key y ≡ q → ordering_index p ≤ ordering_index q
  rises_by x y Less q h e f = omega arith
  rises_by x y Equal Less h e f =
      let kx = rules.key (object_at b x) in
      let ky = rules.key (object_at b y) in
      absurd (true≢false (sym (ap is_gt (order.congr kx key ky e ∙ order.antisymm key ky ∙ ap ordering_reverse f)) ∙ h))
  rises_by x y Equal Equal h e f = omega arith
  rises_by x y Equal Greater h e f = omega arith
  rises_by x y Greater Less h e f = absurd (true≢false (sym (ap is_gt e) ∙ upto order (rules.key (object_at b x)) (rules.key (object_at b y)) key h (ap is_gt f)))
  rises_by x y Greater Equal h e f = absurd (true≢false (sym (ap is_gt e) ∙ upto order (rules.key (object_at b x)) (rules.key (object_at b y)) key h (ap is_gt f)))
  rises_by x y Greater Greater h e f = omega arith

  rises_from : (low : ℕ) (xs : List ℕ) → ((y : ℕ) → contains xs y ≡ true → low ≤ ordering_index (stands_to rules b key y)) → IsSorted rules b xs → RisesFrom low (stands_to rules b key) xs
  rises_from low [] least s = tt
  rises_from low (x ∷ xs) least s = (
    least x (within-head x xs),
    rises_from (ordering_index (stands_to rules b key x)) xs
        (λ y w. rises_by x y (stands_to rules b key x) (stands_to rules b key y) (any-at (λ z. is_less rules b z x) xs y s.0 w) refl refl) s.1,
  )

  pub IsSorted-rises : (xs : List ℕ) → IsSorted rules b xs → Rises (stands_to rules b key) xs
  IsSorted-rises xs s = rises_from 0 xs (λ y w. omega arith) s
