-- Lists of names along which addresses ascend: what is found in one, and how one changes.
use Rattle.vc_base.proofs.Common.{◌≡◌, ℕ, ◌+◌, ◌<◌, ◌≤◌, Bool, true, false, if◌then◌else◌, ◌≢◌, ⊎_elim, List, [], ◌∷◌, ◌++◌, length, ◌==◌, Option, Some, None, find, nat_cmp, is_eq, is_gt, Ordering, subst, cases_Bool, eq-eqb, ne_eqb, eqb-true, AreDistinct, inl, inr, sym, ap, refl, ◌∙◌, arith, nat_tests, eqb_tells, ordering_index, contains, without, true≢false}
use Rattle.vc_base.proofs.Lists.{find-passes}
use Rattle.vc_base.proofs.Members.{within-cases, within-head, within-tail}
use Rattle.vc_splay.specs.Guide.{RisesFrom, order_with_name}
use Rattle.vc_addrmap.specs.Map.{AscendFrom}

-- equal is what is no less and no greater
pub is_eq-cmp : (a b : ℕ) → is_eq (nat_cmp a b) ≡ (a == b)
is_eq-cmp a b = grind (arith, nat_tests)

index-rises : (a b o : ℕ) → a ≤ b → ordering_index (nat_cmp a o) ≤ ordering_index (nat_cmp b o)
index-rises a b o h = grind (arith, nat_tests)

greater : (a b : ℕ) → is_gt (nat_cmp a b) ≡ true → b + 1 ≤ a
greater a b t = grind (arith, nat_tests)

lesser : (a b : ℕ) → a ≢ b → is_gt (nat_cmp a b) ≡ false → a + 1 ≤ b
lesser a b ne t = grind (arith, nat_tests)

-- what a search finds is in the list
pub found-in : (p : ℕ → Bool) (ns : List ℕ) (n : ℕ) → find p ns ≡ Some n → contains ns n ≡ true
found-in p [] n e = absurd (cc)
found-in p (x ∷ ns) n e =
    ⊎_elim
    (λ (t : p x ≡ true). let f : Some x ≡ Some n = rw t at e in let same : x ≡ n = cc in subst (λ z. contains (x ∷ ns) z ≡ true) same (within-head x ns))
    (λ (t : p x ≡ false). within-tail x ns n (found-in p ns n (rw t at e)))
    (cases_Bool (p x))

-- how long a list is without one of its names, and that this is gone
pub length-without : (n : ℕ) (ns : List ℕ) → contains ns n ≡ true → length (without n ns) + 1 ≡ length ns
length-without n [] w = absurd (true≢false (sym w))
length-without n (x ∷ ns) w = elim (eqb_tells x n) as (λ _. length (without n (x ∷ ns)) + 1 ≡ length (x ∷ ns)) [
  | inl same ↦ rw same.0 (omega arith)
  | inr apart ↦ rw apart.0 (let more = length-without n ns (rw apart.0 at w) in omega arith)
]

pub without-gone : (n : ℕ) (ns : List ℕ) → AreDistinct ns → contains (without n ns) n ≡ false
without-gone n [] d = refl
without-gone n (x ∷ ns) d = elim (eqb_tells x n) as (λ _. contains (without n (x ∷ ns)) n ≡ false) [
  | inl same ↦ rw same.0 (subst (λ z. contains ns z ≡ false) same.1 d.0)
  | inr apart ↦ rw apart.0 (rw apart.0 (without-gone n ns d.1))
]

pub within-without : (n m : ℕ) (ns : List ℕ) → contains (without n ns) m ≡ true → contains ns m ≡ true
within-without n m [] w = w
within-without n m (x ∷ ns) w = elim (eqb_tells x n) as (λ _. contains (x ∷ ns) m ≡ true) [
  | inl same ↦ within-tail x ns m (rw same.0 at w)
  | inr apart ↦ ⊎_elim (λ (e : x ≡ m). subst (λ z. contains (x ∷ ns) z ≡ true) e (within-head x ns)) (λ (k : contains (without n ns) m ≡ true). within-tail x ns m (within-without n m ns k)) (within-cases x (without n ns) m (rw apart.0 at w))
]

-- one that is put has one more
pub length-put : (side : ℕ → Ordering) (n : ℕ) (ns : List ℕ) → length (order_with_name side n ns) ≡ length ns + 1
length-put side n [] = refl
length-put side n (x ∷ ns) =
    ⊎_elim
    (λ (t : is_gt (side x) ≡ true). rw t (omega arith))
    (λ (t : is_gt (side x) ≡ false). rw t (let more = length-put side n ns in omega arith))
    (cases_Bool (is_gt (side x)))

module _ (key : ℕ → ℕ) where
  -- the name of an address
  abbrev pub at : List ℕ → ℕ → Option ℕ
  at ns q = find (λ n. key n == q) ns

  -- where names stand to an address never falls
  pub ascend-rises : (o low from : ℕ) (ns : List ℕ) → low ≤ ordering_index (nat_cmp from o) → AscendFrom key from ns → RisesFrom low (λ n. nat_cmp (key n) o) ns
  ascend-rises o low from [] l h = tt
  ascend-rises o low from (x ∷ ns) l h = (
    omega (arith, index-rises from (key x) o h.0),
    ascend-rises o (ordering_index (nat_cmp (key x) o)) (key x + 1) ns (index-rises (key x) (key x + 1) o (omega arith)) h.1,
  )

  pub ascend-more : (low from : ℕ) (ns : List ℕ) → low ≤ from → AscendFrom key from ns → AscendFrom key low ns
  ascend-more low from [] le h = tt
  ascend-more low from (x ∷ ns) le h = (omega (arith, h.0), h.1)

  -- no address below the least is found
  pub none-below : (low q : ℕ) (ns : List ℕ) → AscendFrom key low ns → q < low → at ns q ≡ None
  none-below low q [] h lt = refl
  none-below low q (x ∷ ns) h lt = grind (arith, nat_tests, h.0, none-below (key x + 1) q ns h.1 (omega (arith, h.0)))

  -- without the one that is found at an address
  pub ascend-without : (low n : ℕ) (ns : List ℕ) → AscendFrom key low ns → AscendFrom key low (without n ns)
  ascend-without low n [] h = tt
  ascend-without low n (x ∷ ns) h = elim (eqb_tells x n) as (λ _. AscendFrom key low (without n (x ∷ ns))) [
    | inl same ↦ rw same.0 (ascend-more low (key x + 1) ns (omega (arith, h.0)) h.1)
    | inr apart ↦ rw apart.0 (h.0, ascend-without (key x + 1) n ns h.1)
  ]

  -- with one whose address none has, behind the last one of a lesser address
  pub ascend-put : (low n : ℕ) (ns : List ℕ) → AscendFrom key low ns → low ≤ key n → at ns (key n) ≡ None → AscendFrom key low (order_with_name (λ m. nat_cmp (key m) (key n)) n ns)
  ascend-put low n [] h l none = (l, tt)
  ascend-put low n (x ∷ ns) h l none =
      elim (eqb_tells (key x) (key n)) as (λ _. AscendFrom key low (order_with_name (λ m. nat_cmp (key m) (key n)) n (x ∷ ns))) [
        | inl same ↦ let f : Some x ≡ None = rw same.0 at none in absurd (cc)
        | inr apart ↦
            ⊎_elim
            (λ (t : is_gt (nat_cmp (key x) (key n)) ≡ true). rw t (l, (greater (key x) (key n) t, h.1)))
            (λ (t : is_gt (nat_cmp (key x) (key n)) ≡ false). rw t (h.0, ascend-put (key x + 1) n ns h.1 (lesser (key x) (key n) apart.1 t) (rw apart.0 at none)))
            (cases_Bool (is_gt (nat_cmp (key x) (key n))))
      ]

  pub at-put : (n : ℕ) (ns : List ℕ) (q : ℕ) → at ns (key n) ≡ None → at (order_with_name (λ m. nat_cmp (key m) (key n)) n ns) q ≡ (if key n == q then Some n else at ns q)
  at-put n [] q none = refl
  at-put n (x ∷ ns) q none = grind (arith, nat_tests, at-put n ns q)

  -- the one of an address is gone without it
  pub at-without : (low n a q : ℕ) (ns : List ℕ) → AscendFrom key low ns → at ns a ≡ Some n → at (without n ns) q ≡ (if a == q then None else at ns q)
  at-without low n a q [] h f = absurd (cc)
  at-without low n a q (x ∷ ns) h f = elim (eqb_tells (key x) a) as (λ _. at (without n (x ∷ ns)) q ≡ (if a == q then None else at (x ∷ ns) q)) [
    | inl same ↦
        let g : Some x ≡ Some n = rw same.0 at f in
        let e : x ≡ n = cc in
        rw (eq-eqb x n e) (grind (arith, nat_tests, same.1, none-below (key x + 1) q ns h.1))
    | inr apart ↦
        let g : at ns a ≡ Some n = rw apart.0 at f in
        let is : key n ≡ a = eqb-true (key n) a (find-passes (λ m. key m == a) ns n g) in
        rw (ne_eqb x n (λ e. apart.1 (ap key e ∙ is))) (grind (arith, nat_tests, apart.1, at-without (key x + 1) n a q ns h.1 g))
  ]

  -- lists on both sides of a name: its address lies between theirs
  ascend-least : (low n : ℕ) (ns ms : List ℕ) → AscendFrom key low (ns ++ n ∷ ms) → low ≤ key n
  ascend-least low n [] ms h = h.0
  ascend-least low n (x ∷ ns) ms h = omega (arith, h.0, ascend-least (key x + 1) n ns ms h.1)

  pub ascend-front : (low n : ℕ) (ns ms : List ℕ) → AscendFrom key low (ns ++ n ∷ ms) → AscendFrom key low ns
  ascend-front low n [] ms h = tt
  ascend-front low n (x ∷ ns) ms h = (h.0, ascend-front (key x + 1) n ns ms h.1)

  pub ascend-behind : (low n : ℕ) (ns ms : List ℕ) → AscendFrom key low (ns ++ n ∷ ms) → AscendFrom key (key n + 1) ms
  ascend-behind low n [] ms h = h.1
  ascend-behind low n (x ∷ ns) ms h = ascend-behind (key x + 1) n ns ms h.1

  -- an address is found before the name, at it, or behind it, as it is less, the same, or greater
  pub at-before : (low n a : ℕ) (ns ms : List ℕ) → AscendFrom key low (ns ++ n ∷ ms) → a < key n → at (ns ++ n ∷ ms) a ≡ at ns a
  at-before low n a [] ms h lt = grind (arith, nat_tests, none-below (key n + 1) a ms h.1 (omega arith))
  at-before low n a (x ∷ ns) ms h lt = ap (λ z. if key x == a then Some x else z) (at-before (key x + 1) n a ns ms h.1 lt)

  pub at-here : (low n a : ℕ) (ns ms : List ℕ) → AscendFrom key low (ns ++ n ∷ ms) → key n ≡ a → at (ns ++ n ∷ ms) a ≡ Some n
  at-here low n a [] ms h e = rw (eq-eqb (key n) a e) refl
  at-here low n a (x ∷ ns) ms h e =
      let least = ascend-least (key x + 1) n ns ms h.1 in
      rw (ne_eqb (key x) a (λ same. omega (arith, least, e, same))) (at-here (key x + 1) n a ns ms h.1 e)

  pub at-behind : (low n a : ℕ) (ns ms : List ℕ) → AscendFrom key low (ns ++ n ∷ ms) → key n < a → at (ns ++ n ∷ ms) a ≡ at ms a
  at-behind low n a [] ms h lt = rw (ne_eqb (key n) a (λ same. omega (arith, lt, same))) refl
  at-behind low n a (x ∷ ns) ms h lt =
      let least = ascend-least (key x + 1) n ns ms h.1 in
      rw (ne_eqb (key x) a (λ same. omega (arith, least, lt, same))) (at-behind (key x + 1) n a ns ms h.1 lt)
