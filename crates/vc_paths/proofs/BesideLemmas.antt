-- What stands beside an object in a sorted list: its neighbour among those that match it, or one beyond them.
use Rattle.vc_base.proofs.Common.{◌≡◌, ℕ, Bool, true, false, not, ◌||◌, List, [], ◌∷◌, Some, None, filter, Option, sym, refl, ap, ◌∙◌, inl, inr, true≢false, cases_Bool, AllByRecursion, list_any, option_or}
use Rattle.vc_base.proofs.Quantifiers.{all-weaken}
use Rattle.vc_dtdisc.specs.Rules.{Rules}
use Rattle.vc_dtdisc.specs.Finding.{before_first, before_first_from, behind_last, first_of, last_from, last_of}
use Rattle.vc_paths.specs.Ordered.{is_before, is_behind, is_level}
use Rattle.vc_paths.specs.Visible.{Seen}
use Rattle.vc_paths.proofs.OrderLemmas.{AreOrdered, filter_none, up}
use Rattle.vc_paths.proofs.SortedLemmas.{AreSorted, IsUpto}

-- what passes the test matches the object
abbrev pub AreLevel : Rules → Seen ℕ → (Seen ℕ → Bool) → List (Seen ℕ) → Type 0
AreLevel rules x test ys = AllByRecursion (λ y. test y ≡ true → is_level rules x y ≡ true) ys

-- a test fails where what it says fails
pub fails : (a b : Bool) → (a ≡ true → b ≡ true) → b ≡ false → a ≡ false
fails true b f h = absurd (true≢false (sym (f refl) ∙ h))
fails false b f h = refl

-- what is greater or less doesn't match
pub behind_apart : (rules : Rules) → AreOrdered rules → (x y : Seen ℕ) → is_behind rules (Some x) y ≡ true → is_level rules x y ≡ false
behind_apart rules laws x y h = fails (is_level rules x y) (not (is_behind rules (Some x) y)) (λ m. ap not (laws.left y.bytes x.bytes m)) (ap not h)

pub before_apart : (rules : Rules) → AreOrdered rules → (x y : Seen ℕ) → is_before rules (Some x) y ≡ true → is_level rules x y ≡ false
before_apart rules laws x y h = fails (is_level rules x y) (not (is_before rules (Some x) y)) (λ m. ap not (laws.right y.bytes x.bytes m)) (ap not h)

-- behind one that is greater all are
pub all_behind_one : (rules : Rules) → AreOrdered rules → (x y : Seen ℕ) (ys : List (Seen ℕ)) → is_behind rules (Some x) y ≡ true → AreSorted rules (y ∷ ys) → AllByRecursion (λ z. is_behind rules (Some x) z ≡ true) (y ∷ ys)
all_behind_one rules laws x y ys t s = (t, all-weaken (IsUpto rules y) (λ z. is_behind rules (Some x) z ≡ true) ys (λ z h. up rules y.bytes z.bytes x.bytes laws t h) s.0)

-- and none of them passes the test
both_all : (rules : Rules) → AreOrdered rules → (x : Seen ℕ) (test : Seen ℕ → Bool) (ys : List (Seen ℕ)) → AreLevel rules x test ys → AllByRecursion (λ z. is_behind rules (Some x) z ≡ true) ys → list_any test ys ≡ false
both_all rules laws x test [] l h = refl
both_all rules laws x test (y ∷ ys) l h = rw (fails (test y) (is_level rules x y) l.0 (behind_apart rules laws x y h.0)) (both_all rules laws x test ys l.1 h.1)

-- a test sees the same among those that match
pub any_level : (rules : Rules) (x : Seen ℕ) (test : Seen ℕ → Bool) (ys : List (Seen ℕ)) → AreLevel rules x test ys → list_any test (filter (is_level rules x) ys) ≡ list_any test ys
any_level rules x test [] l = refl
any_level rules x test (y ∷ ys) l = elim (cases_Bool (is_level rules x y)) as (λ _. list_any test (filter (is_level rules x) (y ∷ ys)) ≡ list_any test (y ∷ ys)) [
  | inl t ↦ rw t (ap (λ z. test y || z) (any_level rules x test ys l.1))
  | inr t ↦ rw (t, fails (test y) (is_level rules x y) l.0 t) (any_level rules x test ys l.1)
]

-- the first of those that aren't less is one that matches, or else one that is greater
first_beside : (rules : Rules) → AreOrdered rules → (x : Seen ℕ) (ys : List (Seen ℕ)) → AreSorted rules ys → AllByRecursion (IsUpto rules x) ys → first_of ys ≡ option_or (first_of (filter (is_level rules x) ys)) (first_of (filter (is_behind rules (Some x)) ys))
first_beside rules laws x [] s h = refl
first_beside rules laws x (y ∷ ys) s h = elim (cases_Bool (is_behind rules (Some x) y)) as (λ _. Some y ≡ option_or (first_of (filter (is_level rules x) (y ∷ ys))) (first_of (filter (is_behind rules (Some x)) (y ∷ ys)))) [
  | inl t ↦
      let none = filter_none (is_level rules x) (y ∷ ys) (all-weaken (λ z. is_behind rules (Some x) z ≡ true) (λ z. is_level rules x z ≡ false) (y ∷ ys) (λ z g. behind_apart rules laws x z g) (all_behind_one rules laws x y ys t s)) in
      rw (none, t) refl
  | inr t ↦
      let m : is_level rules x y ≡ true = laws.tied y.bytes x.bytes t h.0 in
      rw m refl
]

-- behind the last that passes a test which only objects that match pass
pub behind_beside : (rules : Rules) → AreOrdered rules → (x : Seen ℕ) (test : Seen ℕ → Bool) (ys : List (Seen ℕ)) → AreSorted rules ys → AreLevel rules x test ys → list_any test ys ≡ true → behind_last test ys ≡ option_or (behind_last test (filter (is_level rules x) ys)) (first_of (filter (is_behind rules (Some x)) ys))
behind_beside rules laws x test [] s l h = absurd (true≢false (sym h))
behind_beside rules laws x test (y ∷ ys) s l h =
    let rest = behind_beside rules laws x test ys s.1 l.1 in
    elim (cases_Bool (is_behind rules (Some x) y)) as (λ _. behind_last test (y ∷ ys) ≡ option_or (behind_last test (filter (is_level rules x) (y ∷ ys))) (first_of (filter (is_behind rules (Some x)) (y ∷ ys)))) [
      | inl t ↦ absurd (true≢false (sym h ∙ both_all rules laws x test (y ∷ ys) l (all_behind_one rules laws x y ys t s)))
      | inr t ↦ elim (cases_Bool (is_before rules (Some x) y)) as (λ _. behind_last test (y ∷ ys) ≡ option_or (behind_last test (filter (is_level rules x) (y ∷ ys))) (first_of (filter (is_behind rules (Some x)) (y ∷ ys)))) [
        | inl w ↦
            let apart = before_apart rules laws x y w in
            let fail = fails (test y) (is_level rules x y) l.0 apart in
            let more : list_any test ys ≡ true = rw fail at h in
            rw (fail, apart, t) (rest more)
        | inr w ↦
            let m : is_level rules x y ≡ true = laws.tied y.bytes x.bytes t w in
            let same = any_level rules x test ys l.1 in
            elim (cases_Bool (test y)) as (λ _. behind_last test (y ∷ ys) ≡ option_or (behind_last test (filter (is_level rules x) (y ∷ ys))) (first_of (filter (is_behind rules (Some x)) (y ∷ ys)))) [
              | inl v ↦ elim (cases_Bool (list_any test ys)) as (λ _. behind_last test (y ∷ ys) ≡ option_or (behind_last test (filter (is_level rules x) (y ∷ ys))) (first_of (filter (is_behind rules (Some x)) (y ∷ ys)))) [
                | inl u ↦ rw (m, t, same, v, u) (rest u)
                | inr u ↦ rw (m, t, same, v, u) (first_beside rules laws x ys s.1 (all-weaken (IsUpto rules y) (IsUpto rules x) ys (λ z g. laws.upto x.bytes y.bytes z.bytes w g) s.0))
              ]
              | inr v ↦ rw (m, t, v) (rest (rw v at h))
            ]
      ]
    ]

-- before the first that passes, among those that aren't less
before_level : (rules : Rules) → AreOrdered rules → (x : Seen ℕ) (test : Seen ℕ → Bool) (before : Option (Seen ℕ)) (ys : List (Seen ℕ)) → AreSorted rules ys → AreLevel rules x test ys → AllByRecursion (IsUpto rules x) ys → list_any test ys ≡ true → before_first_from before test ys ≡ before_first_from before test (filter (is_level rules x) ys)
before_level rules laws x test before [] s l g h = absurd (true≢false (sym h))
before_level rules laws x test before (y ∷ ys) s l g h = elim (cases_Bool (is_behind rules (Some x) y)) as (λ _. before_first_from before test (y ∷ ys) ≡ before_first_from before test (filter (is_level rules x) (y ∷ ys))) [
  | inl t ↦ absurd (true≢false (sym h ∙ both_all rules laws x test (y ∷ ys) l (all_behind_one rules laws x y ys t s)))
  | inr t ↦
      let m : is_level rules x y ≡ true = laws.tied y.bytes x.bytes t g.0 in
      elim (cases_Bool (test y)) as (λ _. before_first_from before test (y ∷ ys) ≡ before_first_from before test (filter (is_level rules x) (y ∷ ys))) [
        | inl v ↦ rw (m, v) refl
        | inr v ↦ rw (m, v) (before_level rules laws x test (Some y) ys s.1 l.1 g.1 (rw v at h))
      ]
]

some_before : (test : Seen ℕ → Bool) (x : Seen ℕ) (other : Option (Seen ℕ)) (ys : List (Seen ℕ)) → list_any test ys ≡ true → option_or (before_first_from (Some x) test ys) other ≡ before_first_from (Some x) test ys
some_before test x other [] h = absurd (true≢false (sym h))
some_before test x other (y ∷ ys) h = elim (cases_Bool (test y)) as (λ _. option_or (before_first_from (Some x) test (y ∷ ys)) other ≡ before_first_from (Some x) test (y ∷ ys)) [
  | inl v ↦ rw v refl
  | inr v ↦ rw v (some_before test y other ys (rw v at h))
]

before_from : (rules : Rules) → AreOrdered rules → (x : Seen ℕ) (test : Seen ℕ → Bool) (before : Option (Seen ℕ)) (ys : List (Seen ℕ)) → AreSorted rules ys → AreLevel rules x test ys → list_any test ys ≡ true → before_first_from before test ys ≡ option_or (before_first_from None test (filter (is_level rules x) ys)) (last_from before (filter (is_before rules (Some x)) ys))
before_from rules laws x test before [] s l h = absurd (true≢false (sym h))
before_from rules laws x test before (y ∷ ys) s l h = elim (cases_Bool (is_behind rules (Some x) y)) as (λ _. before_first_from before test (y ∷ ys) ≡ option_or (before_first_from None test (filter (is_level rules x) (y ∷ ys))) (last_from before (filter (is_before rules (Some x)) (y ∷ ys)))) [
  | inl t ↦ absurd (true≢false (sym h ∙ both_all rules laws x test (y ∷ ys) l (all_behind_one rules laws x y ys t s)))
  | inr t ↦ elim (cases_Bool (is_before rules (Some x) y)) as (λ _. before_first_from before test (y ∷ ys) ≡ option_or (before_first_from None test (filter (is_level rules x) (y ∷ ys))) (last_from before (filter (is_before rules (Some x)) (y ∷ ys)))) [
    | inl w ↦
        let fail = fails (test y) (is_level rules x y) l.0 (before_apart rules laws x y w) in
        rw (fail, (before_apart rules laws x y w), w) (before_from rules laws x test (Some y) ys s.1 l.1 (rw fail at h))
    | inr w ↦
        let m : is_level rules x y ≡ true = laws.tied y.bytes x.bytes t w in
        let upper = all-weaken (IsUpto rules y) (IsUpto rules x) ys (λ z g. laws.upto x.bytes y.bytes z.bytes w g) s.0 in
        let none = filter_none (is_before rules (Some x)) ys upper in
        elim (cases_Bool (test y)) as (λ _. before_first_from before test (y ∷ ys) ≡ option_or (before_first_from None test (filter (is_level rules x) (y ∷ ys))) (last_from before (filter (is_before rules (Some x)) (y ∷ ys)))) [
          | inl v ↦ rw (m, w, v, none) refl
          | inr v ↦
              let more : list_any test ys ≡ true = rw v at h in
              rw (m, w, v, none) (before_level rules laws x test (Some y) ys s.1 l.1 upper more ∙ sym (some_before test y before (filter (is_level rules x) ys) (any_level rules x test ys l.1 ∙ more)))
        ]
  ]
]

-- before the first that passes a test which only objects that match pass
pub before_beside : (rules : Rules) → AreOrdered rules → (x : Seen ℕ) (test : Seen ℕ → Bool) (ys : List (Seen ℕ)) → AreSorted rules ys → AreLevel rules x test ys → list_any test ys ≡ true → before_first test ys ≡ option_or (before_first test (filter (is_level rules x) ys)) (last_of (filter (is_before rules (Some x)) ys))
before_beside rules laws x test ys s l h = before_from rules laws x test None ys s l h
