-- Free extents in order, and their marks.
use Rattle.vc_base.proofs.Common.{◌≡◌, ℕ, suc, ◌+◌, ◌<◌, ◌≤◌, ◌^◌, ◌↔◌, Bool, true, false, not, ◌&&◌, ◌||◌, ◌==◌, if◌then◌else◌, List, [], ◌∷◌, ◌++◌, length, get_or, take, drop, sym, refl, ap, ◌∙◌, subst, arith, inl, inr, true≢false, eq-eqb, eqb-true, ne_eqb, cases_eq, drop-cons, add-one, AreDistinct, contains, list_any-append}
use Rattle.std.proofs.lemmas.Grind.{take_at_read}
use Rattle.vc_splay.specs.Tree.{names}
use Rattle.vc_splay.specs.Unique.{one_tree}
use Rattle.vc_splay.proofs.StandsLemmas.{Stands-there}
use Rattle.vc_splay.proofs.WalkLemmas.{names_fit}
use Rattle.vc_extent.specs.Tiling.{extent_of}
use Rattle.vc_gaps.specs.ButLinks.{Tiling}
use Rattle.vc_gaps.specs.GapStore.{gap_store, is_free, key_of}
use Rattle.vc_gaps.specs.GapTree.{AscendFrom, HasGapTree, HasGaps}
use Rattle.vc_gaps.proofs.GapTrees.{tree-free}
use Rattle.vc_image_check.specs.Walks.Spelled.{IsSpelled}
use Rattle.vc_image_check.specs.Marks.Mark.{HasMark, mark_at, mark_of}
use Rattle.vc_image_check.specs.Laws.Lying.{mark-free}

-- the whole ascends exactly where what is left does
pub record Ascending (key : ℕ → ℕ) (xs : List ℕ) (i low : ℕ) : Type 0 where
  pub to : AscendFrom key 0 xs → AscendFrom key low (drop i xs)
  pub from : AscendFrom key low (drop i xs) → AscendFrom key 0 xs

pub ascending-start : (key : ℕ → ℕ) (xs : List ℕ) → Ascending key xs 0 0
ascending-start key xs = record { to = λ h. h; from = λ h. h }

at-place : (xs : List ℕ) (i x : ℕ) → i < length xs → get_or xs i x ≡ x → drop i xs ≡ x ∷ drop (i + 1) xs
at-place xs i x lt e = drop-cons xs i x lt ∙ ap (λ z. z ∷ drop (suc i) xs) e ∙ ap (λ k. x ∷ drop k xs) (sym (add-one i))

pub ascending-next : (key : ℕ → ℕ) (xs : List ℕ) (i low x k : ℕ) → i < length xs → get_or xs i x ≡ x → k ≡ key x → low ≤ k → Ascending key xs i low → Ascending key xs (i + 1) (k + 1)
ascending-next key xs i low x k lt here e le a =
    let is = at-place xs i x lt here in
    record {
      to = λ h. subst (λ z. AscendFrom key (z + 1) (drop (i + 1) xs)) (sym e) (subst (AscendFrom key low) is (a.to h)).1;
      from = λ h. a.from (subst (AscendFrom key low) (sym is) (subst (λ z. low ≤ z) e le, subst (λ z. AscendFrom key (z + 1) (drop (i + 1) xs)) e h));
    }

pub ascending-not : (key : ℕ → ℕ) (xs : List ℕ) (i low x k : ℕ) → i < length xs → get_or xs i x ≡ x → k ≡ key x → k < low → Ascending key xs i low → AscendFrom key 0 xs → ⊥
ascending-not key xs i low x k lt here e far a h =
    let first = (subst (AscendFrom key low) (at-place xs i x lt here) (a.to h)).0 in
    omega (arith, first, e, far)

pub ascending-end : (key : ℕ → ℕ) (xs : List ℕ) (i low : ℕ) → drop i xs ≡ [] → Ascending key xs i low → AscendFrom key 0 xs
ascending-end key xs i low e a = a.from (subst (AscendFrom key low) (sym e) tt)

-- names in order are distinct
apart-above : (key : ℕ → ℕ) (low a : ℕ) (xs : List ℕ) → key a < low → AscendFrom key low xs → contains xs a ≡ false
apart-above key low a [] lt h = refl
apart-above key low a (x ∷ xs) lt h =
    let first = h.0 in
    rw (ne_eqb x a (λ e. let f = ap key e in omega (arith, first, f, lt))) (apart-above key (key x + 1) a xs (omega (arith, first, lt)) h.1)

pub ascending-distinct : (key : ℕ → ℕ) (low : ℕ) (xs : List ℕ) → AscendFrom key low xs → AreDistinct xs
ascending-distinct key low [] h = tt
ascending-distinct key low (x ∷ xs) h = (apart-above key (key x + 1) x xs (omega arith) h.1, ascending-distinct key (key x + 1) xs h.1)

-- a spelled list in order is that of a tree
pub spelled-free : (t : Tiling) (root : ℕ) (xs : List ℕ) → IsSpelled (gap_store t) 0 root xs → (a : ℕ) → contains xs a ≡ true → is_free t a ≡ true
spelled-free t root xs s a w = Stands-there (gap_store t) 0 s.tree a s.stands (subst (λ ys. contains ys a ≡ true) (sym s.list) w)

pub spelled-tree : (t : Tiling) (root : ℕ) (xs : List ℕ) → IsSpelled (gap_store t) 0 root xs → AscendFrom (key_of t) 0 xs → HasGapTree t root xs
spelled-tree t root xs s h = record {
  tree = s.tree;
  is_tree = record { top = s.top; stands = s.stands; distinct = subst AreDistinct (sym s.list) (ascending-distinct (key_of t) 0 xs h) };
  list = s.list;
  ascending = h;
}

pub tree-spelled : (t : Tiling) (root : ℕ) (xs : List ℕ) → HasGapTree t root xs → IsSpelled (gap_store t) 0 root xs
tree-spelled t root xs h = record { tree = h.tree; stands = h.is_tree.stands; top = h.is_tree.top; list = h.list }

pub tree-same : (t : Tiling) (root : ℕ) (xs ys : List ℕ) → is_free t 0 ≡ false → IsSpelled (gap_store t) 0 root xs → HasGapTree t root ys → ys ≡ xs
tree-same t root xs ys none s h =
    sym h.list ∙ ap names (one_tree (gap_store t) 0 0 h.tree s.tree none h.is_tree.stands s.stands (sym h.is_tree.top ∙ s.top)) ∙ s.list

pub tree-few : (t : Tiling) (root : ℕ) (xs : List ℕ) → ((n : ℕ) → is_free t n ≡ true → n < 2 ^ 32) → HasGapTree t root xs → length xs ≤ 4294967296
tree-few t root xs fits h =
    let few = names_fit (gap_store t) 0 h.tree fits h.is_tree.stands h.is_tree.distinct in
    let e = ap length h.list in
    omega (arith, few, e)

-- marks without those of some names
abbrev pub TakenOut : List (List ℕ) → List (List ℕ) → List ℕ → Type 0
TakenOut old new xs = (a : ℕ) → mark_at new a ≡ (if contains xs a then 0 else mark_at old a)

or-swap : (x y : Bool) → (x || (y || false)) ≡ (y || x)
or-swap true true = refl
or-swap true false = refl
or-swap false true = refl
or-swap false false = refl

more-taken : (xs : List ℕ) (i x a : ℕ) → i < length xs → get_or xs i x ≡ x → contains (take (i + 1) xs) a ≡ ((x == a) || contains (take i xs) a)
more-taken xs i x a lt here =
    ap (λ z. contains z a) ((take_at_read xs i x lt).1 ∙ ap (λ z. take i xs ++ z ∷ []) here) ∙ list_any-append (λ z. z == a) (take i xs) (x ∷ []) ∙ or-swap (contains (take i xs) a) (x == a)

pub taken-set : (old mid new : List (List ℕ)) (xs : List ℕ) (i x : ℕ) → i < length xs → get_or xs i x ≡ x → TakenOut old mid (take i xs)
    → ((b : ℕ) → mark_at new b ≡ (if b == x then 0 else mark_at mid b)) → TakenOut old new (take (i + 1) xs)
taken-set old mid new xs i x lt here t s = λ a.
    let more = more-taken xs i x a lt here in
    elim (cases_eq x a) as (λ _. mark_at new a ≡ (if contains (take (i + 1) xs) a then 0 else mark_at old a)) [
      | inl same ↦ s a ∙ rw (eq-eqb a x (sym same), more, eq-eqb x a same) refl
      | inr other ↦ s a ∙ rw (ne_eqb a x (λ e. other (sym e)), more, ne_eqb x a other) (t a)
    ]

pub taken-none : (old mid : List (List ℕ)) (xs : List ℕ) (i x : ℕ) → i < length xs → get_or xs i x ≡ x → TakenOut old mid (take i xs)
    → mark_at mid x ≡ 0 → TakenOut old mid (take (i + 1) xs)
taken-none old mid xs i x lt here t z = λ a.
    let more = more-taken xs i x a lt here in
    elim (cases_eq x a) as (λ _. mark_at mid a ≡ (if contains (take (i + 1) xs) a then 0 else mark_at old a)) [
      | inl same ↦ ap (mark_at mid) (sym same) ∙ z ∙ rw (more, eq-eqb x a same) refl
      | inr other ↦ rw (more, ne_eqb x a other) (t a)
    ]

and-true : (x : Bool) → (x && true) ≡ x
and-true true = refl
and-true false = refl

-- the tree names each free extent exactly where no mark of one is left
module _ (t : Tiling) (root : ℕ) (old new : List (List ℕ)) (xs : List ℕ) (marked : (a : ℕ) → mark_at old a ≡ mark_of (extent_of t a)) (tree : HasGapTree t root xs) (taken : TakenOut old new xs) where
  free-is : (a : ℕ) → (mark_at old a == 1) ≡ is_free t a
  free-is a = ap (λ z. z == 1) (marked a) ∙ mark-free (extent_of t a)

  apart-same : (a : ℕ) → contains xs a ≡ false → mark_at new a ≡ mark_at old a
  apart-same a e = taken a ∙ rw e refl

  pub exact-from : ((a : ℕ) → mark_at new a ≡ 1 → ⊥) → HasGaps t root []
  exact-from none = record { names = xs; tree = tree; exact = λ a. by a (contains xs a) refl (is_free t a) refl }
    where
      by : (a : ℕ) (c : Bool) → contains xs a ≡ c → (f : Bool) → is_free t a ≡ f → contains xs a ≡ (is_free t a && true)
      by a true e true g = e ∙ sym (rw g refl)
      by a true e false g = absurd (true≢false (sym (tree-free t root xs tree a e) ∙ g))
      by a false e true g = absurd (none a (apart-same a e ∙ eqb-true (mark_at old a) 1 (free-is a ∙ g)))
      by a false e false g = e ∙ sym (rw g refl)

  pub exact-not : is_free t 0 ≡ false → HasMark new 1 → HasGaps t root [] → ⊥
  exact-not none h g = by (contains xs h.address) refl
    where
      by : (c : Bool) → contains xs h.address ≡ c → ⊥
      by true e =
          let gone : mark_at new h.address ≡ 0 = taken h.address ∙ rw e refl in
          let is = h.is in
          omega (arith, gone, is)
      by false e =
          let free : is_free t h.address ≡ true = sym (free-is h.address) ∙ eq-eqb (mark_at old h.address) 1 (sym (apart-same h.address e) ∙ h.is) in
          let all : contains g.names h.address ≡ true = g.exact h.address ∙ rw free refl in
          let same = tree-same t root xs g.names none (tree-spelled t root xs tree) g.tree in
          true≢false (sym (subst (λ ys. contains ys h.address ≡ true) same all) ∙ e)

  pub marks-left : is_free t 0 ≡ false → HasGaps t root [] → (a : ℕ) → mark_at new a ≡ (if mark_at old a == 1 then 0 else mark_at old a)
  marks-left none g a = by (contains xs a) refl
    where
      same : g.names ≡ xs
      same = tree-same t root xs g.names none (tree-spelled t root xs tree) g.tree

      by : (c : Bool) → contains xs a ≡ c → mark_at new a ≡ (if mark_at old a == 1 then 0 else mark_at old a)
      by true e =
          let is : (mark_at old a == 1) ≡ true = free-is a ∙ tree-free t root xs tree a e in
          rw is (taken a ∙ rw e refl)
      by false e =
          let f : (is_free t a && true) ≡ false = sym (g.exact a) ∙ subst (λ ys. contains ys a ≡ false) (sym same) e in
          let is : (mark_at old a == 1) ≡ false = free-is a ∙ sym (and-true (is_free t a)) ∙ f in
          rw is (taken a ∙ rw e refl)

  pub exact-where : is_free t 0 ≡ false → (has : Bool) → (has ≡ true → HasMark new 1) → (has ≡ false → (a : ℕ) → mark_at new a ≡ 1 → ⊥) → (not has ≡ true) ↔ HasGaps t root []
  exact-where none true some never = (λ h. absurd (true≢false (sym h)), λ g. absurd (exact-not none (some refl) g))
  exact-where none false some never = (λ _. exact-from (never refl), λ _. refl)
