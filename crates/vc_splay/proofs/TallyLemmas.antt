-- How often a name stands in a tree, and round a part of one.
use Rattle.vc_base.proofs.Common.{◌≡◌, ℕ, ◌+◌, ◌≤◌, Bool, true, false, ◌≢◌, List, [], ◌∷◌, ◌++◌, sym, refl, ap, inl, inr, true≢false, arith, eq-eqb, ne_eqb, eqb_tells, AreDistinct, contains}
use Rattle.vc_splay.specs.Tree.{Tree, Leaf, Node, names, name_of}
use Rattle.vc_splay.specs.Moves.{Context, Top, Under, count, joined_tree, one, plug, tally, tally_round}

pub one-same : (n m : ℕ) → n ≡ m → one n m ≡ 1
unfolding one
one-same n m e = rw (eq-eqb n m e) refl

pub one-other : (n m : ℕ) → n ≢ m → one n m ≡ 0
unfolding one
one-other n m ne = rw (ne_eqb n m ne) refl

pub count-append : (n : ℕ) (xs ys : List ℕ) → count n (xs ++ ys) ≡ count n xs + count n ys
count-append n [] ys = omega arith
count-append n (x ∷ xs) ys = let h = count-append n xs ys in omega arith

pub tally-leaf : (n : ℕ) → tally n Leaf ≡ 0
unfolding tally
tally-leaf n = refl

pub tally-node : (n m : ℕ) (l r : Tree) → tally n (Node l m r) ≡ tally n l + (one n m + tally n r)
unfolding tally
tally-node n m l r = count-append n (names l) (m ∷ names r)

pub tally-joined : (n m : ℕ) (d : Bool) (t u : Tree) → tally n (joined_tree d t m u) ≡ tally n t + (one n m + tally n u)
tally-joined n m true t u = tally-node n m t u
tally-joined n m false t u = let h = tally-node n m u t in omega arith

pub tally-root : (t : Tree) → name_of t ≢ 0 → 1 ≤ tally (name_of t) t
tally-root Leaf some = absurd (some refl)
tally-root (Node l m r) some = let h = tally-node m m l r in let e = one-same m m refl in omega arith

pub tally-plug : (n : ℕ) (c : Context) (t : Tree) → tally n (plug c t) ≡ tally n t + tally_round n c
tally-plug n Top t = omega arith
tally-plug n (Under d m sibling c) t = let h = tally-plug n c (joined_tree d t m sibling) in let e = tally-joined n m d t sibling in omega arith

-- names in the same order stand as often
pub tally-list : (n : ℕ) (t u : Tree) → names t ≡ names u → tally n t ≡ tally n u
unfolding tally
tally-list n t u e = ap (count n) e

-- a list holds a name that it counts
pub count-apart : (n : ℕ) (xs : List ℕ) → contains xs n ≡ false → count n xs ≡ 0
count-apart n [] h = refl
count-apart n (x ∷ xs) h = elim (eqb_tells x n) as (λ _. one n x + count n xs ≡ 0) [
  | inl same ↦ absurd (true≢false (rw same.0 at h))
  | inr apart ↦ let e = one-other n x (λ z. apart.1 (sym z)) in let k = count-apart n xs (rw apart.0 at h) in omega arith
]

pub count-within : (n : ℕ) (xs : List ℕ) → contains xs n ≡ true → 1 ≤ count n xs
count-within n [] h = absurd (true≢false (sym h))
count-within n (x ∷ xs) h = elim (eqb_tells x n) as (λ _. 1 ≤ one n x + count n xs) [
  | inl same ↦ let e = one-same n x (sym same.1) in omega arith
  | inr apart ↦ let k = count-within n xs (rw apart.0 at h) in omega arith
]

pub apart-count : (n : ℕ) (xs : List ℕ) → count n xs ≡ 0 → contains xs n ≡ false
apart-count n xs h = by (contains xs n) refl
  where
    by : (t : Bool) → contains xs n ≡ t → contains xs n ≡ false
    by true e = let k = count-within n xs e in absurd (omega arith)
    by false e = e

pub within-count : (n : ℕ) (xs : List ℕ) → 1 ≤ count n xs → contains xs n ≡ true
within-count n xs h = by (contains xs n) refl
  where
    by : (t : Bool) → contains xs n ≡ t → contains xs n ≡ true
    by true e = e
    by false e = let k = count-apart n xs e in absurd (omega arith)

pub distinct-count : (n : ℕ) (xs : List ℕ) → AreDistinct xs → count n xs ≤ 1
distinct-count n [] d = omega arith
distinct-count n (x ∷ xs) d = elim (eqb_tells x n) as (λ _. one n x + count n xs ≤ 1) [
  | inl same ↦ let e = one-same n x (sym same.1) in let k = count-apart n xs (rw same.1 at d.0) in omega arith
  | inr apart ↦ let e = one-other n x (λ z. apart.1 (sym z)) in let k = distinct-count n xs d.1 in omega arith
]

pub count-distinct : (xs : List ℕ) → ((n : ℕ) → count n xs ≤ 1) → AreDistinct xs
count-distinct [] h = tt
count-distinct (x ∷ xs) h =
    let e = one-same x x refl in
    let k = h x in
    (apart-count x xs (omega arith), count-distinct xs (λ n. let j = h n in omega arith))
