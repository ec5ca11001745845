-- A tree has at most 2^32 names, since each is there and none stands twice.
use Rattle.vc_base.proofs.Common.{◌≡◌, ℕ, zero, suc, ◌+◌, ◌^◌, ◌<◌, ◌≤◌, Bool, true, false, eqb, List, [], ◌∷◌, length, sym, refl, ap, ◌∙◌, inl, inr, true≢false, arith, length-append, ne_eqb, eqb_tells, cases_lt, length-le_from_distinct_below, AllByRecursion, IsDistinct, list_any}
use Rattle.vc_splay.specs.Tree.{Tree, names}
use Rattle.vc_splay.specs.Store.{Store}
use Rattle.vc_splay.specs.Walks.{run}
use Rattle.vc_splay.specs.Moves.{Context, Top, Under, IsRising, IsRound, depth, joined_tree, name_at, count, one, plug, tally, tally_round}
use Rattle.vc_splay.proofs.StandsLemmas.{some_held}
use Rattle.vc_splay.proofs.StepLemmas.{IsInHand-held, Stands-held}
use Rattle.vc_splay.proofs.TallyLemmas.{one-other, one-same, tally-plug}

-- names that each stand once
apart_all : (x : ℕ) (xs : List ℕ) → count x xs ≡ 0 → AllByRecursion (λ y. eqb x y ≡ false) xs
apart_all x [] h = tt
apart_all x (y ∷ ys) h = (ne_eqb x y (λ e. let k = one-same x y e in absurd (omega arith)), apart_all x ys (omega arith))

distinct_all : (xs : List ℕ) → ((n : ℕ) → count n xs ≤ 1) → IsDistinct eqb xs
unfolding IsDistinct
distinct_all [] d = tt
distinct_all (x ∷ xs) d = (apart_all x xs (let k = d x in let e = one-same x x refl in omega arith), distinct_all xs (λ n. let k = d n in omega arith))

found_there : (xs : List ℕ) (q : ℕ) → list_any (eqb q) xs ≡ true → 1 ≤ count q xs
found_there [] q h = absurd (true≢false (sym h))
found_there (x ∷ xs) q h = elim (eqb_tells q x) as (λ _. 1 ≤ one q x + count q xs) [
  | inl same ↦ let e = one-same q x same.1 in omega arith
  | inr apart ↦ let k = found_there xs q (rw apart.0 at h) in omega arith
]

pub few : (xs : List ℕ) → ((n : ℕ) → count n xs ≤ 1) → ((n : ℕ) → 1 ≤ count n xs → n < 2 ^ 32) → length xs ≤ 2 ^ 32
few xs once fits = length-le_from_distinct_below xs (2 ^ 32) (distinct_all xs once) (λ q h. fits q (found_there xs q h))

-- what is above a part is there
IsRound-held : (s : Store) (c : Context) (below n : ℕ) → IsRound s c below → 1 ≤ tally_round n c → s.has n ≡ true
IsRound-held s Top below n r h = absurd (omega arith)
IsRound-held s (Under d m sibling c) below n r h = elim (eqb_tells n m) as (λ _. s.has n ≡ true) [
  | inl same ↦ ap s.has same.1 ∙ r.0.other_kid.held
  | inr apart ↦ elim (cases_lt 0 (tally n sibling)) as (λ _. s.has n ≡ true) [
    | inl some ↦ Stands-held s m sibling n r.0.other_kid.stands (omega arith)
    | inr none ↦ IsRound-held s c m n r.1 (let e = one-other n m apart.1 in omega arith)
  ]
]

length-joined : (d : Bool) (t : Tree) (n : ℕ) (u : Tree) → length (names (joined_tree d t n u)) ≡ length (names t) + length (names u) + 1
length-joined true t n u = length-append (names t) (n ∷ names u) ∙ omega arith
length-joined false t n u = length-append (names u) (n ∷ names t) ∙ omega arith

pub deep : (c : Context) (t : Tree) → depth c + length (names t) ≤ length (names (plug c t))
deep Top t = omega arith
deep (Under d n sibling c) t = let h = deep c (joined_tree d t n sibling) in let e = length-joined d t n sibling in omega arith

rising_once : (s : Store) (at below above left right : ℕ) (c : Context) (t : Tree) → IsRising s at below above left right c t → (n : ℕ) → count n (names (plug c t)) ≤ 1
unfolding tally
rising_once s at below above left right c t r n = let k = r.once n in let e = tally-plug n c t in omega arith

rising_fits : (s : Store) (at below above left right : ℕ) (c : Context) (t : Tree) → ((n : ℕ) → s.has n ≡ true → n < 2 ^ 32) → IsRising s at below above left right c t → (n : ℕ) → 1 ≤ count n (names (plug c t)) → n < 2 ^ 32
unfolding tally
rising_fits s at below above left right c t fits r n h = elim (cases_lt 0 (tally n t)) as (λ _. n < 2 ^ 32) [
  | inl some ↦ fits n (IsInHand-held s at left right t n r.hand (omega arith))
  | inr none ↦ fits n (IsRound-held s c below n r.round (let e = tally-plug n c t in omega arith))
]

-- fewer than 2^32 nodes are above one on its way up
pub few_above : (s : Store) (at below above left right : ℕ) (c : Context) (t : Tree) → ((n : ℕ) → s.has n ≡ true → n < 2 ^ 32) → IsRising s at below above left right c t → depth c ≤ 2 ^ 32
few_above s at below above left right c t fits r =
    let k = few (names (plug c t)) (rising_once s at below above left right c t r) (rising_fits s at below above left right c t fits r) in
    let j = deep c t in omega arith

-- so a walk up by the links takes as many steps
pub run-depth : (fuel : ℕ) (s : Store) (c : Context) (below : ℕ) → s.has 0 ≡ false → IsRound s c below → depth c ≤ fuel → run fuel s.parent (name_at c) ≡ depth c
unfolding run
run-depth zero s Top below none r h = refl
run-depth (suc k) s Top below none r h = refl
run-depth zero s (Under d n sibling c) below none r h = absurd (omega arith)
run-depth (suc k) s (Under d n sibling c) below none r h =
    rw (ne_eqb n 0 (some_held s n none r.0.other_kid.held)) (
    let i = run-depth k s c n none r.1 (omega arith) in
    let e : run k s.parent (s.parent n) ≡ run k s.parent (name_at c) = ap (run k s.parent) r.0.parent in
    omega arith)

pub rising_run : (s : Store) (at below above left right : ℕ) (c : Context) (t : Tree) → s.has 0 ≡ false → ((n : ℕ) → s.has n ≡ true → n < 2 ^ 32) → IsRising s at below above left right c t → run (2 ^ 32) s.parent above ≡ depth c
rising_run s at below above left right c t none fits r = ap (run (2 ^ 32) s.parent) r.parent ∙ run-depth (2 ^ 32) s c below none r.round (few_above s at below above left right c t fits r)
