-- How often a place is among some, and how many places there are.
use Rattle.vc_base.proofs.Common.{◌≡◌, ℕ, zero, suc, ◌+◌, ◌*◌, ◌<◌, ◌≤◌, true, false, cond, eqb, ◌≢◌, List, [], ◌∷◌, ◌++◌, length, All, sym, refl, ap, ◌∙◌, subst, ⊎_elim, arith, length-append, eq-eqb, ne_eqb, eqb-true, and_from, and_parts, cases_Bool, cases_eq, All-cons, All-head, All-nil, All-tail, same_pair, cell_offset}
use Rattle.vc_pool.specs.Cells.Cells.{Cells}
use Rattle.vc_pool.specs.Cells.Freed.{IsFreeCell, cell_total, cells_at, index_at, times}

pub same_pair-self : (p : ℕ × ℕ) → same_pair p p ≡ true
same_pair-self p = and_from (eqb p.0 p.0) (eqb p.1 p.1) (eq-eqb p.0 p.0 refl) (eq-eqb p.1 p.1 refl)

pub same_pair-is : (p q : ℕ × ℕ) → same_pair p q ≡ true → p ≡ q
same_pair-is p q e =
    let both = and_parts (eqb p.0 q.0) (eqb p.1 q.1) e in
    let pair : ℕ → ℕ → ℕ × ℕ = λ m n. (m, n) in
    ap (λ m. pair m p.1) (eqb-true p.0 q.0 both.0) ∙ ap (pair q.0) (eqb-true p.1 q.1 both.1)

-- one for a place that is this one, and else none
abbrev pub one : ℕ × ℕ → ℕ × ℕ → ℕ
one at p = cond (same_pair at p) 1 0

pub times-append : (at : ℕ × ℕ) (ps qs : List (ℕ × ℕ)) → times at (ps ++ qs) ≡ times at ps + times at qs
times-append at [] qs = omega arith
times-append at (p ∷ ps) qs = let rest = times-append at ps qs in omega (arith, rest)

-- a place that is none of these
pub times-none : (at : ℕ × ℕ) (ps : List (ℕ × ℕ)) → All (λ p. at ≢ p) ps → times at ps ≡ 0
times-none at [] h = refl
times-none at (p ∷ ps) h =
    let P : ℕ × ℕ → Type 0 = λ q. at ≢ q in
    ⊎_elim
    (λ (t : same_pair at p ≡ true). absurd (All-head P p ps h (same_pair-is at p t)))
    (λ (t : same_pair at p ≡ false). rw t (omega (arith, times-none at ps (All-tail P p ps h))))
    (cases_Bool (same_pair at p))

pub none-times : (at : ℕ × ℕ) (ps : List (ℕ × ℕ)) → times at ps ≡ 0 → All (λ p. at ≢ p) ps
none-times at [] e = All-nil (λ (p : ℕ × ℕ). at ≢ p)
none-times at (p ∷ ps) e =
    let here : at ≢ p = λ q.
    let own : same_pair at p ≡ true = subst (λ (r : ℕ × ℕ). same_pair at r ≡ true) q (same_pair-self at) in
    let more : 1 + times at ps ≡ 0 = rw own at e in
    omega (arith, more) in
    All-cons (λ (q : ℕ × ℕ). at ≢ q) p ps here (none-times at ps (omega (arith, e)))

-- what is true of each of some places is true of one that is among them
pub times-some : (P : ℕ × ℕ → Type 0) (at : ℕ × ℕ) (ps : List (ℕ × ℕ)) → All P ps → 1 ≤ times at ps → P at
times-some P at [] h some = absurd (omega (arith, some))
times-some P at (p ∷ ps) h some =
    ⊎_elim
    (λ (t : same_pair at p ≡ true). subst P (sym (same_pair-is at p t)) (All-head P p ps h))
    (λ (t : same_pair at p ≡ false). let rest : 1 ≤ 0 + times at ps = rw t at some in times-some P at ps (All-tail P p ps h) (omega (arith, rest)))
    (cases_Bool (same_pair at p))

-- places without the first that is this one
abbrev without_one : ℕ × ℕ → List (ℕ × ℕ) → List (ℕ × ℕ)
without_one at [] = []
without_one at (q ∷ qs) = cond (same_pair at q) qs (q ∷ without_one at qs)

length-without : (at : ℕ × ℕ) (qs : List (ℕ × ℕ)) → 1 ≤ times at qs → length qs ≡ 1 + length (without_one at qs)
length-without at [] some = absurd (omega (arith, some))
length-without at (q ∷ qs) some =
    ⊎_elim
    (λ (t : same_pair at q ≡ true). rw t (omega arith))
    (λ (t : same_pair at q ≡ false). let rest : 1 ≤ 0 + times at qs = rw t at some in let less = length-without at qs (omega (arith, rest)) in rw t (omega (arith, less)))
    (cases_Bool (same_pair at q))

times-without : (at p : ℕ × ℕ) (qs : List (ℕ × ℕ)) → 1 ≤ times p qs → times at qs ≡ one at p + times at (without_one p qs)
times-without at p [] some = absurd (omega (arith, some))
times-without at p (q ∷ qs) some =
    ⊎_elim
    (λ (t : same_pair p q ≡ true). let same : q ≡ p = sym (same_pair-is p q t) in rw t (ap (λ r. one at r + times at qs) same))
    (λ (t : same_pair p q ≡ false). let rest : 1 ≤ 0 + times p qs = rw t at some in let less = times-without at p qs (omega (arith, rest)) in rw t (omega (arith, less)))
    (cases_Bool (same_pair p q))

-- there are no more of some places than of others that each is among as often
pub fewer : (ps qs : List (ℕ × ℕ)) → ((at : ℕ × ℕ) → times at ps ≤ times at qs) → length ps ≤ length qs
fewer [] qs h = omega arith
fewer (p ∷ ps) qs h =
    let own : 1 + times p ps ≤ times p qs = rw (same_pair-self p) at (h p) in
    let some : 1 ≤ times p qs = omega (arith, own) in
    let rest = fewer ps (without_one p qs) (λ at. let all = h at in let less = times-without at p qs some in omega (arith, all, less)) in
    omega (arith, rest, length-without p qs some)

-- the places of cells that stand one behind another from an offset on, and of all cells of segments
abbrev places_from : ℕ → ℕ → ℕ → List (ℕ × ℕ) → List (ℕ × ℕ)
places_from n cell off [] = []
places_from n cell off (c ∷ cs) = (n, off) ∷ places_from n cell (off + cell) cs

abbrev all_places : ℕ → List Cells → List (ℕ × ℕ)
all_places cell [] = []
all_places cell (s ∷ ss) = places_from s.number cell 32 s.pairs ++ all_places cell ss

length-from : (n cell off : ℕ) (cs : List (ℕ × ℕ)) → length (places_from n cell off cs) ≡ length cs
length-from n cell off [] = refl
length-from n cell off (c ∷ cs) = let rest = length-from n cell (off + cell) cs in omega (arith, rest)

length-all : (cell : ℕ) (segs : List Cells) → length (all_places cell segs) ≡ cell_total segs
length-all cell [] = refl
length-all cell (s ∷ ss) =
    omega (arith, length-append (places_from s.number cell 32 s.pairs) (all_places cell ss), length-from s.number cell 32 s.pairs, length-all cell ss)

times-from : (n cell off k : ℕ) (cs : List (ℕ × ℕ)) → k < length cs → 1 ≤ times (n, off + k * cell) (places_from n cell off cs)
times-from n cell off k [] lt = absurd (omega (arith, lt))
times-from n cell off zero (c ∷ cs) lt =
    let e : off ≡ off + 0 * cell = omega arith in
    let own : 1 ≤ times (n, off) ((n, off) ∷ places_from n cell (off + cell) cs) = rw (same_pair-self (n, off)) (omega arith) in
    subst (λ (x : ℕ). 1 ≤ times (n, x) ((n, off) ∷ places_from n cell (off + cell) cs)) e own
times-from n cell off (suc k) (c ∷ cs) lt =
    let e : off + cell + k * cell ≡ off + suc k * cell = omega arith in
    let rest = subst (λ (x : ℕ). 1 ≤ times (n, x) (places_from n cell (off + cell) cs)) e (times-from n cell (off + cell) k cs (omega (arith, lt))) in
    omega (arith, rest)

times-all : (cell k : ℕ) (at : ℕ × ℕ) (segs : List Cells) → at.1 ≡ cell_offset cell k → k < length (cells_at at.0 segs).pairs → 1 ≤ times at (all_places cell segs)
times-all cell k at [] off lt = absurd (omega (arith, lt))
times-all cell k at (s ∷ ss) off lt =
    let both = times-append at (places_from s.number cell 32 s.pairs) (all_places cell ss) in
    ⊎_elim
    (λ (e : s.number ≡ at.0).
    let own : k < length s.pairs = rw (eq-eqb s.number at.0 e) at lt in
    let pair : ℕ → ℕ → ℕ × ℕ = λ m n. (m, n) in
    let is : pair s.number (cell_offset cell k) ≡ at = ap (λ m. pair m (cell_offset cell k)) e ∙ ap (pair at.0) (sym off) in
    let some = subst (λ (p : ℕ × ℕ). 1 ≤ times p (places_from s.number cell 32 s.pairs)) is (times-from s.number cell 32 k s.pairs own) in
    omega (arith, both, some))
    (λ (e : s.number ≡ at.0 → ⊥).
    let own : k < length (cells_at at.0 ss).pairs = rw (ne_eqb s.number at.0 e) at lt in
    omega (arith, both, times-all cell k at ss off own))
    (cases_eq s.number at.0)

-- no more cells are freed than there are, where each is so once
pub few-freed : (cell : ℕ) (segs : List Cells) (ps : List (ℕ × ℕ)) → ((n : ℕ) → (cells_at n segs).carved ≤ length (cells_at n segs).pairs) → All (IsFreeCell cell segs) ps → ((at : ℕ × ℕ) → times at ps ≤ 1) → length ps ≤ cell_total segs
few-freed cell segs ps few free once =
    let le = fewer ps (all_places cell segs) (λ at.
    ⊎_elim
    (λ (none : times at ps ≡ 0). omega (arith, none))
    (λ (some : times at ps ≡ 0 → ⊥).
    let own = times-some (IsFreeCell cell segs) at ps free (omega (arith, some)) in
    let all = times-all cell (index_at cell at.1) at segs own.offset (omega (arith, few at.0)) in
    omega (arith, all, once at))
    (cases_eq (times at ps) 0)) in
    omega (arith, le, length-all cell segs)
