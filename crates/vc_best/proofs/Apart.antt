-- Blocks with heads that don't overlap.
use Rattle.vc_base.proofs.Common.{◌≡◌, ℕ, ◌<◌, ◌≤◌, true, false, ◌&&◌, eqb, ltb, ◌⊎◌, List, [], ◌∷◌, ◌==◌, All, AllPairs, sym, ◌∙◌, inl, inr, ⊎_elim, arith, ltb-false, ltb-true, lt-ltb, eq-eqb, eqb-true, and_from, and_parts, cases_Bool, or_cases, or_parts, All-cons, All-head, All-nil, All-tail, All-weaker, AllPairs-cons, Block, footprint, lies_before, with_block, EndsBefore, IsApart}
use Rattle.vc_best.proofs.Common.{in_order}
use Rattle.vc_model.proofs.Pairs.{AllPairs-head, AllPairs-tail}
use Rattle.vc_base.proofs.Places.{span-least}
use Rattle.vc_seg.proofs.Blocks.{All-with}
use Rattle.vc_seg.proofs.InOrder.{All-in_order}
use Rattle.vc_seg.proofs.Lists.{AllPairs-nil}

-- one block stands before another and doesn't overlap it
abbrev pub Before : Block ℕ → Block ℕ → Type 0
Before a b = EndsBefore (footprint a) (footprint b)

Before-trans : (a b c : Block ℕ) → Before a b → Before b c → Before a c
Before-trans a b c p q = grind arith

-- a block is before one that it doesn't overlap and whose address is greater
Before-lower : (s t : Block ℕ) → 32 ≤ s.off → 32 ≤ t.off → IsApart (footprint s) (footprint t) → lies_before s t ≡ true → Before s t
Before-lower s t one two apart e =
    let some = span-least t.size in
    let order : (s.seg < t.seg) ⊎ ((s.seg ≡ t.seg) × (s.off < t.off)) =
    ⊎_elim
    (λ u. inl (ltb-true s.seg t.seg u))
    (λ u. let both = and_parts (eqb s.seg t.seg) (ltb s.off t.off) u in inr (eqb-true s.seg t.seg both.0, ltb-true s.off t.off both.1))
    (or_cases (ltb s.seg t.seg) ((s.seg == t.seg) && ltb s.off t.off) e) in
    ⊎_elim
    (λ u. u)
    (λ u. ⊎_elim
    (λ v. ⊎_elim (λ w. absurd (omega (arith, v, w))) (λ w. absurd (omega (arith, v, w.0))) order)
    (λ v. ⊎_elim (λ w. absurd (omega (arith, v.0, w))) (λ w. absurd (omega (arith, v.1, w.1, some, one, two))) order)
    u)
    apart

Before-not_lower : (s t : Block ℕ) → 32 ≤ s.off → 32 ≤ t.off → IsApart (footprint s) (footprint t) → lies_before s t ≡ false → Before t s
Before-not_lower s t one two apart e =
    let some = span-least s.size in
    let parts = or_parts (ltb s.seg t.seg) ((s.seg == t.seg) && ltb s.off t.off) e in
    let segs : t.seg ≤ s.seg = ltb-false s.seg t.seg parts.0 in
    let offs : s.seg ≡ t.seg → s.off < t.off → ⊥ = λ same low. let both = and_from (eqb s.seg t.seg) (ltb s.off t.off) (eq-eqb s.seg t.seg same) (lt-ltb s.off t.off low) in let no : true ≡ false = sym both ∙ parts.1 in cc in
    ⊎_elim
    (λ u. ⊎_elim
    (λ v. absurd (omega (arith, v, segs)))
    (λ v. absurd (offs v.0 (omega (arith, v.1, some, one, two))))
    u)
    (λ u. u)
    apart

-- a block that overlaps none is put among them
pub Before-with : (s : Block ℕ) (bs : List (Block ℕ)) → 32 ≤ s.off → All (λ t. 32 ≤ t.off) bs → All (λ t. IsApart (footprint s) (footprint t)) bs → AllPairs Before bs → AllPairs Before (with_block s bs)
Before-with s [] here h apart pairs = AllPairs-cons Before s [] (All-nil (Before s)) pairs
Before-with s (t ∷ ts) here h apart pairs =
    let P : Block ℕ → Type 0 = λ u. IsApart (footprint s) (footprint u) in
    let Q : Block ℕ → Type 0 = λ u. 32 ≤ u.off in
    let from_t = AllPairs-head Before t ts pairs in
    let head_t = All-head Q t ts h in
    let apart_t = All-head P t ts apart in
    ⊎_elim
    (λ e.
    let low : Before s t = Before-lower s t here head_t apart_t e in
    rw e (AllPairs-cons Before s (t ∷ ts) (All-cons (Before s) t ts low (All-weaker (Before t) (Before s) (λ u q. Before-trans s t u low q) ts from_t)) pairs))
    (λ e.
    let low : Before t s = Before-not_lower s t here head_t apart_t e in
    rw e (AllPairs-cons Before t (with_block s ts) (All-with (Before t) s ts low from_t) (Before-with s ts here (All-tail Q t ts h) (All-tail P t ts apart) (AllPairs-tail Before t ts pairs))))
    (cases_Bool (lies_before s t))

-- blocks that don't overlap stand by address
pub order-before : (bs : List (Block ℕ)) → All (λ b. 32 ≤ b.off) bs → AllPairs (λ a b. IsApart (footprint a) (footprint b)) bs → AllPairs Before (in_order bs)
order-before [] h apart = AllPairs-nil Before
order-before (b ∷ bs) h apart =
    let P : Block ℕ → Type 0 = λ c. 32 ≤ c.off in
    let R : Block ℕ → Block ℕ → Type 0 = λ c d. IsApart (footprint c) (footprint d) in
    Before-with b (in_order bs) (All-head P b bs h) (All-in_order P bs (All-tail P b bs h))
    (All-in_order (R b) bs (AllPairs-head R b bs apart))
    (order-before bs (All-tail P b bs h) (AllPairs-tail R b bs apart))
