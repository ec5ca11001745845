-- The block that holds a byte, among the blocks of a segment.
use Rattle.vc_base.proofs.Common.{◌≡◌, ℕ, ◌+◌, ◌-◌, ◌<◌, ◌≤◌, Bool, true, false, ◌&&◌, eqb, ltb, leb, List, [], ◌∷◌, map, length, IsTrue, Some, None, Option, option_map, find, sym, refl, ap, ◌∙◌, ⊎_elim, arith, ltb-true, lt-ltb, eq-eqb, le-leb, leb-true, and_from, and_parts, cases_Bool, address, place_of, Block, address_of, place_of_block, block_at, holds_byte}
use Rattle.vc_best.proofs.Common.{Bytes, Extent, block_of, busy_in, extents_of, is_busy, pair_of, size_of, tiling}
use Rattle.vc_model.proofs.Owned.{address-place_of}

pub find-here : (n off : ℕ) (e : Extent) (ys : List Extent) → e.off ≤ off → off < e.off + e.size → find (holds_byte (n, off)) (busy_in (n, e ∷ ys)) ≡ Some (block_of n e)
find-here n off e ys low high =
    let yes : is_busy e ≡ true = lt-ltb 0 e.size (omega arith) in
    let holds : holds_byte (n, off) (block_of n e) ≡ true =
    and_from (eqb n n) (leb e.off off && ltb off (e.off + e.size)) (eq-eqb n n refl)
    (and_from (leb e.off off) (ltb off (e.off + e.size)) (le-leb e.off off low) (lt-ltb off (e.off + e.size) high)) in
    rw yes (rw holds refl)

pub find-not : (n off : ℕ) (e : Extent) (ys : List Extent) → ((e.off ≤ off) × (off < e.off + e.size) → ⊥) → find (holds_byte (n, off)) (busy_in (n, e ∷ ys)) ≡ find (holds_byte (n, off)) (busy_in (n, ys))
find-not n off e ys away =
    ⊎_elim
    (λ (t : is_busy e ≡ true).
    let other : holds_byte (n, off) (block_of n e) ≡ false =
    ⊎_elim
    (λ (u : holds_byte (n, off) (block_of n e) ≡ true).
    let both = and_parts (eqb n n) (leb e.off off && ltb off (e.off + e.size)) u in
    let ends = and_parts (leb e.off off) (ltb off (e.off + e.size)) both.1 in
    absurd (away (leb-true e.off off ends.0, ltb-true off (e.off + e.size) ends.1)))
    (λ (u : holds_byte (n, off) (block_of n e) ≡ false). u)
    (cases_Bool (holds_byte (n, off) (block_of n e))) in
    rw t (rw other refl))
    (λ (t : is_busy e ≡ false). rw t refl)
    (cases_Bool (is_busy e))

-- an address by its place
pub own-address : (a n off : ℕ) → (place_of a).0 ≡ n → (place_of a).1 ≡ off → a ≡ address (n, off)
own-address a n off seg o = sym (address-place_of a) ∙ (ap (λ (m : ℕ). address (m, (place_of a).1)) seg ∙ ap (λ (m : ℕ). address (n, m)) o)

-- what a test doesn't show
pub not-shown : (r : Bool) (A : Type 0) → (A → IsTrue r) → r ≡ false → A → ⊥
not-shown r A h e a = let yes : r ≡ true = h a in let no : true ≡ false = sym yes ∙ e in cc

-- what a find by places gives
pub found-place : (at : ℕ × ℕ) (o : Option (Block ℕ)) → Some at ≡ option_map place_of_block o → (b : Block ℕ) × (o ≡ Some b) × (at ≡ (b.seg, b.off))
found-place at None e = absurd (cc)
found-place at (Some b) e = (b, refl, cc)

pub none-found : (o : Option (Block ℕ)) → None ≡ option_map place_of_block o → o ≡ None
none-found None e = refl
none-found (Some b) e = absurd (cc)

-- where no segment has a number
pub none-extents : (n : ℕ) (segs : List Bytes) → size_of n (map pair_of segs) ≡ None → extents_of n (tiling segs) ≡ []
none-extents n [] e = refl
none-extents n (s ∷ ss) e =
    ⊎_elim
    (λ (t : eqb s.number n ≡ true). absurd (let q : Some (length s.bytes) ≡ None = rw t at e in cc))
    (λ (t : eqb s.number n ≡ false). rw t (none-extents n ss (rw t at e)))
    (cases_Bool (eqb s.number n))

-- the address and the offset of what was found
abbrev pub shown : Option (Block ℕ × ℕ) → Option (ℕ × ℕ)
shown o = option_map {U = ℕ × ℕ} (λ f. (address_of f.0, f.1)) o

pub at-none : (seg off : ℕ) (bs : List (Block ℕ)) → find (holds_byte (seg, off)) bs ≡ None → shown (block_at (seg, off) bs) ≡ None
at-none seg off bs e = ap (λ (o : Option (Block ℕ)). shown (option_map (λ b. (b, off - b.off)) o)) e

pub at-found : (seg off a : ℕ) (bs : List (Block ℕ)) (b : Block ℕ) → find (holds_byte (seg, off)) bs ≡ Some b → place_of a ≡ (b.seg, b.off) → Some (a, off - (place_of a).1) ≡ shown (block_at (seg, off) bs)
at-found seg off a bs b e place =
    let addr : a ≡ address_of b = sym (address-place_of a) ∙ ap address place in
    let o : (place_of a).1 ≡ b.off = ap (λ (p : ℕ × ℕ). p.1) place in
    (λ i. Some (addr i, off - o i)) ∙ sym (ap (λ (o : Option (Block ℕ)). shown (option_map (λ b. (b, off - b.off)) o)) e)
