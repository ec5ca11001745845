-- The user's blocks in order, and the one that holds a byte.
use Rattle.vc_base.proofs.Common.{◌≡◌, ℕ, ◌+◌, ◌-◌, ◌<◌, ◌≤◌, Bool, true, false, cond, ◌&&◌, eqb, ltb, ◌⊎◌, List, [], ◌∷◌, map, get_or, nat_lt, nat_le, Some, None, fold, filter, Option, option_map, AllPairs, find, sym, refl, ap, ◌∙◌, subst, inl, inr, ⊎_elim, arith, eq-eqb, eqb-true, ∥∥₁_elim, nat_tests, and_from, and_parts, cases_Bool, none-some, same_Some, AllByRecursion, place_of, Block, Layout, address_of, footprint, lesser_by, EndsBefore, HaveOwnPlaces, IsSound, HasBlock, find_block, block_at, holds_byte, next_block}
use Rattle.vc_model.proofs.Pairs.{AllPairs-head, AllPairs-tail, all-recursion}
use Rattle.vc_model.proofs.Places.{among-find, found-there}
use Rattle.vc_base.proofs.Places.{span-least}
use Rattle.vc_audit.specs.Debug.{user_block}
use Rattle.vc_audit.specs.DebugGuard.{HasGuards}
pub use Rattle.vc_audit.proofs.Sound.{own-best}
use Rattle.vc_audit.proofs.DebugBlocks.{address-user, live-down}
use Rattle.vc_audit.proofs.DebugFills.{guards-size}

some-address : (b : Block ℕ) → 1 ≤ b.seg → 1 ≤ address_of b
some-address b first = omega (arith, first)

pub all-some : (bs : List (Block ℕ)) → HaveOwnPlaces bs → AllByRecursion (λ b. 1 ≤ address_of b) bs
all-some bs places = rest bs (all-recursion (λ (b : Block ℕ). 1 ≤ b.seg) bs places.first)
  where
    rest : (cs : List (Block ℕ)) → AllByRecursion (λ b. 1 ≤ b.seg) cs → AllByRecursion (λ b. 1 ≤ address_of b) cs
    rest [] all = tt
    rest (c ∷ cs) all = (some-address c all.0, rest cs all.1)

above-next : (after k n : ℕ) → k ≡ after - 1 → 1 ≤ n → nat_lt after (n + 1) ≡ nat_lt k n
above-next after k n e some = grind (arith, nat_tests)

ltb-next : (m n : ℕ) → ltb (m + 1) (n + 1) ≡ ltb m n
ltb-next m n = grind (arith, nat_tests)

pub above-user : (after k : ℕ) (b : Block ℕ) → k ≡ after - 1 → 1 ≤ address_of b → nat_lt after (address_of (user_block b)) ≡ nat_lt k (address_of b)
above-user after k b e some = ap (nat_lt after) (address-user b) ∙ above-next after k (address_of b) e some

filter-user : (after k : ℕ) → k ≡ after - 1 → (bs : List (Block ℕ)) → AllByRecursion (λ b. 1 ≤ address_of b) bs → filter (λ b. nat_lt after (address_of b)) (map user_block bs) ≡ map user_block (filter (λ b. nat_lt k (address_of b)) bs)
filter-user after k e [] all = refl
filter-user after k e (b ∷ bs) all =
    let rest = filter-user after k e bs all.1 in
    let same : nat_lt after (address_of (user_block b)) ≡ nat_lt k (address_of b) = above-user after k b e all.0 in
    ap (λ v. cond v (user_block b ∷ filter (λ c. nat_lt after (address_of c)) (map user_block bs)) (filter (λ c. nat_lt after (address_of c)) (map user_block bs))) same
    ∙ (ap (λ cs. cond (nat_lt k (address_of b)) (user_block b ∷ cs) cs) rest
    ∙ elim (nat_lt k (address_of b)) as (λ v. cond v (user_block b ∷ map user_block (filter (λ c. nat_lt k (address_of c)) bs)) (map user_block (filter (λ c. nat_lt k (address_of c)) bs)) ≡ map user_block (cond v (b ∷ filter (λ c. nat_lt k (address_of c)) bs) (filter (λ c. nat_lt k (address_of c)) bs)))
    [ true ↦ refl | false ↦ refl ])

lesser-user : (o : Option (Block ℕ)) (b : Block ℕ) → lesser_by address_of (option_map user_block o) (user_block b) ≡ option_map user_block (lesser_by address_of o b)
lesser-user None b = refl
lesser-user (Some l) b =
    ap (λ v. cond v (Some (user_block b)) (Some (user_block l)))
    (ap (λ n. ltb n (address_of (user_block l))) (address-user b) ∙ (ap (λ n. ltb (address_of b + 1) n) (address-user l) ∙ ltb-next (address_of b) (address_of l)))
    ∙ elim (ltb (address_of b) (address_of l)) as (λ v. cond v (Some (user_block b)) (Some (user_block l)) ≡ option_map user_block (cond v (Some b) (Some l)))
    [ true ↦ refl | false ↦ refl ]

fold-user : (o : Option (Block ℕ)) (bs : List (Block ℕ)) → fold (lesser_by address_of) (option_map user_block o) (map user_block bs) ≡ option_map user_block (fold (lesser_by address_of) o bs)
fold-user o [] = refl
fold-user o (b ∷ bs) = ap (λ q. fold (lesser_by address_of) q (map user_block bs)) (lesser-user o b) ∙ fold-user (lesser_by address_of o b) bs

-- the next user's block is in the next block with guards
pub next-user : (after k : ℕ) (bs : List (Block ℕ)) → k ≡ after - 1 → HaveOwnPlaces bs → next_block after (map user_block bs) ≡ option_map user_block (next_block k bs)
next-user after k bs e places =
    ap (fold (lesser_by address_of) None) (filter-user after k e bs (all-some bs places)) ∙ fold-user None (filter (λ b. nat_lt k (address_of b)) bs)

pub address-told : (o : Option (Block ℕ)) → option_map address_of (option_map user_block o) ≡ option_map (λ n. n + 1) (option_map address_of o)
address-told None = refl
address-told (Some b) = ap Some (address-user b)

pub from-before : (bs : List (Block ℕ)) (after k : ℕ) → k ≡ after - 1 → (after ≡ 0) ⊎ HasBlock (map user_block bs) after → (k ≡ 0) ⊎ HasBlock bs k
from-before bs after k e from =
    ⊎_elim
    (λ none. inl (omega (arith, none, e)))
    (λ live. inr (subst (HasBlock bs) (sym e) (live-down bs after live).1))
    from

-- a block that holds a byte among the user's bytes holds it
holds-out : (at : ℕ × ℕ) (b : Block ℕ) → holds_byte at (user_block b) ≡ true → holds_byte at b ≡ true
holds-out at b h =
    let both = and_parts (eqb b.seg at.0) (nat_le (b.off + 32) at.1 && nat_lt at.1 (b.off + 32 + (b.size - 48))) h in
    and_from (eqb b.seg at.0) (nat_le b.off at.1 && nat_lt at.1 (b.off + b.size)) both.0 (inside b.off at.1 b.size both.1)
  where
    inside : (off o size : ℕ) → (nat_le (off + 32) o && nat_lt o (off + 32 + (size - 48))) ≡ true → (nat_le off o && nat_lt o (off + size)) ≡ true
    inside off o size h = grind (arith, nat_tests)

-- what holding a byte means
pub record Holds (at : ℕ × ℕ) (b : Block ℕ) : Type 0 where
  pub seg : b.seg ≡ at.0
  pub from : b.off ≤ at.1
  pub to : at.1 < b.off + b.size

from-true : (off o size : ℕ) → (nat_le off o && nat_lt o (off + size)) ≡ true → (off ≤ o) × (o < off + size)
from-true off o size h = (grind (arith, nat_tests), grind (arith, nat_tests))

holds : (at : ℕ × ℕ) (b : Block ℕ) → holds_byte at b ≡ true → Holds at b
holds at b h =
    let both = and_parts (eqb b.seg at.0) (nat_le b.off at.1 && nat_lt at.1 (b.off + b.size)) h in
    let range = from-true b.off at.1 b.size both.1 in
    record { seg = eqb-true b.seg at.0 both.0; from = range.0; to = range.1 }

not-both-before : (at : ℕ × ℕ) (b c : Block ℕ) → Holds at b → Holds at c → EndsBefore (footprint b) (footprint c) → ⊥
not-both-before at b c hb hc before =
    let sb = hb.seg in
    let sc = hc.seg in
    let to = hb.to in
    let from = hc.from in
    let first = hb.from in
    let long = span-least b.size in
    ⊎_elim (λ u. omega (arith, u, sb, sc)) (λ u. let le = u.1 in omega (arith, le, to, from, first, long)) before

find-passes : (test : Block ℕ → Bool) (bs : List (Block ℕ)) (b : Block ℕ) → find test bs ≡ Some b → test b ≡ true
find-passes test [] b e = absurd (none-some b e)
find-passes test (c ∷ cs) b e =
    ⊎_elim
    (λ (t : test c ≡ true). let here : Some c ≡ Some b = rw t at e in ap test (sym (same_Some c b here)) ∙ t)
    (λ (t : test c ≡ false). let rest : find test cs ≡ Some b = rw t at e in find-passes test cs b rest)
    (cases_Bool (test c))

-- no two of these blocks hold the byte at a place
abbrev pub NotBoth : ℕ × ℕ → Block ℕ → Block ℕ → Type 0
NotBoth at b c = Holds at b → Holds at c → ⊥

pub not-both : (r : Layout ℕ) → ∥ IsSound r ∥₁ → (at : ℕ × ℕ) → AllPairs (NotBoth at) r.blocks
not-both r sound at = λ i j d lt within hb hc.
    ∥∥₁_elim sound (hlevel) (λ s. ⊎_elim (not-both-before at (get_or r.blocks i d) (get_or r.blocks j d) hb hc) (not-both-before at (get_or r.blocks j d) (get_or r.blocks i d) hc hb) (s.apart i j d lt within))

others-not : (at : ℕ × ℕ) (b : Block ℕ) (cs : List (Block ℕ)) → Holds at b → AllByRecursion (NotBoth at b) cs → find (holds_byte at) (map user_block cs) ≡ None
others-not at b [] hb apart = refl
others-not at b (c ∷ cs) hb apart =
    ⊎_elim
    (λ (e : holds_byte at (user_block c) ≡ true). absurd (apart.0 hb (holds at c (holds-out at c e))))
    (λ (e : holds_byte at (user_block c) ≡ false). rw e (others-not at b cs hb apart.1))
    (cases_Bool (holds_byte at (user_block c)))

-- the user's block that holds a byte, by the block with guards that does
abbrev inner : ℕ × ℕ → Option (Block ℕ) → Option (Block ℕ)
inner at None = None
inner at (Some b) = cond (holds_byte at (user_block b)) (Some (user_block b)) None

find-inner : (at : ℕ × ℕ) (bs : List (Block ℕ)) → AllPairs (NotBoth at) bs → find (holds_byte at) (map user_block bs) ≡ inner at (find (holds_byte at) bs)
find-inner at [] apart = refl
find-inner at (b ∷ bs) apart =
    ⊎_elim
    (λ (e : holds_byte at (user_block b) ≡ true). rw (e, holds-out at b e) (rw e refl))
    (λ (e : holds_byte at (user_block b) ≡ false).
    ⊎_elim
    (λ (t : holds_byte at b ≡ true). rw (e, t) (rw e (others-not at b bs (holds at b t) (all-recursion (NotBoth at b) bs (AllPairs-head (NotBoth at) b bs apart)))))
    (λ (t : holds_byte at b ≡ false). rw (e, t) (find-inner at bs (AllPairs-tail (NotBoth at) b bs apart)))
    (cases_Bool (holds_byte at b)))
    (cases_Bool (holds_byte at (user_block b)))

abbrev told : Block ℕ × ℕ → ℕ × ℕ
told f = (address_of f.0, f.1)

-- the block with guards that holds the byte at a place
pub record HoldsAt (r : Layout ℕ) (at : ℕ × ℕ) (x n : ℕ) : Type 0 where
  pub block : Block ℕ
  pub found : find (holds_byte at) r.blocks ≡ Some block
  pub address : address_of block ≡ x
  pub off : at.1 - block.off ≡ n

pub holds-at : (r : Layout ℕ) (at : ℕ × ℕ) (x n : ℕ) → Some (x, n) ≡ option_map told (block_at at r.blocks) → HoldsAt r at x n
holds-at r at x n e = from (find (holds_byte at) r.blocks) refl e
  where
    from : (o : Option (Block ℕ)) → find (holds_byte at) r.blocks ≡ o → Some (x, n) ≡ option_map told (option_map {U = Block ℕ × ℕ} (λ b. (b, at.1 - b.off)) o) → HoldsAt r at x n
    from None found told_is = absurd (none-some (x, n) (sym told_is))
    from (Some b) found told_is =
        let same : (x, n) ≡ (address_of b, at.1 - b.off) = same_Some (x, n) (address_of b, at.1 - b.off) told_is in
        record { block = b; found = found; address = sym (ap (λ (p : ℕ × ℕ). p.0) same); off = sym (ap (λ (p : ℕ × ℕ). p.1) same) }

module _ (r : Layout ℕ) (sound : ∥ IsSound r ∥₁) (guards : HasGuards r.blocks) (at : ℕ × ℕ) where
  user-told : option_map told (block_at at (map user_block r.blocks)) ≡ option_map told (option_map {U = Block ℕ × ℕ} (λ b. (b, at.1 - b.off)) (inner at (find (holds_byte at) r.blocks)))
  user-told = ap (λ o. option_map told (option_map {U = Block ℕ × ℕ} (λ b. (b, at.1 - b.off)) o)) (find-inner at r.blocks (not-both r sound at))

  -- where no block with guards holds it, no user's block does
  pub none-told : None ≡ option_map told (block_at at r.blocks) → None ≡ option_map told (block_at at (map user_block r.blocks))
  none-told e = none (find (holds_byte at) r.blocks) e ∙ sym user-told
    where
      none : (o : Option (Block ℕ)) → None ≡ option_map told (option_map {U = Block ℕ × ℕ} (λ b. (b, at.1 - b.off)) o) → None ≡ option_map told (option_map {U = Block ℕ × ℕ} (λ b. (b, at.1 - b.off)) (inner at o))
      none None e = refl
      none (Some b) e = absurd (none-some (told (b, at.1 - b.off)) e)

  module _ (x n s : ℕ) (h : HoldsAt r at x n) (sized : option_map (λ b. b.size) (find_block (place_of x) r.blocks) ≡ Some s) where
    size-is : h.block.size ≡ s
    size-is =
        let found = found-there r.blocks h.block x (own-best r sound) (among-find (holds_byte at) r.blocks h.block h.found) h.address in
        same_Some h.block.size s (sym (ap (option_map (λ (b : Block ℕ). b.size)) found) ∙ sized)

    it-holds : Holds at h.block
    it-holds = holds at h.block (find-passes (holds_byte at) r.blocks h.block h.found)

    some-size : 49 ≤ s
    some-size = (guards-size r.blocks (place_of x) s guards sized).0

    numbers : (off o size m : ℕ) → off ≤ o → o - off ≡ m → 49 ≤ size → (nat_le (off + 32) o && nat_lt o (off + 32 + (size - 48))) ≡ (nat_le 32 m && nat_lt m (size - 16))
    numbers off o size m from e some = grind (arith, nat_tests)

    -- whether it is a byte of the user
    test-is : holds_byte at (user_block h.block) ≡ (nat_le 32 n && nat_lt n (s - 16))
    test-is =
        let here = it-holds in
        let long : 49 ≤ h.block.size = subst (λ m. 49 ≤ m) (sym size-is) some-size in
        ap (λ v. v && (nat_le (h.block.off + 32) at.1 && nat_lt at.1 (h.block.off + 32 + (h.block.size - 48)))) (eq-eqb h.block.seg at.0 here.seg)
        ∙ (numbers h.block.off at.1 h.block.size n here.from h.off long ∙ ap (λ m. nat_le 32 n && nat_lt n (m - 16)) size-is)

    pub out-told : (nat_le 32 n && nat_lt n (s - 16)) ≡ false → None ≡ option_map told (block_at at (map user_block r.blocks))
    out-told e =
        sym (user-told
        ∙ ap (λ o. option_map told (option_map {U = Block ℕ × ℕ} (λ b. (b, at.1 - b.off)) o))
        (ap (inner at) h.found ∙ ap (λ v. cond v (Some (user_block h.block)) None) (test-is ∙ e)))

    pub in-told : (a : ℕ) → a ≡ x + 1 → (nat_le 32 n && nat_lt n (s - 16)) ≡ true → Some (a, n - 32) ≡ option_map told (block_at at (map user_block r.blocks))
    in-told a next e =
        let pair : ℕ → ℕ → Option (ℕ × ℕ) = λ p q. Some (p, q) in
        let where_is : a ≡ address_of (user_block h.block) = next ∙ sym (address-user h.block ∙ ap (λ m. m + 1) h.address) in
        let off = h.off in
        let off_is : n - 32 ≡ at.1 - (h.block.off + 32) = omega (arith, off) in
        ap (λ p. pair p (n - 32)) where_is
        ∙ (ap (pair (address_of (user_block h.block))) off_is
        ∙ sym (user-told
        ∙ ap (λ o. option_map told (option_map {U = Block ℕ × ℕ} (λ b. (b, at.1 - b.off)) o))
        (ap (inner at) h.found ∙ ap (λ v. cond v (Some (user_block h.block)) None) (test-is ∙ e))))
