-- Chains of blocks: what the heads say is the list of them, and what a longer and a shorter one are.
use Rattle.vc_base.proofs.Common.{◌≡◌, ℕ, zero, suc, ◌+◌, ◌<◌, ◌≤◌, ◌≢◌, List, [], ◌∷◌, ◌++◌, length, All, AllPairs, sym, refl, ap, ◌∙◌, subst, ⊎_elim, arith, eq-eqb, ne_eqb, cases_eq, All-cons, All-head, All-nil, All-tail, all_pairs_push, length_push, place_of, Block, address_of}
use Rattle.vc_model.proofs.Pairs.{AllPairs-head, AllPairs-tail}
use Rattle.vc_seg.specs.Segment.{AreSegments, Bytes}
use Rattle.vc_extent.specs.Tiling.{index_from}
use Rattle.vc_seg.proofs.Lists.{AllPairs-nil}
use Rattle.vc_last.specs.Allocation.{EndsFirst}
use Rattle.vc_last.specs.Head.{HasHead, HasHeadAt, before_of, block_of}
use Rattle.vc_last.specs.Chain.{IsChain, IsLast, IsLastOf, LiesLower, blocks_back, blocks_from, most_blocks, rank}
use Rattle.vc_last.proofs.Lists.{AllPairs-front, snoc}

-- a block with a head isn't at address 0
pub head-some : (segs : List Bytes) (b : Block ℕ) → HasHead segs b → 1 ≤ address_of b
head-some segs b h = let first = h.first in omega arith

-- and its address tells its place
pub head-exact : (segs : List Bytes) (b : Block ℕ) → HasHead segs b → place_of (address_of b) ≡ (b.seg, b.off)
head-exact segs b h = sym (ap (λ (c : Block ℕ). (c.seg, c.off)) h.is)

pub chain-push : (segs : List Bytes) (p q : ℕ) (bs : List (Block ℕ)) (b : Block ℕ) → IsChain segs p bs q → HasHead segs b → before_of segs (address_of b) ≡ q → IsChain segs p (bs ++ b ∷ []) (address_of b)
chain-push segs p q [] b h head e = (head, e ∙ sym h, refl)
chain-push segs p q (c ∷ cs) b h head e = (h.0, h.1, chain-push segs (address_of c) q cs b h.2 head e)

-- the last of a chain
pub record IsLatest (segs : List Bytes) (p q : ℕ) (front : List (Block ℕ)) (b : Block ℕ) : Type 0 where
  pub rest : IsChain segs p front (before_of segs q)
  pub head : HasHead segs b
  pub at : q ≡ address_of b

pub chain-last : (segs : List Bytes) (p q : ℕ) (bs : List (Block ℕ)) (b : Block ℕ) → IsChain segs p (bs ++ b ∷ []) q → IsLatest segs p q bs b
chain-last segs p q [] b h = let at : q ≡ address_of b = sym h.2 in record { rest = sym h.1 ∙ ap (before_of segs) (sym at); head = h.0; at = at }
chain-last segs p q (c ∷ cs) b h = let l = chain-last segs (address_of c) q cs b h.2 in record { rest = (h.0, h.1, l.rest); head = l.head; at = l.at }

pub chain-heads : (segs : List Bytes) (p q : ℕ) (bs : List (Block ℕ)) → IsChain segs p bs q → All (HasHead segs) bs
chain-heads segs p q [] h = All-nil (HasHead segs)
chain-heads segs p q (b ∷ bs) h = All-cons (HasHead segs) b bs h.0 (chain-heads segs (address_of b) q bs h.2)

-- the blocks back from an address that is 0, and from another
pub back-none : (n : ℕ) (segs : List Bytes) → blocks_back n segs 0 ≡ []
unfolding blocks_back
back-none zero segs = refl
back-none (suc n) segs = refl

back-some : (n : ℕ) (segs : List Bytes) (a : ℕ) → a ≢ 0 → blocks_back (suc n) segs a ≡ blocks_back n segs (before_of segs a) ++ block_of segs a ∷ []
unfolding blocks_back
back-some n segs a some = rw (ne_eqb a 0 some) refl

pub back-most : (n : ℕ) (segs : List Bytes) (a : ℕ) → length (blocks_back n segs a) ≤ n
unfolding blocks_back
back-most zero segs a = omega arith
back-most (suc n) segs a =
    ⊎_elim
    (λ (e : a ≡ 0). rw e (omega arith))
    (λ (e : a ≡ 0 → ⊥). rw (ne_eqb a 0 e) (omega (arith, back-most n segs (before_of segs a), length_push (blocks_back n segs (before_of segs a)) (block_of segs a))))
    (cases_eq a 0)

back-step : (n : ℕ) (segs : List Bytes) (q : ℕ) (front : List (Block ℕ)) (b : Block ℕ) → IsLatest segs 0 q front b → blocks_back n segs (before_of segs q) ≡ front → blocks_back (suc n) segs q ≡ front ++ b ∷ []
back-step n segs q front b l rest =
    let some : q ≢ 0 = λ z. omega (arith, z, l.at, head-some segs b l.head) in
    back-some n segs q some
    ∙ (ap (λ (cs : List (Block ℕ)). cs ++ block_of segs q ∷ []) rest ∙ ap (λ (c : Block ℕ). front ++ c ∷ []) (ap (block_of segs) l.at ∙ sym l.head.is))

-- a chain is what the heads say
pub back-is : (n : ℕ) (segs : List Bytes) (q : ℕ) (bs : List (Block ℕ)) → IsChain segs 0 bs q → length bs ≤ n → blocks_back n segs q ≡ bs
unfolding blocks_back
back-is n segs q [] h le = ap (blocks_back n segs) (sym h) ∙ back-none n segs
back-is zero segs q (c ∷ cs) h le = absurd (omega (arith, le))
back-is (suc n) segs q (c ∷ cs) h le =
    let s = snoc c cs in
    let front : List (Block ℕ) = s.0 in
    let b : Block ℕ = s.1 in
    let l = chain-last segs 0 q front b (subst (λ (ds : List (Block ℕ)). IsChain segs 0 ds q) s.2 h) in
    back-step n segs q front b l (back-is n segs (before_of segs q) front l.rest (omega (arith, le, ap length s.2, length_push front b))) ∙ sym s.2

-- no more numbers rise from one below another than lie between them
rising-most : (f : Block ℕ → ℕ) (m n : ℕ) (bs : List (Block ℕ)) → AllPairs (λ a b. f a < f b) bs → All (λ b. m ≤ f b) bs → All (λ b. f b < n) bs → m ≤ n → m + length bs ≤ n
rising-most f m n [] h high low le = omega (arith, le)
rising-most f m n (b ∷ bs) h high low le =
    let R : Block ℕ → Block ℕ → Type 0 = λ a d. f a < f d in
    let P : Block ℕ → Type 0 = λ d. f d < n in
    let first : m ≤ f b = All-head (λ (d : Block ℕ). m ≤ f d) b bs high in
    let last : f b < n = All-head P b bs low in
    let later = AllPairs-head R b bs h in
    let rest : suc (f b) + length bs ≤ n = rising-most f (suc (f b)) n bs (AllPairs-tail R b bs h) (λ k d lt. later k d lt) (All-tail P b bs low) last in
    omega (arith, rest, first)

pub index-most : (k n : ℕ) (segs : List Bytes) → index_from k n segs ≤ k + length segs
index-most k n [] = omega arith
index-most k n (s ∷ ss) =
    ⊎_elim
    (λ (e : s.number ≡ n). rw (eq-eqb s.number n e) (omega arith))
    (λ (e : s.number ≡ n → ⊥). rw (ne_eqb s.number n e) (omega (arith, index-most (k + 1) n ss)))
    (cases_eq s.number n)

pub rank-most : (segs : List Bytes) (b : Block ℕ) → HasHead segs b → rank segs b < most_blocks segs
rank-most segs b h = omega (arith, index-most 0 b.seg segs, ap (λ (p : ℕ × ℕ). p.1) (head-exact segs b h))

-- so the type tells the blocks
pub last-is : (segs : List Bytes) (q : ℕ) (bs : List (Block ℕ)) → IsLastOf segs q bs → blocks_from segs q ≡ bs
unfolding blocks_from
last-is segs q bs h =
    let heads = chain-heads segs 0 q bs h.chain in
    let few : 0 + length bs ≤ most_blocks segs = rising-most (rank segs) 0 (most_blocks segs) bs h.rising (λ k d lt. omega arith) (λ k d lt. rank-most segs _ (heads k d lt)) (omega arith) in
    back-is (most_blocks segs) segs q bs h.chain (omega (arith, few))

pub last-from : (segs : List Bytes) (q : ℕ) (bs : List (Block ℕ)) → IsLastOf segs q bs → IsLast segs q
last-from segs q bs h = subst (IsLastOf segs q) (sym (last-is segs q bs h)) h

-- the latest block goes
pub last-front : (segs : List Bytes) (q : ℕ) (front : List (Block ℕ)) (b : Block ℕ) → IsLastOf segs q (front ++ b ∷ []) → IsLastOf segs (before_of segs q) front
last-front segs q front b h =
    record {
      segments = h.segments;
      chain = (chain-last segs 0 q front b h.chain).rest;
      ordered = AllPairs-front EndsFirst front b h.ordered;
      rising = AllPairs-front (LiesLower segs) front b h.rising;
    }

-- the latest block, where there is one
pub record HasLatest (segs : List Bytes) (q : ℕ) : Type 0 where
  pub kept : IsLast segs (before_of segs q)
  pub blocks : blocks_from segs q ≡ blocks_from segs (before_of segs q) ++ block_of segs q ∷ []
  pub head : HasHead segs (block_of segs q)
  pub at : address_of (block_of segs q) ≡ q

latest-of : (segs : List Bytes) (q : ℕ) (bs : List (Block ℕ)) → q ≢ 0 → IsLastOf segs q bs → HasLatest segs q
latest-of segs q [] some h = absurd (some (sym h.chain))
latest-of segs q (c ∷ cs) some h =
    let s = snoc c cs in
    let front : List (Block ℕ) = s.0 in
    let b : Block ℕ = s.1 in
    let all : IsLastOf segs q (front ++ b ∷ []) = subst (IsLastOf segs q) s.2 h in
    let l = chain-last segs 0 q front b all.chain in
    let rest = last-front segs q front b all in
    let is : block_of segs q ≡ b = ap (block_of segs) l.at ∙ sym l.head.is in
    record {
      kept = last-from segs (before_of segs q) front rest;
      blocks = last-is segs q (front ++ b ∷ []) all ∙ (ap (λ (bs : List (Block ℕ)). bs ++ b ∷ []) (sym (last-is segs (before_of segs q) front rest)) ∙ ap (λ (d : Block ℕ). blocks_from segs (before_of segs q) ++ d ∷ []) (sym is));
      head = subst (HasHead segs) (sym is) l.head;
      at = ap address_of is ∙ sym l.at;
    }

pub latest-some : (segs : List Bytes) (q : ℕ) → q ≢ 0 → IsLast segs q → HasLatest segs q
latest-some segs q some h = latest-of segs q (blocks_from segs q) some h

pub latest-head : (segs : List Bytes) (q : ℕ) → q ≢ 0 → IsLast segs q → HasHeadAt segs q
latest-head segs q some h = record { segments = h.segments; head = (latest-some segs q some h).head }

pub latest-none : (segs : List Bytes) → blocks_from segs 0 ≡ []
unfolding blocks_from
latest-none segs = back-none (most_blocks segs) segs

-- a block goes behind the others
pub last-push : (segs : List Bytes) (q : ℕ) (bs : List (Block ℕ)) (b : Block ℕ) → IsLastOf segs q bs → HasHead segs b → before_of segs (address_of b) ≡ q → All (λ c. EndsFirst c b) bs → All (λ c. LiesLower segs c b) bs → IsLastOf segs (address_of b) (bs ++ b ∷ [])
last-push segs q bs b h head e behind lower =
    record {
      segments = h.segments;
      chain = chain-push segs 0 q bs b h.chain head e;
      ordered = all_pairs_push EndsFirst bs b h.ordered behind;
      rising = all_pairs_push (LiesLower segs) bs b h.rising lower;
    }

pub last-cleared : (segs : List Bytes) → AreSegments segs → IsLastOf segs 0 []
last-cleared segs h = record { segments = h; chain = refl; ordered = AllPairs-nil EndsFirst; rising = AllPairs-nil (LiesLower segs) }
