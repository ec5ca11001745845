-- What each change leaves of blocks one behind another.
use Rattle.vc_base.proofs.Common.{◌≡◌, ℕ, ◌≤◌, true, false, eqb, List, [], ◌∷◌, get_or, All, AllPairs, inl, inr, ⊎_elim, eqb-true, cases_Bool, eqb-false, All-cons, All-head, All-tail, AllPairs-cons, place_of, Block, Layout, address_of, footprint, is_at, IsApart, IsSound, IsUsable, change_block, rewritten_block, with_bytes_at}
use Rattle.vc_model.proofs.Pairs.{AllPairs-head, AllPairs-tail}
use Rattle.vc_seg.proofs.Blocks.{apart_by_seg}
use Rattle.vc_last.specs.Allocation.{EndsFirst, AreAllocated}

apart-ordered : (a b : Block ℕ) → EndsFirst a b → IsApart (footprint a) (footprint b)
apart-ordered a b h =
    ⊎_elim
    (λ (t : eqb a.seg b.seg ≡ true). let same = eqb-true a.seg b.seg t in inl (inr (same, h same)))
    (λ (t : eqb a.seg b.seg ≡ false). apart_by_seg (footprint a) (footprint b) (eqb-false a.seg b.seg t))
    (cases_Bool (eqb a.seg b.seg))

pub IsSound-row : (r : Layout ℕ) → AreAllocated r → All (λ s. s.1 ≤ 33554432) r.segments → IsSound r
IsSound-row r h short =
    record {
      apart = λ i j d lt within. apart-ordered (get_or r.blocks i d) (get_or r.blocks j d) (h.ordered i j d lt within);
      usable = h.usable;
      exact = h.exact;
      numbered = h.numbered;
      short = short;
    }

-- a layout of these
abbrev pub row : List (ℕ × ℕ) → List (Block ℕ) → Layout ℕ
row segments blocks = record { segments = segments; blocks = blocks }

-- a block's address tells its place
abbrev pub IsExact : Block ℕ → Type 0
IsExact b = place_of (address_of b) ≡ (b.seg, b.off)

module _ (segments : List (ℕ × ℕ)) where
  -- it lies in the usable part of one of these segments
  abbrev pub Fits : Block ℕ → Type 0
  Fits b = IsUsable segments (footprint b)

-- a change that keeps what is true of each block, and of each two
All-change : (P : Block ℕ → Type 0) (f : Block ℕ → Block ℕ) → ((b : Block ℕ) → P b → P (f b)) → (at : ℕ × ℕ) (bs : List (Block ℕ)) → All P bs → All P (change_block f at bs)
All-change P f keeps at [] h = h
All-change P f keeps at (b ∷ bs) h =
    let here = All-head P b bs h in
    let rest = All-tail P b bs h in
    ⊎_elim
    (λ (t : is_at at b ≡ true). rw t (All-cons P (f b) bs (keeps b here) rest))
    (λ (t : is_at at b ≡ false). rw t (All-cons P b (change_block f at bs) here (All-change P f keeps at bs rest)))
    (cases_Bool (is_at at b))

pub AllPairs-change : (R : Block ℕ → Block ℕ → Type 0) (f : Block ℕ → Block ℕ) → ((a b : Block ℕ) → R a b → R (f a) b) → ((a b : Block ℕ) → R a b → R a (f b)) → (at : ℕ × ℕ) (bs : List (Block ℕ)) → AllPairs R bs → AllPairs R (change_block f at bs)
AllPairs-change R f left right at [] h = h
AllPairs-change R f left right at (b ∷ bs) h =
    let first = AllPairs-head R b bs h in
    let rest = AllPairs-tail R b bs h in
    ⊎_elim
    (λ (t : is_at at b ≡ true). rw t (AllPairs-cons R (f b) bs (λ k d lt. left b (get_or bs k d) (first k d lt)) rest))
    (λ (t : is_at at b ≡ false). rw t (AllPairs-cons R b (change_block f at bs) (All-change (R b) f (right b) at bs first) (AllPairs-change R f left right at bs rest)))
    (cases_Bool (is_at at b))

pub AreAllocated-written : (r : Layout ℕ) (at : ℕ × ℕ) (off : ℕ) (src : List ℕ) → AreAllocated r → AreAllocated (with_bytes_at r at off src)
AreAllocated-written r at off src h =
    record {
      ordered = AllPairs-change EndsFirst (rewritten_block off src) (λ a b e. e) (λ a b e. e) at r.blocks h.ordered;
      usable = All-change (Fits r.segments) (rewritten_block off src) (λ b e. e) at r.blocks h.usable;
      exact = All-change IsExact (rewritten_block off src) (λ b e. e) at r.blocks h.exact;
      numbered = h.numbered;
    }
