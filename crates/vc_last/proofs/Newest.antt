-- Where the next block begins in the newest segment, by the latest block.
use Rattle.vc_base.proofs.Common.{◌≡◌, ℕ, ◌+◌, ◌-◌, ◌<◌, ◌≤◌, max, Bool, true, false, ◌≢◌, ◌↔◌, List, [], ◌∷◌, ◌++◌, map, length, get_or, IsTrue, slice_get, Some, None, fold, All, Option, option_map, AllPairs, sym, refl, ap, ◌∙◌, subst, ⊎_elim, arith, eq-eqb, ne_eqb, cases_eq, All-head, All-push, All-tail, place_of, newest, Block, Layout, span}
use Rattle.vc_model.specs.Last.{next_offset}
use Rattle.vc_seg.specs.Segment.{Bytes, pair_of}
use Rattle.vc_extent.specs.Tiling.{index_from}
use Rattle.vc_seg.proofs.Backs.{Apart}
use Rattle.vc_last.specs.Allocation.{EndsFirst}
use Rattle.vc_last.specs.Head.{before_of, block_of}
use Rattle.vc_last.specs.Chain.{IsLast, LiesLower, blocks_from, rank}
use Rattle.vc_last.specs.Read.{layout_by}
use Rattle.vc_last.proofs.Lists.{AllPairs-last, last_of-map, slice_get-last}
use Rattle.vc_last.proofs.Places.{ends, ends-none}
use Rattle.vc_last.proofs.Allocations.{row}
use Rattle.vc_last.proofs.Chains.{HasLatest, chain-heads, latest-none, latest-some}
use Rattle.vc_last.proofs.Kept.{index-end, index-front, layout-from, newest-split}

-- what a test for no address tells
pub none-zero : (b : Bool) (a : ℕ) → IsTrue b ↔ (a ≡ 0) → b ≡ true → a ≡ 0
none-zero b a h e = h.0 e

pub some-zero : (b : Bool) (a : ℕ) → IsTrue b ↔ (a ≡ 0) → b ≡ false → a ≢ 0
some-zero b a h e = λ z. let yes : b ≡ true = h.1 z in let both : true ≡ false = sym yes ∙ e in cc

-- a block behind the others there
ends-own : (number m : ℕ) (front : List (Block ℕ)) (b : Block ℕ) → b.seg ≡ number → m ≤ b.off → All (λ c. c.seg ≡ number → c.off + span c.size ≤ b.off) front → fold max m (ends number (front ++ b ∷ [])) ≡ b.off + span b.size
ends-own number m [] b own low h = rw (eq-eqb b.seg number own) (omega (arith, low))
ends-own number m (c ∷ cs) b own low h =
    let P : Block ℕ → Type 0 = λ d. d.seg ≡ number → d.off + span d.size ≤ b.off in
    let rest = All-tail P c cs h in
    ⊎_elim
    (λ (u : c.seg ≡ number).
    rw (eq-eqb c.seg number u) (ends-own number (max m (c.off + span c.size)) cs b own (omega (arith, low, All-head P c cs h u)) rest))
    (λ (u : c.seg ≡ number → ⊥). rw (ne_eqb c.seg number u) (ends-own number m cs b own low rest))
    (cases_eq c.seg number)

-- the number of the newest segment
pub newest-is : (r : Layout ℕ) (n : ℕ) → option_map (λ (s : ℕ × ℕ). s.0) (newest r) ≡ Some n → (s : ℕ × ℕ) × (newest r ≡ Some s) × (n ≡ s.0)
newest-is r n e = found (newest r) e refl
  where
    found : (o : Option (ℕ × ℕ)) → option_map (λ (s : ℕ × ℕ). s.0) o ≡ Some n → newest r ≡ o → (s : ℕ × ℕ) × (newest r ≡ Some s) × (n ≡ s.0)
    found None e is = absurd (cc)
    found (Some s) e is = (s, is, cc)

module _ (segs : List Bytes) (q n : ℕ) (h : IsLast segs q) (new : option_map (λ (s : ℕ × ℕ). s.0) (newest (layout_by segs q)) ≡ Some n) where
  newest-row : option_map (λ (s : ℕ × ℕ). s.0) (newest (row (map pair_of segs) (blocks_from segs q))) ≡ Some n
  newest-row = subst (λ (r : Layout ℕ). option_map (λ (s : ℕ × ℕ). s.0) (newest r) ≡ Some n) (layout-from segs q) new

  pub next-zero : q ≡ 0 → 32 ≡ next_offset n (layout_by segs q).blocks
  next-zero z =
      let e : (layout_by segs q).blocks ≡ [] = ap (λ (r : Layout ℕ). r.blocks) (layout-from segs q) ∙ (ap (blocks_from segs) z ∙ latest-none segs) in
      sym (ap (next_offset n) e)

  module _ (some : q ≢ 0) where
    l : HasLatest segs q
    l = latest-some segs q some h

    blocks : (layout_by segs q).blocks ≡ blocks_from segs (before_of segs q) ++ block_of segs q ∷ []
    blocks = ap (λ (r : Layout ℕ). r.blocks) (layout-from segs q) ∙ l.blocks

    behind : All (λ c. EndsFirst c (block_of segs q)) (blocks_from segs (before_of segs q))
    behind = AllPairs-last EndsFirst (blocks_from segs (before_of segs q)) (block_of segs q) (subst (AllPairs EndsFirst) l.blocks h.ordered)

    lower : All (λ c. LiesLower segs c (block_of segs q)) (blocks_from segs (before_of segs q))
    lower = AllPairs-last (LiesLower segs) (blocks_from segs (before_of segs q)) (block_of segs q) (subst (AllPairs (LiesLower segs)) l.blocks h.rising)

    pub next-own : (place_of q).0 ≡ n → (place_of q).1 + span (block_of segs q).size ≡ next_offset n (layout_by segs q).blocks
    next-own own =
        let heads = chain-heads segs 0 (before_of segs q) (blocks_from segs (before_of segs q)) l.kept.chain in
        sym (ap (next_offset n) blocks
        ∙ ends-own n 32 (blocks_from segs (before_of segs q)) (block_of segs q) own l.head.first
        (λ k d lt e.
        omega (arith, behind k d lt (e ∙ sym own), (heads k d lt).first, l.head.first)))

    pub next-other : (place_of q).0 ≢ n → 32 ≡ next_offset n (layout_by segs q).blocks
    next-other other =
        let s = newest-is (row (map pair_of segs) (blocks_from segs q)) n newest-row in
        let cut = newest-split segs s.0 (blocks_from segs q) s.1 in
        let front : List Bytes = cut.0 in
        let t : Bytes = cut.1 in
        let number : t.number ≡ n = cut.3 ∙ sym s.2 in
        let end : index_from 0 n segs ≡ 0 + length front + 1 = ap (index_from 0 n) cut.2 ∙ index-end 0 n front t number (subst (AllPairs Apart) cut.2 h.segments.distinct) in
        let most : index_from 0 (place_of q).0 segs ≤ 0 + length front = subst (λ (xs : List Bytes). index_from 0 (place_of q).0 xs ≤ 0 + length front) (sym cut.2) (index-front 0 (place_of q).0 front t (λ z. other (sym z ∙ number))) in
        let b : Block ℕ = block_of segs q in
        let P : Block ℕ → Type 0 = λ c. c.seg ≢ n in
        let all : All P (blocks_from segs (before_of segs q)) =
        λ k d lt e.
        let c : Block ℕ = get_or (blocks_from segs (before_of segs q)) k d in
        let low : rank segs c < rank segs b = lower k d lt in
        let same = ap (λ m. index_from 0 m segs) e in
        omega (arith, low, most, end, same) in
        sym (ap (next_offset n) blocks ∙ ends-none n 32 (blocks_from segs (before_of segs q) ++ block_of segs q ∷ []) (All-push P (blocks_from segs (before_of segs q)) b all other))

-- the segment lent latest
pub newest-last : (segs : List Bytes) (q : ℕ) → option_map pair_of (slice_get segs (length segs - 1)) ≡ newest (layout_by segs q)
newest-last segs q =
    ap (option_map pair_of) (slice_get-last segs) ∙ (sym (last_of-map pair_of segs) ∙ sym (ap newest (layout-from segs q)))
