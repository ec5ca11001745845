-- What a call on the latest block makes of the others, and of their layout.
use Rattle.vc_base.proofs.Common.{◌≡◌, ℕ, ◌+◌, ◌-◌, ◌<◌, ◌≤◌, true, false, ◌≢◌, List, [], ◌∷◌, ◌++◌, map, get_or, All, AllPairs, sym, refl, ap, ◌∙◌, subst, inr, arith, place_of, without_block_at, Block, Layout, address_of, footprint, is_at, without_block, is_usable, resize_there, sized_block, span, change_block}
use Rattle.vc_base.proofs.Places.{span-least}
use Rattle.vc_seg.specs.Segment.{Bytes, pair_of}
use Rattle.vc_seg.specs.Memory.{bytes_of_number}
use Rattle.vc_seg.specs.Field.{field_at}
use Rattle.vc_seg.proofs.Frames.{field-back, field-front, part-back}
use Rattle.vc_last.specs.Allocation.{EndsFirst}
use Rattle.vc_last.specs.Head.{HasHead, LiesThere, StaysBut, before_of, block_of}
use Rattle.vc_last.specs.Chain.{IsLast, IsLastOf, LiesLower, blocks_from, rank}
use Rattle.vc_last.specs.Place.{IsBlockPlace}
use Rattle.vc_last.specs.Read.{layout_by}
use Rattle.vc_last.proofs.Lists.{All-front, AllPairs-last}
use Rattle.vc_last.proofs.Latest.{at-own, change-last, ends-elsewhere, without-last}
use Rattle.vc_seg.proofs.Resizes.{usable-any}
use Rattle.vc_last.proofs.Allocations.{row}
use Rattle.vc_last.proofs.Chains.{HasLatest, chain-heads, chain-last, head-exact, last-from, last-front, last-push, latest-some}
use Rattle.vc_last.proofs.Writes.{LiesClear, head-made, last-stays, rank-same, size-same}
use Rattle.vc_last.proofs.Kept.{layout-from, layout-is, put-last}

-- the latest block, at its address, and those before it
module _ (o : List Bytes) (q : ℕ) (h : IsLast o q) (some : q ≢ 0) where
  l : HasLatest o q
  l = latest-some o q some h

  pub here-latest : is_at (place_of q) (block_of o q) ≡ true
  here-latest = at-own (place_of q) (block_of o q) refl

  pub behind-latest : All (λ c. EndsFirst c (block_of o q)) (blocks_from o (before_of o q))
  behind-latest = AllPairs-last EndsFirst (blocks_from o (before_of o q)) (block_of o q) (subst (AllPairs EndsFirst) l.blocks h.ordered)

  pub lower-latest : All (λ c. LiesLower o c (block_of o q)) (blocks_from o (before_of o q))
  lower-latest = AllPairs-last (LiesLower o) (blocks_from o (before_of o q)) (block_of o q) (subst (AllPairs (LiesLower o)) l.blocks h.rising)

  pub elsewhere-latest : All (λ c. is_at (place_of q) c ≡ false) (blocks_from o (before_of o q))
  elsewhere-latest = λ k d lt. ends-elsewhere (place_of q) (get_or (blocks_from o (before_of o q)) k d) (block_of o q) (behind-latest k d lt) here-latest

  -- it gets another size where it is
  module _ (s : List Bytes) (size : ℕ) (enough : 1 ≤ size) (can : is_usable (map pair_of o) (footprint (sized_block size (block_of o q))) ≡ true) where
    pub sized-place : IsBlockPlace (row (map pair_of o) (blocks_from o (before_of o q))) size (place_of q)
    sized-place =
        let first = l.head.first in
        let u = usable-any (footprint (sized_block size (block_of o q))) (map pair_of o) can in
        let heads = chain-heads o 0 (before_of o q) (blocks_from o (before_of o q)) l.kept.chain in
        record {
          behind = λ k d lt e.
              omega (arith, behind-latest k d lt e, (heads k d lt).first, first);
          first = first;
          multiple = omega arith;
          inside = (u.0, u.1, u.2, u.3, (u.4.0, omega (arith, u.4.2, first)));
        }

    module _ (stays : StaysBut (place_of q).0 ((place_of q).1 - 16) ((place_of q).1 + size) o s) (laid : LiesThere s (before_of o q) (sized_block size (block_of o q))) where
      made : IsLastOf s q (blocks_from o (before_of o q) ++ sized_block size (block_of o q) ∷ [])
      made =
          let front : List (Block ℕ) = blocks_from o (before_of o q) in
          let b : Block ℕ = sized_block size (block_of o q) in
          let lower : All (λ c. LiesLower o c b) front = λ k d lt. lower-latest k d lt in
          subst (λ a. IsLastOf s a (blocks_from o (before_of o q) ++ sized_block size (block_of o q) ∷ [])) l.at
          (put-last o s (before_of o q) front b l.kept enough sized-place stays laid lower)

      pub sized-kept : IsLast s q
      sized-kept = last-from s q (blocks_from o (before_of o q) ++ sized_block size (block_of o q) ∷ []) made

      pub sized-layout : layout_by s q ≡ resize_there (layout_by o q) (place_of q) size
      sized-layout =
          let f : Layout ℕ → Layout ℕ = λ r. resize_there r (place_of q) size in
          let changed : change_block (sized_block size) (place_of q) (blocks_from o q) ≡ blocks_from o (before_of o q) ++ sized_block size (block_of o q) ∷ [] =
          ap (change_block (sized_block size) (place_of q)) l.blocks ∙ change-last (place_of q) (block_of o q) here-latest (sized_block size) (blocks_from o (before_of o q)) elsewhere-latest in
          layout-is s q (blocks_from o (before_of o q) ++ sized_block size (block_of o q) ∷ []) made
          ∙ (ap (λ ss. row ss (blocks_from o (before_of o q) ++ sized_block size (block_of o q) ∷ [])) stays.pairs
          ∙ (ap (row (map pair_of o)) (sym changed) ∙ ap f (sym (layout-from o q))))

-- the block before the latest, by the list of them
pub before-is : (s : List Bytes) (q : ℕ) (front : List (Block ℕ)) (b z : Block ℕ) → IsLast s q → blocks_from s q ≡ (front ++ b ∷ []) ++ z ∷ [] → before_of s q ≡ address_of b
before-is s q front b z h e =
    let all : IsLastOf s q ((front ++ b ∷ []) ++ z ∷ []) = subst (IsLastOf s q) e h in
    (chain-last s 0 (before_of s q) front b (last-front s q (front ++ b ∷ []) z all).chain).at

-- the head of the latest block names another one
module _ (o s : List Bytes) (a q : ℕ) (h : IsLast o q) (some : q ≢ 0) (before : before_of o q ≡ a) (live : a ≢ 0)
    (stays : StaysBut (place_of q).0 ((place_of q).1 - 8) ((place_of q).1 - 4) o s) (value : before_of s q ≡ before_of o a) where
  z : HasLatest o q
  z = latest-some o q some h

  kept : IsLast o a
  kept = subst (IsLast o) before z.kept

  m : HasLatest o a
  m = latest-some o a live kept

  front : List (Block ℕ)
  front = blocks_from o (before_of o a)

  split : blocks_from o (before_of o q) ≡ blocks_from o (before_of o a) ++ block_of o a ∷ []
  split = ap (blocks_from o) before ∙ m.blocks

  behind : All (λ c. EndsFirst c (block_of o q)) (blocks_from o (before_of o a))
  behind = All-front (λ (c : Block ℕ). EndsFirst c (block_of o q)) (blocks_from o (before_of o a)) (block_of o a) (subst (All (λ (c : Block ℕ). EndsFirst c (block_of o q))) split (behind-latest o q h some))

  lower : All (λ c. LiesLower o c (block_of o q)) (blocks_from o (before_of o a))
  lower = All-front (λ (c : Block ℕ). LiesLower o c (block_of o q)) (blocks_from o (before_of o a)) (block_of o a) (subst (All (λ (c : Block ℕ). LiesLower o c (block_of o q))) split (lower-latest o q h some))

  head : HasHead s (block_of o q)
  head =
      let b : Block ℕ = block_of o q in
      let x : List ℕ = bytes_of_number b.seg o in
      let y : List ℕ = bytes_of_number b.seg s in
      let first = z.head.first in
      let f : (i : ℕ) → i + 4 ≤ (place_of q).1 - 8 → field_at i y ≡ field_at i x = field-front x y ((place_of q).1 - 8) stays.below in
      record {
        some = z.head.some;
        first = z.head.first;
        within = subst (λ k. b.off + span b.size ≤ k) (sym (size-same b.seg o s stays.pairs)) z.head.within;
        zero = field-back x y ((place_of q).1 - 4) stays.above (b.off - 4) (omega (arith, first)) ∙ z.head.zero;
        is = head-made s b (head-exact o b z.head) (sym (f (b.off - 16) (omega (arith, first)))) (sym (f (b.off - 12) (omega (arith, first)))) (sym (part-back x y ((place_of q).1 - 4) stays.above b.off b.size (omega (arith, first))));
      }

  relinked : IsLastOf s q (blocks_from o (before_of o a) ++ block_of o q ∷ [])
  relinked =
      let heads = chain-heads o 0 (before_of o a) (blocks_from o (before_of o a)) m.kept.chain in
      let clear : All (LiesClear (place_of q).0 ((place_of q).1 - 8) ((place_of q).1 - 4)) (blocks_from o (before_of o a)) =
      λ k d lt e.
      let low = (heads k d lt).first in
      inr (omega (arith, behind k d lt e, low, z.head.first, span-least (get_or (blocks_from o (before_of o a)) k d).size)) in
      let rest : IsLastOf s (before_of o a) (blocks_from o (before_of o a)) = last-stays (place_of q).0 ((place_of q).1 - 8) ((place_of q).1 - 4) o s stays (before_of o a) (blocks_from o (before_of o a)) m.kept clear in
      let same = rank-same (place_of q).0 ((place_of q).1 - 8) ((place_of q).1 - 4) o s stays in
      let up : All (λ c. LiesLower s c (block_of o q)) (blocks_from o (before_of o a)) =
      λ k d lt.
      let low : rank o (get_or (blocks_from o (before_of o a)) k d) < rank o (block_of o q) = lower k d lt in
      omega (arith, low, same (get_or (blocks_from o (before_of o a)) k d), same (block_of o q)) in
      subst (λ p. IsLastOf s p (blocks_from o (before_of o a) ++ block_of o q ∷ [])) z.at
      (last-push s (before_of o a) (blocks_from o (before_of o a)) (block_of o q) rest head (ap (before_of s) z.at ∙ value) behind up)

  pub unlinked-kept : IsLast s q
  unlinked-kept = last-from s q (blocks_from o (before_of o a) ++ block_of o q ∷ []) relinked

  pub unlinked-layout : layout_by s q ≡ without_block_at (layout_by o q) (place_of a)
  unlinked-layout =
      let f : Layout ℕ → Layout ℕ = λ r. without_block_at r (place_of a) in
      let all : blocks_from o q ≡ (blocks_from o (before_of o a) ++ block_of o a ∷ []) ++ block_of o q ∷ [] = z.blocks ∙ ap (λ (bs : List (Block ℕ)). bs ++ block_of o q ∷ []) split in
      let gone : without_block (place_of a) (blocks_from o q) ≡ blocks_from o (before_of o a) ++ block_of o q ∷ [] =
      ap (without_block (place_of a)) all ∙ without-last (place_of a) (block_of o a) (here-latest o a kept live) (blocks_from o (before_of o a)) (block_of o q ∷ []) (elsewhere-latest o a kept live) in
      layout-is s q (blocks_from o (before_of o a) ++ block_of o q ∷ []) relinked
      ∙ (ap (λ ss. row ss (blocks_from o (before_of o a) ++ block_of o q ∷ [])) stays.pairs
      ∙ (ap (row (map pair_of o)) (sym gone) ∙ ap f (sym (layout-from o q))))
