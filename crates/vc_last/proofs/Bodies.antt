-- Bytes that are written into one of the blocks.
use Rattle.vc_base.proofs.Common.{◌≡◌, ℕ, ◌+◌, ◌-◌, ◌<◌, ◌≤◌, true, false, ltb, ◌⊎◌, List, [], ◌∷◌, map, length, get_or, take, drop, All, AllPairs, sym, ap, ◌∙◌, subst, inl, inr, ⊎_elim, arith, ltb-false, ltb-true, cases_Bool, cases_eq, All-head, All-tail, address, place_of, with_bytes, Block, Layout, address_of, is_at, span, HasBlock, change_block, rewritten_block, with_bytes_at}
use Rattle.vc_model.proofs.Pairs.{AllPairs-head, AllPairs-tail}
use Rattle.vc_base.proofs.Places.{at-place, span-least}
use Rattle.vc_seg.specs.Segment.{Bytes, pair_of}
use Rattle.vc_seg.specs.Memory.{bytes_of_number}
use Rattle.vc_seg.proofs.Overwrites.{range-around}
use Rattle.vc_seg.specs.Field.{field_at}
use Rattle.vc_seg.proofs.Frames.{field-front}
use Rattle.vc_last.specs.Allocation.{EndsFirst, AreAllocated}
use Rattle.vc_last.specs.Head.{HasHead, StaysBut, before_of, block_of, bytes_at}
use Rattle.vc_last.specs.Chain.{IsChain, IsLast, IsLastOf, LiesLower, blocks_from}
use Rattle.vc_last.specs.Read.{layout_by}
use Rattle.vc_last.proofs.Latest.{at-own, ends-elsewhere}
use Rattle.vc_last.proofs.Allocations.{AllPairs-change, AreAllocated-written, row}
use Rattle.vc_last.proofs.Chains.{chain-heads, head-exact, last-from}
use Rattle.vc_last.proofs.Writes.{LiesClear, chain-stays, head-made, head-says, head-stays, rising-same, segments-same, size-same}
use Rattle.vc_last.proofs.Kept.{layout-from, layout-is, row-of, stands-at}

-- each of some items in order is one of them, or stands on one side of it
pairs-either : {A : Type 0} (R : A → A → Type 0) (xs : List A) (k : ℕ) (x : A) → AllPairs R xs → k < length xs → ((d : A) → get_or xs k d ≡ x) → All (λ y. (y ≡ x) ⊎ ((R y x) ⊎ (R x y))) xs
pairs-either {A = A} R xs k x h within is = λ i d lt.
    ⊎_elim
    (λ (e : i ≡ k). inl (ap (λ j. get_or xs j d) e ∙ is d))
    (λ (e : i ≡ k → ⊥).
    ⊎_elim
    (λ (t : ltb i k ≡ true). inr (inl (subst (R (get_or xs i d)) (is d) (h i k d (ltb-true i k t) within))))
    (λ (t : ltb i k ≡ false). let le = ltb-false i k t in inr (inr (subst (λ (y : A). R y (get_or xs i d)) (is d) (h k i d (omega (arith, le, e)) lt))))
    (cases_Bool (ltb i k)))
    (cases_eq i k)

-- a block that ends before another, or begins behind it, isn't at its place
apart-elsewhere : (at : ℕ × ℕ) (b c : Block ℕ) → EndsFirst b c → is_at at b ≡ true → is_at at c ≡ false
apart-elsewhere at b c h here =
    ⊎_elim
    (λ (t : is_at at c ≡ true). let no = ends-elsewhere at b c h t in let both : true ≡ false = sym here ∙ no in cc)
    (λ (t : is_at at c ≡ false). t)
    (cases_Bool (is_at at c))

module _ (o s : List Bytes) (a k : ℕ) (src : List ℕ) where
  abbrev t : Block ℕ
  t = block_of o a

  abbrev from : ℕ
  from = (place_of a).1 + k

  abbrev to : ℕ
  to = (place_of a).1 + k + length src

  module _ (head : HasHead o t) (own : address_of t ≡ a) (fits : k + length src ≤ t.size) (h : StaysBut (place_of a).0 from to o s) (bytes : bytes_at s a ≡ with_bytes from src (bytes_at o a)) where
    f : Block ℕ → Block ℕ
    f = rewritten_block k src

    -- the block itself
    head-written : (b : Block ℕ) → HasHead o b → b ≡ t → HasHead s (rewritten_block k src b) × (before_of s (address_of b) ≡ before_of o (address_of b))
    head-written b l e =
        let says = head-says o b l in
        let exact = head-exact o b l in
        let first = l.first in
        let within = l.within in
        let off : b.off ≡ (place_of a).1 = ap (λ (c : Block ℕ). c.off) e in
        let seg : b.seg ≡ (place_of a).0 = ap (λ (c : Block ℕ). c.seg) e in
        let below : take from (bytes_of_number b.seg s) ≡ take from (bytes_of_number b.seg o) = subst (λ m. take from (bytes_of_number m s) ≡ take from (bytes_of_number m o)) (sym seg) h.below in
        let front : (i : ℕ) → i + 4 ≤ from → field_at i (bytes_of_number b.seg s) ≡ field_at i (bytes_of_number b.seg o) = field-front (bytes_of_number b.seg o) (bytes_of_number b.seg s) from below in
        let size : b.size ≡ field_at (b.off - 16) (bytes_of_number b.seg s) = says.size ∙ sym (front (b.off - 16) (omega (arith, first, off))) in
        let label : b.label ≡ field_at (b.off - 12) (bytes_of_number b.seg s) = says.label ∙ sym (front (b.off - 12) (omega (arith, first, off))) in
        let before : field_at (b.off - 8) (bytes_of_number b.seg s) ≡ field_at (b.off - 8) (bytes_of_number b.seg o) = front (b.off - 8) (omega (arith, first, off)) in
        let room : k + length src ≤ b.size = subst (λ (c : Block ℕ). k + length src ≤ c.size) (sym e) fits in
        let is : bytes_of_number b.seg s ≡ with_bytes from src (bytes_of_number b.seg o) = subst (λ m. bytes_of_number m s ≡ with_bytes from src (bytes_of_number m o)) (sym seg) bytes in
        let around : take b.size (drop b.off (with_bytes from src (bytes_of_number b.seg o))) ≡ with_bytes k src (take b.size (drop b.off (bytes_of_number b.seg o))) =
        range-around k src (bytes_of_number b.seg o) b.off b.size from (omega (arith, off)) (omega (arith, within, span-least b.size)) room in
        let body : with_bytes k src b.bytes ≡ take b.size (drop b.off (bytes_of_number b.seg s)) =
        ap (with_bytes k src) says.bytes ∙ (sym around ∙ ap (λ (xs : List ℕ). take b.size (drop b.off xs)) (sym is)) in (
          record {
            some = l.some;
            first = l.first;
            within = subst (λ j. b.off + span b.size ≤ j) (sym (size-same b.seg o s h.pairs)) l.within;
            zero = front (b.off - 4) (omega (arith, first, off)) ∙ l.zero;
            is = head-made s (rewritten_block k src b) exact size label body;
          },
          ap (λ (p : ℕ × ℕ). field_at (p.1 - 8) (bytes_of_number p.0 s)) exact ∙ (before ∙ sym says.before),
        )

    -- all others lie clear of it
    abbrev IsClear : Block ℕ → Type 0
    IsClear c = is_at (place_of a) c ≡ false → LiesClear (place_of a).0 from to c

    clear-either : (c : Block ℕ) → 32 ≤ c.off → (c ≡ t) ⊎ ((EndsFirst c t) ⊎ (EndsFirst t c)) → IsClear c
    clear-either c low u other seg =
        ⊎_elim
        (λ (e : c ≡ t). let yes : is_at (place_of a) c ≡ true = here c e in let both : true ≡ false = sym yes ∙ other in absurd (cc))
        (λ v.
        ⊎_elim
        (λ (e : EndsFirst c t). let le = e seg in inr (omega (arith, le, low, head.first, span-least c.size)))
        (λ (e : EndsFirst t c). let le = e (sym seg) in inl (omega (arith, le, low, head.first, fits, span-least (t).size)))
        v)
        u
      where
        here : (c : Block ℕ) → c ≡ t → is_at (place_of a) c ≡ true
        here c e = at-own (place_of a) c (ap (λ (d : Block ℕ). (d.seg, d.off)) e)

    chain-written : (p q : ℕ) (bs : List (Block ℕ)) → IsChain o p bs q → AllPairs EndsFirst bs → All IsClear bs → IsChain s p (change_block (rewritten_block k src) (place_of a) bs) q
    chain-written p q [] c pairs clear = c
    chain-written p q (b ∷ bs) c pairs clear =
        let rest = All-tail IsClear b bs clear in
        let after = AllPairs-head EndsFirst b bs pairs in
        ⊎_elim
        (λ (e : is_at (place_of a) b ≡ true).
        let is : b ≡ t = c.0.is ∙ ap (block_of o) (ap address (at-place (place_of a) b e) ∙ omega arith) in
        let one = head-written b c.0 is in
        let others : All (LiesClear (place_of a).0 from to) bs = λ i d lt. rest i d lt (apart-elsewhere (place_of a) b (get_or bs i d) (after i d lt) e) in
        rw e (one.0, one.1 ∙ c.1, chain-stays (place_of a).0 from to o s h (address_of b) q bs c.2 others))
        (λ (e : is_at (place_of a) b ≡ false).
        let one = head-stays (place_of a).0 from to o s h b c.0 (All-head IsClear b bs clear e) in
        rw e (one.0, one.1 ∙ c.1, chain-written (address_of b) q bs c.2 (AllPairs-tail EndsFirst b bs pairs) rest))
        (cases_Bool (is_at (place_of a) b))

-- the blocks then
pub last-written : (o s : List Bytes) (q a k : ℕ) (src : List ℕ) (bs : List (Block ℕ)) → IsLastOf o q bs → HasBlock bs a → k + length src ≤ (block_of o a).size → StaysBut (place_of a).0 ((place_of a).1 + k) ((place_of a).1 + k + length src) o s → bytes_at s a ≡ with_bytes ((place_of a).1 + k) src (bytes_at o a) →
    IsLastOf s q (change_block (rewritten_block k src) (place_of a) bs)
last-written o s q a k src bs l among fits h bytes =
    let x = stands-at o q bs a l among in
    let either = pairs-either EndsFirst bs x.place (block_of o a) l.ordered x.within x.is in
    let heads = chain-heads o 0 q bs l.chain in
    let whole : AreAllocated (with_bytes_at (row (map pair_of o) bs) (place_of a) k src) = AreAllocated-written (row (map pair_of o) bs) (place_of a) k src (row-of o q bs l) in
    let rising = rising-same (place_of a).0 ((place_of a).1 + k) ((place_of a).1 + k + length src) o s h bs l.rising in
    record {
      segments = segments-same o s h.pairs l.segments;
      chain = chain-written o s a k src x.head x.at fits h bytes 0 q bs l.chain l.ordered (λ i d lt. clear-either o s a k src x.head x.at fits h bytes (get_or bs i d) (heads i d lt).first (either i d lt));
      ordered = whole.ordered;
      rising = AllPairs-change (LiesLower s) (rewritten_block k src) (λ b c e. e) (λ b c e. e) (place_of a) bs rising;
    }

pub layout-written : (o s : List Bytes) (q a k : ℕ) (src : List ℕ) → (l : IsLast o q) → HasBlock (blocks_from o q) a → k + length src ≤ (block_of o a).size → StaysBut (place_of a).0 ((place_of a).1 + k) ((place_of a).1 + k + length src) o s → bytes_at s a ≡ with_bytes ((place_of a).1 + k) src (bytes_at o a) →
    IsLast s q × (layout_by s q ≡ with_bytes_at (layout_by o q) (place_of a) k src)
layout-written o s q a k src l among fits h bytes =
    let w = last-written o s q a k src (blocks_from o q) l among fits h bytes in
    let f : Layout ℕ → Layout ℕ = λ r. with_bytes_at r (place_of a) k src in
    (last-from s q (change_block (rewritten_block k src) (place_of a) (blocks_from o q)) w, layout-is s q (change_block (rewritten_block k src) (place_of a) (blocks_from o q)) w ∙ (ap (λ ss. row ss (change_block (rewritten_block k src) (place_of a) (blocks_from o q))) h.pairs ∙ ap f (sym (layout-from o q))))
