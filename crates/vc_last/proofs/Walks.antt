-- A walk from the latest block back: a step, and what stands behind it.
use Rattle.vc_base.proofs.Common.{◌≡◌, ℕ, suc, ◌+◌, ◌-◌, ◌<◌, Bool, true, false, eqb, ltb, leb, ◌≢◌, List, [], ◌∷◌, ◌++◌, map, length, get_or, Some, None, fold, All, Contains, filter, Option, option_map, find, sym, ap, ◌∙◌, subst, ⊎_elim, arith, ltb-true, eqb-true, leb-true, and_parts, cases_Bool, get_or-map, length-map, length_push, map_push, Block, Layout, address_of, lesser_by, HasBlock, block_at, holds_byte, next_block}
use Rattle.vc_base.proofs.Places.{span-least}
use Rattle.vc_seg.specs.Segment.{Bytes}
use Rattle.vc_seg.proofs.LayoutWalks.{least_above-among, least_above-key}
use Rattle.vc_last.specs.Chain.{IsLast, blocks_from}
use Rattle.vc_last.specs.Head.{before_of, block_of}
use Rattle.vc_last.specs.Read.{layout_by}
use Rattle.vc_last.proofs.Chains.{chain-heads, latest-none, latest-some}
use Rattle.vc_last.proofs.Changes.{behind-latest}
use Rattle.vc_last.proofs.UnorderedFolds.{find-last-none, find-last-one, least-last}
use Rattle.vc_last.proofs.Kept.{layout-from}

-- a step back: less blocks are left, and the same is true of them
module _ (segs : List Bytes) (q next : ℕ) (h : IsLast segs q) (some : q ≢ 0) (step : next ≡ before_of segs q) where
  pub shorter : length (blocks_from segs next) < length (blocks_from segs q)
  shorter = rw step (omega (arith, ap length (latest-some segs q some h).blocks, length_push (blocks_from segs (before_of segs q)) (block_of segs q)))

  pub rest-kept : IsLast segs next
  rest-kept = subst (IsLast segs) (sym step) (latest-some segs q some h).kept

-- the addresses from one back
abbrev pub addresses : List Bytes → ℕ → List ℕ
addresses segs q = map address_of (blocks_from segs q)

addresses-last : (segs : List Bytes) (q : ℕ) → IsLast segs q → q ≢ 0 → addresses segs q ≡ addresses segs (before_of segs q) ++ q ∷ []
addresses-last segs q h some =
    let l = latest-some segs q some h in
    ap (map address_of) l.blocks ∙ (map_push address_of (blocks_from segs (before_of segs q)) (block_of segs q) ∙ ap (λ a. addresses segs (before_of segs q) ++ a ∷ []) l.at)

-- the least so far, taken on
abbrev pub least_on : Option ℕ → ℕ → List ℕ → Option ℕ
least_on o after xs = fold (lesser_by (λ a. a)) o (filter (λ a. ltb after a) xs)

pub least-step : (segs : List Bytes) (q after : ℕ) (o o' : Option ℕ) → IsLast segs q → q ≢ 0 → o' ≡ least_on o after (q ∷ []) → least_on o' after (addresses segs (before_of segs q)) ≡ least_on o after (addresses segs q)
least-step segs q after o o' h some is =
    ap (λ p. least_on p after (addresses segs (before_of segs q))) is
    ∙ sym (ap (least_on o after) (addresses-last segs q h some) ∙ least-last after o (addresses segs (before_of segs q)) q)

pub least-end : (segs : List Bytes) (q after : ℕ) (o : Option ℕ) → q ≡ 0 → least_on o after (addresses segs q) ≡ o
least-end segs q after o z = ap (λ p. least_on o after (addresses segs p)) z ∙ ap (λ (bs : List (Block ℕ)). least_on o after (map address_of bs)) (latest-none segs)

pub next-is : (segs : List Bytes) (q after : ℕ) (o : Option ℕ) → o ≡ least_on None after (addresses segs q) → option_map address_of (next_block after (layout_by segs q).blocks) ≡ o
next-is segs q after o is =
    ap (λ (r : Layout ℕ). option_map address_of (next_block after r.blocks)) (layout-from segs q) ∙ (least_above-key address_of after (blocks_from segs q) ∙ sym is)

pub next-among : (segs : List Bytes) (q after x : ℕ) → Some x ≡ least_on None after (addresses segs q) → HasBlock (layout_by segs q).blocks x
next-among segs q after x is = subst (λ (r : Layout ℕ). HasBlock r.blocks x) (sym (layout-from segs q)) (least_above-among after (addresses segs q) x (sym is))

-- the block that holds a byte
module _ (segs : List Bytes) (q seg off : ℕ) (h : IsLast segs q) (some : q ≢ 0) where
  pub find-step : holds_byte (seg, off) (block_of segs q) ≡ false → find (holds_byte (seg, off)) (blocks_from segs (before_of segs q)) ≡ find (holds_byte (seg, off)) (blocks_from segs q)
  find-step miss = sym (ap (find (holds_byte (seg, off))) (latest-some segs q some h).blocks ∙ find-last-none (holds_byte (seg, off)) (blocks_from segs (before_of segs q)) (block_of segs q) miss)

  others-miss : holds_byte (seg, off) (block_of segs q) ≡ true → All (λ c. holds_byte (seg, off) c ≡ false) (blocks_from segs (before_of segs q))
  others-miss hit = λ k d lt.
      let b : Block ℕ = block_of segs q in
      let c : Block ℕ = get_or (blocks_from segs (before_of segs q)) k d in
      let kept = (latest-some segs q some h).kept in
      let low = (chain-heads segs 0 (before_of segs q) (blocks_from segs (before_of segs q)) kept.chain k d lt).first in
      let mine = and_parts (eqb b.seg seg) _ hit in
      let from = and_parts (leb b.off off) (ltb off (b.off + b.size)) mine.1 in
      ⊎_elim
      (λ (t : holds_byte (seg, off) c ≡ true).
      let own = and_parts (eqb c.seg seg) _ t in
      let to = and_parts (leb c.off off) (ltb off (c.off + c.size)) own.1 in
      let le = behind-latest segs q h some k d lt (eqb-true c.seg seg own.0 ∙ sym (eqb-true b.seg seg mine.0)) in
      absurd (omega (arith, le, low, (latest-some segs q some h).head.first, leb-true b.off off from.0, ltb-true off (c.off + c.size) to.1, span-least c.size)))
      (λ (t : holds_byte (seg, off) c ≡ false). t)
      (cases_Bool (holds_byte (seg, off) c))

  pub find-here : holds_byte (seg, off) (block_of segs q) ≡ true → find (holds_byte (seg, off)) (blocks_from segs q) ≡ Some (block_of segs q)
  find-here hit = ap (find (holds_byte (seg, off))) (latest-some segs q some h).blocks ∙ find-last-one (holds_byte (seg, off)) (blocks_from segs (before_of segs q)) (block_of segs q) hit (others-miss hit)

pub find-end : (segs : List Bytes) (q seg off : ℕ) → q ≡ 0 → find (holds_byte (seg, off)) (blocks_from segs q) ≡ None
find-end segs q seg off z = ap (λ p. find (holds_byte (seg, off)) (blocks_from segs p)) z ∙ ap (find (holds_byte (seg, off))) (latest-none segs)

pub block-is : (segs : List Bytes) (q seg off : ℕ) (o : Option (Block ℕ)) → o ≡ find (holds_byte (seg, off)) (blocks_from segs q) → block_at (seg, off) (layout_by segs q).blocks ≡ option_map {U = Block ℕ × ℕ} (λ b. (b, off - b.off)) o
block-is segs q seg off o is =
    ap (λ (r : Layout ℕ). block_at (seg, off) r.blocks) (layout-from segs q) ∙ ap (option_map {U = Block ℕ × ℕ} (λ (b : Block ℕ). (b, off - b.off))) (sym is)

find-Contains : {A : Type 0} (p : A → Bool) (xs : List A) (x : A) → find p xs ≡ Some x → Contains xs x
find-Contains p [] x e = absurd (cc)
find-Contains p (y ∷ ys) x e =
    ⊎_elim
    (λ (t : p y ≡ true). let here : Some y ≡ Some x = rw t at e in let same : y ≡ x = cc in (0, omega arith, same))
    (λ (t : p y ≡ false).
    let rest : find p ys ≡ Some x = rw t at e in
    let later = find-Contains p ys x rest in
    (suc later.0, omega (arith, later.1), later.2))
    (cases_Bool (p y))

-- a block that stands back from the latest is one of the region
pub find-among : (segs : List Bytes) (q a : ℕ) (p : Block ℕ → Bool) → Some (block_of segs a) ≡ find p (blocks_from segs q) → address_of (block_of segs a) ≡ a → HasBlock (layout_by segs q).blocks a
find-among segs q a p is own =
    let found = find-Contains p (blocks_from segs q) (block_of segs a) (sym is) in
    let k : ℕ = found.0 in
    let within : k < length (blocks_from segs q) = found.1 in
    subst (λ (r : Layout ℕ). HasBlock r.blocks a) (sym (layout-from segs q))
    (k, omega (arith, within, length-map (blocks_from segs q) address_of), get_or-map address_of (blocks_from segs q) k (block_of segs a) a within ∙ (ap address_of found.2 ∙ own))
