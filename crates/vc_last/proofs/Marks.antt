-- Numbers that are marked, and the segments that stay by them.
use Rattle.vc_base.proofs.Common.{◌≡◌, ℕ, ◌<◌, ◌≤◌, Bool, true, false, ◌||◌, eqb, List, [], ◌∷◌, ◌++◌, map, length, get_or, set, All, filter, sym, refl, ap, ◌∙◌, subst, ⊎_elim, arith, get_or-set_other, get_or-set_same, eq-eqb, ne_eqb, or-false, or-true, cases_Bool, cases_eq, All-head, All-nil, All-tail, compacted_layout, is_occupied, Discipline, TookBack, Block}
use Rattle.vc_model.specs.Layout.{empty_layout}
use Rattle.vc_base.proofs.Lists.{filter-map}
use Rattle.vc_seg.specs.Segment.{AreSegments, Bytes, IsRegionSegment, pair_of}
use Rattle.vc_seg.proofs.Backs.{Apart}
use Rattle.vc_seg.proofs.Filters.{filter-agree_on}
use Rattle.vc_seg.specs.Memory.{bytes_of_number}
use Rattle.vc_seg.proofs.Lists.{AllPairs-nil}
use Rattle.vc_last.specs.Head.{HasHead}
use Rattle.vc_last.specs.Chain.{IsLast, IsLastOf, blocks_from}
use Rattle.vc_last.specs.Read.{layout_by}
use Rattle.vc_last.proofs.Allocations.{row}
use Rattle.vc_last.proofs.Chains.{last-cleared, last-from, latest-none}
use Rattle.vc_last.proofs.Kept.{layout-from, layout-is}
use Rattle.vc_last.proofs.Lends.{kept, last-kept}

pub number-most : (n : ℕ) (segs : List Bytes) → All IsRegionSegment segs → 0 < length (bytes_of_number n segs) → n ≤ 1023
number-most n [] h some = absurd (omega (arith, some))
number-most n (s ∷ ss) h some =
    ⊎_elim
    (λ (e : s.number ≡ n). let last = (All-head IsRegionSegment s ss h).last in omega (arith, last, e))
    (λ (e : s.number ≡ n → ⊥). number-most n ss (All-tail IsRegionSegment s ss h) (rw (ne_eqb s.number n e) at some))
    (cases_eq s.number n)

pub head-number : (segs : List Bytes) (b : Block ℕ) → AreSegments segs → HasHead segs b → b.seg ≤ 1023
head-number segs b h l = let within = l.within in let first = l.first in number-most b.seg segs h.legal (omega (arith, within, first))

occupied-push : (bs : List (Block ℕ)) (b : Block ℕ) (n : ℕ) → is_occupied (bs ++ b ∷ []) n ≡ (is_occupied bs n || eqb b.seg n)
occupied-push [] b n = or-false (eqb b.seg n)
occupied-push (c ∷ cs) b n =
    ⊎_elim
    (λ (t : eqb c.seg n ≡ true). rw t refl)
    (λ (t : eqb c.seg n ≡ false). rw t (occupied-push cs b n))
    (cases_Bool (eqb c.seg n))

pub mark-step : (marks : List Bool) (i n : ℕ) (front : List (Block ℕ)) (b : Block ℕ) → b.seg ≡ i → i < length marks → (get_or (set marks i true) n false || is_occupied front n) ≡ (get_or marks n false || is_occupied (front ++ b ∷ []) n)
mark-step marks i n front b own lt =
    ⊎_elim
    (λ (e : n ≡ i).
    let here : get_or (set marks i true) n false ≡ true = ap (λ k. get_or (set marks i true) k false) e ∙ get_or-set_same marks i true false lt in
    let all : is_occupied (front ++ b ∷ []) n ≡ true = occupied-push front b n ∙ (ap (λ t. is_occupied front n || t) (eq-eqb b.seg n (own ∙ sym e)) ∙ or-true (is_occupied front n)) in
    ap (λ t. t || is_occupied front n) here ∙ sym (ap (λ t. get_or marks n false || t) all ∙ or-true (get_or marks n false)))
    (λ (e : n ≡ i → ⊥).
    let other : get_or (set marks i true) n false ≡ get_or marks n false = get_or-set_other marks i n true false e in
    let same : is_occupied (front ++ b ∷ []) n ≡ is_occupied front n = occupied-push front b n ∙ (ap (λ t. is_occupied front n || t) (ne_eqb b.seg n (λ q. e (sym q ∙ own))) ∙ or-false (is_occupied front n)) in
    ap (λ t. t || is_occupied front n) other ∙ ap (λ t. get_or marks n false || t) (sym same))
    (cases_eq n i)

pub mark-end : (b : Bool) (n : ℕ) (bs : List (Block ℕ)) → bs ≡ [] → (b || is_occupied bs n) ≡ b
mark-end b n bs e = ap (λ (cs : List (Block ℕ)). b || is_occupied cs n) e ∙ or-false b

-- the segments that a block is in stay
module _ (o s : List Bytes) (q : ℕ) (h : IsLast o q) (marks : List Bool) (marked : (n : ℕ) → n < 1024 → get_or marks n false ≡ is_occupied (blocks_from o q) n) (is : s ≡ filter (λ (b : Bytes). get_or marks b.number false) o) where
  stays : s ≡ kept (is_occupied (blocks_from o q)) o
  stays = is ∙ filter-agree_on (λ (b : Bytes). get_or marks b.number false) (λ (b : Bytes). is_occupied (blocks_from o q) b.number) o (λ k d lt. let last = (h.segments.legal k d lt).last in marked (get_or o k d).number (omega (arith, last)))

  whole : IsLastOf s q (blocks_from o q)
  whole = subst (λ (xs : List Bytes). IsLastOf xs q (blocks_from o q)) (sym stays) (last-kept o q (blocks_from o q) h)

  pub compacted-kept : IsLast s q
  compacted-kept = last-from s q (blocks_from o q) whole

  pub compacted-pairs : map pair_of s ≡ filter (λ (p : ℕ × ℕ). is_occupied (blocks_from o q) p.0) (map pair_of o)
  compacted-pairs = ap (map pair_of) stays ∙ sym (filter-map pair_of (λ (p : ℕ × ℕ). is_occupied (blocks_from o q) p.0) o)

  pub compacted-layout : layout_by s q ≡ compacted_layout (layout_by o q)
  compacted-layout =
      layout-is s q (blocks_from o q) whole ∙ (ap (λ ss. row ss (blocks_from o q)) compacted-pairs ∙ ap compacted_layout (sym (layout-from o q)))

-- what a discipline took back, by equal lists of segments
pub took-by : (d d' : Discipline) (s s' t t' : List (ℕ × ℕ)) → s' ≡ s → t' ≡ t → TookBack d d' s t → TookBack d d' s' t'
took-by d d' s s' t t' e f h = subst (λ u. TookBack d d' u t') (sym e) (subst (TookBack d d' s) (sym f) h)

-- no segment and no block
pub empty-kept : (segs : List Bytes) → segs ≡ [] → IsLast segs 0
empty-kept segs e =
    let none : AreSegments [] = record { few = omega arith; legal = All-nil IsRegionSegment; distinct = AllPairs-nil Apart } in
    last-from segs 0 [] (last-cleared segs (subst AreSegments (sym e) none))

pub empty-is : (segs : List Bytes) → segs ≡ [] → layout_by segs 0 ≡ empty_layout
empty-is segs e = layout-from segs 0 ∙ (ap (λ (bs : List (Block ℕ)). row (map pair_of segs) bs) (latest-none segs) ∙ ap (λ (ss : List Bytes). row (map pair_of ss) []) e)
