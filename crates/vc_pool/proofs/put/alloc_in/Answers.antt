use Rattle.vc_base.proofs.Common.{◌≡◌, ℕ, ◌≤◌, List, ◌++◌, map, length, take, drop, Option, sym, refl, ap, ◌∙◌, subst, arith, with_items_is, Terms, cell_for, uncarved}
use Rattle.vc_pool.specs.Cells.Blocks.{carved_by, pair_of}
use Rattle.vc_pool.specs.Cells.Call.{IsReused}
use Rattle.vc_pool.specs.Cells.Kept.{IsPool}
use Rattle.vc_pool.specs.Cells.Place.{cells_in}
use Rattle.vc_pool.specs.declared.cells.segment.PoolSegment.{PoolSegment}
use Rattle.vc_pool.specs.Cells.Carve.{IsCarvedAt}
use Rattle.vc_pool.proofs.PoolCalls.{asked-refusal, carved-disc, freed-some, full-is, granted-disc, lacks-cell, pool-with, put-carved, put-granted, put-reused}
use Rattle.vc_pool.proofs.AskedSegment.{granted-from}
use Rattle.vc_pool.proofs.PoolParts.{pool-same}
use Rattle.vc_pool.proofs.put.alloc_in.Goals as goal
use Rattle.vc_pool.proofs.put.alloc_in.Goals.{After-carve_lowest, After-element_with-set, After-reuse}
use Rattle.vc_pool.proofs.put.alloc_in.Given.{Over}

-- the segments with the element size that the block has
h : (g : Over) (c : After-element_with-set g) → IsPool c.element_with-set.result (cells_in c.args.segs.now.items) c.args.freed.now.0
h g c = pool-with c.element_with-set.result c.args.element.now (cells_in c.args.segs.now.items) c.args.freed.now.0 c.args.size c.element_with-set.ensures.set c.element_with-set.ensures.unset c.requires.size.most c.requires.kept

-- the terms of the discipline
abbrev terms : (g : Over) (c : After-element_with-set g) → Terms
terms g c = ((goal.SegDisc-dyn g (c.args.disc.now.vtable, c.args.disc.now.value)).state c.args.disc.now.value).terms

most : (g : Over) (c : After-element_with-set g) → c.element_with-set.result ≤ 16777216
most g c = (h g c).cells.most

items : (g : Over) (c : After-reuse g) → take c.args.segs.now.len (c.reuse.new.segs ++ drop (length c.reuse.new.segs) c.args.segs.now.items) ≡ c.reuse.new.segs
items g c = with_items_is c.args.segs.now c.reuse.new.segs (omega (arith, c.reuse.auto.segs, c.deref_mut.ensures.len))

reused : (g : Over) (c : After-reuse g) → IsReused c.element_with-set.result c.args.tag c.args.size (cells_in c.args.segs.now.items) (cells_in c.reuse.new.segs) c.args.freed.now.0 c.reuse.new.freed.0
reused g c = subst (λ (ss : List PoolSegment). IsReused c.element_with-set.result c.args.tag c.args.size (cells_in ss) (cells_in c.reuse.new.segs) c.args.freed.now.0 c.reuse.new.freed.0) c.deref_mut.ensures.value c.reuse.ensures.reused

some : (g : Over) (c : After-reuse g) → 1 ≤ c.args.element.now
some g c = freed-some c.args.element.now c.args.freed.now.0 (cells_in c.args.segs.now.items) c.requires.kept c.if-freed-ne0.true

-- the list that was looked through for an uncarved cell
abbrev after : (g : Over) → After-carve_lowest g → List PoolSegment
after g c = take c.args.segs.now.len (c.carve_lowest.new.segs ++ drop (length c.carve_lowest.new.segs) c.args.segs.now.items)

looked : (g : Over) (c : After-carve_lowest g) → after g c ≡ c.carve_lowest.new.segs
looked g c = with_items_is c.args.segs.now c.carve_lowest.new.segs (omega (arith, c.carve_lowest.auto.segs, c.deref_mut-2.ensures.len))

place : (g : Over) (c : After-carve_lowest g) (at : Option (ℕ × ℕ)) → at ≡ uncarved (cell_for c.element_with-set.result) (carved_by (cells_in c.deref_mut-2.result.now)) (map pair_of (cells_in c.deref_mut-2.result.now)) →
    uncarved (cell_for c.element_with-set.result) (carved_by (cells_in c.args.segs.now.items)) (map pair_of (cells_in c.args.segs.now.items)) ≡ at
place g c at e = sym (e ∙ ap (λ (ss : List PoolSegment). uncarved (cell_for c.element_with-set.result) (carved_by (cells_in ss)) (map pair_of (cells_in ss))) c.deref_mut-2.ensures.value)

carved : (g : Over) (c : After-carve_lowest g) (a : ℕ) → IsPool c.element_with-set.result (cells_in c.args.segs.now.items) c.args.freed.now.0 →
    ((last : ℕ) → IsPool c.element_with-set.result (cells_in c.deref_mut-2.result.now) last → IsCarvedAt c.element_with-set.result c.args.tag c.args.size (cells_in c.deref_mut-2.result.now) (cells_in c.carve_lowest.new.segs) last a) →
    IsCarvedAt c.element_with-set.result c.args.tag c.args.size (cells_in c.args.segs.now.items) (cells_in (after g c)) c.args.freed.now.0 a
carved g c a kept by =
    subst (λ (ss : List PoolSegment). IsCarvedAt c.element_with-set.result c.args.tag c.args.size (cells_in c.args.segs.now.items) (cells_in ss) c.args.freed.now.0 a) (sym (looked g c))
    (subst (λ (ss : List PoolSegment). (last : ℕ) → IsPool c.element_with-set.result (cells_in ss) last → IsCarvedAt c.element_with-set.result c.args.tag c.args.size (cells_in ss) (cells_in c.carve_lowest.new.segs) last a)
    c.deref_mut-2.ensures.value by c.args.freed.now.0 kept)

-- where there is none the list is the same
unchanged : (g : Over) (c : After-carve_lowest g) → c.carve_lowest.new.segs ≡ c.deref_mut-2.result.now → after g c ≡ c.args.segs.now.items
unchanged g c same = looked g c ∙ (same ∙ c.deref_mut-2.ensures.value)

pub returns-then-freed-ne0-clause-kept : goal.returns-then-freed-ne0-clause-kept
returns-then-freed-ne0-clause-kept g c =
    let at = (goal.at.returns-then-freed-ne0-clause-kept g c).After-reuse in
    subst (λ (ss : List PoolSegment). IsPool c.args.element.now (cells_in ss) c.reuse.new.freed.0) (sym (items g at))
    (subst (λ n. IsPool n (cells_in c.reuse.new.segs) c.reuse.new.freed.0) (sym (c.element_with-set.ensures.set (some g at))) (reused g at).kept)

pub returns-then-freed-ne0-clause-answer : goal.returns-then-freed-ne0-clause-answer
returns-then-freed-ne0-clause-answer g c =
    let at = (goal.at.returns-then-freed-ne0-clause-answer g c).After-reuse in
    put-reused _ c.args.segs.now.items c.args.element.now c.args.freed.now.0 c.element_with-set.result c.args.tag c.args.size c.element_with-set.ensures.set c.element_with-set.ensures.unset
    c.reuse.result.0 c.reuse.new.freed.0 _ c.reuse.new.segs (items g at) c.reuse.ensures.value (some g at) c.if-size-set.false (reused g at)

pub returns-in-Some-clause-kept : goal.returns-in-Some-clause-kept
returns-in-Some-clause-kept g c =
    let at = goal.at.returns-in-Some-clause-kept g c in
    (carved g at.After-carve_lowest c.in-Some.a.0 (h g at.After-element_with-set) c.in-Some.ensures.carved).kept

pub returns-in-Some-clause-answer : goal.returns-in-Some-clause-answer
returns-in-Some-clause-answer g c =
    let at = goal.at.returns-in-Some-clause-answer g c in
    put-carved _ c.args.segs.now.items c.args.element.now c.args.freed.now.0 c.element_with-set.result c.args.tag c.args.size c.element_with-set.ensures.set c.element_with-set.ensures.unset
    c.requires.kept.cells (most g at.After-element_with-set) c.if-freed-ne0.false c.if-size-set.false c.requires.size.some
    c.in-Some.a.0 _ (place g at.After-carve_lowest _ c.in-Some.ensures.place)
    (carved g at.After-carve_lowest c.in-Some.a.0 (h g at.After-element_with-set) c.in-Some.ensures.carved)

pub returns-in-Some-clause-disc : goal.returns-in-Some-clause-disc
returns-in-Some-clause-disc g c =
    let at = goal.at.returns-in-Some-clause-disc g c in
    carved-disc (terms g at.After-element_with-set) c.args.segs.now.items c.args.element.now c.args.freed.now.0 c.element_with-set.result c.args.tag c.args.size c.element_with-set.ensures.set c.element_with-set.ensures.unset
    c.requires.kept.cells (most g at.After-element_with-set) c.if-freed-ne0.false c.if-size-set.false c.requires.size.some
    c.in-Some.a.0 _ _
    (carved g at.After-carve_lowest c.in-Some.a.0 (h g at.After-element_with-set) c.in-Some.ensures.carved)

pub returns-in-Ok-clause-kept : goal.returns-in-Ok-clause-kept
returns-in-Ok-clause-kept g c =
    let at = goal.at.returns-in-Ok-clause-kept g c in
    let granted = granted-from c.element_with-set.result c.args.tag c.args.size _ _ c.args.segs.now.items (cells_in c.put_by_asking.new.segs.items) _ _ c.in-Ok.a.0 (unchanged g at.After-carve_lowest c.in-None.ensures.same) c.in-Ok.ensures.granted in
    (granted.carved c.args.element.now c.args.freed.now.0 c.element_with-set.ensures.set c.requires.kept).kept

pub returns-in-Ok-clause-answer : goal.returns-in-Ok-clause-answer
returns-in-Ok-clause-answer g c =
    let at = goal.at.returns-in-Ok-clause-answer g c in
    put-granted _ c.args.segs.now.items c.args.element.now c.args.freed.now.0 c.element_with-set.result c.args.tag c.args.size c.element_with-set.ensures.set c.element_with-set.ensures.unset
    c.requires.kept.cells (most g at.After-element_with-set) c.if-freed-ne0.false c.if-size-set.false c.requires.size.some
    (full-is c.args.segs.now.items c.args.element.now c.args.freed.now.0 c.element_with-set.result c.args.size c.element_with-set.ensures.set c.element_with-set.ensures.unset (place g at.After-carve_lowest _ c.in-None.ensures.place))
    c.in-Ok.a.0 c.put_by_asking.new.segs.items _ _ refl c.requires.kept
    (granted-from c.element_with-set.result c.args.tag c.args.size _ _ c.args.segs.now.items (cells_in c.put_by_asking.new.segs.items) _ _ c.in-Ok.a.0 (unchanged g at.After-carve_lowest c.in-None.ensures.same) c.in-Ok.ensures.granted)

pub returns-in-Ok-clause-disc : goal.returns-in-Ok-clause-disc
returns-in-Ok-clause-disc g c =
    let at = goal.at.returns-in-Ok-clause-disc g c in
    granted-disc (terms g at.After-element_with-set) c.args.segs.now.items c.args.element.now c.args.freed.now.0 c.element_with-set.result c.args.tag c.args.size c.element_with-set.ensures.set c.element_with-set.ensures.unset
    c.requires.kept.cells (most g at.After-element_with-set) c.if-freed-ne0.false c.if-size-set.false c.requires.size.some
    (full-is c.args.segs.now.items c.args.element.now c.args.freed.now.0 c.element_with-set.result c.args.size c.element_with-set.ensures.set c.element_with-set.ensures.unset (place g at.After-carve_lowest _ c.in-None.ensures.place))
    c.in-Ok.a.0 c.put_by_asking.new.segs.items _ _ c.requires.kept
    (granted-from c.element_with-set.result c.args.tag c.args.size _ _ c.args.segs.now.items (cells_in c.put_by_asking.new.segs.items) _ _ c.in-Ok.a.0 (unchanged g at.After-carve_lowest c.in-None.ensures.same) c.in-Ok.ensures.granted)

pub returns-in-Err-clause-answer : goal.returns-in-Err-clause-answer
returns-in-Err-clause-answer g c =
    let at = goal.at.returns-in-Err-clause-answer g c in (
      asked-refusal _ c.args.segs.now.items c.args.element.now c.args.freed.now.0 c.element_with-set.result c.args.tag c.args.size c.element_with-set.ensures.set c.element_with-set.ensures.unset
          c.requires.kept.cells (most g at.After-element_with-set) c.if-freed-ne0.false c.if-size-set.false c.requires.size.some
          (full-is c.args.segs.now.items c.args.element.now c.args.freed.now.0 c.element_with-set.result c.args.size c.element_with-set.ensures.set c.element_with-set.ensures.unset (place g at.After-carve_lowest _ c.in-None.ensures.place))
          c.in-Err.fault (after g at.After-carve_lowest) (unchanged g at.After-carve_lowest c.in-None.ensures.same) c.in-Err.ensures.fault,
      pool-same c.args.element.now c.args.freed.now.0 c.put_by_asking.new.segs.items c.args.segs.now.items (c.in-Err.ensures.same ∙ ap cells_in (unchanged g at.After-carve_lowest c.in-None.ensures.same)),
    )

pub returns-in-Err-clause-no_memory : goal.returns-in-Err-clause-no_memory
returns-in-Err-clause-no_memory g c =
    let at = goal.at.returns-in-Err-clause-no_memory g c in
    λ e. lacks-cell (terms g at.After-element_with-set) c.args.segs.now.items c.args.element.now c.args.freed.now.0 c.element_with-set.result c.args.tag c.args.size c.element_with-set.ensures.set c.element_with-set.ensures.unset
    c.requires.kept.cells (most g at.After-element_with-set) c.if-freed-ne0.false c.if-size-set.false c.requires.size.some
    (full-is c.args.segs.now.items c.args.element.now c.args.freed.now.0 c.element_with-set.result c.args.size c.element_with-set.ensures.set c.element_with-set.ensures.unset (place g at.After-carve_lowest _ c.in-None.ensures.place))
    (after g at.After-carve_lowest) (unchanged g at.After-carve_lowest c.in-None.ensures.same) (c.in-Err.ensures.may e)

pub put_by_asking-requires-clause-lent : goal.put_by_asking-requires-clause-lent
put_by_asking-requires-clause-lent g c =
    let at = (goal.at.put_by_asking-requires-clause-lent g c).After-carve_lowest in
    let same = ap (λ (ss : List PoolSegment). map pair_of (cells_in ss)) (sym (unchanged g at c.in-None.ensures.same)) in
    (c.requires.lent.0, c.requires.lent.1 ∙ ap (λ ss. c.requires.lent.0 ++ ss) same)
