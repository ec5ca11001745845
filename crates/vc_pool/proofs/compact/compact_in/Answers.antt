use Rattle.vc_base.proofs.Common.{◌≡◌, ℕ, false, List, ◌++◌, map, length, get_or, take, drop, filter, sym, ap, ◌∙◌, subst, arith, count_by-le-length, length-filter, length-map, with_items_is, compacted_layout, Layout, cell_for}
use Rattle.vc_seg.specs.Numbered.{AreNumbered}
use Rattle.vc_pool.specs.Cells.Blocks.{layout_by, pair_of}
use Rattle.vc_pool.specs.Cells.Cells.{cells_of}
use Rattle.vc_pool.specs.Cells.Freed.{freed_cells}
use Rattle.vc_pool.specs.Cells.Place.{cells_in, pair_in}
use Rattle.vc_pool.specs.declared.cells.segment.PoolSegment.{PoolSegment}
use Rattle.vc_pool.proofs.SegmentList.{numbered-in, pairs-in}
use Rattle.vc_pool.specs.Marks.{has_block_at}
use Rattle.vc_pool.specs.Relink.{KeepsAll}
use Rattle.vc_pool.proofs.BusySegments.{numbers-below}
use Rattle.vc_pool.proofs.BusyPart.{compacted, segments-of, took-by}
use Rattle.vc_pool.proofs.compact.compact_in.Goals as goal
use Rattle.vc_pool.proofs.compact.compact_in.Goals.{After-give_back, After-relink}
use Rattle.vc_pool.proofs.compact.compact_in.Given.{Over}

-- the list holds what was relinked
items : (g : Over) (c : After-relink g) → take c.args.segs.now.len (c.relink.new.segs ++ drop (length c.relink.new.segs) c.args.segs.now.items) ≡ c.relink.new.segs
items g c = with_items_is c.args.segs.now c.relink.new.segs (omega (arith, c.relink.auto.segs, c.deref_mut.ensures.len))

marked : (g : Over) (c : After-relink g) (n : ℕ) → get_or c.mark.new.marks n false ≡ has_block_at (cells_in c.args.segs.now.items) n
marked g c n = c.mark.ensures.marked n ∙ ap (λ (ss : List PoolSegment). has_block_at (cells_in ss) n) c.deref.ensures.value

left : (g : Over) (c : After-relink g) → freed_cells (cells_in c.relink.new.segs) c.relink.new.freed.0 ≡ filter (λ (p : ℕ × ℕ). get_or c.mark.new.marks p.0 false) (freed_cells (cells_in c.args.segs.now.items) c.args.freed.now.0)
left g c = c.relink.ensures.freed ∙ ap (λ (ss : List PoolSegment). filter (λ (p : ℕ × ℕ). get_or c.mark.new.marks p.0 false) (freed_cells (cells_in ss) c.args.freed.now.0)) c.deref_mut.ensures.value

keeps : (g : Over) (c : After-relink g) → KeepsAll (cell_for c.args.element) (cells_in c.args.segs.now.items) (cells_in c.relink.new.segs)
keeps g c = subst (λ (ss : List PoolSegment). KeepsAll (cell_for c.args.element) (cells_in ss) (cells_in c.relink.new.segs)) c.deref_mut.ensures.value c.relink.ensures.keeps

is : (g : Over) (c : After-give_back g) → c.give_back.new.segs.items ≡ filter (λ (s : PoolSegment). get_or c.mark.new.marks s.seg.number false) c.relink.new.segs
is g c =
    c.give_back.ensures.segments
    ∙ ap (filter (λ (s : PoolSegment). get_or c.mark.new.marks s.seg.number false)) (with_items_is c.args.segs.now c.relink.new.segs (omega (arith, c.relink.auto.segs, c.deref_mut.ensures.len)))

pub mark-requires-clause-numbers : goal.mark-requires-clause-numbers
mark-requires-clause-numbers g c = rw c.deref.ensures.value (numbers-below c.args.segs.now.items c.requires.kept.cells.segments)

pub give_back-requires-clause-segments : goal.give_back-requires-clause-segments
give_back-requires-clause-segments g c =
    subst (λ (ss : List PoolSegment). AreNumbered (map pair_in ss)) (sym (items g (goal.at.give_back-requires-clause-segments g c).After-relink)) (numbered-in c.relink.new.segs c.relink.ensures.kept.cells.segments)

-- the segments that are left in the list are those of before, as number and size
pairs-before : (g : Over) (c : After-relink g) → (layout_by (cell_for c.args.element) (cells_in c.args.segs.now.items)).segments ≡ map pair_in (take c.args.segs.now.len (c.relink.new.segs ++ drop (length c.relink.new.segs) c.args.segs.now.items))
pairs-before g c =
    ap (λ (l : Layout ℕ). l.segments) (sym (keeps g c).layout)
    ∙ (segments-of (cell_for c.args.element) (cells_in c.relink.new.segs)
    ∙ (sym (pairs-in c.relink.new.segs) ∙ ap (λ (ss : List PoolSegment). map pair_in ss) (sym (items g c))))

pub give_back-requires-clause-out : goal.give_back-requires-clause-out
give_back-requires-clause-out g c = (c.requires.out.0, c.requires.out.1 ∙ ap (λ ss. c.requires.out.0 ++ ss) (pairs-before g (goal.at.give_back-requires-clause-out g c).After-relink))

pub overflow_sub-result : goal.overflow_sub-result
overflow_sub-result g c =
    let at = goal.at.overflow_sub-result g c in
    let few = ap length (is g at.After-give_back) in
    let long = ap length (items g at.After-relink) in
    omega (arith, few, length-filter (λ (s : PoolSegment). get_or c.mark.new.marks s.seg.number false) c.relink.new.segs, count_by-le-length (λ (s : PoolSegment). get_or c.mark.new.marks s.seg.number false) c.relink.new.segs, c.len.ensures, c.len-before.ensures, c.give_back.new.segs.ok, c.relink.auto.segs, c.deref_mut.ensures.len, long)

pub returns-clause-compacted : goal.returns-clause-compacted
returns-clause-compacted g c =
    let at = goal.at.returns-clause-compacted g c in
    compacted c.args.element c.args.freed.now.0 c.relink.new.freed.0 c.args.segs.now.items c.relink.new.segs c.give_back.new.segs.items (λ n. get_or c.mark.new.marks n false) (marked g at.After-relink) c.relink.ensures.kept (left g at.After-relink) (keeps g at.After-relink) (is g at.After-give_back)

pub returns-clause-count : goal.returns-clause-count
returns-clause-count g c =
    let at = goal.at.returns-clause-count g c in
    let cell : ℕ = cell_for c.args.element in
    let new : (compacted_layout (layout_by cell (cells_in c.args.segs.now.items))).segments ≡ map pair_of (cells_in c.give_back.new.segs.items) = ap (λ (l : Layout ℕ). l.segments) (sym (returns-clause-compacted g c).layout) ∙ segments-of cell (cells_in c.give_back.new.segs.items) in
    let old = segments-of cell (cells_in c.args.segs.now.items) in
    let long = ap length (items g at.After-relink) in
    omega (arith, c.len.ensures, c.len-before.ensures, c.args.segs.now.ok, c.give_back.new.segs.ok, c.relink.auto.segs, c.deref_mut.ensures.len, long, ap length new, ap length old, length-map (cells_in c.give_back.new.segs.items) pair_of, length-map c.give_back.new.segs.items cells_of, length-map (cells_in c.args.segs.now.items) pair_of, length-map c.args.segs.now.items cells_of)

pub returns-clause-disc : goal.returns-clause-disc
returns-clause-disc g c =
    let at = goal.at.returns-clause-disc g c in
    took-by _ _ (map pair_in (take c.args.segs.now.len (c.relink.new.segs ++ drop (length c.relink.new.segs) c.args.segs.now.items))) _ (map pair_in c.give_back.new.segs.items) _ (pairs-before g at.After-relink)
    (segments-of (cell_for c.args.element) (cells_in c.give_back.new.segs.items) ∙ sym (pairs-in c.give_back.new.segs.items)) c.give_back.ensures.out
