use Rattle.vc_base.proofs.Common.{◌≡◌, ℕ, false, List, ◌++◌, map, length, get_or, sym, ap, ◌∙◌, arith, count_by-le-length, length-filter, length-map, compacted_layout, is_occupied, Layout}
use Rattle.vc_seg.specs.Segment.{Bytes, pair_of}
use Rattle.vc_seg.proofs.Backs.{AreNumbered-segments}
use Rattle.vc_last.specs.Chain.{blocks_from}
use Rattle.vc_last.specs.Read.{layout_by}
use Rattle.vc_last.proofs.Kept.{layout-from}
use Rattle.vc_last.proofs.Marks.{compacted-kept, compacted-layout, took-by}
use Rattle.vc_last.proofs.compact.compact_in.Goals as goal

pub give_back-requires-clause-segments : goal.give_back-requires-clause-segments
give_back-requires-clause-segments g c = AreNumbered-segments c.args.segs.now.items c.requires.kept.last.segments

pub give_back-requires-clause-out : goal.give_back-requires-clause-out
give_back-requires-clause-out g c = (c.requires.out.0, c.requires.out.1 ∙ ap (λ ss. c.requires.out.0 ++ ss) (ap (λ (r : Layout ℕ). r.segments) (layout-from c.args.segs.now.items c.args.latest.0)))

pub overflow_sub-result : goal.overflow_sub-result
overflow_sub-result g c =
    let few = ap length c.give_back.ensures.segments in
    omega (arith, few, length-filter (λ (b : Bytes). get_or c.mark.new.marks b.number false) c.args.segs.now.items, count_by-le-length (λ (b : Bytes). get_or c.mark.new.marks b.number false) c.args.segs.now.items, c.len.ensures, c.len-before.ensures, c.args.segs.now.ok, c.give_back.new.segs.ok)

pub returns-clause-kept : goal.returns-clause-kept
returns-clause-kept g c =
    record {
      last = compacted-kept c.args.segs.now.items c.give_back.new.segs.items c.args.latest.0 c.requires.kept.last c.mark.new.marks (λ n lt. c.mark.ensures n lt ∙ ap (λ (xs : List Bytes). is_occupied (blocks_from xs c.args.latest.0) n) c.deref.ensures.value) c.give_back.ensures.segments;
      room = omega arith;
    }

pub returns-clause-layout : goal.returns-clause-layout
returns-clause-layout g c = compacted-layout c.args.segs.now.items c.give_back.new.segs.items c.args.latest.0 c.requires.kept.last c.mark.new.marks (λ n lt. c.mark.ensures n lt ∙ ap (λ (xs : List Bytes). is_occupied (blocks_from xs c.args.latest.0) n) c.deref.ensures.value) c.give_back.ensures.segments

pub returns-clause-count : goal.returns-clause-count
returns-clause-count g c =
    let new : (compacted_layout (layout_by c.args.segs.now.items c.args.latest.0)).segments ≡ map pair_of c.give_back.new.segs.items = ap (λ (r : Layout ℕ). r.segments) (sym (compacted-layout c.args.segs.now.items c.give_back.new.segs.items c.args.latest.0 c.requires.kept.last c.mark.new.marks (λ n lt. c.mark.ensures n lt ∙ ap (λ (xs : List Bytes). is_occupied (blocks_from xs c.args.latest.0) n) c.deref.ensures.value) c.give_back.ensures.segments) ∙ layout-from c.give_back.new.segs.items c.args.latest.0) in
    omega (arith, c.len.ensures, c.len-before.ensures, c.args.segs.now.ok, c.give_back.new.segs.ok, ap length new, length-map c.give_back.new.segs.items pair_of, ap length (ap (λ (r : Layout ℕ). r.segments) (layout-from c.args.segs.now.items c.args.latest.0)), length-map c.args.segs.now.items pair_of)

pub returns-clause-disc : goal.returns-clause-disc
returns-clause-disc g c = took-by _ _ (map pair_of c.args.segs.now.items) _ (map pair_of c.give_back.new.segs.items) _ (ap (λ (r : Layout ℕ). r.segments) (layout-from c.args.segs.now.items c.args.latest.0)) (ap (λ (r : Layout ℕ). r.segments) (layout-from c.give_back.new.segs.items c.args.latest.0)) c.give_back.ensures.out
