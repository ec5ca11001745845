use Rattle.vc_base.proofs.Common.{◌≡◌, ℕ, List, ◌++◌, length, take, drop, sym, ap, ◌∙◌, subst, arith, ∥∥₁_map, with_items_is, place_of, Layout, without_block, with_bytes_at}
use Rattle.vc_seg.specs.Segment.{Bytes}
use Rattle.vc_last.specs.Chain.{IsLast}
use Rattle.vc_last.specs.Read.{layout_by}
use Rattle.vc_last.proofs.Bodies.{layout-written}
use Rattle.vc_last.proofs.Moves.{among-from}
use Rattle.vc_last.proofs.Ranges.{range-in}
use Rattle.vc_seg.proofs.Resizes.{others-written}
use Rattle.vc_last.proofs.Types.{have, have-sound}
use Rattle.vc_last.proofs.last.Last.write.Goals as goal
use Rattle.vc_last.proofs.last.Last.write.Goals.{After-put_in}
use Rattle.vc_last.proofs.last.Last.write.Given.{Over}

pub overflow_add-off : goal.overflow_add-off
overflow_add-off g c = let r = (range-in c.args.self.now.segs.items c.args.self.now.latest.0 c.args.a.0 c.args.off (length c.args.src.now) (have c.args.self.now.segs.items c.args.self.now.latest.0 c.args.self.now.kept) c.requires.block c.requires.range).below in omega (arith, r, c.off.ensures)

pub put_in-requires-clause-segments : goal.put_in-requires-clause-segments
put_in-requires-clause-segments g c = rw c.deref_mut.ensures.value (have c.args.self.now.segs.items c.args.self.now.latest.0 c.args.self.now.kept).segments

pub put_in-requires-clause-there : goal.put_in-requires-clause-there
put_in-requires-clause-there g c = rw (c.seg.ensures, c.deref_mut.ensures.value) (range-in c.args.self.now.segs.items c.args.self.now.latest.0 c.args.a.0 c.args.off (length c.args.src.now) (have c.args.self.now.segs.items c.args.self.now.latest.0 c.args.self.now.kept) c.requires.block c.requires.range).there

pub put_in-requires-clause-within : goal.put_in-requires-clause-within
put_in-requires-clause-within g c = rw (c.seg.ensures, c.off.ensures, c.deref_mut.ensures.value) (range-in c.args.self.now.segs.items c.args.self.now.latest.0 c.args.a.0 c.args.off (length c.args.src.now) (have c.args.self.now.segs.items c.args.self.now.latest.0 c.args.self.now.kept) c.requires.block c.requires.range).within

items : (g : Over) (c : After-put_in g) → take c.args.self.now.segs.len (c.put_in.new.segs ++ drop (length c.put_in.new.segs) c.args.self.now.segs.items) ≡ c.put_in.new.segs
items g c = with_items_is c.args.self.now.segs c.put_in.new.segs (omega (arith, c.put_in.auto.segs, c.deref_mut.ensures.len))

written : (g : Over) (c : After-put_in g) → IsLast c.put_in.new.segs c.args.self.now.latest.0 × (layout_by c.put_in.new.segs c.args.self.now.latest.0 ≡ with_bytes_at (layout_by c.args.self.now.segs.items c.args.self.now.latest.0) (place_of c.args.a.0) c.args.off c.args.src.now)
written g c =
    layout-written c.args.self.now.segs.items c.put_in.new.segs c.args.self.now.latest.0 c.args.a.0 c.args.off c.args.src.now (have c.args.self.now.segs.items c.args.self.now.latest.0 c.args.self.now.kept) (among-from c.args.self.now.segs.items c.args.self.now.latest.0 c.args.a.0 c.requires.block) (range-in c.args.self.now.segs.items c.args.self.now.latest.0 c.args.a.0 c.args.off (length c.args.src.now) (have c.args.self.now.segs.items c.args.self.now.latest.0 c.args.self.now.kept) c.requires.block c.requires.range).fits
    (rw (c.seg.ensures, c.off.ensures, c.deref_mut.ensures.value) at c.put_in.ensures.rest) (rw (c.seg.ensures, c.off.ensures, c.deref_mut.ensures.value) at c.put_in.ensures.bytes)

pub invariant_of-self : goal.invariant_of-self
invariant_of-self g c =
    let at = (goal.at.invariant_of-self g c).After-put_in in
    let kept = ∥∥₁_map c.args.self.now.kept (λ (k : IsLast c.args.self.now.segs.items c.args.self.now.latest.0). subst (λ (xs : List Bytes). IsLast xs c.args.self.now.latest.0) (sym (items g at)) (written g at).0) in
    record { kept = kept; reserved = c.args.self.now.reserved; sound = have-sound _ c.args.self.now.latest.0 kept }

pub returns-clause-written : goal.returns-clause-written
returns-clause-written g c =
    let at = (goal.at.returns-clause-written g c).After-put_in in
    let layout = ap (λ (xs : List Bytes). layout_by xs c.args.self.now.latest.0) (items g at) ∙ (written g at).1 in
    record {
      layout = layout;
      others = ap (λ (r : Layout ℕ). without_block (place_of c.args.a.0) r.blocks) layout ∙ others-written c.args.off c.args.src.now (place_of c.args.a.0) (layout_by c.args.self.now.segs.items c.args.self.now.latest.0).blocks;
    }
