use Rattle.vc_base.proofs.Common.{◌≡◌, ℕ, ◌+◌, ◌-◌, List, ◌++◌, length, take, drop, sym, ap, ◌∙◌, subst, arith, with_items_is, address, Layout}
use Rattle.vc_base.proofs.Places.{span-least}
use Rattle.vc_seg.specs.Segment.{Bytes}
use Rattle.vc_last.specs.Chain.{IsLast}
use Rattle.vc_last.specs.Head.{StaysBut}
use Rattle.vc_last.specs.Read.{layout_by}
use Rattle.vc_last.proofs.Kept.{layout-from, row-by}
use Rattle.vc_last.proofs.Places.{place-fresh}
use Rattle.vc_last.proofs.Puts.{IsInside, place-inside, put-kept, put-layout}
use Rattle.vc_last.proofs.put.put.Goals as goal
use Rattle.vc_last.proofs.put.put.Goals.{After-deref_mut, After-lay}

inside : (c : After-deref_mut) → IsInside c.args.segs.now.items c.args.size (c.args.seg, c.args.off)
inside c = place-inside c.args.segs.now.items c.args.size (c.args.seg, c.args.off) (layout_by c.args.segs.now.items c.args.latest.0) c.requires.kept.last.segments (ap (λ (r : Layout ℕ). r.segments) (layout-from c.args.segs.now.items c.args.latest.0)) c.requires.place

pub lay-requires-clause-within : goal.lay-requires-clause-within
lay-requires-clause-within c =
    rw c.deref_mut.ensures.value (omega (arith, (inside (goal.at.lay-requires-clause-within c).After-deref_mut).within, span-least c.args.size))

pub new-requires-clause-first : goal.new-requires-clause-first
new-requires-clause-first c = (inside (goal.at.new-requires-clause-first c).After-deref_mut).first

pub new-requires-clause-last : goal.new-requires-clause-last
new-requires-clause-last c = (inside (goal.at.new-requires-clause-last c).After-deref_mut).last

pub new-requires-clause-below : goal.new-requires-clause-below
new-requires-clause-below c = (inside (goal.at.new-requires-clause-below c).After-deref_mut).below

stays : (c : After-lay) → StaysBut c.args.seg (c.args.off - 16) (c.args.off + c.args.size) c.args.segs.now.items c.lay.new.segs
stays c = rw (← c.deref_mut.ensures.value) c.lay.ensures.rest

items : (c : After-lay) → take c.args.segs.now.len (c.lay.new.segs ++ drop (length c.lay.new.segs) c.args.segs.now.items) ≡ c.lay.new.segs
items c =
    with_items_is c.args.segs.now c.lay.new.segs (omega (arith, c.lay.auto.segs, c.deref_mut.ensures.len))

pub returns-clause-kept : goal.returns-clause-kept
returns-clause-kept c =
    let at = (goal.at.returns-clause-kept c).After-lay in
    record {
      last = subst (λ a. IsLast (take c.args.segs.now.len (c.lay.new.segs ++ drop (length c.lay.new.segs) c.args.segs.now.items)) a) (sym c.new.ensures.value)
          (subst (λ (xs : List Bytes). IsLast xs (address (c.args.seg, c.args.off))) (sym (items at))
          (put-kept c.args.segs.now.items c.lay.new.segs c.args.latest.0 c.args.size c.args.tag c.args.seg c.args.off c.requires.kept.last c.requires.newest c.requires.place c.requires.some (stays at) c.lay.ensures.laid));
      room = c.requires.kept.room;
    }

pub returns-clause-layout : goal.returns-clause-layout
returns-clause-layout c =
    let at = (goal.at.returns-clause-layout c).After-lay in
    ap (layout_by (take c.args.segs.now.len (c.lay.new.segs ++ drop (length c.lay.new.segs) c.args.segs.now.items))) c.new.ensures.value
    ∙ (ap (λ (xs : List Bytes). layout_by xs (address (c.args.seg, c.args.off))) (items at)
    ∙ put-layout c.args.segs.now.items c.lay.new.segs c.args.latest.0 c.args.size c.args.tag c.args.seg c.args.off c.requires.kept.last c.requires.newest c.requires.place c.requires.some (stays at) c.lay.ensures.laid)

pub returns-clause-fresh : goal.returns-clause-fresh
returns-clause-fresh c =
    place-fresh (layout_by c.args.segs.now.items c.args.latest.0) c.args.size (c.args.seg, c.args.off) c.requires.some c.requires.place (row-by c.args.segs.now.items c.args.latest.0 c.requires.kept.last) c.new.result.0 c.new.ensures.place
