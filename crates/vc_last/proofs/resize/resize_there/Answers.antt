use Rattle.vc_base.proofs.Common.{◌≡◌, List, ◌++◌, map, length, take, drop, sym, refl, ap, ◌∙◌, subst, arith, with_items_is, place_of}
use Rattle.vc_base.proofs.Places.{span-least}
use Rattle.vc_seg.specs.Segment.{Bytes, pair_of}
use Rattle.vc_last.specs.Chain.{IsLast, blocks_from}
use Rattle.vc_last.specs.Head.{before_of}
use Rattle.vc_last.specs.Read.{layout_by}
use Rattle.vc_last.proofs.Chains.{latest-head}
use Rattle.vc_last.proofs.Changes.{sized-kept, sized-layout, sized-place}
use Rattle.vc_last.proofs.Puts.{place-inside}
use Rattle.vc_last.proofs.Allocations.{row}
use Rattle.vc_last.proofs.resize.resize_there.Goals as goal
use Rattle.vc_last.proofs.resize.resize_there.Goals.{After-set_size}

pub set_size-requires-clause-block : goal.set_size-requires-clause-block
set_size-requires-clause-block c = rw c.deref_mut.ensures.value (latest-head c.args.segs.now.items c.args.a.0 c.requires.block c.requires.kept.last)

pub set_size-requires-clause-within : goal.set_size-requires-clause-within
set_size-requires-clause-within c =
    let p = sized-place c.args.segs.now.items c.args.a.0 c.requires.kept.last c.requires.block c.args.segs.now.items c.args.size c.requires.some c.requires.fits in
    let i = (place-inside c.args.segs.now.items c.args.size (place_of c.args.a.0) (row (map pair_of c.args.segs.now.items) (blocks_from c.args.segs.now.items (before_of c.args.segs.now.items c.args.a.0))) c.requires.kept.last.segments refl p).within in
    rw c.deref_mut.ensures.value (omega (arith, i, span-least c.args.size))

items : (c : After-set_size) → take c.args.segs.now.len (c.set_size.new.segs ++ drop (length c.set_size.new.segs) c.args.segs.now.items) ≡ c.set_size.new.segs
items c = with_items_is c.args.segs.now c.set_size.new.segs (omega (arith, c.set_size.auto.segs, c.deref_mut.ensures.len))

pub returns-clause-kept : goal.returns-clause-kept
returns-clause-kept c =
    let at = (goal.at.returns-clause-kept c).After-set_size in
    record {
      last = subst (λ (xs : List Bytes). IsLast xs c.args.a.0) (sym (items at))
          (sized-kept c.args.segs.now.items c.args.a.0 c.requires.kept.last c.requires.block c.set_size.new.segs c.args.size c.requires.some c.requires.fits (rw c.deref_mut.ensures.value at c.set_size.ensures.rest) (rw c.deref_mut.ensures.value at c.set_size.ensures.laid));
      room = c.requires.kept.room;
    }

pub returns-clause-layout : goal.returns-clause-layout
returns-clause-layout c =
    let at = (goal.at.returns-clause-layout c).After-set_size in
    ap (λ (xs : List Bytes). layout_by xs c.args.a.0) (items at)
    ∙ sized-layout c.args.segs.now.items c.args.a.0 c.requires.kept.last c.requires.block c.set_size.new.segs c.args.size c.requires.some c.requires.fits (rw c.deref_mut.ensures.value at c.set_size.ensures.rest) (rw c.deref_mut.ensures.value at c.set_size.ensures.laid)
