use Rattle.vc_base.proofs.Common.{◌≡◌, ◌-◌, List, ◌++◌, length, take, drop, sym, ap, ◌∙◌, subst, arith, with_items_is, place_of}
use Rattle.vc_seg.specs.Segment.{Bytes}
use Rattle.vc_last.specs.Chain.{IsLast}
use Rattle.vc_last.specs.Head.{StaysBut, before_of}
use Rattle.vc_last.specs.Read.{layout_by}
use Rattle.vc_last.proofs.Chains.{latest-head, latest-some}
use Rattle.vc_last.proofs.Changes.{unlinked-kept, unlinked-layout}
use Rattle.vc_last.proofs.resize.unlink.Goals as goal
use Rattle.vc_last.proofs.resize.unlink.Goals.{After-set_before}

pub before_at-before-requires : goal.before_at-before-requires
before_at-before-requires c =
    let z = latest-some c.args.segs.now.items c.args.to.0 c.requires.to c.requires.kept.last in
    rw c.deref.ensures.value (latest-head c.args.segs.now.items c.args.a.0 c.requires.block (subst (IsLast c.args.segs.now.items) c.requires.before z.kept))

pub set_before-requires : goal.set_before-requires
set_before-requires c = rw c.deref_mut.ensures.value (latest-head c.args.segs.now.items c.args.to.0 c.requires.to c.requires.kept.last)

items : (c : After-set_before) → take c.args.segs.now.len (c.set_before.new.segs ++ drop (length c.set_before.new.segs) c.args.segs.now.items) ≡ c.set_before.new.segs
items c = with_items_is c.args.segs.now c.set_before.new.segs (omega (arith, c.set_before.auto.segs, c.deref_mut.ensures.len))

stays : (c : After-set_before) → StaysBut (place_of c.args.to.0).0 ((place_of c.args.to.0).1 - 8) ((place_of c.args.to.0).1 - 4) c.args.segs.now.items c.set_before.new.segs
stays c = rw c.deref_mut.ensures.value at c.set_before.ensures.rest

value : (c : After-set_before) → before_of c.set_before.new.segs c.args.to.0 ≡ before_of c.args.segs.now.items c.args.a.0
value c = c.set_before.ensures.value ∙ (c.before_at-before.ensures ∙ ap (λ (xs : List Bytes). before_of xs c.args.a.0) c.deref.ensures.value)

pub returns-clause-kept : goal.returns-clause-kept
returns-clause-kept c =
    let at = (goal.at.returns-clause-kept c).After-set_before in
    record {
      last = subst (λ (xs : List Bytes). IsLast xs c.args.to.0) (sym (items at))
          (unlinked-kept c.args.segs.now.items c.set_before.new.segs c.args.a.0 c.args.to.0 c.requires.kept.last c.requires.to c.requires.before c.requires.block (stays at) (value at));
      room = c.requires.kept.room;
    }

pub returns-clause-layout : goal.returns-clause-layout
returns-clause-layout c =
    let at = (goal.at.returns-clause-layout c).After-set_before in
    ap (λ (xs : List Bytes). layout_by xs c.args.to.0) (items at)
    ∙ unlinked-layout c.args.segs.now.items c.set_before.new.segs c.args.a.0 c.args.to.0 c.requires.kept.last c.requires.to c.requires.before c.requires.block (stays at) (value at)
