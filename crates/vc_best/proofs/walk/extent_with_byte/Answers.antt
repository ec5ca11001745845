use Rattle.vc_base.proofs.Common.{◌+◌, ◌<◌, ◌≤◌, List, length, Some, Option, option_map, find, sym, ap, ◌∙◌, subst, arith, place_of, place_of_block, holds_byte}
use Rattle.vc_best.proofs.Common.{Addr, Extent, behind_of, busy_in, extent_of, tiling}
use Rattle.vc_best.proofs.AtBytes.{find-here, find-not, not-shown}
use Rattle.vc_best.proofs.Walks.{IsOn, left, left-named, left-next, named-own, on-next, start-left, start-named, start-seg}
use Rattle.vc_best.proofs.walk.extent_with_byte.Goals as goal

pub loop-next-init : goal.loop-next-init
loop-next-init c =
    record {
      on = (start-seg c.args.extents.now.segs.items c.args.extents.now.index.items c.args.seg c.first.result.0 c.args.extents.now.kept c.requires c.first.ensures, start-named c.args.extents.now.segs.items c.args.extents.now.index.items c.args.seg c.first.result.0 c.args.extents.now.kept c.requires c.first.ensures);
      rest = ap (λ (es : List Extent). find (holds_byte (c.args.seg, c.args.off)) (busy_in (c.args.seg, es))) (start-left c.args.extents.now.segs.items c.args.extents.now.index.items c.args.seg c.first.result.0 c.args.extents.now.kept c.requires c.first.ensures);
    }

pub returns-then-holds_byte-clause-value : goal.returns-then-holds_byte-clause-value
returns-then-holds_byte-clause-value c =
    let on = subst (IsOn (tiling c.args.extents.now.segs.items) c.args.seg) c.in-Some.is c.loop-next.invariant.on in
    let t = (tiling c.args.extents.now.segs.items) in
    let e = extent_of t c.in-Some.a.0 in
    let own = named-own c.args.extents.now.segs.items c.args.extents.now.index.items c.in-Some.a.0 c.args.extents.now.kept on.1 in
    let ends = c.holds_byte.ensures.0 c.if-holds_byte.true in
    let low = ends.0 in
    let high = ends.1 in
    let whole = ap (left t c.args.seg) c.in-Some.is ∙ left-named c.args.extents.now.segs.items c.args.extents.now.index.items c.args.extents.now.kept c.args.seg c.in-Some.a on.0 on.1 in
    let found = sym c.loop-next.invariant.rest ∙ (ap (λ (es : List Extent). find (holds_byte (c.args.seg, c.args.off)) (busy_in (c.args.seg, es))) whole ∙ find-here c.args.seg c.args.off e (behind_of t c.in-Some.a.0) (omega arith) (omega arith)) in
    let seg = on.0 in
    let o = sym own in
    (λ i. Some (seg i, o i)) ∙ sym (ap (option_map place_of_block) found)

pub loop-next-smaller : goal.loop-next-smaller
loop-next-smaller c =
    let on = subst (IsOn (tiling c.args.extents.now.segs.items) c.args.seg) c.in-Some.is c.loop-next.invariant.on in
    let e = ap (λ (o : Option Addr). length (left (tiling c.args.extents.now.segs.items) c.args.seg o)) c.in-Some.is ∙ ap length (left-next c.args.extents.now.segs.items c.args.extents.now.index.items c.args.extents.now.kept c.args.seg c.in-Some.a c.after-next.result on.0 on.1 c.after-next.ensures.value c.after-next.ensures.named) in
    omega (arith, e)

pub loop-next-preserved : goal.loop-next-preserved
loop-next-preserved c =
    let on = subst (IsOn (tiling c.args.extents.now.segs.items) c.args.seg) c.in-Some.is c.loop-next.invariant.on in
    let t = (tiling c.args.extents.now.segs.items) in
    let e = extent_of t c.in-Some.a.0 in
    let own = named-own c.args.extents.now.segs.items c.args.extents.now.index.items c.in-Some.a.0 c.args.extents.now.kept on.1 in
    let later = left t c.args.seg c.after-next.result in
    let no = not-shown c.holds_byte.result (((place_of c.in-Some.a.0).1 ≤ c.args.off) × (c.args.off < (place_of c.in-Some.a.0).1 + e.size)) c.holds_byte.ensures.1 c.if-holds_byte.false in
    record {
      on = on-next c.args.extents.now.segs.items c.args.extents.now.index.items c.args.seg c.in-Some.a c.after-next.result c.args.extents.now.kept on.0 on.1 c.after-next.ensures.value c.after-next.ensures.named;
      rest =
          sym (find-not c.args.seg c.args.off e later (λ h. no (let low = h.0 in omega arith, let high = h.1 in omega arith)))
          ∙ (ap (λ (es : List Extent). find (holds_byte (c.args.seg, c.args.off)) (busy_in (c.args.seg, es))) (sym (ap (left t c.args.seg) c.in-Some.is ∙ left-next c.args.extents.now.segs.items c.args.extents.now.index.items c.args.extents.now.kept c.args.seg c.in-Some.a c.after-next.result on.0 on.1 c.after-next.ensures.value c.after-next.ensures.named))
          ∙ c.loop-next.invariant.rest);
    }
