use Rattle.vc_base.proofs.Common.{length, Option, option_map, ap, ◌∙◌, subst, arith, place_of}
use Rattle.vc_best.proofs.Common.{Addr, IsFirst, busy_in, extent_of, extents_of, tiling}
use Rattle.vc_best.proofs.Firsts.{first-on}
use Rattle.vc_best.proofs.Nexts.{not-busy}
use Rattle.vc_best.proofs.Walks.{IsOn, left, left-next, on-next}
use Rattle.vc_best.proofs.walk.first_busy.Goals as goal

pub loop-next-smaller : goal.loop-next-smaller
loop-next-smaller c =
    let n = (place_of c.args.a.0).0 in
    let t = tiling c.args.extents.now.segs.items in
    let on = subst (IsOn t n) c.in-Some.is c.loop-next.invariant.on in
    let e = ap (λ (o : Option Addr). length (left t n o)) c.in-Some.is ∙ ap length (left-next c.args.extents.now.segs.items c.args.extents.now.index.items c.args.extents.now.kept n c.in-Some.here c.after-next.result on.0 on.1 c.after-next.ensures.value c.after-next.ensures.named) in
    omega (arith, e)

pub loop-next-preserved : goal.loop-next-preserved
loop-next-preserved c =
    let n = (place_of c.args.a.0).0 in
    let segs = c.args.extents.now.segs.items in
    let index = c.args.extents.now.index.items in
    let t = tiling segs in
    let on = subst (IsOn t n) c.in-Some.is c.loop-next.invariant.on in
    let here = subst (λ (o : Option Addr). IsFirst (busy_in (n, extents_of n t)) c.args.a.0 (option_map (λ r. r.0) o)) c.in-Some.is c.loop-next.invariant.first in
    let free = not-busy c.is_busy.result (extent_of t c.in-Some.here.0).size (λ some. c.is_busy.ensures.1 some) c.if-is_busy.false in
    record {
      on = on-next segs index n c.in-Some.here c.after-next.result c.args.extents.now.kept on.0 on.1 c.after-next.ensures.value c.after-next.ensures.named;
      first = first-on segs index c.args.extents.now.kept c.in-Some.here on.1 c.after-next.result c.after-next.ensures.value n c.args.a.0 on.0 free here;
    }
