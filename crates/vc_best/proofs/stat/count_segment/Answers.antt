use Rattle.vc_base.proofs.Common.{◌≡◌, [], ◌∷◌, ◌++◌, length, Option, sym, ap, ◌∙◌, subst, arith}
use Rattle.vc_best.proofs.Common.{Addr, HaveRoom, behind_of, counts_with, extent_of, tiling}
use Rattle.vc_best.proofs.Counts.{counted-append, room-front, room-rest}
use Rattle.vc_best.proofs.Walks.{IsOn, left, left-named, left-next, on-next, start-left, start-named, start-seg}
use Rattle.vc_best.proofs.stat.count_segment.Goals as goal

pub loop-next-init : goal.loop-next-init
loop-next-init g c =
    record {
      on = (start-seg c.args.extents.now.segs.items c.args.extents.now.index.items c.args.seg c.first.result.0 c.args.extents.now.kept c.requires.there c.first.ensures, start-named c.args.extents.now.segs.items c.args.extents.now.index.items c.args.seg c.first.result.0 c.args.extents.now.kept c.requires.there c.first.ensures);
      room = subst (HaveRoom c.args.counts) (sym (start-left c.args.extents.now.segs.items c.args.extents.now.index.items c.args.seg c.first.result.0 c.args.extents.now.kept c.requires.there c.first.ensures)) c.requires.room;
      rest = ap (counts_with c.args.counts) (start-left c.args.extents.now.segs.items c.args.extents.now.index.items c.args.seg c.first.result.0 c.args.extents.now.kept c.requires.there c.first.ensures);
    }

pub count_extent-counts-requires-clause-room : goal.count_extent-counts-requires-clause-room
count_extent-counts-requires-clause-room g c =
    let on = subst (IsOn (tiling c.args.extents.now.segs.items) c.args.seg) c.in-Some.is c.loop-next.invariant.on in
    let e = extent_of (tiling c.args.extents.now.segs.items) c.in-Some.a.0 in
    room-front c.loop-next.counts (e ∷ []) (behind_of (tiling c.args.extents.now.segs.items) c.in-Some.a.0)
    (subst (HaveRoom c.loop-next.counts) (ap (left (tiling c.args.extents.now.segs.items) c.args.seg) c.in-Some.is ∙ left-named c.args.extents.now.segs.items c.args.extents.now.index.items c.args.extents.now.kept c.args.seg c.in-Some.a on.0 on.1) c.loop-next.invariant.room)

pub loop-next-smaller : goal.loop-next-smaller
loop-next-smaller g c =
    let on = subst (IsOn (tiling c.args.extents.now.segs.items) c.args.seg) c.in-Some.is c.loop-next.invariant.on in
    let e = ap (λ (o : Option Addr). length (left (tiling c.args.extents.now.segs.items) c.args.seg o)) c.in-Some.is ∙ ap length (left-next c.args.extents.now.segs.items c.args.extents.now.index.items c.args.extents.now.kept c.args.seg c.in-Some.a c.after-next.result on.0 on.1 c.after-next.ensures.value c.after-next.ensures.named) in
    omega (arith, e)

pub loop-next-preserved : goal.loop-next-preserved
loop-next-preserved g c =
    let on = subst (IsOn (tiling c.args.extents.now.segs.items) c.args.seg) c.in-Some.is c.loop-next.invariant.on in
    let e = extent_of (tiling c.args.extents.now.segs.items) c.in-Some.a.0 in
    let later = left (tiling c.args.extents.now.segs.items) c.args.seg c.after-next.result in
    let whole : left (tiling c.args.extents.now.segs.items) c.args.seg c.loop-next.next ≡ (e ∷ []) ++ later = ap (left (tiling c.args.extents.now.segs.items) c.args.seg) c.in-Some.is ∙ left-next c.args.extents.now.segs.items c.args.extents.now.index.items c.args.extents.now.kept c.args.seg c.in-Some.a c.after-next.result on.0 on.1 c.after-next.ensures.value c.after-next.ensures.named in
    record {
      on = on-next c.args.extents.now.segs.items c.args.extents.now.index.items c.args.seg c.in-Some.a c.after-next.result c.args.extents.now.kept on.0 on.1 c.after-next.ensures.value c.after-next.ensures.named;
      room = subst (λ k. HaveRoom k later) (sym c.count_extent-counts.ensures) (room-rest c.loop-next.counts (e ∷ []) later (subst (HaveRoom c.loop-next.counts) whole c.loop-next.invariant.room));
      rest =
          ap (λ k. counts_with k later) c.count_extent-counts.ensures
          ∙ (sym (counted-append c.loop-next.counts (e ∷ []) later)
          ∙ (ap (counts_with c.loop-next.counts) (sym whole) ∙ c.loop-next.invariant.rest));
    }
