use Rattle.vc_base.proofs.Common.{◌≡◌, ◌≤◌, IfSome, Some, Option, option_map, sym, subst, arith, address, place_of}
use Rattle.vc_best.proofs.Common.{Addr, IsFirst, all_busy, busy_in, extents_of, tiling}
use Rattle.vc_best.proofs.Ahead.{end-all, first-lower, first-none, first-some, skip, widen}
use Rattle.vc_best.proofs.walk.first_in_segments.Goals as goal

pub loop-number-init : goal.loop-number-init
loop-number-init c = record { up = omega arith; none = λ k d lt up. up }

pub returns-then-is_some-clause-first : goal.returns-then-is_some-clause-first
returns-then-is_some-clause-first c =
    let f = first-some (busy_in (c.loop-number.number, extents_of c.loop-number.number (tiling c.args.extents.now.segs.items))) (address (c.loop-number.number, 0)) c.first_in-found.result c.is_some.result (sym c.is_some.ensures) c.if-is_some.true c.first_in-found.ensures.first in
    let seg : (place_of f.0.0).0 ≡ c.loop-number.number = subst (λ (o : Option Addr). IfSome o (λ r. (place_of r.0).0 ≡ c.loop-number.number)) f.1 c.first_in-found.ensures.seg in
    let all = widen c.args.extents.now.segs.items c.args.extents.now.index.items c.args.extents.now.kept c.loop-number.number (address (c.loop-number.number, 0)) f.0.0 (omega arith) seg f.2 in
    let from : c.args.from ≤ c.loop-number.number = c.loop-number.invariant.up in
    subst (λ (o : Option Addr). IsFirst (all_busy (tiling c.args.extents.now.segs.items)) (address (c.args.from, 0)) (option_map (λ r. r.0) o)) (sym f.1)
    (first-lower (all_busy (tiling c.args.extents.now.segs.items)) (address (c.args.from, 0)) (address (c.loop-number.number, 0)) (Some f.0.0) (omega arith) c.loop-number.invariant.none all)

pub loop-number-preserved : goal.loop-number-preserved
loop-number-preserved c =
    let none = first-none (busy_in (c.loop-number.number, extents_of c.loop-number.number (tiling c.args.extents.now.segs.items))) (address (c.loop-number.number, 0)) c.first_in-found.result c.is_some.result (sym c.is_some.ensures) c.if-is_some.false c.first_in-found.ensures.first in
    let on = skip c.args.extents.now.segs.items c.args.extents.now.index.items c.args.extents.now.kept c.loop-number.number (address (c.loop-number.number, 0)) (omega arith) none in
    let from = c.loop-number.invariant.up in
    record { up = omega arith; none = λ k d lt up. on k d lt (c.loop-number.invariant.none k d lt up) }

pub returns-clause-first : goal.returns-clause-first
returns-clause-first c =
    let last = c.loop-number-test.false in
    end-all c.args.extents.now.segs.items c.args.extents.now.index.items c.args.extents.now.kept (address (c.args.from, 0)) (λ k d lt up. let q = c.loop-number.invariant.none k d lt up in omega arith)
