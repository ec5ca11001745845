use Rattle.vc_base.proofs.Common.{◌≡◌, ℕ, ◌+◌, IfSome, Option, option_map, sym, ap, subst, arith, address, place_of}
use Rattle.vc_best.proofs.Common.{Addr, IsFirst, all_busy, busy_in, extents_of, tiling}
use Rattle.vc_best.proofs.Ahead.{first-lower, first-none, first-seg, first-some, skip, widen}
use Rattle.vc_best.proofs.Starts.{busy-after, last-number}
use Rattle.vc_best.proofs.walk.busy_above.Goals as goal

pub returns-then-is_none-clause-first : goal.returns-then-is_none-clause-first
returns-then-is_none-clause-first c =
    let zero : c.args.after.0 ≡ 0 = c.is_none.ensures.0 c.if-is_none.true in
    let segs = first-seg c.args.extents.now.segs.items c.args.extents.now.index.items c.args.extents.now.kept in
    first-lower (all_busy (tiling c.args.extents.now.segs.items)) (c.args.after.0 + 1) (address (1, 0)) (option_map (λ r. r.0) c.first_in_segments.result) (omega arith) (λ k d lt up. let s = segs k d lt in omega arith) c.first_in_segments.ensures.first

pub returns-then-is_some-clause-first : goal.returns-then-is_some-clause-first
returns-then-is_some-clause-first c =
    let n = (place_of c.args.after.0).0 in
    let f = first-some (busy_in ((place_of c.args.after.0).0, extents_of ((place_of c.args.after.0).0) (tiling c.args.extents.now.segs.items))) (c.args.after.0 + 1) c.busy_behind-found.result c.is_some.result (sym c.is_some.ensures) c.if-is_some.true c.busy_behind-found.ensures.first in
    let seg : (place_of f.0.0).0 ≡ n = subst (λ (o : Option Addr). IfSome o (λ r. (place_of r.0).0 ≡ n)) f.1 c.busy_behind-found.ensures.seg in
    subst (λ (o : Option Addr). IsFirst (all_busy (tiling c.args.extents.now.segs.items)) (c.args.after.0 + 1) (option_map (λ r. r.0) o)) (sym f.1)
    (widen c.args.extents.now.segs.items c.args.extents.now.index.items c.args.extents.now.kept ((place_of c.args.after.0).0) (c.args.after.0 + 1) f.0.0 (omega arith) seg f.2)

pub first_in_segments-requires-2-clause-most : goal.first_in_segments-requires-2-clause-most
first_in_segments-requires-2-clause-most c =
    let last = last-number c.args.extents.now.segs.items c.args.extents.now.index.items c.args.after.0 c.args.extents.now.kept (busy-after c.args.extents.now.segs.items c.args.after.0 c.is_none.result c.is_none.ensures.1 c.if-is_none.false c.requires) in
    let s = c.seg.ensures in
    omega arith

pub returns-clause-first : goal.returns-clause-first
returns-clause-first c =
    let n = (place_of c.args.after.0).0 in
    let none = first-none (busy_in ((place_of c.args.after.0).0, extents_of ((place_of c.args.after.0).0) (tiling c.args.extents.now.segs.items))) (c.args.after.0 + 1) c.busy_behind-found.result c.is_some.result (sym c.is_some.ensures) c.if-is_some.false c.busy_behind-found.ensures.first in
    let on = skip c.args.extents.now.segs.items c.args.extents.now.index.items c.args.extents.now.kept ((place_of c.args.after.0).0) (c.args.after.0 + 1) (omega arith) none in
    let seg : c.seg.result + 1 ≡ n + 1 = ap (λ (m : ℕ). m + 1) c.seg.ensures in
    let r : Option ℕ = option_map (λ r. r.0) c.first_in_segments-2.result in
    let first : IsFirst (all_busy (tiling c.args.extents.now.segs.items)) (address (n + 1, 0)) r = subst (λ (m : ℕ). IsFirst (all_busy (tiling c.args.extents.now.segs.items)) (address (m, 0)) r) seg c.first_in_segments-2.ensures.first in
    first-lower (all_busy (tiling c.args.extents.now.segs.items)) (c.args.after.0 + 1) (address (n + 1, 0)) r (omega arith) on first
