use Rattle.vc_base.proofs.Common.{◌≡◌, ℕ, ◌+◌, IfSome, Some, None, Option, option_map, sym, refl, subst, place_of}
use Rattle.vc_best.proofs.Common.{Addr, IsFirst, busy_in, extents_of, tiling}
use Rattle.vc_best.proofs.Ahead.{first-lower}
use Rattle.vc_best.proofs.Firsts.{first-behind}
use Rattle.vc_best.proofs.Walks.{on-next}
use Rattle.vc_best.proofs.walk.busy_behind.Goals as goal

pub returns-in_err-next-clause-first : goal.returns-in_err-next-clause-first
returns-in_err-next-clause-first c =
    subst (λ (o : Option Addr). IsFirst (busy_in ((place_of c.args.a.0).0, extents_of (place_of c.args.a.0).0 (tiling c.args.extents.now.segs.items))) (c.args.a.0 + 1) (option_map (λ r. r.0) o)) (sym c.from_residual.ensures)
    (first-behind c.args.extents.now.segs.items c.args.extents.now.index.items c.args.extents.now.kept c.args.a c.requires None c.in_err-next.ensures.value)

pub returns-clause-first : goal.returns-clause-first
returns-clause-first c =
    let next = c.in_ok-next.next in
    let r : Option ℕ = option_map (λ r. r.0) c.first_busy.result in
    let behind = first-behind c.args.extents.now.segs.items c.args.extents.now.index.items c.args.extents.now.kept c.args.a c.requires (Some next) c.in_ok-next.ensures.value in
    let seg = (on-next c.args.extents.now.segs.items c.args.extents.now.index.items (place_of c.args.a.0).0 c.args.a (Some next) c.args.extents.now.kept refl c.requires c.in_ok-next.ensures.value c.in_ok-next.ensures.named).0 in
    first-lower (busy_in ((place_of c.args.a.0).0, extents_of (place_of c.args.a.0).0 (tiling c.args.extents.now.segs.items))) (c.args.a.0 + 1) next.0 r behind.0 behind.1
    (subst (λ (m : ℕ). IsFirst (busy_in (m, extents_of m (tiling c.args.extents.now.segs.items))) next.0 r) seg c.first_busy.ensures.first)

pub returns-clause-seg : goal.returns-clause-seg
returns-clause-seg c =
    let next = c.in_ok-next.next in
    let seg = (on-next c.args.extents.now.segs.items c.args.extents.now.index.items (place_of c.args.a.0).0 c.args.a (Some next) c.args.extents.now.kept refl c.requires c.in_ok-next.ensures.value c.in_ok-next.ensures.named).0 in
    subst (λ (m : ℕ). IfSome c.first_busy.result (λ r. (place_of r.0).0 ≡ m)) seg c.first_busy.ensures.seg
