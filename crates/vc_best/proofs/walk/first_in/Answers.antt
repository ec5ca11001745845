use Rattle.vc_base.proofs.Common.{◌≡◌, ℕ, ◌<◌, List, IfSome, IsSome, All, Option, option_map, sym, ◌∙◌, subst, arith, All-nil, address, place_of, Block, address_of}
use Rattle.vc_best.proofs.Common.{Extent, IsFirst, busy_in, extents_of, tiling}
use Rattle.vc_base.proofs.Options.{none_where}
use Rattle.vc_best.proofs.Ahead.{blocks-low, first-lower, start-address}
use Rattle.vc_best.proofs.AtBytes.{none-extents}
use Rattle.vc_best.proofs.Backs.{some-of}
use Rattle.vc_best.proofs.Walks.{start-named, start-seg}
use Rattle.vc_best.proofs.walk.first_in.Goals as goal

pub returns-then-is_none-clause-first : goal.returns-then-is_none-clause-first
returns-then-is_none-clause-first c =
    let none = none-extents c.args.number c.args.extents.now.segs.items (sym c.has.ensures ∙ none_where c.has.result c.is_none.result c.is_none.ensures c.if-is_none.true) in
    subst (λ (es : List Extent). All (λ b. address_of b < address (c.args.number, 0)) (busy_in (c.args.number, es))) (sym none) (All-nil (λ (b : Block ℕ). address_of b < address (c.args.number, 0)))

pub first_busy-requires : goal.first_busy-requires
first_busy-requires c = start-named c.args.extents.now.segs.items c.args.extents.now.index.items c.args.number c.first.result.0 c.args.extents.now.kept (subst IsSome c.has.ensures (some-of c.has.result c.is_none.result c.is_none.ensures c.if-is_none.false)) c.first.ensures

pub returns-clause-first : goal.returns-clause-first
returns-clause-first c =
    let a = c.first.result.0 in
    let r : Option ℕ = option_map (λ r. r.0) c.first_busy.result in
    let seg = start-seg c.args.extents.now.segs.items c.args.extents.now.index.items c.args.number c.first.result.0 c.args.extents.now.kept (subst IsSome c.has.ensures (some-of c.has.result c.is_none.result c.is_none.ensures c.if-is_none.false)) c.first.ensures in
    let own = start-address c.args.extents.now.segs.items c.args.extents.now.index.items c.args.number a c.args.extents.now.kept (subst IsSome c.has.ensures (some-of c.has.result c.is_none.result c.is_none.ensures c.if-is_none.false)) c.first.ensures in
    let low = blocks-low c.args.extents.now.segs.items c.args.extents.now.index.items c.args.number c.args.extents.now.kept (subst IsSome c.has.ensures (some-of c.has.result c.is_none.result c.is_none.ensures c.if-is_none.false)) in
    let first : IsFirst (busy_in (c.args.number, extents_of c.args.number (tiling c.args.extents.now.segs.items))) a r = subst (λ (m : ℕ). IsFirst (busy_in (m, extents_of m (tiling c.args.extents.now.segs.items))) a r) seg c.first_busy.ensures.first in
    first-lower (busy_in (c.args.number, extents_of c.args.number (tiling c.args.extents.now.segs.items))) (address (c.args.number, 0)) a r (omega arith) (λ k d lt up. let least = low k d lt in omega arith) first

pub returns-clause-seg : goal.returns-clause-seg
returns-clause-seg c = subst (λ (m : ℕ). IfSome c.first_busy.result (λ r. (place_of r.0).0 ≡ m)) (start-seg c.args.extents.now.segs.items c.args.extents.now.index.items c.args.number c.first.result.0 c.args.extents.now.kept (subst IsSome c.has.ensures (some-of c.has.result c.is_none.result c.is_none.ensures c.if-is_none.false)) c.first.ensures) c.first_busy.ensures.seg
