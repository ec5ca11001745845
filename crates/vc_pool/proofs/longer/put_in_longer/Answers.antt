use Rattle.vc_base.proofs.Common.{◌≡◌, ℕ, ◌+◌, ◌-◌, ◌/◌, ◌<◌, ◌≤◌, get_or, length, set, sym, ap, ◌∙◌, subst, arith, get_or_default, Discipline}
use Rattle.std.proofs.lemmas.List.{set-get_or}
use Rattle.vc_pool.specs.Cells.Cells.{Cells, cells_of, with_more_bytes}
use Rattle.vc_pool.specs.Cells.Kept.{FitsElement}
use Rattle.vc_pool.specs.Cells.Place.{cells_in}
use Rattle.vc_pool.specs.declared.cells.segment.PoolSegment.{PoolSegment}
use Rattle.vc_pool.proofs.SegmentList.{cells-get, cells-put}
use Rattle.vc_pool.proofs.GrowingSegment.{can, fewer, first, granted, kept, last, may, no-grant, too-many}
use Rattle.vc_pool.proofs.longer.put_in_longer.Goals as goal
use Rattle.vc_pool.proofs.longer.put_in_longer.Goals.{After-rounded_up}
use Rattle.vc_pool.proofs.longer.put_in_longer.Given.{Over}

some : {size element : ℕ} → FitsElement size element → 1 ≤ element
some h = let low = h.some in let high = h.fits in omega (arith, low, high)

-- the discipline that is asked
abbrev disc : (g : Over) → After-rounded_up g → Discipline
disc g c = (goal.SegDisc-dyn g (c.args.disc.now.vtable, c.args.disc.now.value)).state c.args.disc.now.value

-- the segment that is made longer
abbrev own : (g : Over) → After-rounded_up g → PoolSegment
own g c = get_or c.args.segs.now (length c.args.segs.now - 1) c.index-segs-place-2.result

end : (g : Over) (c : After-rounded_up g) → length c.args.segs.now - 1 < length c.args.segs.now
end g c = let all = last (disc g c) c.args.element c.args.more c.args.segs.now c.index-segs-place-2.result c.requires.kept (some c.requires.size) c.requires.grows c.requires.least c.requires.bytes in omega (arith, all)

within : (g : Over) (c : After-rounded_up g) → length (own g c).seg.bytes + c.args.more ≤ 33554432
within g c =
    let same = get_or_default c.args.segs.now (length c.args.segs.now - 1) c.index-segs-place.result c.index-segs-place-2.result (end g c) in
    let size : c.size.result ≡ length (own g c).seg.bytes = c.size.ensures.value ∙ ap (λ (s : PoolSegment). length s.seg.bytes) same in
    omega (arith, size, c.if-size-more-gt33554432.false)

pub returns-then-size-more-gt33554432-clause-fault : goal.returns-then-size-more-gt33554432-clause-fault
returns-then-size-more-gt33554432-clause-fault g c =
    too-many ((goal.SegDisc-dyn g (c.args.disc.now.vtable, c.args.disc.now.value)).state c.args.disc.now.value)
    c.args.element c.args.more c.args.segs.now c.index-segs-place.result c.requires.kept (some c.requires.size) c.requires.grows c.requires.least c.requires.bytes
    (omega (arith, c.size.ensures.value, c.if-size-more-gt33554432.true))

pub extend_cells-requires-clause-can : goal.extend_cells-requires-clause-can
extend_cells-requires-clause-can g c =
    can (disc g c) c.args.element c.args.more c.args.segs.now c.index-segs-place-2.result c.requires.kept (some c.requires.size) c.requires.grows c.requires.least c.requires.bytes (within g c) c.requires.lent c.requires.multiple

pub extend_cells-requires-clause-fewer : goal.extend_cells-requires-clause-fewer
extend_cells-requires-clause-fewer g c =
    subst (λ n. length (own g c).cells.items ≤ (length (own g c).seg.bytes + c.args.more - 32) / n) (sym c.rounded_up.ensures)
    (fewer (disc g c) c.args.element c.args.more c.args.segs.now c.index-segs-place-2.result c.requires.kept (some c.requires.size) c.requires.grows c.requires.least c.requires.bytes)

pub carve_at-requires-clause-kept : goal.carve_at-requires-clause-kept
carve_at-requires-clause-kept g c =
    let at = (goal.at.carve_at-requires-clause-kept g c).After-rounded_up in
    kept (disc g at) c.args.element c.args.more c.args.segs.now c.index-segs-place-2.result c.requires.kept (some c.requires.size) c.requires.grows c.requires.least c.requires.bytes (within g at) c.requires.full c.extend_cells.new.segment
    (subst (λ n. cells_of c.extend_cells.new.segment ≡ with_more_bytes n c.args.more (cells_of (own g at))) c.rounded_up.ensures c.in-Ok.ensures.longer)

pub carve_at-requires-clause-first : goal.carve_at-requires-clause-first
carve_at-requires-clause-first g c =
    let at = (goal.at.carve_at-requires-clause-first g c).After-rounded_up in
    first (disc g at) c.args.element c.args.more c.args.segs.now c.index-segs-place-2.result c.requires.kept (some c.requires.size) c.requires.grows c.requires.least c.requires.bytes (within g at) c.requires.full c.extend_cells.new.segment
    (subst (λ n. cells_of c.extend_cells.new.segment ≡ with_more_bytes n c.args.more (cells_of (own g at))) c.rounded_up.ensures c.in-Ok.ensures.longer)

pub returns-in-Ok-clause-granted : goal.returns-in-Ok-clause-granted
returns-in-Ok-clause-granted g c =
    let at = (goal.at.returns-in-Ok-clause-granted g c).After-rounded_up in
    granted (disc g at) c.args.element c.args.more c.args.segs.now c.index-segs-place-2.result c.requires.kept (some c.requires.size) c.requires.grows c.requires.least c.requires.bytes (within g at) c.requires.full c.extend_cells.new.segment
    (subst (λ n. cells_of c.extend_cells.new.segment ≡ with_more_bytes n c.args.more (cells_of (own g at))) c.rounded_up.ensures c.in-Ok.ensures.longer)
    c.args.tag c.args.size c.carve_at.result.0 c.carve_at.new.segs ((goal.SegDisc-dyn g (c.extend_cells.new.disc.vtable, c.extend_cells.new.disc.value)).state c.extend_cells.new.disc.value) c.in-Ok.ensures.extended c.carve_at.ensures.place c.carve_at.ensures.carved

pub returns-in-Err-clause-fault : goal.returns-in-Err-clause-fault
returns-in-Err-clause-fault g c =
    let at = (goal.at.returns-in-Err-clause-fault g c).After-rounded_up in
    no-grant (disc g at) c.args.element c.args.more c.args.segs.now c.index-segs-place-2.result c.requires.kept (some c.requires.size) c.requires.grows c.requires.least c.requires.bytes (within g at) c.in-Err.fault c.in-Err.ensures.only

pub returns-in-Err-clause-may : goal.returns-in-Err-clause-may
returns-in-Err-clause-may g c =
    let at = (goal.at.returns-in-Err-clause-may g c).After-rounded_up in
    λ e. may (disc g at) c.args.element c.args.more c.args.segs.now c.index-segs-place-2.result c.requires.kept (some c.requires.size) c.requires.grows c.requires.least c.requires.bytes (within g at)

pub returns-in-Err-clause-same : goal.returns-in-Err-clause-same
returns-in-Err-clause-same g c =
    let at = (goal.at.returns-in-Err-clause-same g c).After-rounded_up in
    let i : ℕ = length c.args.segs.now - 1 in
    let d : Cells = cells_of c.index-segs-place-2.result in
    let row = cells-get c.args.segs.now i c.index-segs-place-2.result d (end g at) in
    cells-put c.args.segs.now i c.extend_cells.new.segment ∙ (ap (set (cells_in c.args.segs.now) i) (c.in-Err.ensures.same ∙ sym row) ∙ set-get_or (cells_in c.args.segs.now) i d)
