use Rattle.vc_base.proofs.Common.{◌≡◌, ℕ, List, map, length, ap, ◌∙◌, subst, Terms, new_segment}
use Rattle.vc_model.specs.Segments.{growing}
use Rattle.vc_seg.specs.Lend.{IsNoGrant}
use Rattle.vc_pool.specs.Cells.Blocks.{pair_of}
use Rattle.vc_pool.specs.Cells.Carve.{CarvesIn}
use Rattle.vc_pool.specs.Cells.Place.{cells_in, pair_in}
use Rattle.vc_pool.specs.declared.cells.segment.PoolSegment.{PoolSegment}
use Rattle.vc_pool.proofs.SegmentList.{pairs-in}
use Rattle.vc_pool.proofs.AskedSegment.{fresh-other, granted-pairs, lent-granted}
use Rattle.vc_pool.proofs.lend.put_in_new.Goals as goal
use Rattle.vc_pool.proofs.lend.put_in_new.Goals.{After-deref}
use Rattle.vc_pool.proofs.lend.put_in_new.Given.{Over}

-- the terms of the discipline that is asked
abbrev terms : (g : Over) → After-deref g → Terms
terms g c = ((goal.SegDisc-dyn g (c.args.disc.now.vtable, c.args.disc.now.value)).state c.args.disc.now.value).terms

-- the list is the same, with room for one more
same : (g : Over) (c : After-deref g) → c.deref.result.now ≡ c.args.segs.now.items
same g c = c.deref.ensures.value ∙ c.in_ok-reserve.ensures.items

pairs : (g : Over) (c : After-deref g) → map pair_in c.deref.result.now ≡ map pair_of (cells_in c.args.segs.now.items)
pairs g c = ap (map pair_in) (same g c) ∙ pairs-in c.args.segs.now.items

pub lend_next-requires-clause-new : goal.lend_next-requires-clause-new
lend_next-requires-clause-new g c = let at = (goal.at.lend_next-requires-clause-new g c).After-deref in ap (growing (terms g at)) (pairs g at) ∙ c.requires.new

pub carve_new-requires-clause-unused : goal.carve_new-requires-clause-unused
carve_new-requires-clause-unused g c =
    let at = (goal.at.carve_new-requires-clause-unused g c).After-deref in
    let own = granted-pairs {terms = terms g at} c.args.bytes c.args.segs.now.items c.deref.result.now (same g at) c.in-Ok.ensures.granted in
    rw c.in_ok-reserve.ensures.items (fresh-other c.in-Ok.segment.number (cells_in c.args.segs.now.items) own.fresh)

pub returns-in-Ok-clause-granted : goal.returns-in-Ok-clause-granted
returns-in-Ok-clause-granted g c =
    let at = (goal.at.returns-in-Ok-clause-granted g c).After-deref in
    let own = granted-pairs {terms = terms g at} c.args.bytes c.args.segs.now.items c.deref.result.now (same g at) c.in-Ok.ensures.granted in
    lent-granted c.args.segs.now.items own c.in-Ok.ensures.lent c.carve_new.result.0 c.carve_new.ensures.place
    (subst (λ (ss : List PoolSegment). CarvesIn c.args.element c.args.tag c.args.size (cells_in ss) (cells_in c.carve_new.new.segs.items) (new_segment c.in-Ok.segment.number (length c.in-Ok.segment.bytes)) c.carve_new.result.0)
    c.in_ok-reserve.ensures.items c.carve_new.ensures.carved)

pub returns-in-Err-clause-fault : goal.returns-in-Err-clause-fault
returns-in-Err-clause-fault g c =
    let at = (goal.at.returns-in-Err-clause-fault g c).After-deref in
    subst (λ (ps : List (ℕ × ℕ)). IsNoGrant (terms g at) c.args.bytes ps c.in-Err.fault) (pairs g at) c.in-Err.ensures.fault
