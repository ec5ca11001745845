use Rattle.vc_base.proofs.Common.{◌∙◌, ℕ, List, map, sym, ap, arith, Discipline, Pool}
use Rattle.vc_seg.specs.Segment.{Bytes, pair_of}
use Rattle.vc_best.proofs.Lends.{segments-by}
use Rattle.vc_pool.proofs.PoolAfterCalls.{pairs-of-list}
use Rattle.vc_pool.specs.Cells.Place.{pair_in}
use Rattle.vc_pool.specs.declared.cells.segment.PoolSegment.{PoolSegment}
use Rattle.vc_ways.specs.Extents.{newest_in}
use Rattle.vc_ways.proofs.PoolLists.{pool-here}
use Rattle.vc_ways.proofs.Segments.{last-segments}
use Rattle.vc_ways.proofs.regions.Regions.newest.Given as given
use Rattle.vc_ways.proofs.regions.Regions.newest.Goals as goal

abbrev meaning : (g : given.Over) → (x : g.dyn-1.0.I) × (g.dyn-1.0.entry x).0.Denot → Discipline
meaning g p = (g.dyn-1.0.entry p.0).1.state p.1

pub returns : goal.returns
returns g c =
    let r = c.args.self.now in
    let p = c.index.result.now in
    let here = pool-here (meaning g) r.pools.items c.args.class p p (omega (arith, c.requires.class, c.requires.classes)) c.index.ensures in
    let first = c.newest_in.ensures ∙ (ap (λ (bs : List Bytes). newest_in (map pair_of bs)) c.deref.ensures.value ∙ ap newest_in (sym (segments-by r.best.extents.segs.items))) in
    let second = c.newest_in-2.ensures ∙ (ap (λ (bs : List Bytes). newest_in (map pair_of bs)) c.deref-2.ensures.value ∙ ap newest_in (sym (last-segments r.last.region.segs.items r.last.region.latest.0))) in
    let third = c.newest_in-3.ensures ∙ (ap (λ (bs : List PoolSegment). newest_in (map pair_in bs)) c.deref-3.ensures.value ∙ (ap newest_in (sym (pairs-of-list p.segs.items p.element p.freed.0)) ∙ ap (λ (q : Pool ℕ). newest_in q.layout.segments) (sym here))) in
    λ j. record { best = first j; last = second j; pool = third j }
