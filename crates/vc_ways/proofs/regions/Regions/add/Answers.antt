use Rattle.vc_base.proofs.Common.{◌∙◌, ℕ, List, map, sym, ap, arith, Discipline, Pool}
use Rattle.vc_seg.specs.Segment.{Bytes, pair_of}
use Rattle.vc_best.proofs.Lends.{segments-by}
use Rattle.vc_pool.proofs.PoolAfterCalls.{pairs-of-list}
use Rattle.vc_pool.specs.Cells.Place.{pair_in}
use Rattle.vc_pool.specs.declared.cells.segment.PoolSegment.{PoolSegment}
use Rattle.vc_ways.specs.Extents.{with_newest}
use Rattle.vc_ways.proofs.PoolLists.{pool-here}
use Rattle.vc_ways.proofs.Segments.{last-segments}
use Rattle.vc_ways.proofs.regions.Regions.add.Given as given
use Rattle.vc_ways.proofs.regions.Regions.add.Goals as goal

abbrev meaning : (g : given.Over) → (x : g.dyn-1.0.I) × (g.dyn-1.0.entry x).0.Denot → Discipline
meaning g p = (g.dyn-1.0.entry p.0).1.state p.1

pub returns : goal.returns
returns g c =
    let r = c.args.self.now in
    let newest = c.args.newest in
    let e = c.args.extents in
    let p = c.index.result.now in
    let here = pool-here (meaning g) r.pools.items c.args.class p p (omega (arith, c.requires.class, c.requires.classes)) c.index.ensures in
    let best = c.in_ok-best.ensures ∙ (ap (λ (bs : List Bytes). with_newest e.best newest.best (map pair_of bs)) c.deref.ensures.value ∙ ap (λ (ss : List (ℕ × ℕ)). with_newest e.best newest.best ss) (sym (segments-by r.best.extents.segs.items))) in
    let last = c.in_ok-last.ensures ∙ (ap (λ (bs : List Bytes). with_newest e.last newest.last (map pair_of bs)) c.deref-2.ensures.value ∙ ap (λ (ss : List (ℕ × ℕ)). with_newest e.last newest.last ss) (sym (last-segments r.last.region.segs.items r.last.region.latest.0))) in
    let pool = c.in_ok-pool.ensures ∙ (ap (λ (bs : List PoolSegment). with_newest e.pool newest.pool (map pair_in bs)) c.deref-3.ensures.value ∙ (ap (λ (ss : List (ℕ × ℕ)). with_newest e.pool newest.pool ss) (sym (pairs-of-list p.segs.items p.element p.freed.0)) ∙ ap (λ (q : Pool ℕ). with_newest e.pool newest.pool q.layout.segments) (sym here))) in
    λ j. record { best = best j; last = last j; pool = pool j }
