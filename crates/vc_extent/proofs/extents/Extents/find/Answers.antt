use Rattle.vc_base.proofs.Common.{◌-◌, [], sym, subst, arith, place_of}
use Rattle.vc_seg.specs.Segment.{Bytes}
use Rattle.vc_extent.specs.Tiling.{IsPlace, IsThere}
use Rattle.vc_extent.proofs.Places.{found-from, named-off, named-there}
use Rattle.vc_extent.proofs.extents.Extents.find.Goals as goal

pub place-requires : goal.place-requires
place-requires c = subst (λ k. IsThere k c.args.self.now.segs.items) (sym c.seg.ensures) (named-there (place_of c.args.a.0).0 (place_of c.args.a.0).1 c.args.self.now.segs.items c.requires)

pub overflow_sub-result : goal.overflow_sub-result
overflow_sub-result c =
    let d : Bytes = record { number = 0; bytes = [] } in
    let place : IsPlace (place_of c.args.a.0).0 c.args.self.now.segs.items c.place.result = subst (λ k. IsPlace k c.args.self.now.segs.items c.place.result) c.seg.ensures c.place.ensures.place in
    let above = named-off c.args.a.0 c.place.result c.args.self.now.segs.items d place (c.place.ensures.tiled d) c.requires in
    omega (arith, c.off.ensures)

pub returns-clause-found : goal.returns-clause-found
returns-clause-found c =
    let d : Bytes = record { number = 0; bytes = [] } in
    let place : IsPlace (place_of c.args.a.0).0 c.args.self.now.segs.items c.place.result = subst (λ k. IsPlace k c.args.self.now.segs.items c.place.result) c.seg.ensures c.place.ensures.place in
    let above = named-off c.args.a.0 c.place.result c.args.self.now.segs.items d place (c.place.ensures.tiled d) c.requires in
    found-from c.args.a.0 c.seg.result c.place.result (c.off.result - 16) c.args.self.now.segs.items c.seg.ensures c.place.ensures.place c.place.ensures.tiled (omega (arith, c.off.ensures)) c.requires
