use Rattle.vc_base.proofs.Common.{◌-◌, sym, arith, place_of, find_block}
use Rattle.std.proofs.lemmas.List.Quantifiers.{position-Some}
use Rattle.vc_best.specs.Parts.{layout_of}
use Rattle.vc_audit.specs.Debug.{is_damaged}
use Rattle.vc_audit.proofs.DebugFills.{guards-size}
use Rattle.vc_audit.proofs.DebugChecks.{back-range, front-range, part-length}
use Rattle.vc_audit.proofs.debug.Debug.damaged_place.Goals as goal

pub read-requires : goal.read-requires
read-requires g c = record { block = c.requires; range = front-range (layout_of c.args.self.now.best).blocks (place_of c.args.at.0) c.args.self.now.guarded }

pub first_damaged-requires : goal.first_damaged-requires
first_damaged-requires g c = part-length (find_block (place_of c.args.at.0) (layout_of c.args.self.now.best).blocks) 0 32 c.read.result.now c.read.ensures

pub overflow_sub-back : goal.overflow_sub-back
overflow_sub-back g c = let bounds = guards-size (layout_of c.args.self.now.best).blocks (place_of c.args.at.0) c.size-back.result c.args.self.now.guarded c.size-back.ensures in omega (arith, bounds.0)

pub read-requires-2 : goal.read-requires-2
read-requires-2 g c =
    let bounds = guards-size (layout_of c.args.self.now.best).blocks (place_of c.args.at.0) c.size-back.result c.args.self.now.guarded c.size-back.ensures in
    record { block = c.requires; range = back-range (find_block (place_of c.args.at.0) (layout_of c.args.self.now.best).blocks) c.size-back.result bounds.0 c.size-back.ensures }

pub first_damaged-requires-2 : goal.first_damaged-requires-2
first_damaged-requires-2 g c =
    let short = part-length (find_block (place_of c.args.at.0) (layout_of c.args.self.now.best).blocks) (c.size-back.result - 16) 16 c.read-2.result.now c.read-2.ensures in
    omega (arith, short)

pub overflow_add-result : goal.overflow_add-result
overflow_add-result g c =
    let bounds = guards-size (layout_of c.args.self.now.best).blocks (place_of c.args.at.0) c.size-back.result c.args.self.now.guarded c.size-back.ensures in
    let short = part-length (find_block (place_of c.args.at.0) (layout_of c.args.self.now.best).blocks) (c.size-back.result - 16) 16 c.read-2.result.now c.read-2.ensures in
    let within = position-Some is_damaged c.read-2.result.now c.in-Some-first_damaged.n 0 (sym c.in-Some-first_damaged.ensures) in
    omega (arith, bounds.1, short, within.0)
