use Rattle.vc_base.proofs.Common.{◌+◌, length, get_or, sym, ap, ◌∙◌, arith, with_bytes}
use Rattle.vc_seg.proofs.Frames.{stays-written}
use Rattle.vc_last.proofs.Lifts.{new-bytes, own-bytes, stays-set}
use Rattle.vc_last.proofs.range.put_in.Goals as goal
use Rattle.vc_last.proofs.range.put_in.Goals.{After-index-segs-place}

pub put-requires : goal.put-requires
put-requires c =
    let at = (goal.at.put-requires c).After-index-segs-place in
    omega (arith, c.requires.within, ap length (own-bytes c.args.number c.place_of_number-place.result 0 0 c.args.segs.now c.index-segs-place.result c.index-segs-place.result c.place_of_number-place.ensures))

pub returns-clause-bytes : goal.returns-clause-bytes
returns-clause-bytes c =
    let at = (goal.at.returns-clause-bytes c).After-index-segs-place in
    new-bytes c.args.number c.place_of_number-place.result 0 0 c.args.segs.now c.index-segs-place.result c.put.new.self c.place_of_number-place.ensures c.put.ensures.number
    ∙ (c.put.ensures.bytes ∙ ap (with_bytes c.args.at c.args.src.now) (sym (own-bytes c.args.number c.place_of_number-place.result 0 0 c.args.segs.now c.index-segs-place.result c.put.new.self c.place_of_number-place.ensures)))

pub returns-clause-rest : goal.returns-clause-rest
returns-clause-rest c =
    let at = (goal.at.returns-clause-rest c).After-index-segs-place in
    let own = own-bytes c.args.number c.place_of_number-place.result 0 0 c.args.segs.now c.index-segs-place.result c.put.new.self c.place_of_number-place.ensures in
    stays-set c.args.number c.place_of_number-place.result c.args.at (c.args.at + length c.args.src.now) c.args.segs.now c.index-segs-place.result c.put.new.self c.place_of_number-place.ensures
    (stays-written (get_or c.args.segs.now c.place_of_number-place.result c.index-segs-place.result) c.put.new.self c.args.at c.args.src.now (omega (arith, c.requires.within, ap length own)) c.put.ensures.bytes c.put.ensures.number)
