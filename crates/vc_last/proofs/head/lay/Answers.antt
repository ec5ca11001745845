use Rattle.vc_base.proofs.Common.{◌≡◌, ℕ, ◌+◌, ◌-◌, List, length, get_or, take, drop, ap, ◌∙◌, arith}
use Rattle.vc_seg.specs.Memory.{bytes_of_number}
use Rattle.vc_seg.specs.Field.{field_at}
use Rattle.vc_last.proofs.Lifts.{new-bytes, own-bytes, stays-set}
use Rattle.vc_last.proofs.head.lay.Goals as goal
use Rattle.vc_last.proofs.head.lay.Goals.{After-index-segs-place}

own : (c : After-index-segs-place) → bytes_of_number c.args.number c.args.segs.now ≡ (get_or c.args.segs.now c.place_of_number-place.result c.index-segs-place.result).bytes
own c = own-bytes c.args.number c.place_of_number-place.result 0 0 c.args.segs.now c.index-segs-place.result c.index-segs-place.result c.place_of_number-place.ensures

pub lay_in-requires-clause-within : goal.lay_in-requires-clause-within
lay_in-requires-clause-within c =
    let at = (goal.at.lay_in-requires-clause-within c).After-index-segs-place in
    omega (arith, c.requires.within, ap length (own at))

pub returns-clause-laid : goal.returns-clause-laid
returns-clause-laid c =
    let at = (goal.at.returns-clause-laid c).After-index-segs-place in
    let e = new-bytes c.args.number c.place_of_number-place.result 0 0 c.args.segs.now c.index-segs-place.result c.lay_in.new.seg c.place_of_number-place.ensures (c.lay_in.ensures.rest.number) in
    record {
      size = ap (field_at (c.args.off - 16)) e ∙ c.lay_in.ensures.size;
      label = ap (field_at (c.args.off - 12)) e ∙ c.lay_in.ensures.label;
      before = ap (field_at (c.args.off - 8)) e ∙ c.lay_in.ensures.before;
      zero = ap (field_at (c.args.off - 4)) e ∙ c.lay_in.ensures.zero;
      bytes = ap (λ (xs : List ℕ). take c.args.size (drop c.args.off xs)) e ∙ c.lay_in.ensures.bytes;
    }

pub returns-clause-rest : goal.returns-clause-rest
returns-clause-rest c =
    let at = (goal.at.returns-clause-rest c).After-index-segs-place in
    stays-set c.args.number c.place_of_number-place.result (c.args.off - 16) (c.args.off + c.args.size) c.args.segs.now c.index-segs-place.result c.lay_in.new.seg c.place_of_number-place.ensures
    c.lay_in.ensures.rest
