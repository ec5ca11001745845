use Rattle.vc_base.proofs.Common.{◌≡◌, ℕ, ◌+◌, ◌-◌, length, get_or, set, sym, ap, ◌∙◌, subst, arith, place_of}
use Rattle.vc_seg.specs.Memory.{bytes_of_number}
use Rattle.vc_seg.specs.Field.{field_at}
use Rattle.vc_seg.specs.Frame.{StaysOutside}
use Rattle.vc_last.specs.Head.{IsFirstAt, StaysBut}
use Rattle.vc_last.proofs.Lifts.{new-bytes, own-bytes, stays-set}
use Rattle.vc_last.proofs.head.set_before.Goals as goal
use Rattle.vc_last.proofs.head.set_before.Goals.{After-index-segs-place}

abbrev n : (c : After-index-segs-place) → ℕ
n c = (place_of c.args.a.0).0

abbrev off : (c : After-index-segs-place) → ℕ
off c = (place_of c.args.a.0).1

there : (c : After-index-segs-place) → IsFirstAt (n c) c.args.segs.now c.place_of_number-place.result
there c = subst (λ m. IsFirstAt m c.args.segs.now c.place_of_number-place.result) c.seg.ensures c.place_of_number-place.ensures

own : (c : After-index-segs-place) → bytes_of_number (n c) c.args.segs.now ≡ (get_or c.args.segs.now c.place_of_number-place.result c.index-segs-place.result).bytes
own c = own-bytes (n c) c.place_of_number-place.result 0 0 c.args.segs.now c.index-segs-place.result c.index-segs-place.result (there c)

pub set_field-requires : goal.set_field-requires
set_field-requires c =
    let at = (goal.at.set_field-requires c).After-index-segs-place in
    omega (arith, c.requires.head.within, c.requires.head.first, ap length (own at), c.off.ensures)

pub returns-clause-value : goal.returns-clause-value
returns-clause-value c =
    let at = (goal.at.returns-clause-value c).After-index-segs-place in
    let e = new-bytes (n at) c.place_of_number-place.result 0 0 c.args.segs.now c.index-segs-place.result c.set_field.new.self (there at) (c.set_field.ensures.rest.number) in
    ap (field_at (off at - 8)) e ∙ (ap (λ k. field_at (k - 8) c.set_field.new.self.bytes) (sym c.off.ensures) ∙ c.set_field.ensures.value)

pub returns-clause-rest : goal.returns-clause-rest
returns-clause-rest c =
    let at = (goal.at.returns-clause-rest c).After-index-segs-place in
    let e : off at - 8 + 4 ≡ off at - 4 = omega (arith, c.requires.head.first) in
    let own : StaysOutside (off at - 8) (off at - 8 + 4) (get_or c.args.segs.now c.place_of_number-place.result c.index-segs-place.result) c.set_field.new.self =
    subst (λ k. StaysOutside (k - 8) (k - 8 + 4) (get_or c.args.segs.now c.place_of_number-place.result c.index-segs-place.result) c.set_field.new.self) c.off.ensures
    c.set_field.ensures.rest in
    subst (λ t. StaysBut (n at) (off at - 8) t c.args.segs.now (set c.args.segs.now c.place_of_number-place.result c.set_field.new.self)) e
    (stays-set (n at) c.place_of_number-place.result (off at - 8) (off at - 8 + 4) c.args.segs.now c.index-segs-place.result c.set_field.new.self (there at) own)
