use Rattle.vc_base.proofs.Common.{◌≡◌, ℕ, length, Some, None, option_map, option_copied, sym, ap, ◌∙◌, arith, newest}
use Rattle.vc_model.specs.Last.{place_behind_latest}
use Rattle.vc_seg.specs.Segment.{pair_of}
use Rattle.vc_last.specs.Read.{layout_by}
use Rattle.vc_last.proofs.Lists.{pair}
use Rattle.vc_last.proofs.Newest.{newest-last}
use Rattle.vc_last.proofs.Places.{place-none, place-some}
use Rattle.vc_last.proofs.place.place.Goals as goal
use Rattle.vc_last.proofs.place.place.Goals.{After-number-number}

is : (c : After-number-number) → newest (layout_by c.args.segs.now c.args.latest.0) ≡ Some (pair_of c.in_ok-newest.newest.now)
is c =
    sym (ap (λ o. option_map {U = ℕ × ℕ} pair_of (option_copied o)) (sym c.in_ok-newest.was)
    ∙ (ap (option_map {U = ℕ × ℕ} pair_of) c.last.ensures.value ∙ newest-last c.args.segs.now c.args.latest.0))

pub returns-in_err-newest : goal.returns-in_err-newest
returns-in_err-newest c =
    let none : newest (layout_by c.args.segs.now c.args.latest.0) ≡ None =
    sym (ap (λ o. option_map {U = ℕ × ℕ} pair_of (option_copied o)) (sym c.in_err-newest.was)
    ∙ (ap (option_map {U = ℕ × ℕ} pair_of) c.last.ensures.value ∙ newest-last c.args.segs.now c.args.latest.0)) in
    c.from_residual.ensures ∙ sym (ap (place_behind_latest (layout_by c.args.segs.now c.args.latest.0).blocks c.args.size) none)

pub next_offset-off-requires-clause-newest : goal.next_offset-off-requires-clause-newest
next_offset-off-requires-clause-newest c =
    ap (option_map (λ (s : ℕ × ℕ). s.0)) (is (goal.at.next_offset-off-requires-clause-newest c).After-number-number) ∙ ap Some (sym c.number-number.ensures)

pub returns-then-off-span_of : goal.returns-then-off-span_of
returns-then-off-span_of c =
    let fits = c.if-off-span_of.true in
    let new : newest (layout_by c.args.segs.now c.args.latest.0) ≡ Some (c.number-number.result, c.size.result) = is (goal.at.returns-then-off-span_of c).After-number-number ∙ sym (pair c.number-number.result c.in_ok-newest.newest.now.number c.size.result (length c.in_ok-newest.newest.now.bytes) c.number-number.ensures c.size.ensures.value) in
    place-some (layout_by c.args.segs.now c.args.latest.0) c.args.size c.next_offset-off.result (c.number-number.result, c.size.result) new c.next_offset-off.ensures.value (omega (arith, fits, c.span_of.ensures))

pub returns-else-off-span_of : goal.returns-else-off-span_of
returns-else-off-span_of c =
    let over = c.if-off-span_of.false in
    let new : newest (layout_by c.args.segs.now c.args.latest.0) ≡ Some (c.number-number.result, c.size.result) = is (goal.at.returns-else-off-span_of c).After-number-number ∙ sym (pair c.number-number.result c.in_ok-newest.newest.now.number c.size.result (length c.in_ok-newest.newest.now.bytes) c.number-number.ensures c.size.ensures.value) in
    place-none (layout_by c.args.segs.now c.args.latest.0) c.args.size c.next_offset-off.result (c.number-number.result, c.size.result) new c.next_offset-off.ensures.value (omega (arith, over, c.span_of.ensures))
