use Rattle.vc_base.proofs.Common.{◌≡◌, ℕ, ◌+◌, ◌-◌, List, length, get_or, take, drop, sym, ap, ◌∙◌, subst, arith, place_of, fitted_bytes}
use Rattle.vc_seg.specs.Memory.{bytes_of_number}
use Rattle.vc_base.proofs.Places.{span-least}
use Rattle.vc_seg.specs.Field.{field_at}
use Rattle.vc_seg.specs.Frame.{StaysOutside}
use Rattle.vc_last.specs.Head.{IsFirstAt, block_of, bytes_at}
use Rattle.vc_last.proofs.Lifts.{new-bytes, own-bytes, stays-set}
use Rattle.vc_last.proofs.head.set_size.Goals as goal
use Rattle.vc_last.proofs.head.set_size.Goals.{After-index-segs-place, After-size_in}

abbrev n : (c : After-index-segs-place) → ℕ
n c = (place_of c.args.a.0).0

abbrev off : (c : After-index-segs-place) → ℕ
off c = (place_of c.args.a.0).1

there : (c : After-index-segs-place) → IsFirstAt (n c) c.args.segs.now c.place_of_number-place.result
there c = subst (λ m. IsFirstAt m c.args.segs.now c.place_of_number-place.result) c.seg.ensures c.place_of_number-place.ensures

own : (c : After-index-segs-place) → bytes_of_number (n c) c.args.segs.now ≡ (get_or c.args.segs.now c.place_of_number-place.result c.index-segs-place.result).bytes
own c = own-bytes (n c) c.place_of_number-place.result 0 0 c.args.segs.now c.index-segs-place.result c.index-segs-place.result (there c)

pub size_in-requires-clause-before : goal.size_in-requires-clause-before
size_in-requires-clause-before c =
    let at = (goal.at.size_in-requires-clause-before c).After-index-segs-place in
    omega (arith, c.requires.block.head.within, ap length (own at), c.off.ensures, c.size_at-old.ensures.value, span-least (block_of c.args.segs.now c.args.a.0).size)

pub size_in-requires-clause-within : goal.size_in-requires-clause-within
size_in-requires-clause-within c =
    let at = (goal.at.size_in-requires-clause-within c).After-index-segs-place in
    omega (arith, c.requires.within, ap length (own at), c.off.ensures)

pub returns-clause-laid : goal.returns-clause-laid
returns-clause-laid c =
    let at = (goal.at.returns-clause-laid c).After-index-segs-place in
    let e = new-bytes (n at) c.place_of_number-place.result 0 0 c.args.segs.now c.index-segs-place.result c.size_in.new.seg (there at) (c.size_in.ensures.rest.number) in
    let o = c.off.ensures in
    let b : List ℕ = (get_or c.args.segs.now c.place_of_number-place.result c.index-segs-place.result).bytes in
    let was : bytes_at c.args.segs.now c.args.a.0 ≡ b = own at in
    record {
      size = ap (field_at (off at - 16)) e ∙ (ap (λ k. field_at (k - 16) c.size_in.new.seg.bytes) (sym o) ∙ c.size_in.ensures.size);
      label = ap (field_at (off at - 12)) e ∙ (ap (λ k. field_at (k - 12) c.size_in.new.seg.bytes) (sym o) ∙ (c.size_in.ensures.head.label ∙ (ap (λ k. field_at (k - 12) b) o ∙ ap (field_at (off at - 12)) (sym was))));
      before = ap (field_at (off at - 8)) e ∙ (ap (λ k. field_at (k - 8) c.size_in.new.seg.bytes) (sym o) ∙ (c.size_in.ensures.head.before ∙ (ap (λ k. field_at (k - 8) b) o ∙ ap (field_at (off at - 8)) (sym was))));
      zero = ap (field_at (off at - 4)) e ∙ (ap (λ k. field_at (k - 4) c.size_in.new.seg.bytes) (sym o) ∙ (c.size_in.ensures.head.zero ∙ (ap (λ k. field_at (k - 4) b) o ∙ (ap (field_at (off at - 4)) (sym was) ∙ c.requires.block.head.zero))));
      bytes = ap (λ (xs : List ℕ). take c.args.size (drop (off at) xs)) e ∙ (ap (λ k. take c.args.size (drop k c.size_in.new.seg.bytes)) (sym o) ∙ (c.size_in.ensures.bytes
          ∙ (ap (λ k. fitted_bytes c.args.size (take k (drop c.off.result b))) c.size_at-old.ensures.value ∙ (ap (λ k. fitted_bytes c.args.size (take (block_of c.args.segs.now c.args.a.0).size (drop k b))) o
          ∙ ap (λ (xs : List ℕ). fitted_bytes c.args.size (take (block_of c.args.segs.now c.args.a.0).size (drop (off at) xs))) (sym was)))));
    }

pub returns-clause-rest : goal.returns-clause-rest
returns-clause-rest c =
    let at = (goal.at.returns-clause-rest c).After-index-segs-place in
    let own : StaysOutside (off at - 16) (off at + c.args.size) (get_or c.args.segs.now c.place_of_number-place.result c.index-segs-place.result) c.size_in.new.seg =
    subst (λ k. StaysOutside (k - 16) (k + c.args.size) (get_or c.args.segs.now c.place_of_number-place.result c.index-segs-place.result) c.size_in.new.seg) c.off.ensures
    c.size_in.ensures.rest in
    stays-set (n at) c.place_of_number-place.result (off at - 16) (off at + c.args.size) c.args.segs.now c.index-segs-place.result c.size_in.new.seg (there at) own
