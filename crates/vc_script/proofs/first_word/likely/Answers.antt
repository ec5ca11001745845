use Rattle.vc_base.proofs.Common.{◌≡◌, ◌+◌, ◌*◌, ◌%◌, length, None, slice_index, slice_index_or, ap, ◌∙◌, arith}
use Rattle.vc_script.specs.declared.first_word.TheConstants.{SLOTS}
use Rattle.vc_script.proofs.Slots.{slot-spelled}
use Rattle.vc_script.proofs.first_word.likely.Goals as goal

pub returns : goal.returns
returns c = λ w spelled.
    let word = c.args.word.now in
    let sum : 22 * length word + 7 * c.from.result + c.from-2.result + 20 * c.from-3.result ≡ 22 * length word + 7 * slice_index word 0 + slice_index word 2 + 20 * slice_index word 3 = omega (arith, c.from.ensures, c.from-2.ensures, c.from-3.ensures) in
    ap (λ n. slice_index_or SLOTS (n % 64) None) sum ∙ slot-spelled word w spelled
