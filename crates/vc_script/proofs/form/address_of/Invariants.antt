use Rattle.vc_base.proofs.Common.{◌≡◌, ℕ, ◌<◌, false, get_or}
use Rattle.vc_script.specs.Forms.{is_colon}
use Rattle.vc_script.proofs.form.address_of.Given as goal

abbrev pub invariant-loop-i : goal.invariant-loop-i
invariant-loop-i l = (k : ℕ) → k < l.i → is_colon (get_or l.word k 0) ≡ false
