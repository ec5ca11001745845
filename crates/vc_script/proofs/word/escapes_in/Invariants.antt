use Rattle.vc_base.proofs.Common.{◌≡◌, ℕ, ◌<◌, ◌≤◌, drop, get_or}
use Rattle.vc_script.specs.Words.{is_escaped}
use Rattle.vc_script.proofs.word.escapes_in.Given as goal

abbrev pub invariant-loop-i : goal.invariant-loop-i
invariant-loop-i l = record {
  rest : is_escaped l.word ≡ is_escaped (drop l.i l.word);
  few : l.escapes ≤ l.i;
  plain : l.escapes ≡ 0 → (k : ℕ) → k < l.i → get_or l.word k 0 ≡ 37 → ⊥;
}
