-- The lines of the commands of a script rise, and are numbers of 64 bits.
use Rattle.vc_base.proofs.Common.{ℕ, ◌==◌, ◌+◌, ◌^◌, ◌<◌, ◌≤◌, List, [], ◌∷◌, length, IsOk, nat_lt, Ok, Err, Result, refl, inl, inr, arith, nat_tests, cases_Bool, false≢true, AllByRecursion}
use Rattle.vc_base.proofs.Quantifiers.{all-weaken}
use Rattle.vc_script.specs.declared.command.Command.{Command}
use Rattle.vc_script.specs.declared.line_answer.LineAnswer.{LineAnswer}
use Rattle.vc_script.specs.declared.line_fault.LineFault.{LineFault}
use Rattle.vc_script.specs.declared.tool.Tool.{Tool}
use Rattle.vc_script.specs.declared.line_answer.LineAnswer.TheVariants.{Blank, Is, Version, Bad}
use Rattle.vc_script.specs.Answer.{answer}
use Rattle.vc_script.specs.Judged.{judge, judged_from, judged_then, last_number}
use Rattle.vc_script.specs.Lines.{lines}
use Rattle.vc_script.specs.Needs.{AreAscending}
use Rattle.vc_session.specs.Far.{AreLines}
use Rattle.vc_session.specs.Replay.{on_lines}
use Rattle.vc_session.specs.Run.{command_then, commands_in, lines_of, script}

-- lines that rise from a number on
record RiseFrom (number : ℕ) (lines : List ℕ) : Type 0 where
  pub rising : AreAscending lines
  pub above : AllByRecursion (λ n. number ≤ n) lines
  pub below : AllByRecursion (λ n. n < 2 ^ 64) lines

rise-none : (number : ℕ) → RiseFrom number []
rise-none number = record { rising = tt; above = tt; below = tt }

rise-later : {number : ℕ} {ns : List ℕ} → RiseFrom (number + 1) ns → RiseFrom number ns
rise-later {number} {ns} r = record { rising = r.rising; above = all-weaken (λ n. number + 1 ≤ n) (λ n. number ≤ n) ns (λ n above. omega (arith, above)) r.above; below = r.below }

rise-one : (number : ℕ) {ns : List ℕ} → number < 2 ^ 64 → RiseFrom (number + 1) ns → RiseFrom number (number ∷ ns)
rise-one number {ns} below r = record {
  rising = (all-weaken (λ n. number + 1 ≤ n) (λ n. number < n) ns (λ n above. omega (arith, above)) r.above, r.rising);
  above = (omega arith, all-weaken (λ n. number + 1 ≤ n) (λ n. number ≤ n) ns (λ n above. omega (arith, above)) r.above);
  below = (below, r.below);
}

rise-answered : (number : ℕ) (a : LineAnswer) (behind : List (ℕ × Command)) → number ≤ last_number → RiseFrom (number + 1) (lines_of behind) → RiseFrom number (lines_of (command_then number a behind))
rise-answered number Blank behind few r = rise-later r
rise-answered number (Is command) behind few r = rise-one number (omega (arith, few)) r
rise-answered number (Version version) behind few r = rise-later r
rise-answered number (Bad fault) behind few r = rise-none number

rise-judged : (tool : Tool) (number : ℕ) (j : Result (List ℕ) LineFault) (behind : List (ℕ × Result (List ℕ) LineFault)) → (IsOk j → number ≤ last_number) → RiseFrom (number + 1) (lines_of (commands_in tool behind)) → RiseFrom number (lines_of (commands_in tool (judged_then number j behind)))
rise-judged tool number (Ok line) behind few r = rise-answered number (answer tool (number == 1) line) (commands_in tool behind) (few refl) r
rise-judged tool number (Err fault) behind few r = rise-none number

-- a line that can be taken has a number
judge-few : (number : ℕ) (line : List ℕ) → IsOk (judge number line) → number ≤ last_number
judge-few number line =
    elim (cases_Bool (nat_lt last_number number)) [
      | inl more ↦ rw more (λ is. absurd (false≢true is))
      | inr few ↦ λ is. grind (arith, nat_tests, few)
    ]

rise-from : (tool : Tool) (number : ℕ) (ls : List (List ℕ)) → RiseFrom number (lines_of (commands_in tool (judged_from number ls)))
rise-from tool number [] = rise-none number
rise-from tool number (l ∷ ls) = rise-judged tool number (judge number l) (judged_from (number + 1) ls) (judge-few number l) (rise-from tool (number + 1) ls)

pub script-lines : (tool : Tool) (input : List ℕ) → AreLines (script tool input)
script-lines tool input = let r = rise-from tool 1 (lines input) in record { rising = r.rising; below = r.below }

rise-on_lines : (number : ℕ) (cs : List Command) → number + length cs ≤ 2 ^ 64 → RiseFrom number (lines_of (on_lines number cs))
rise-on_lines number [] few = rise-none number
rise-on_lines number (c ∷ cs) few = rise-one number (omega (arith, few)) (rise-on_lines (number + 1) cs (omega (arith, few)))

pub on_lines-lines : (commands : List Command) → length commands < 2 ^ 64 → AreLines (on_lines 1 commands)
on_lines-lines commands few = let r = rise-on_lines 1 commands (omega (arith, few)) in record { rising = r.rising; below = r.below }
