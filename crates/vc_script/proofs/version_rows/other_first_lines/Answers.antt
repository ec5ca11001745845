use Rattle.vc_base.proofs.Common.{◌≡◌, ◌≢◌, List, ◌∷◌, ℕ, Bool, true, false, cond, bytes_eq, codes, refl, sym, ap, ◌∙◌, bytes_eq-Decides, false_from_ne_true}
use Rattle.vc_script.specs.declared.line_answer.LineAnswer.TheVariants.{Blank}
use Rattle.vc_script.specs.declared.tool.Tool.{Tool}
use Rattle.vc_script.specs.Answer.{answer_of, answer_to, command_in, is_comment, version_by_words}
use Rattle.vc_script.specs.Table.{table}
use Rattle.vc_script.proofs.version_rows.other_first_lines.Goals as goal

alike : (tool : Tool) (first : Bool) (word : List ℕ) (others : List (List ℕ)) → word ≢ codes "vc" → answer_to tool first (word ∷ others) ≡ answer_to tool false (word ∷ others)
alike tool false word others other = refl
alike tool true word others other =
    let differs : bytes_eq word (codes "vc") ≡ false = false_from_ne_true (bytes_eq word (codes "vc")) (λ same. other ((bytes_eq-Decides word (codes "vc")).0 same)) in
    ap (λ is. cond (is_comment word) Blank (cond is (version_by_words others) (answer_of (command_in (table tool) word others)))) differs

pub returns-clause-alike : goal.returns-clause-alike
returns-clause-alike c tool first line word others split other =
    ap (answer_to tool first) split ∙ (alike tool first word others other ∙ sym (ap (answer_to tool false) split))
