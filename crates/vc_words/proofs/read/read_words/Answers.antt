use Rattle.vc_base.proofs.Common.{◌≡◌, true, [], map, string_bytes, sym, refl, ap, ◌∙◌, true≢false}
use Rattle.clap.specs.Words.{fault_of, is_simple, is_simple_and_free, matches_of, takes}
use Rattle.vc_words.specs.Words.{asked, command}
use Rattle.vc_words.proofs.Matched.{is_command_free, is_command_simple, refused, taken}
use Rattle.vc_words.proofs.read.read_words.Goals as goal

pub returns-in-Ok : goal.returns-in-Ok
returns-in-Ok c =
    let words = map string_bytes c.args.words.now in
    let same = c.in_ok-command.ensures in
    let none : fault_of command words ≡ [] = ap (λ a. fault_of a words) (sym same) ∙ c.in-Ok.ensures.kinds (ap is_simple_and_free same ∙ is_command_free) in
    let rows = (c.in-Ok.ensures.matches (ap is_simple same ∙ is_command_simple)).0 ∙ ap (λ a. matches_of a words) same in
    c.asked.ensures ∙ ap asked rows ∙ sym (taken words none)

pub returns-in-Err-2 : goal.returns-in-Err-2
returns-in-Err-2 c =
    let words = map string_bytes c.args.words.now in
    refused words (λ taken.
    let memory = c.in-Err.ensures.passes (ap (λ a. takes a words) c.in_ok-command.ensures ∙ taken) in
    let same : c.eq.result ≡ true = c.eq.ensures ∙ rw (c.kind.ensures, memory) refl in
    absurd (true≢false (sym same ∙ c.if-eq.false)))
