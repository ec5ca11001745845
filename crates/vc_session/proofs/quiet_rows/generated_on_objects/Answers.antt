use Rattle.vc_base.proofs.Common.{◌≡◌, false, List, [], codes, refl, ap, ◌∙◌, digits}
use Rattle.vc_generate.specs.Four.{four_on_objects}
use Rattle.vc_generate.proofs.Four.{generated-objects}
use Rattle.vc_script.specs.declared.command.Command.{Command}
use Rattle.vc_session.specs.Replay.{on_lines}
use Rattle.vc_session.specs.Rows.{four_words, with_kinds}
use Rattle.vc_session.specs.Run.{run_from}
use Rattle.vc_session.specs.Text.{text_of}
use Rattle.vc_session.proofs.quiet_rows.generated_on_objects.Goals as goal

row : text_of four_words false 8 (run_from with_kinds (on_lines 1 four_on_objects) []) ≡ codes "lines 8\ndone 8\nrefused 0\nlent 1 4096\npeak 72\n"
unfolding digits
row = refl

pub returns : goal.returns
returns c = ap (λ (commands : List Command). text_of four_words false 8 (run_from with_kinds (on_lines 1 commands) [])) generated-objects ∙ row
