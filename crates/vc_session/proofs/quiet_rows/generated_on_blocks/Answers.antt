use Rattle.vc_base.proofs.Common.{◌≡◌, false, List, [], codes, refl, ap, ◌∙◌, digits}
use Rattle.vc_generate.specs.Four.{four_on_blocks}
use Rattle.vc_generate.proofs.Four.{generated-blocks}
use Rattle.vc_script.specs.declared.command.Command.{Command}
use Rattle.vc_session.specs.Replay.{on_lines}
use Rattle.vc_session.specs.Rows.{at_first, four_words}
use Rattle.vc_session.specs.Run.{run_from}
use Rattle.vc_session.specs.Text.{text_of}
use Rattle.vc_session.proofs.quiet_rows.generated_on_blocks.Goals as goal

row : text_of four_words false 6 (run_from at_first (on_lines 1 four_on_blocks) []) ≡ codes "lines 6\ndone 6\nrefused 0\nlent 1 4096\npeak 1591\n"
unfolding digits
row = refl

pub returns : goal.returns
returns c = ap (λ (commands : List Command). text_of four_words false 6 (run_from at_first (on_lines 1 commands) [])) generated-blocks ∙ row
