use Rattle.vc_script.proofs.Heads.{begins_refused-printed, block-printed, need_of-printed, object-printed, table-printed}
use Rattle.vc_script.proofs.Texts.{ended_lines-text, lines-text, shows-text}
use Rattle.vc_script.proofs.print_rows.text_of_replies.Goals as goal

pub returns : goal.returns
returns c = record { lines = lines-text; ended = ended_lines-text; needs = shows-text; shown = need_of-printed; refusals = begins_refused-printed; block = block-printed; table = table-printed; object = object-printed }
