use Rattle.vc_script.proofs.Pieces.{found_in-judged}
use Rattle.vc_script.proofs.line_rows.pieces_joined.Goals as goal

pub returns : goal.returns
returns c = found_in-judged
