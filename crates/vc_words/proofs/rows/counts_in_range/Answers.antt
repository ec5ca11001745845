use Rattle.vc_words.proofs.Ranges.{counts_in_range}
use Rattle.vc_words.proofs.rows.counts_in_range.Goals as goal

pub returns : goal.returns
returns c = counts_in_range
