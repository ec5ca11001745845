use Rattle.vc_base.proofs.Common.{refl}
use Rattle.rand_core.specs.Steps.{first_words}
use Rattle.vc_generate.specs.Words.{source_of, generated_words}
use Rattle.vc_generate.proofs.rows.reference_words.Goals as goal

pub returns : goal.returns
unfolding generated_words source_of first_words
returns c = refl
