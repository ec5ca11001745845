use Rattle.vc_base.proofs.Common.{refl, digits}
use Rattle.rand_core.specs.Steps.{first_words}
use Rattle.vc_generate.specs.Generated.{block_commands, commands_of_seed, none_taken}
use Rattle.vc_generate.specs.Words.{source_of, generated_words}
use Rattle.vc_generate.proofs.rows.generated_objects.Goals as goal

pub returns : goal.returns
unfolding commands_of_seed block_commands none_taken generated_words source_of first_words digits
returns c = record { one = refl; two = refl; five = refl }
