-- The commands of the first four words of seed 42, in parts: the words, then the command of each.
use Rattle.vc_base.proofs.Common.{◌≡◌, ℕ, List, [], ◌∷◌, ◌++◌, map, refl, ap, ◌∙◌, digits}
use Rattle.rand_core.specs.Steps.{first_words}
use Rattle.vc_script.specs.declared.tool.Tool.TheVariants.{Dtrun, Vmreplay}
use Rattle.vc_generate.specs.Four.{four_on_blocks, four_on_objects}
use Rattle.vc_generate.specs.Generated.{block_commands, closing, commands_of_seed, none_taken, object_command, opening}
use Rattle.vc_generate.specs.Words.{source_of, generated_words}

abbrev four : List ℕ
four = 0xa15c02b7 ∷ 0x7b47f409 ∷ 0xba1d3330 ∷ 0x83d2f293 ∷ []

four-words : generated_words 42 4 ≡ four
unfolding generated_words source_of first_words
four-words = refl

blocks : opening Vmreplay ++ block_commands none_taken four ++ closing Vmreplay ≡ four_on_blocks
unfolding block_commands none_taken digits
blocks = refl

objects : opening Dtrun ++ map object_command four ++ closing Dtrun ≡ four_on_objects
unfolding digits
objects = refl

pub generated-blocks : commands_of_seed Vmreplay 4 42 ≡ four_on_blocks
unfolding commands_of_seed
generated-blocks =
    ap (λ (words : List ℕ). opening Vmreplay ++ block_commands none_taken words ++ closing Vmreplay) four-words ∙ blocks

pub generated-objects : commands_of_seed Dtrun 4 42 ≡ four_on_objects
unfolding commands_of_seed
generated-objects =
    ap (λ (words : List ℕ). opening Dtrun ++ map object_command words ++ closing Dtrun) four-words ∙ objects
