use Rattle.vc_base.proofs.Common.{ℕ, ap, ◌∙◌}
use Rattle.rand_core.specs.Steps.{first_words}
use Rattle.rand_pcg.specs.Lcg.{Lcg, increment_of, started}
use Rattle.rand_pcg.specs.Pcg.{multiplier_64, pcg32}
use Rattle.vc_generate.proofs.WordSteps.{words_ahead-start}
use Rattle.vc_generate.specs.Words.{source_of, words_ahead, generated_words}
use Rattle.vc_generate.proofs.words.Words.new.Goals as goal

pub returns : goal.returns
unfolding generated_words source_of
returns c =
    ap (λ (p : ℕ × Lcg). words_ahead c.args.count p.0 p.1) c.next_word-word.ensures
    ∙ words_ahead-start c.args.count _
    ∙ ap (first_words pcg32 c.args.count) c.new-source.ensures
    ∙ ap (λ (seed : ℕ). first_words pcg32 c.args.count (started 64 multiplier_64 seed (increment_of 64 54))) c.from.ensures
