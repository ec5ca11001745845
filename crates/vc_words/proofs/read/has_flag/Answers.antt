use Rattle.vc_base.proofs.Common.{◌∙◌}
use Rattle.clap.proofs.WalkLemmas.{one_text-rows}
use Rattle.clap.specs.Words.{found_of}
use Rattle.vc_words.proofs.Flags.{flag_read}
use Rattle.vc_words.proofs.read.has_flag.Goals as goal

pub returns : goal.returns
returns c =
    let rows = one_text-rows (found_of c.args.matches.now) c.args.name.now in
    c.unwrap_or.ensures ∙ flag_read _ _ _
    (λ none. c.get_one.ensures.none (rows ∙ none))
    (λ t some. c.get_one.ensures.value t (rows ∙ some))
