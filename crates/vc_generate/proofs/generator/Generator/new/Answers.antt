use Rattle.vc_base.proofs.Common.{ℕ, List, ◌++◌, ap}
use Rattle.vc_generate.specs.Generated.{closing, commands_of, commands_of_seed, none_taken, opening}
use Rattle.vc_generate.specs.ToCome.{to_come}
use Rattle.vc_generate.proofs.generator.Generator.new.Goals as goal

pub returns : goal.returns
unfolding commands_of_seed none_taken to_come
returns c =
    ap (λ (words : List ℕ). opening c.args.tool ++ commands_of c.args.tool none_taken words ++ closing c.args.tool) c.new.ensures
