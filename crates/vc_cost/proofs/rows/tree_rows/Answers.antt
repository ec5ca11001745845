use Rattle.std.proofs.Common.{refl}
use Rattle.vc_splay.specs.Rank.{binary_digits, level, size}
use Rattle.vc_cost.proofs.rows.tree_rows.Goals as goal

pub returns-clause-path : goal.returns-clause-path
unfolding binary_digits level size
returns-clause-path c = refl

pub returns-clause-full : goal.returns-clause-full
unfolding binary_digits level size
returns-clause-full c = refl
