use Rattle.std.proofs.Common.{refl}
use Rattle.vc_splay.specs.Rank.{binary_digits}
use Rattle.vc_cost.proofs.rows.bound_rows.Goals as goal

-- src/rows.rt:9:1
pub returns-clause-many : goal.returns-clause-many
unfolding binary_digits
returns-clause-many c = refl

-- src/rows.rt:9:1
pub returns-clause-none : goal.returns-clause-none
unfolding binary_digits
returns-clause-none c = refl
