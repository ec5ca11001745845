use Rattle.vc_base.proofs.Common.{refl}
use Rattle.vc_splay.specs.Rank.{binary_digits, level, size}
use Rattle.vc_splay.proofs.rows.rank_rows.Goals as goal

pub returns-clause-none : goal.returns-clause-none
unfolding binary_digits
returns-clause-none c = refl

pub returns-clause-one : goal.returns-clause-one
unfolding binary_digits
returns-clause-one c = refl

pub returns-clause-seven : goal.returns-clause-seven
unfolding binary_digits
returns-clause-seven c = refl

pub returns-clause-eight : goal.returns-clause-eight
unfolding binary_digits
returns-clause-eight c = refl

pub returns-clause-no_tree : goal.returns-clause-no_tree
returns-clause-no_tree c = refl

pub returns-clause-lone : goal.returns-clause-lone
unfolding binary_digits level size
returns-clause-lone c = refl

pub returns-clause-path : goal.returns-clause-path
unfolding binary_digits level size
returns-clause-path c = refl

pub returns-clause-even : goal.returns-clause-even
unfolding binary_digits level size
returns-clause-even c = refl
