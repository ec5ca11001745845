use Rattle.vc_base.proofs.Common.{length, arith}
use Rattle.vc_dtord.proofs.TreeLemmas.{OrdFor-in_order, OrdFor-one}
use Rattle.vc_dtord.proofs.rows.one_list.Goals as goal

pub returns-clause-read : goal.returns-clause-read
returns-clause-read c = λ rules ord blocks xs s. OrdFor-in_order rules ord blocks xs (length xs) s (omega arith)

pub returns-clause-one : goal.returns-clause-one
returns-clause-one c = λ rules others ord blocks xs ys s t. OrdFor-one rules others ord blocks xs ys s t
