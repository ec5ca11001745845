use Rattle.vc_base.proofs.Common.{◌<◌, ℕ, subst, sym}
use Rattle.vc_ways.proofs.PoolLists.{class-few}
use Rattle.vc_ways.proofs.pool_way.class_of.Goals as goal

pub returns-clause-few : goal.returns-clause-few
returns-clause-few c = subst (λ (n : ℕ). n < 20) (sym c.smaller_classes.ensures) (class-few c.args.size c.requires)
