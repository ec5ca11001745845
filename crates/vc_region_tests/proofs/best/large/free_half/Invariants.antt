use Rattle.vc_region_tests.specs.Lent.{IsLent}
use Rattle.vc_region_tests.proofs.best.large.free_half.Given as goal

abbrev pub invariant-loop-j : goal.invariant-loop-j
invariant-loop-j g l = IsLent (λ p. (g.dyn-1.0.entry p.0).1.state p.1) l.best
