use Rattle.vc_base.proofs.Common.{sym, subst}
use Rattle.vc_algebra.specs.ToCome.{Passes}
use Rattle.vc_algebra.proofs.ComeLemmas.{pass-left, pass-right}
use Rattle.vc_algebra.proofs.merge.Merge.pass.Goals as goal

pub returns-then-left-clause-passes : goal.returns-then-left-clause-passes
returns-then-left-clause-passes g c =
    subst (λ t. Passes (g.Y.Layers.layered c.args.layers.now) c.args.paths.now t c.args.self.now (record { d = c.args.self.now.d; e = c.args.self.now.e; op = c.args.self.now.op; left = c.passed-self.result; right = c.args.self.now.right }) c.args.self.now.left) (sym c.if-left.true)
    (pass-left c.args.self.now c.passed-self.result (g.met.Y.Layers.lawful c.args.layers.now) c.requires c.passed-self.ensures.rest c.passed-self.ensures.seen)

pub returns-else-left-clause-passes : goal.returns-else-left-clause-passes
returns-else-left-clause-passes g c =
    subst (λ t. Passes (g.Y.Layers.layered c.args.layers.now) c.args.paths.now t c.args.self.now (record { d = c.args.self.now.d; e = c.args.self.now.e; op = c.args.self.now.op; left = c.args.self.now.left; right = c.passed-self-else-left.result }) c.args.self.now.right) (sym c.if-left.false)
    (pass-right c.args.self.now c.passed-self-else-left.result (g.met.Y.Layers.lawful c.args.layers.now) c.requires c.passed-self-else-left.ensures.rest c.passed-self-else-left.ensures.seen)
