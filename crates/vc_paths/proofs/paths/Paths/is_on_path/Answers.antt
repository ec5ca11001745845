use Rattle.vc_base.proofs.Common.{sym, ◌∙◌, arith}
use Rattle.vc_paths.proofs.PathLemmas.{contains-step, path-longer}
use Rattle.vc_paths.proofs.paths.Paths.is_on_path.Goals as goal

pub loop-at-smaller : goal.loop-at-smaller
loop-at-smaller c = omega (arith, path-longer c.args.self.now c.loop-at.at c.in-Some.next c.show_invariant.ensures (sym c.in-Some.ensures))

pub loop-at-preserved : goal.loop-at-preserved
loop-at-preserved c = record {
  within = c.show_invariant.ensures.within c.loop-at.at c.in-Some.next (sym c.in-Some.ensures);
  same =
      sym (contains-step c.args.self.now c.loop-at.at c.in-Some.next c.args.d c.show_invariant.ensures (sym c.in-Some.ensures) c.loop-at-test.true)
      ∙ c.loop-at.invariant.same;
}
