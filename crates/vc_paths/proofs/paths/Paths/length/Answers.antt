use Rattle.vc_base.proofs.Common.{◌≤◌, length, sym, arith}
use Rattle.vc_paths.specs.Links.{path}
use Rattle.vc_paths.proofs.PathLemmas.{path-longer, path-short}
use Rattle.vc_paths.proofs.paths.Paths.length.Goals as goal

pub overflow_add-count : goal.overflow_add-count
overflow_add-count c = let few : length (path c.args.self.now c.args.d) ≤ 16 = path-short c.args.self.now c.args.d in omega arith

pub loop-e-smaller : goal.loop-e-smaller
loop-e-smaller c = omega (arith, path-longer c.args.self.now c.loop-e.at c.in-Some.e c.show_invariant.ensures (sym c.in-Some.ensures))

pub loop-e-preserved : goal.loop-e-preserved
loop-e-preserved c = record {
  within = c.show_invariant.ensures.within c.loop-e.at c.in-Some.e (sym c.in-Some.ensures);
  same = omega (arith, path-longer c.args.self.now c.loop-e.at c.in-Some.e c.show_invariant.ensures (sym c.in-Some.ensures), c.loop-e.invariant.same);
}
