use Rattle.vc_base.proofs.Common.{◌<◌, Some, sym, ◌∙◌, arith}
use Rattle.vc_paths.specs.Links.{links_with}
use Rattle.vc_paths.proofs.NewLinkLemmas.{within-viewed}
use Rattle.vc_paths.proofs.PathLemmas.{too_long-step}
use Rattle.vc_paths.proofs.paths.Paths.is_too_long_with.Goals as goal

pub loop-step-preserved : goal.loop-step-preserved
loop-step-preserved c =
    let within : c.loop-step._step < 16 = omega arith in
    record {
      within =
          within-viewed c.args.self.now c.args.d c.args.e c.loop-step.at c.in-Some.next c.show_invariant.ensures c.requires.first c.requires.second
          (sym c.in-Some.ensures);
      same =
          too_long-step (links_with c.args.d (Some c.args.e) c.args.self.now) c.loop-step._step c.loop-step.at c.in-Some.next (sym c.in-Some.ensures) within
          ∙ c.loop-step.invariant.same;
    }
