use Rattle.vc_base.proofs.Common.{ℕ, ap, Layout}
use Rattle.vc_best.specs.Parts.{layout_of}
use Rattle.vc_objects.proofs.Leaving.{keeps-out}
use Rattle.vc_objects.proofs.OpenLemmas.{lent-none}
use Rattle.vc_dict_tests.proofs.puts.compares_of.Goals as goal

pub put_in_steps-requires : goal.put_in_steps-requires
put_in_steps-requires g c = record {
  whole = c.in-Ok-open.ensures.ok.whole;
  lent = keeps-out _ _ _ _ c.in-Ok-open.ensures.ok.leaves.disc
      (lent-none _ (layout_of c.in-Ok.best) (ap (λ (r : Layout ℕ). r.segments) c.in-Ok.ensures.ok.0));
}
