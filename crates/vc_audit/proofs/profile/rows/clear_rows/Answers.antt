use Rattle.vc_base.proofs.Common.{ap, ◌∙◌, arith}
use Rattle.vc_audit.specs.ProfileSums.{clear_at}
use Rattle.vc_audit.proofs.ProfileClear.{clear-all, clear-next}
use Rattle.vc_audit.proofs.profile.rows.clear_rows.Goals as goal

pub loop-i-preserved : goal.loop-i-preserved
loop-i-preserved c = (
  c.clear_row.ensures.entries ∙ (ap (clear_at c.loop-i.i) c.loop-i.invariant.0 ∙ clear-next c.loop-i.i c.args.rows.now.entries),
  c.clear_row.ensures.len ∙ c.loop-i.invariant.1,
  c.loop-i.invariant.2,
)

pub returns : goal.returns
returns c = c.loop-i.invariant.0 ∙ clear-all c.loop-i.i c.args.rows.now.entries (omega (arith, c.loop-i-test.false, c.loop-i.invariant.2))
