use Rattle.vc_base.proofs.Common.{◌≡◌, length}
use Rattle.vc_audit.proofs.ProfileClear.{clear_first}
use Rattle.vc_audit.proofs.profile.rows.clear_rows.Given as goal

abbrev pub invariant-loop-i : goal.invariant-loop-i
invariant-loop-i l = (l.rows.entries ≡ clear_first l.i l.fn.rows.entries) × (length l.rows.entries ≡ length l.fn.rows.entries) × (l.i-end ≡ length l.fn.rows.entries)
