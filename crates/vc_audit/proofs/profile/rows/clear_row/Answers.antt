use Rattle.indexmap.specs.Layout.{length-set_value_at}
use Rattle.vc_audit.proofs.ProfileClear.{set-clears}
use Rattle.vc_audit.proofs.profile.rows.clear_row.Goals as goal

pub returns-clause-entries : goal.returns-clause-entries
returns-clause-entries c = set-clears c.args.rows.now.entries c.args.i c.index.result.now c.index.ensures

pub returns-clause-len : goal.returns-clause-len
returns-clause-len c = length-set_value_at c.args.rows.now.entries c.args.i _
