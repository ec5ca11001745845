use Rattle.vc_base.proofs.Common.{sym}
use Rattle.vc_views.proofs.NearIndex.{near-index, near-value}
use Rattle.vc_views.proofs.near.index_near.Goals as goal

pub returns-then-is_same-clause-index : goal.returns-then-is_same-clause-index
returns-then-is_same-clause-index g c =
    sym (near-index c.args.map.now.entries c.args.near c.in-Some.key.now c.in-Some.field-0-1.now c.len-count.ensures.unique c.in-Some.ensures.entry c.args.name.now (sym c.if-is_same.ensures))

pub returns-then-is_same-clause-value : goal.returns-then-is_same-clause-value
returns-then-is_same-clause-value g c =
    sym (near-value c.args.map.now.entries c.args.near c.in-Some.key.now c.in-Some.field-0-1.now c.len-count.ensures.unique c.in-Some.ensures.entry c.args.name.now (sym c.if-is_same.ensures))
