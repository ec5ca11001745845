use Rattle.vc_base.proofs.Common.{rules}
use Rattle.std.proofs.lemmas.List.Sorted.{IsPartitionPoint-from_clause}
use Rattle.vc_pool.proofs.FullFirst.{full-first, is_full, open-from}
use Rattle.vc_pool.proofs.cells.open.find_open.Goals as goal

pub returns-clause-front : goal.returns-clause-front
returns-clause-front c =
    let point = IsPartitionPoint-from_clause is_full c.args.segs.now c.partition_point.result c.partition_point.ensures.partitioned (full-first c.args.segs.now c.requires.front c.requires.cells) (λ a r f k. search rules) in
    open-from c.args.segs.now c.requires.front c.requires.cells c.partition_point.result c.partition_point.ensures.bound point.0 point.1
