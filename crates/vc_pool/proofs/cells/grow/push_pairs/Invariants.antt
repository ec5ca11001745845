use Rattle.vc_base.proofs.Common.{◌≡◌, ◌+◌, ◌++◌, replicate}
use Rattle.vc_pool.proofs.cells.grow.push_pairs.Given as goal

-- as many pairs as steps, and room for the others
abbrev pub invariant-loop : goal.invariant-loop
invariant-loop l =
    (l.table.items ≡ l.fn.table.items ++ replicate l.counter (0, 0)) × (l.table.len ≡ l.fn.table.len + l.counter) × (l.table.cap ≡ l.fn.table.cap)
