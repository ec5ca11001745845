use Rattle.vc_base.proofs.Common.{◌≡◌, length}
use Rattle.vc_store.specs.Collections.{contents}
use Rattle.cache.specs.Tables.{StaysTable}
use Rattle.cache.proofs.Keys.{Going}
use Rattle.cache.proofs.table.admit.Given as goal

-- some of the oldest went
abbrev pub invariant-loop-put : goal.invariant-loop-put
invariant-loop-put g l =
    record {
      going : Going l.key (contents l.fn.queue).objects (contents l.queue).objects l.fn.lines.items l.lines.items;
      same : (contents l.set).objects ≡ (contents l.queue).objects;
      stays : StaysTable (λ z. (goal.SegDisc-dyn g z).state z.1) l.fn.set l.fn.queue l.set l.queue;
    }

abbrev pub decreases-loop-put : goal.decreases-loop-put
decreases-loop-put g l = length (contents l.queue).objects
