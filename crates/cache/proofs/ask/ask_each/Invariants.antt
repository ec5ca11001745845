use Rattle.vc_base.proofs.Common.{◌≡◌, map, string_bytes, take}
use Rattle.vc_store.specs.Collections.{contents}
use Rattle.cache.specs.Tables.{StaysTable}
use Rattle.cache.proofs.Keys.{AskedSo}
use Rattle.cache.proofs.ask.ask_each.Given as goal

-- so many keys were asked for
abbrev pub invariant-loop-key : goal.invariant-loop-key
invariant-loop-key g l =
    record {
      asked : AskedSo (map string_bytes (take l.key-index l.keys)) (contents l.queue).objects l.lines.items;
      same : (contents l.set).objects ≡ (contents l.queue).objects;
      stays : StaysTable (λ z. (goal.SegDisc-dyn g z).state z.1) l.fn.set l.fn.queue l.set l.queue;
    }
