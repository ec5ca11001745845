use Rattle.vc_base.proofs.Common.{◌≡◌, ◌++◌, length}
use Rattle.vc_store.specs.Collections.{contents}
use Rattle.words.specs.Sets.{StaysWordSet}
use Rattle.words.proofs.Lines.{left_of, lines_before}
use Rattle.words.proofs.count.put_lines.Given as goal

-- the objects before the current one have their lines
abbrev pub invariant-loop-object : goal.invariant-loop-object
invariant-loop-object g l =
    record {
      objects : (contents l.set).objects ≡ (contents l.fn.set).objects;
      put : l.lines.items ≡ l.fn.lines.items ++ lines_before (contents l.set).place (contents l.fn.set).objects;
      stays : StaysWordSet (λ z. (goal.SegDisc-dyn g z).state z.1) l.fn.set l.set;
    }

abbrev pub decreases-loop-object : goal.decreases-loop-object
decreases-loop-object g l = left_of (length (contents l.set).objects) (contents l.set).place
