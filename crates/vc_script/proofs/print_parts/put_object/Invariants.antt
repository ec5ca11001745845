use Rattle.vc_base.proofs.Common.{◌≡◌, ◌++◌}
use Rattle.std.specs.Io.{StartsWith}
use Rattle.percent_encoding.specs.Iter.{encoded_text}
use Rattle.vc_script.specs.Shown.{shown_bytes}
use Rattle.vc_script.proofs.print_parts.put_object.Given as goal

abbrev pub invariant-loop-piece : goal.invariant-loop-piece
invariant-loop-piece l =
    record {
      put : l.line.items ++ encoded_text l.piece-iterator ≡ l.fn.line.items ++ shown_bytes l.fn.object;
      front : StartsWith l.line.items l.fn.line.items;
    }
