use Rattle.vc_base.proofs.Common.{◌≡◌, ◌++◌, map, take}
use Rattle.vc_session.specs.Text.{lines_text}
use Rattle.vc_session.proofs.Behind.{entry_text}
use Rattle.vc_session.proofs.tail.gather_stats.Given as goal

-- the lines of the regions so far are gathered
abbrev pub invariant-loop-i : goal.invariant-loop-i
invariant-loop-i g l = l.gathered.items ≡ l.fn.gathered.items ++ lines_text (map entry_text (take l.i l.session.homes.entries))
