use Rattle.vc_base.proofs.Common.{option_map}
use Rattle.vc_dict.specs.Listed.{holders_of}
use Rattle.vc_dtlist.specs.Linked.{number_of}
use Rattle.vc_counts.proofs.HolderWalk.{Walked}
use Rattle.vc_counts.proofs.holders.holders_over.Given as goal

-- so many holders were passed and counted, and the one behind them is next
abbrev pub invariant-loop : goal.invariant-loop
invariant-loop g l =
    Walked (g.C.Cells.blocks l.cells) (holders_of l.dict (g.C.Cells.blocks l.cells)) l.counter (option_map number_of l.next) l.bytes
