use Rattle.vc_base.proofs.Common.{◌≡◌, map, drop}
use Rattle.vc_dtdisc.specs.Shapes.{lower_case, by_bytes}
use Rattle.vc_dtdisc.proofs.bytes.compare_folded.Given as goal

abbrev pub invariant-loop-i : goal.invariant-loop-i
invariant-loop-i l =
    by_bytes (map lower_case l.a) (map lower_case l.b) ≡ by_bytes (map lower_case (drop l.i l.a)) (map lower_case (drop l.i l.b))
