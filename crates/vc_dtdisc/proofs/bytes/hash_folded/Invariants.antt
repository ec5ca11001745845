use Rattle.vc_base.proofs.Common.{◌≡◌, map, take}
use Rattle.vc_dtdisc.specs.Shapes.{lower_case, hash_of}
use Rattle.vc_dtdisc.proofs.bytes.hash_folded.Given as goal

abbrev pub invariant-loop-byte : goal.invariant-loop-byte
invariant-loop-byte l = l.hash ≡ hash_of (map lower_case (take l.byte-index l.key))
