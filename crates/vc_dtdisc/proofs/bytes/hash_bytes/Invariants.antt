use Rattle.vc_base.proofs.Common.{◌≡◌, take}
use Rattle.vc_dtdisc.specs.Shapes.{hash_of}
use Rattle.vc_dtdisc.proofs.bytes.hash_bytes.Given as goal

abbrev pub invariant-loop-byte : goal.invariant-loop-byte
invariant-loop-byte l = l.hash ≡ hash_of (take l.byte-index l.key)
