use Rattle.vc_image_check.specs.Bytes.Contents.{items_at, segment_pair_at}
use Rattle.vc_image_check.specs.Laws.Pairs.{Passed}
use Rattle.vc_image_check.proofs.bytes.header.all_bytes.Given as goal

abbrev pub invariant-loop-i : goal.invariant-loop-i
invariant-loop-i l = Passed (items_at segment_pair_at 8 l.count 20 l.image) l.i l.marks l.total
