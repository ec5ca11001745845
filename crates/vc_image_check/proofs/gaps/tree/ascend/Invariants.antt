use Rattle.vc_extent.specs.Tiling.{tiling}
use Rattle.vc_gaps.specs.GapStore.{key_of}
use Rattle.vc_image_check.specs.Bytes.Contents.{contents_of_image}
use Rattle.vc_image_check.proofs.Sorted.{Ascending}
use Rattle.vc_image_check.proofs.gaps.tree.ascend.Given as goal

abbrev pub invariant-loop-name : goal.invariant-loop-name
invariant-loop-name l = Ascending (key_of (tiling (contents_of_image l.nodes.image.now).segs)) l.names l.name-index l.low
