use Rattle.vc_base.proofs.Common.{false, length, option_map, number_of}
use Rattle.vc_paths.specs.Direction.{objects_left}
use Rattle.vc_paths.specs.Ordered.{is_past, object_there}
use Rattle.vc_paths.proofs.LayerLemmas.{Along}
use Rattle.vc_paths.proofs.layers.Layers.behind_like.Given as goal

abbrev pub invariant-loop-next : goal.invariant-loop-next
invariant-loop-next g l =
    Along false (g.Self.Layers.layered l.self) l.d (is_past false ((g.Self.Layers.layered l.self).layer l.d).rules (object_there (g.Self.Layers.layered l.self) (l.of, l.at))) l.next

abbrev pub decreases-loop-next : goal.decreases-loop-next
decreases-loop-next g l = length (objects_left false (option_map number_of l.next) ((g.Self.Layers.layered l.self).layer l.d).objects)
