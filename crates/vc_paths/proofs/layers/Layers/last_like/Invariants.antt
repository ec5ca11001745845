use Rattle.vc_base.proofs.Common.{length, option_map, number_of}
use Rattle.vc_paths.specs.Shown.{objects_from}
use Rattle.vc_paths.proofs.WalkLemmas.{IsLastUpTo}
use Rattle.vc_paths.proofs.layers.Layers.last_like.Given as goal

abbrev pub invariant-loop-next : goal.invariant-loop-next
invariant-loop-next g l = IsLastUpTo ((g.Self.Layers.layered l.self).layer l.d) l.at.0 l.last.0 (option_map number_of l.next)

abbrev pub decreases-loop-next : goal.decreases-loop-next
decreases-loop-next g l = length (objects_from (option_map number_of l.next) ((g.Self.Layers.layered l.self).layer l.d).objects)
