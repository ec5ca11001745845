use Rattle.vc_base.proofs.Common.{sym, ap, ◌∙◌, map, map-map}
use Rattle.vc_dtdisc.specs.Shapes.{BuiltInKind, rules_of}
use Rattle.kolbista_c.proofs.images.own_kinds.Goals as goal

pub returns : goal.returns
returns c = sym (map-map rules_of (λ (k : BuiltInKind). k.shape) c.in_ok-kinds.kinds.items) ∙ ap (map rules_of) c.in_ok-kinds.ensures
