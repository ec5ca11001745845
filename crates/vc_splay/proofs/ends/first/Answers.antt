use Rattle.vc_splay.specs.Moves.{Top}
use Rattle.vc_base.proofs.Common.{ap, ◌∙◌, some_address}
use Rattle.vc_splay.proofs.NeighbourLemmas.{first_name, no_zero, whole_part, whole_top}
use Rattle.vc_splay.proofs.ends.first.Goals as goal

pub end_of-requires : goal.end_of-requires
end_of-requires g c = whole_top (g.N.Links.store c.args.nodes.now) c.args.root c.requires

pub returns : goal.returns
returns g c = λ tree h.
    let s = g.N.Links.store c.args.nodes.now in
    ap some_address (c.end_of.ensures Top tree (whole_part s c.args.root tree h) h.top)
    ∙ first_name tree c.args.root (no_zero s 0 tree (g.met.N.Links.none c.args.nodes.now) h.stands) h.top
