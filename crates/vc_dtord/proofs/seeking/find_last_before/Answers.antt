use Rattle.vc_dtord.proofs.BeforeLemmas.{before_in, is_before, least_in}
use Rattle.vc_dtord.proofs.CostLemmas.{costs_then}
use Rattle.vc_dtord.proofs.seeking.find_last_before.Goals as goal

pub node_before-at-requires : goal.node_before-at-requires
node_before-at-requires g c =
    let f = c.find_least_at-top in
    least_in (g.N.Nodes.store c.args.nodes.now) (g.N.Nodes.store f.new.nodes) (g.G.Guide.side_of c.args.guide.now c.args.nodes.now) c.args.root f.result.0 f.result.1 (g.met.N.Nodes.none c.args.nodes.now) c.requires f.ensures.tree f.ensures.answer

pub raised-requires : goal.raised-requires
raised-requires g c =
    let f = c.find_least_at-top in
    before_in (g.N.Nodes.store c.args.nodes.now) (g.N.Nodes.store f.new.nodes) (g.G.Guide.side_of c.args.guide.now c.args.nodes.now) c.args.root f.result.0 f.result.1 (g.met.N.Nodes.none c.args.nodes.now) c.requires f.ensures.tree f.ensures.answer c.node_before-at.result c.node_before-at.ensures

pub returns-clause-answer : goal.returns-clause-answer
returns-clause-answer g c =
    let f = c.find_least_at-top in
    is_before (g.N.Nodes.store c.args.nodes.now) (g.N.Nodes.store f.new.nodes) (g.G.Guide.side_of c.args.guide.now c.args.nodes.now) c.args.root f.result.0 f.result.1 (g.met.N.Nodes.none c.args.nodes.now) c.requires f.ensures.tree f.ensures.answer c.node_before-at.result c.node_before-at.ensures

pub returns-clause-law : goal.returns-clause-law
returns-clause-law g c = λ t after k j.
    let f = c.find_least_at-top in
    let mid = f.ensures.tree t k in
    costs_then t mid.tree after c.args.steps.now f.new.steps mid.list (f.ensures.law t mid.tree k mid.is_tree) (c.raised.ensures.law mid.tree after mid.is_tree j)
