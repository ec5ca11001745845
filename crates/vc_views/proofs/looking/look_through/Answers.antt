use Rattle.vc_base.proofs.Common.{◌≡◌, map, rules}
use Rattle.vc_views.specs.Dicts.{region_seen}
use Rattle.vc_views.specs.Promises.{layered_over}
use Rattle.vc_views.proofs.NumberLayers.{kind-there, rules-told}
use Rattle.vc_views.proofs.LookAnswers.{is-look, leaves-same}
use Rattle.vc_views.proofs.looking.look_through.Given.{Over}
use Rattle.vc_views.proofs.looking.look_through.Goals as goal
use Rattle.vc_views.proofs.looking.look_through.Goals.{After-kind_of-kind}

pub kind_of-kind-requires : goal.kind_of-kind-requires
kind_of-kind-requires g c =
    kind-there (map g.D.DictDisc.rules c.args.kinds.now.items) (map region_seen c.args.homes.now.entries) c.args.dicts.now.entries c.args.d c.requires.path.alike.0.there c.entry_of.result.now c.entry_of.ensures

-- the rules of the kind are those of the layer
rules-are : (g : Over) (c : After-kind_of-kind g) → g.D.DictDisc.rules c.kind_of-kind.result.now ≡ ((layered_over (map g.D.DictDisc.rules c.args.kinds.now.items) c.args.homes.now.entries c.args.dicts.now.entries).layer c.args.d).rules
rules-are g c =
    rules-told (map g.D.DictDisc.rules c.args.kinds.now.items) (map region_seen c.args.homes.now.entries) c.args.dicts.now.entries c.args.d c.requires.path.alike.0.there c.entry_of.result.now c.entry_of.ensures
    (g.D.DictDisc.rules c.kind_of-kind.result.now) c.kind_of-kind.ensures

pub look-requires-clause-rules : goal.look-requires-clause-rules
look-requires-clause-rules g c = rules-are g (goal.at.look-requires-clause-rules g c).After-kind_of-kind

pub returns-clause-look : goal.returns-clause-look
returns-clause-look g c =
    let all = layered_over (map g.D.DictDisc.rules c.args.kinds.now.items) c.args.homes.now.entries c.args.dicts.now.entries in
    is-look all c.args.paths.now c.args.d c.args.command.now (g.D.DictDisc.rules c.kind_of-kind.result.now) (rules-are g (goal.at.returns-clause-look g c).After-kind_of-kind) c.look.result c.look.new.reply
    c.look.ensures.reply c.look.ensures.place

pub returns-clause-leaves : goal.returns-clause-leaves
returns-clause-leaves g c = leaves-same (c.look.ensures.unchanged.layers.has c.args.d c.requires.path.alike.0.there).dicts c.look.ensures.unchanged.stays.2 (search rules) (search rules)
