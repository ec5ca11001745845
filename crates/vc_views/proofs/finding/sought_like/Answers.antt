use Rattle.vc_base.proofs.Common.{◌≡◌, Some, map, take, option_map, sym, ap, ◌∙◌, subst, same_Some}
use Rattle.vc_best.specs.Cells.{cells_in}
use Rattle.vc_dtdisc.specs.Rules.{Rules}
use Rattle.vc_paths.specs.Layers.{Layer, bytes_there}
use Rattle.vc_views.specs.Dicts.{entry_numbered, region_seen}
use Rattle.vc_views.specs.LayerLaws.{Entry}
use Rattle.vc_views.specs.Promises.{layer_at, layered_over}
use Rattle.vc_views.specs.Sides.{CanStand, place_to}
use Rattle.vc_views.proofs.LookLeaves.{pair-at}
use Rattle.vc_views.proofs.NumberLayers.{best-there, bytes-told, has-body, kind-there, layer-indexed, object-within, rules-told}
use Rattle.vc_views.proofs.finding.sought_like.Given.{Over}
use Rattle.vc_views.proofs.finding.sought_like.Goals as goal
use Rattle.vc_views.proofs.finding.sought_like.Goals.{After-body, After-index, After-index_of-i}

-- the dictionary of the number stands at the index
numbered : (g : Over) (c : After-index g) → option_map (λ (e : Entry). e.1) (entry_numbered c.args.d c.args.dicts.now.entries) ≡ Some c.index.result.now
numbered g c = ap (option_map (λ (e : Entry). e.1)) (sym c.index_of-i.ensures.entry ∙ (pair-at c.args.dicts.now.entries c.index_of-i.result c.index.result.now c.index.ensures).1)

indexed : (g : Over) (c : After-index_of-i g)
    → layer_at (map g.D.DictDisc.rules c.args.kinds.now.items) c.args.homes.now.entries c.args.dicts.now.entries c.index_of-i.result ≡ (layered_over (map g.D.DictDisc.rules c.args.kinds.now.items) c.args.homes.now.entries c.args.dicts.now.entries).layer c.args.d
indexed g c = layer-indexed (map g.D.DictDisc.rules c.args.kinds.now.items) c.args.homes.now.entries c.args.dicts.now.entries c.args.d c.index_of-i.result c.index_of-i.ensures.entry

-- the object at the place of the other one
told : (g : Over) (c : After-body g) → bytes_there c.args.other.1.0 ((layered_over (map g.D.DictDisc.rules c.args.kinds.now.items) c.args.homes.now.entries c.args.dicts.now.entries).layer c.args.other.0).objects ≡ Some c.body.result.now
told g c =
    bytes-told (map g.D.DictDisc.rules c.args.kinds.now.items) (map region_seen c.args.homes.now.entries) c.args.dicts.now.entries c.args.other.0 c.requires.there c.entry_of-from.result.now c.entry_of-from.ensures
    (cells_in c.best_of.result.now) c.best_of.ensures c.args.other.1.0 c.requires.place
    ∙ ap (λ z. Some z) (sym c.body.ensures)

pub kind_of-kind-requires : goal.kind_of-kind-requires
kind_of-kind-requires g c =
    kind-there (map g.D.DictDisc.rules c.args.kinds.now.items) (map region_seen c.args.homes.now.entries) c.args.dicts.now.entries c.args.d c.requires.dict c.index.result.now (numbered g (goal.at.kind_of-kind-requires g c).After-index)

pub best_of-requires : goal.best_of-requires
best_of-requires g c =
    best-there (map g.D.DictDisc.rules c.args.kinds.now.items) (map region_seen c.args.homes.now.entries) c.args.dicts.now.entries c.args.other.0 c.requires.there c.entry_of-from.result.now c.entry_of-from.ensures

pub body-requires : goal.body-requires
body-requires g c =
    has-body (map g.D.DictDisc.rules c.args.kinds.now.items) (map region_seen c.args.homes.now.entries) c.args.dicts.now.entries c.args.other.0 c.requires.there c.entry_of-from.result.now c.entry_of-from.ensures
    (cells_in c.best_of.result.now) c.best_of.ensures c.args.other.1.0 c.requires.place

pub copied-length-requires : goal.copied-length-requires
copied-length-requires g c =
    object-within (map g.D.DictDisc.rules c.args.kinds.now.items) (map region_seen c.args.homes.now.entries) c.args.dicts.now.entries c.args.other.0 c.requires.there c.args.other.1.0 c.body.result.now
    (told g (goal.at.copied-length-requires g c).After-body)

pub sought_at-requires : goal.sought_at-requires
sought_at-requires g c = record {
  dicts = c.requires.dict.dicts;
  index = c.index_of-i.ensures.within;
  side = subst (λ (l : Layer). CanStand c.args.side l.method) (sym (indexed g (goal.at.sought_at-requires g c).After-index_of-i)) c.requires.asked;
}

pub returns-clause-found : goal.returns-clause-found
returns-clause-found g c = λ bytes h.
    let at = goal.at.returns-clause-found g c in
    let kinds = map g.D.DictDisc.rules c.args.kinds.now.items in
    let its = (layered_over kinds c.args.homes.now.entries c.args.dicts.now.entries).layer c.args.d in
    let rules = rules-told kinds (map region_seen c.args.homes.now.entries) c.args.dicts.now.entries c.args.d c.requires.dict c.index.result.now (numbered g at.After-index) (g.D.DictDisc.rules c.kind_of-kind.result.now) c.kind_of-kind.ensures in
    let object = c.copied-length.ensures.copy ∙ same_Some c.body.result.now bytes (sym (told g at.After-body) ∙ h) in
    let key : c.key.result.now ≡ its.rules.key bytes = c.key.ensures ∙ ap (λ (r : Rules). r.key (take c.copied-length.result c.copied-length.new.out)) rules ∙ ap its.rules.key object in
    c.sought_at.ensures.found
    ∙ ap (λ (l : Layer). place_to c.args.side l c.key.result.now) (indexed g at.After-index_of-i)
    ∙ ap (place_to c.args.side its) key
