use Rattle.vc_base.proofs.Common.{map, is_some, ap, ◌∙◌, subst}
use Rattle.vc_views.specs.Sides.{CanStand}
use Rattle.vc_views.proofs.AtIndex.{AtIndex, at-index, home-there, leaves-held, method-there, place-held, whole-held}
use Rattle.vc_views.proofs.finding.sought_at.Given.{Over}
use Rattle.vc_views.proofs.finding.sought_at.Goals as goal
use Rattle.vc_views.proofs.finding.sought_at.Goals.{After-index_mut-entry}

-- the dictionary at the index
own : (g : Over) (c : After-index_mut-entry g) → AtIndex (map g.D.DictDisc.rules c.args.kinds.now.items) c.args.homes.now.entries c.args.dicts.now.entries c.args.i c.index_mut-entry.result.now
own g c = at-index (map g.D.DictDisc.rules c.args.kinds.now.items) c.args.homes.now.entries c.args.dicts.now.entries c.args.i c.index_mut-entry.result.now c.index_mut-entry.ensures.value c.requires.dicts

pub kind_of-kind-requires : goal.kind_of-kind-requires
kind_of-kind-requires g c = ap is_some (own g (goal.at.kind_of-kind-requires g c).After-index_mut-entry).is.kind

pub sought_in-requires-clause-region : goal.sought_in-requires-clause-region
sought_in-requires-clause-region g c = home-there (own g (goal.at.sought_in-requires-clause-region g c).After-index_mut-entry)

pub sought_in-requires-clause-whole : goal.sought_in-requires-clause-whole
sought_in-requires-clause-whole g c = whole-held (own g (goal.at.sought_in-requires-clause-whole g c).After-index_mut-entry) (g.D.DictDisc.rules c.kind_of-kind.result.now) c.kind_of-kind.ensures

pub sought_in-requires-clause-side : goal.sought_in-requires-clause-side
sought_in-requires-clause-side g c = subst (CanStand c.args.side) (method-there (own g (goal.at.sought_in-requires-clause-side g c).After-index_mut-entry)) c.requires.side

pub returns-clause-found : goal.returns-clause-found
returns-clause-found g c = c.sought_in.ensures.found ∙ place-held (own g (goal.at.returns-clause-found g c).After-index_mut-entry) (g.D.DictDisc.rules c.kind_of-kind.result.now) c.kind_of-kind.ensures c.args.side c.args.key.now

pub returns-clause-leaves : goal.returns-clause-leaves
returns-clause-leaves g c =
    leaves-held (own g (goal.at.returns-clause-leaves g c).After-index_mut-entry) (g.D.DictDisc.rules c.kind_of-kind.result.now) c.kind_of-kind.ensures c.sought_in.new.homes.entries c.sought_in.new.dict
    c.requires.dicts c.sought_in.ensures.looks c.sought_in.ensures.rest
