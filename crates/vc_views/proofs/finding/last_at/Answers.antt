use Rattle.vc_base.proofs.Common.{map, is_some, ap, ◌∙◌}
use Rattle.vc_views.proofs.AtIndex.{AtIndex, at-index, home-there, last-held, leaves-held, whole-held, within-held}
use Rattle.vc_views.proofs.finding.last_at.Given.{Over}
use Rattle.vc_views.proofs.finding.last_at.Goals as goal
use Rattle.vc_views.proofs.finding.last_at.Goals.{After-index_mut-entry}

-- the dictionary at the index
own : (g : Over) (c : After-index_mut-entry g) → AtIndex (map g.D.DictDisc.rules c.args.kinds.now.items) c.args.homes.now.entries c.args.dicts.now.entries c.args.i c.index_mut-entry.result.now
own g c = at-index (map g.D.DictDisc.rules c.args.kinds.now.items) c.args.homes.now.entries c.args.dicts.now.entries c.args.i c.index_mut-entry.result.now c.index_mut-entry.ensures.value c.requires.dicts

pub kind_of-kind-requires : goal.kind_of-kind-requires
kind_of-kind-requires g c = ap is_some (own g (goal.at.kind_of-kind-requires g c).After-index_mut-entry).is.kind

pub last_in-requires-clause-region : goal.last_in-requires-clause-region
last_in-requires-clause-region g c = home-there (own g (goal.at.last_in-requires-clause-region g c).After-index_mut-entry)

pub last_in-requires-clause-whole : goal.last_in-requires-clause-whole
last_in-requires-clause-whole g c = whole-held (own g (goal.at.last_in-requires-clause-whole g c).After-index_mut-entry) (g.D.DictDisc.rules c.kind_of-kind.result.now) c.kind_of-kind.ensures

pub last_in-requires-clause-within : goal.last_in-requires-clause-within
last_in-requires-clause-within g c = within-held (own g (goal.at.last_in-requires-clause-within g c).After-index_mut-entry) (g.D.DictDisc.rules c.kind_of-kind.result.now) c.kind_of-kind.ensures c.args.at.0 c.requires.place

pub returns-clause-found : goal.returns-clause-found
returns-clause-found g c = λ bytes h.
    c.last_in.ensures.found ∙ last-held (own g (goal.at.returns-clause-found g c).After-index_mut-entry) (g.D.DictDisc.rules c.kind_of-kind.result.now) c.kind_of-kind.ensures c.args.at.0 bytes h

pub returns-clause-leaves : goal.returns-clause-leaves
returns-clause-leaves g c =
    leaves-held (own g (goal.at.returns-clause-leaves g c).After-index_mut-entry) (g.D.DictDisc.rules c.kind_of-kind.result.now) c.kind_of-kind.ensures c.last_in.new.homes.entries c.last_in.new.dict
    c.requires.dicts c.last_in.ensures.looks c.last_in.ensures.rest
