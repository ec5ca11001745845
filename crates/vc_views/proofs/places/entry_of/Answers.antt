use Rattle.vc_views.proofs.Firsts.{entry-value}
use Rattle.vc_views.proofs.places.entry_of.Goals as goal

pub returns : goal.returns
returns c = entry-value c.args.d c.args.dicts.now.entries c.index_of.result c.index.result.now c.requires c.index_of.ensures.entry c.index.ensures
