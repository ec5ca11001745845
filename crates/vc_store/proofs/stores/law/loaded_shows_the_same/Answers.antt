use Rattle.vc_base.proofs.Common.{◌∙◌}
use Rattle.vc_store.proofs.Returned.{returned}
use Rattle.vc_store.proofs.stores.law.loaded_shows_the_same.Goals as goal

pub returns : goal.returns
returns g c = λ lent old new kinds is few holds n. holds.shown n ∙ returned g.D.DictDisc.rules c.args.saved.now lent is few n
