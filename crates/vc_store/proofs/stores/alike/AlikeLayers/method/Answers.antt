use Rattle.vc_base.proofs.Common.{sym}
use Rattle.vc_store.specs.Stores.AlikeLaws.{method-there}
use Rattle.vc_store.proofs.stores.alike.AlikeLayers.method.Goals as goal

pub returns : goal.returns
returns g c =
    let s = c.args.self.now in
    sym (method-there g.D.DictDisc.rules s.store s.like c.args.d c.requires c.dict_of.result.now c.dict_of.ensures)
