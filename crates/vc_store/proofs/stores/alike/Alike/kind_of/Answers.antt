use Rattle.vc_store.proofs.ToldLayers.{kind-told}
use Rattle.vc_store.proofs.stores.alike.Alike.kind_of.Goals as goal

pub returns : goal.returns
returns g c =
    let s = c.args.self.now in
    kind-told g.D.DictDisc.rules s.store s.like c.args.d c.requires c.index.result.now c.index.ensures
