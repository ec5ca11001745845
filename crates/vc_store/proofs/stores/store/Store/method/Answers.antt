use Rattle.vc_store.proofs.Here.{found-there, method-here}
use Rattle.vc_store.proofs.stores.store.Store.method.Goals as goal

pub returns : goal.returns
returns g c =
    let s = c.args.self.now in
    let n = c.args.n in
    method-here s n c.in-Some.dict (found-there s n c.index.result.now c.in-Some.dict c.requires.there c.index.ensures c.in-Some.is)
