use Rattle.vc_store.specs.Stores.Stores.{rules_at}
use Rattle.vc_store.proofs.Here.{count-here, found-there}
use Rattle.vc_store.proofs.stores.store.Store.count.Goals as goal

pub returns : goal.returns
returns g c =
    let s = c.args.self.now in
    let n = c.args.n in
    let at = found-there s n c.index.result.now c.in-Some.dict c.requires.dict.there c.index.ensures c.in-Some.is in
    count-here s n c.in-Some.dict at (rules_at g.D.DictDisc.rules s n) (c.requires.dict.is_open.whole n c.in-Some.dict at)
