use Rattle.vc_store.specs.Stores.Stores.{dicts_of}
use Rattle.vc_store.proofs.Here.{below-there}
use Rattle.vc_store.proofs.stores.store.Store.shut.Goals as goal

pub end-requires-clause-given : goal.end-requires-clause-given
end-requires-clause-given g c = below-there (dicts_of c.args.self.now) c.args.n c.requires.dict.there
