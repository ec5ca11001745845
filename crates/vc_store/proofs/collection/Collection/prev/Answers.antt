use Rattle.vc_store.proofs.Staying.{keeps-moved}
use Rattle.vc_store.proofs.collection.Collection.prev.Goals as goal

pub to_prev-requires : goal.to_prev-requires
to_prev-requires g c = record { whole = record { rules = g.D.DictDisc.rules c.args.self.now.kind; whole = c.requires.open.whole } }

pub returns-clause-goes : goal.returns-clause-goes
returns-clause-goes g c = c.to_prev.ensures.moves.goes

pub returns-clause-keeps : goal.returns-clause-keeps
returns-clause-keeps g c = keeps-moved (λ z. (goal.SegDisc-dyn g z).state z.1) g.D.DictDisc.rules c.args.self.now c.to_prev.new.dict _ c.to_prev.result c.to_prev.ensures.moves c.requires.open
