use Rattle.vc_store.proofs.Staying.{keeps-moved}
use Rattle.vc_store.proofs.collection.Collection.last.Goals as goal

pub to_last-requires : goal.to_last-requires
to_last-requires g c = record { whole = record { rules = g.D.DictDisc.rules c.args.self.now.kind; whole = c.requires.open.whole } }

pub returns-clause-goes : goal.returns-clause-goes
returns-clause-goes g c = c.to_last.ensures.moves.goes

pub returns-clause-keeps : goal.returns-clause-keeps
returns-clause-keeps g c = keeps-moved (λ z. (goal.SegDisc-dyn g z).state z.1) g.D.DictDisc.rules c.args.self.now c.to_last.new.dict _ c.to_last.result c.to_last.ensures.moves c.requires.open
