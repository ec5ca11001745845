use Rattle.vc_store.proofs.Moving.{can-look, no-first, to-first}
use Rattle.vc_store.proofs.moves.to_first.Goals as goal

pub first-requires : goal.first-requires
first-requires g c = can-look c.args.best.now c.args.dict.now c.requires.whole

pub returns-in-Some : goal.returns-in-Some
returns-in-Some g c = record { moves = to-first c.args.best.now c.args.dict.now c.requires.whole c.in-Some.at (c.in-Some.ensures _ _ c.requires.whole.whole.stands) }

pub returns-in-None : goal.returns-in-None
returns-in-None g c = record { moves = no-first c.args.best.now c.args.dict.now c.requires.whole (c.in-None.ensures _ _ c.requires.whole.whole.stands) }
