use Rattle.vc_store.proofs.Moving.{can-look, no-last, to-last}
use Rattle.vc_store.proofs.moves.to_last.Goals as goal

pub last-requires : goal.last-requires
last-requires g c = can-look c.args.best.now c.args.dict.now c.requires.whole

pub returns-in-Some : goal.returns-in-Some
returns-in-Some g c = record { moves = to-last c.args.best.now c.args.dict.now c.requires.whole c.in-Some.at (c.in-Some.ensures _ _ c.requires.whole.whole.stands) }

pub returns-in-None : goal.returns-in-None
returns-in-None g c = record { moves = no-last c.args.best.now c.args.dict.now c.requires.whole (c.in-None.ensures _ _ c.requires.whole.whole.stands) }
