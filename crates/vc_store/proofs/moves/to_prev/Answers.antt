use Rattle.vc_base.proofs.Common.{refl, sym}
use Rattle.vc_store.specs.Reading.{previous_place}
use Rattle.vc_store.proofs.Moving.{current-in, moved-still, no-prev, to-prev}
use Rattle.vc_store.proofs.moves.to_prev.Goals as goal

pub prev-requires : goal.prev-requires
prev-requires g c = current-in c.args.best.now c.args.dict.now c.requires.whole (sym c.if-eq.ensures)

pub returns-then-eq : goal.returns-then-eq
returns-then-eq g c =
    record { moves = moved-still c.args.best.now c.args.dict.now c.requires.whole previous_place refl (sym c.if-eq.ensures) }

pub returns-in-Some : goal.returns-in-Some
returns-in-Some g c = record { moves = to-prev c.args.best.now c.args.dict.now c.requires.whole (sym c.if-eq.ensures) c.in-Some.at (c.in-Some.ensures _ _ c.requires.whole.whole.stands) }

pub returns-in-None : goal.returns-in-None
returns-in-None g c = record { moves = no-prev c.args.best.now c.args.dict.now c.requires.whole (sym c.if-eq.ensures) (c.in-None.ensures _ _ c.requires.whole.whole.stands) }
