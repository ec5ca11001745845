use Rattle.vc_base.proofs.Common.{length, refl, sym}
use Rattle.vc_store.specs.Contents.{contents_in}
use Rattle.vc_store.specs.Reading.{next_place}
use Rattle.vc_store.proofs.Moving.{current-in, moved-still, no-next, to-next}
use Rattle.vc_store.proofs.moves.to_next.Goals as goal

pub next-requires : goal.next-requires
next-requires g c = current-in c.args.best.now c.args.dict.now c.requires.whole (sym c.if-eq.ensures)

pub returns-then-eq : goal.returns-then-eq
returns-then-eq g c =
    record { moves = moved-still c.args.best.now c.args.dict.now c.requires.whole (next_place (length (contents_in c.args.dict.now c.args.best.now).objects)) refl (sym c.if-eq.ensures) }

pub returns-in-Some : goal.returns-in-Some
returns-in-Some g c = record { moves = to-next c.args.best.now c.args.dict.now c.requires.whole (sym c.if-eq.ensures) c.in-Some.at (c.in-Some.ensures _ _ c.requires.whole.whole.stands) }

pub returns-in-None : goal.returns-in-None
returns-in-None g c = record { moves = no-next c.args.best.now c.args.dict.now c.requires.whole (sym c.if-eq.ensures) (c.in-None.ensures _ _ c.requires.whole.whole.stands) }
