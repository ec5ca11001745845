use Rattle.vc_base.proofs.Common.{sym, ◌∙◌, eqb-true, eqb-false}
use Rattle.vc_dthash.proofs.WriteLemmas.{Pointed-slot, Pointed-word}
use Rattle.vc_dthash.proofs.chains.point.Goals as goal

pub returns-then-eq : goal.returns-then-eq
returns-then-eq g c = record {
  change =
      Pointed-slot (g.C.Cells.blocks c.args.cells.now) (g.C.Cells.blocks c.set_slot.new.cells) c.args.table.0 c.args.k c.args.before.0 c.args.to.0
      c.set_slot.ensures.change (eqb-true c.args.before.0 0 (sym c.eq.ensures ∙ c.if-eq.true));
  rest = c.set_slot.ensures.rest;
}

pub set_word-requires-clause-holder : goal.set_word-requires-clause-holder
set_word-requires-clause-holder g c = c.requires.words (eqb-false c.args.before.0 0 (sym c.eq.ensures ∙ c.if-eq.false))

pub returns-else-eq : goal.returns-else-eq
returns-else-eq g c = record {
  change =
      let some = eqb-false c.args.before.0 0 (sym c.eq.ensures ∙ c.if-eq.false) in
      Pointed-word (g.C.Cells.blocks c.args.cells.now) (g.C.Cells.blocks c.set_word.new.cells) c.args.table.0 c.args.k c.args.before.0 c.args.to.0
      c.set_word.ensures.change some c.requires.apart (c.requires.words some).there;
  rest = c.set_word.ensures.rest;
}
