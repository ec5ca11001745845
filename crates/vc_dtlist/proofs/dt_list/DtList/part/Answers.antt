use Rattle.vc_base.proofs.Common.{◌≡◌, true, arith, contains}
use Rattle.vc_dtlist.specs.declared.dt_list.DtList.{DtList}
use Rattle.vc_dtlist.proofs.WordLemmas.{HasBytes-written}
use Rattle.vc_dtlist.proofs.HolderLemmas.{split}
use Rattle.vc_dtlist.proofs.TurnLemmas.{LinksFor-unique, Relinked-parted, at_joined}
use Rattle.vc_dtlist.proofs.dt_list.DtList.part.Goals as goal

pub neighbour-before-requires-clause-holder : goal.neighbour-before-requires-clause-holder
neighbour-before-requires-clause-holder g c = (at_joined c.args.self.now (g.C.Cells.blocks c.args.cells.now) c.args.at.0 c.requires).words

pub neighbour-before-requires-clause-fits : goal.neighbour-before-requires-clause-fits
neighbour-before-requires-clause-fits g c = (at_joined c.args.self.now (g.C.Cells.blocks c.args.cells.now) c.args.at.0 c.requires).previous_fits

pub neighbour-behind-requires-clause-holder : goal.neighbour-behind-requires-clause-holder
neighbour-behind-requires-clause-holder g c = (at_joined c.args.self.now (g.C.Cells.blocks c.args.cells.now) c.args.at.0 c.requires).words

pub neighbour-behind-requires-clause-fits : goal.neighbour-behind-requires-clause-fits
neighbour-behind-requires-clause-fits g c = (at_joined c.args.self.now (g.C.Cells.blocks c.args.cells.now) c.args.at.0 c.requires).next_fits

pub set_link-requires-clause-holder : goal.set_link-requires-clause-holder
set_link-requires-clause-holder g c = λ some.
    (at_joined c.args.self.now (g.C.Cells.blocks c.args.cells.now) c.args.at.0 c.requires).previous_words c.neighbour-before.result.0 c.neighbour-before.ensures some

pub set_link-requires-2-clause-holder : goal.set_link-requires-2-clause-holder
set_link-requires-2-clause-holder g c = λ some.
    HasBytes-written (g.C.Cells.blocks c.args.cells.now) (g.C.Cells.blocks c.set_link.new.cells) c.neighbour-before.result.0 c.neighbour-behind.result.0 32 c.set_link.ensures.change.written
    ((at_joined c.args.self.now (g.C.Cells.blocks c.args.cells.now) c.args.at.0 c.requires).next_words c.neighbour-behind.result.0 c.neighbour-behind.ensures some)

pub returns : goal.returns
returns g c = record {
  change = λ holders s.
      let blocks = g.C.Cells.blocks in
      let old = blocks c.args.cells.now in
      let at = c.args.at.0 in
      let new : DtList = record { first = c.end_of-self.result; last = c.end_of-self-2.result } in
      let law = g.met.C.Cells.addresses in
      let within : contains holders at ≡ true = rw (LinksFor-unique c.args.self.now old holders c.requires.holders s c.requires.links) c.requires.within in
      Relinked-parted c.args.self.now new old (blocks c.set_link.new.cells) (blocks c.set_link-2.new.cells)
      c.neighbour-before.result.0 at c.neighbour-behind.result.0 holders s (split holders at within)
      (λ some. absurd (omega (arith, (law c.args.cells.now 0 some).some)))
      c.neighbour-before.ensures c.neighbour-behind.ensures c.set_link.ensures.change c.set_link-2.ensures.change
      c.end_of-self.ensures c.end_of-self-2.ensures;
  rest = g.met.C.Cells.transitive _ _ _ c.set_link.ensures.rest c.set_link-2.ensures.rest;
}
