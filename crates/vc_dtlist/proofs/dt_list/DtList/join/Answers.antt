use Rattle.vc_base.proofs.Common.{arith, first_of}
use Rattle.vc_dtlist.proofs.WordLemmas.{HasBytes-written}
use Rattle.vc_dtlist.proofs.ChainLemmas.{Chain-front, Chain-rest}
use Rattle.vc_base.specs.Holders.{last_of}
use Rattle.vc_dtlist.proofs.TurnLemmas.{Relinked-joined, first_words, last_words}
use Rattle.vc_dtlist.proofs.dt_list.DtList.join.Goals as goal

pub set_link-requires-clause-holder : goal.set_link-requires-clause-holder
set_link-requires-clause-holder g c = λ some.
    let old = g.C.Cells.blocks c.args.cells.now in
    let ls = Chain-front old 0 c.requires.front c.requires.rest 0 c.requires.links.chain in
    HasBytes-written old (g.C.Cells.blocks c.set_ends.new.cells) c.args.at.0 c.args.before.0 32 c.set_ends.ensures.change.written
    (last_words old c.requires.front (first_of c.requires.rest 0) c.args.before.0 ls c.requires.previous some)

pub set_link-requires-2-clause-holder : goal.set_link-requires-2-clause-holder
set_link-requires-2-clause-holder g c = λ some.
    let old = g.C.Cells.blocks c.args.cells.now in
    let mid = g.C.Cells.blocks c.set_ends.new.cells in
    let r = c.requires in
    let rs = Chain-rest old 0 r.front r.rest 0 r.links.chain in
    HasBytes-written mid (g.C.Cells.blocks c.set_link.new.cells) c.args.before.0 c.args.behind.0 32 c.set_link.ensures.change.written
    (HasBytes-written old mid c.args.at.0 c.args.behind.0 32 c.set_ends.ensures.change.written
    (first_words old (last_of 0 r.front) r.rest c.args.behind.0 rs r.next some))

pub returns : goal.returns
returns g c = record {
  change = λ front rest s apart pe ne.
      let blocks = g.C.Cells.blocks in
      let law = g.met.C.Cells.addresses in
      let made = c.set_ends.ensures.change in
      Relinked-joined c.args.self.now _ (blocks c.args.cells.now) (blocks c.set_ends.new.cells) (blocks c.set_link.new.cells) (blocks c.set_link-2.new.cells)
      c.args.before.0 c.args.at.0 c.args.behind.0 front rest s apart pe ne
      (law c.args.cells.now c.args.at.0 c.requires.holder.there) c.requires.holder (λ some. absurd (omega (arith, (law c.args.cells.now 0 some).some)))
      made.written made.previous made.next c.set_link.ensures.change c.set_link-2.ensures.change
      c.end_of-self.ensures c.end_of-self-2.ensures made.words;
  rest = g.met.C.Cells.transitive _ _ _ (g.met.C.Cells.transitive _ _ _ c.set_ends.ensures.rest c.set_link.ensures.rest) c.set_link-2.ensures.rest;
}
