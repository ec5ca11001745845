use Rattle.vc_base.proofs.Common.{◌++◌}
use Rattle.vc_dtlist.proofs.ChainLemmas.{LinksFor-other}
use Rattle.vc_dtlist.proofs.WordLemmas.{HasBytes-written}
use Rattle.vc_dtlist.proofs.TurnLemmas.{Turned-joined, fewer}
use Rattle.vc_dtlist.proofs.dt_list.DtList.link.Goals as goal

pub set_plain-requires : goal.set_plain-requires
set_plain-requires g c = fewer (g.C.Cells.blocks c.args.cells.now) c.args.at.0 c.requires.holder

pub join-requires : goal.join-requires
join-requires g c =
    let mid = g.C.Cells.blocks c.set_plain.new.cells in
    let r = c.requires in
    record {
      front = r.front;
      rest = r.rest;
      links = LinksFor-other (g.C.Cells.blocks c.args.cells.now) mid c.args.at.0 c.args.self.now (r.front ++ r.rest) c.set_plain.ensures.change.written r.apart r.links;
      apart = r.apart;
      holder = HasBytes-written (g.C.Cells.blocks c.args.cells.now) mid c.args.at.0 c.args.at.0 33 c.set_plain.ensures.change.written r.holder;
      previous = r.previous;
      next = r.next;
    }

pub returns : goal.returns
returns g c = record {
  change = λ front rest s apart pe ne.
      let old = g.C.Cells.blocks c.args.cells.now in
      let mid = g.C.Cells.blocks c.set_plain.new.cells in
      let w = c.set_plain.ensures.change.written in
      Turned-joined old mid (g.C.Cells.blocks c.join.new.cells) c.join.new.self c.args.at.0 front rest s.plain apart w c.set_plain.ensures.change.plain
      (c.join.ensures.change front rest (LinksFor-other old mid c.args.at.0 c.args.self.now (front ++ rest) w apart s.links) apart pe ne);
  rest = g.met.C.Cells.transitive _ _ _ c.set_plain.ensures.rest c.join.ensures.rest;
}
