use Rattle.vc_dtlist.proofs.TurnLemmas.{Turned-parted}
use Rattle.vc_dtlist.proofs.dt_list.DtList.unlink.Goals as goal

pub part-requires : goal.part-requires
part-requires g c = record { holders = c.requires.holders; links = c.requires.stands.links; within = c.requires.within }

pub returns : goal.returns
returns g c = record {
  list = λ holders s.
      Turned-parted (g.C.Cells.blocks c.args.cells.now) (g.C.Cells.blocks c.part.new.cells) c.part.new.self c.args.at.0 holders s.plain
      (c.part.ensures.change holders s.links);
  rest = c.part.ensures.rest;
}
