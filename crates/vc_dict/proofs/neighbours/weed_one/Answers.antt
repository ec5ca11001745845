use Rattle.vc_base.proofs.Common.{arith}
use Rattle.vc_dict.proofs.NeighbourLemmas.{NeighbourWeeding-next, can-add, match-told, out-of_done, out-of_gone, parts-before}
use Rattle.vc_dict.proofs.neighbours.weed_one.Goals as goal

pub take_front-at-requires : goal.take_front-at-requires
take_front-at-requires g c =
    record { holders = c.requires.weeding.rest; stands = c.requires.weeding.left_stands; some = omega (arith, c.requires.weeding.weeding.count, c.requires.more) }

pub matches_last-drop-requires : goal.matches_last-drop-requires
matches_last-drop-requires g c =
    let r = c.requires in
    let t = c.take_front-at.ensures.change r.weeding.rest r.weeding.left_stands (omega (arith, r.weeding.weeding.count, r.more)) in
    record { list = record { holders = r.weeding.done; stands = (parts-before r.weeding t).done_stands }; holder = t.holder }

pub add-requires : goal.add-requires
add-requires g c =
    can-add c.requires.weeding
    (c.take_front-at.ensures.change c.requires.weeding.rest c.requires.weeding.left_stands (omega (arith, c.requires.weeding.weeding.count, c.requires.more)))

pub returns-clause-weeding : goal.returns-clause-weeding
returns-clause-weeding g c = record {
  change = λ start holders passed more s.
      let t = c.take_front-at.ensures.change s.rest s.left_stands (omega (arith, s.weeding.count, more)) in
      let parts = parts-before s t in
      let told = match-told s t c.matches_last-drop.result (g.met.D.DictDisc.lawful c.args.kind.now).order (c.matches_last-drop.ensures.value s.done parts.done_stands) in
      NeighbourWeeding-next s t c.matches_last-drop.result c.add.new.self (g.C.Cells.blocks c.add.new.cells) told
      (c.add.ensures.change s.done s.gone parts (out-of_done s t) (out-of_gone s t));
  rest = g.met.C.Cells.transitive _ _ _ c.take_front-at.ensures.rest c.add.ensures.rest;
}
