use Rattle.vc_base.proofs.Common.{◌≡◌, false, length, ap, ◌∙◌, arith, contains}
use Rattle.vc_dtlist.proofs.TurnLemmas.{LinksFor-unique}
use Rattle.vc_dthash.proofs.FillLemmas.{Filling-end, Filling-fits, Filling-front, Filling-next, Filling-start}
use Rattle.vc_dthash.proofs.chains.fill.Goals as goal

pub loop-passed-init : goal.loop-passed-init
loop-passed-init g c = (
  λ holders s. Filling-start c.args.list (g.C.Cells.blocks c.args.cells.now) c.args.table.0 c.args.slots holders s c.requires.zeros,
  g.met.C.Cells.reflexive c.args.cells.now,
)

pub put_front-requires : goal.put_front-requires
put_front-requires g c =
    Filling-front c.args.list (g.C.Cells.blocks c.args.cells.now) (g.C.Cells.blocks c.loop-passed.cells) c.args.table.0 c.args.slots c.requires.holders c.loop-passed._passed c.loop-passed.at.0
    c.requires.links c.requires.apart c.requires.place c.requires.some (c.loop-passed.invariant.0 c.requires.holders c.requires.links) (omega (arith, c.loop-passed-test.true, c.requires.many))

pub neighbour-at-requires-clause-holder : goal.neighbour-at-requires-clause-holder
neighbour-at-requires-clause-holder g c =
    let at = c.loop-passed.at.0 in
    let f = c.put_front.ensures.change in
    let can =
    Filling-front c.args.list (g.C.Cells.blocks c.args.cells.now) (g.C.Cells.blocks c.loop-passed.cells) c.args.table.0 c.args.slots c.requires.holders c.loop-passed._passed at
    c.requires.links c.requires.apart c.requires.place c.requires.some (c.loop-passed.invariant.0 c.requires.holders c.requires.links) (omega (arith, c.loop-passed-test.true, c.requires.many)) in
    record { there = f.there at ∙ can.holder.there; enough = rw (f.sizes at) can.holder.enough }

pub neighbour-at-requires-clause-fits : goal.neighbour-at-requires-clause-fits
neighbour-at-requires-clause-fits g c =
    let r = c.requires in
    Filling-fits c.args.list (g.C.Cells.blocks c.args.cells.now) (g.C.Cells.blocks c.loop-passed.cells) (g.C.Cells.blocks c.put_front.new.cells) c.args.table.0 c.args.slots _ r.holders
    c.loop-passed._passed c.loop-passed.at.0 r.links r.apart (c.loop-passed.invariant.0 r.holders r.links) (omega (arith, c.loop-passed-test.true, r.many)) c.put_front.ensures.change

pub loop-passed-preserved : goal.loop-passed-preserved
loop-passed-preserved g c =
    let r = c.requires in
    let old = g.C.Cells.blocks c.args.cells.now in (
      λ holders s.
          let same : holders ≡ r.holders = LinksFor-unique c.args.list old holders r.holders s r.links in
          let apart : contains holders c.args.table.0 ≡ false = rw same r.apart in
          let long : length holders ≡ length r.holders = ap length same in
          Filling-next c.args.list old (g.C.Cells.blocks c.loop-passed.cells) (g.C.Cells.blocks c.put_front.new.cells) c.args.table.0 c.args.slots holders
          c.loop-passed._passed c.loop-passed.at.0 c.neighbour-at.result.0 s apart (c.loop-passed.invariant.0 holders s) (omega (arith, c.loop-passed-test.true, r.many, long)) c.put_front.ensures.change c.neighbour-at.ensures,
      g.met.C.Cells.transitive c.args.cells.now c.loop-passed.cells c.put_front.new.cells c.loop-passed.invariant.1 c.put_front.ensures.rest,
    )

pub returns : goal.returns
returns g c = record {
  change = λ holders s.
      let old = g.C.Cells.blocks c.args.cells.now in
      let long : length holders ≡ length c.requires.holders = ap length (LinksFor-unique c.args.list old holders c.requires.holders s c.requires.links) in
      Filling-end old (g.C.Cells.blocks c.loop-passed.cells) c.args.table.0 c.args.slots holders c.loop-passed._passed c.loop-passed.at.0
      (c.loop-passed.invariant.0 holders s) (omega (arith, c.loop-passed-test.false, c.requires.many, long));
  rest = c.loop-passed.invariant.1;
}
