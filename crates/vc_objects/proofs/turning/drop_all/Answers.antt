use Rattle.vc_base.proofs.Common.{refl, ◌∙◌, arith}
use Rattle.vc_best.specs.Cells.{cells_in, rest_in}
use Rattle.vc_objects.proofs.Dropping.{dropping-end, dropping-holder, dropping-next, dropping-start}
use Rattle.vc_objects.proofs.turning.drop_all.Goals as goal

pub loop-dropped-init : goal.loop-dropped-init
loop-dropped-init g c =
    let r = c.args.best.now in (
      λ holders d distinct count. dropping-start holders (cells_in r) (rest_in r) (g.D.DictDisc.gone c.args.kind.now) c.args.first.0 d distinct,
      refl,
      refl,
      refl,
      refl,
    )

pub loop-dropped-preserved : goal.loop-dropped-preserved
loop-dropped-preserved g c =
    let l = c.loop-dropped in
    let one = c.drop_one-at in (
      λ holders d distinct count.
          dropping-next holders (cells_in c.args.best.now) (rest_in c.args.best.now) (g.D.DictDisc.gone c.args.kind.now) l._dropped l.at.0 (cells_in l.best) (rest_in l.best) (g.D.DictDisc.gone l.kind)
          one.result.0 (cells_in one.new.best) (rest_in one.new.best) (g.D.DictDisc.gone one.new.kind)
          (l.invariant.0 holders d distinct count) (omega (arith, c.loop-dropped-test.true, count))
          one.ensures.behind one.ensures.frees.cells one.ensures.frees.rest one.ensures.gone,
      one.ensures.rules ∙ l.invariant.1,
      one.ensures.frees.around.disc ∙ l.invariant.2,
      one.ensures.frees.around.segments ∙ l.invariant.3,
      one.ensures.frees.around.labelled ∙ l.invariant.4,
    )

pub drop_one-at-requires : goal.drop_one-at-requires
drop_one-at-requires g c =
    let r = c.args.best.now in
    let l = c.loop-dropped in
    let h = c.requires.dropped in
    record {
      holder =
          dropping-holder h.holders (cells_in r) (rest_in r) (g.D.DictDisc.gone c.args.kind.now) l._dropped l.at.0 (cells_in l.best) (rest_in l.best) (g.D.DictDisc.gone l.kind)
          (l.invariant.0 h.holders h.dropped h.distinct h.many) (omega (arith, c.loop-dropped-test.true, h.many));
    }

pub returns-clause-frees : goal.returns-clause-frees
returns-clause-frees g c = λ holders d distinct count.
    let l = c.loop-dropped in
    dropping-end holders (cells_in c.args.best.now) (rest_in c.args.best.now) (g.D.DictDisc.gone c.args.kind.now) l._dropped l.at.0 (cells_in l.best) (rest_in l.best) (g.D.DictDisc.gone l.kind)
    (l.invariant.0 holders d distinct count) (omega (arith, c.loop-dropped-test.false, count))
