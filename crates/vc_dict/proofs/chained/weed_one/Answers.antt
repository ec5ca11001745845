use Rattle.vc_base.proofs.Common.{ap, ◌∙◌, arith}
use Rattle.vc_dict.proofs.ChainedLemmas.{ChainWeeding-dropped, ChainWeeding-kept, can-add, can-link, lost-before, match-told, set-before}
use Rattle.vc_dict.proofs.chained.weed_one.Goals as goal

pub take_front-at-requires : goal.take_front-at-requires
take_front-at-requires g c =
    record { holders = c.requires.weeding.rest; stands = c.requires.weeding.left_stands; some = omega (arith, c.requires.weeding.weeding.count, c.requires.more) }

pub find-found-requires : goal.find-found-requires
find-found-requires g c =
    let r = c.requires in
    record {
      holders = r.weeding.done;
      stands = set-before r.more r.weeding (c.take_front-at.ensures.change r.weeding.rest r.weeding.left_stands (omega (arith, r.weeding.weeding.count, r.more)));
    }

pub push_back-requires : goal.push_back-requires
push_back-requires g c =
    can-add c.requires.more c.requires.weeding
    (c.take_front-at.ensures.change c.requires.weeding.rest c.requires.weeding.left_stands (omega (arith, c.requires.weeding.weeding.count, c.requires.more)))

pub link-requires : goal.link-requires
link-requires g c =
    can-link c.requires.more c.requires.weeding
    (c.take_front-at.ensures.change c.requires.weeding.rest c.requires.weeding.left_stands (omega (arith, c.requires.weeding.weeding.count, c.requires.more)))

pub returns-then-is_some : goal.returns-then-is_some
returns-then-is_some g c = record {
  change = λ hash start holders passed begun more s.
      let t = c.take_front-at.ensures.change s.rest s.left_stands (omega (arith, s.weeding.count, more)) in
      let key = c.key.ensures ∙ ap (g.D.DictDisc.rules c.args.kind.now).key c.body.ensures in
      let found = c.find-found.ensures s.done (set-before more s t) in
      ChainWeeding-dropped more s t c.push_back.new.self (g.C.Cells.blocks c.push_back.new.cells) c.key.result.now c.find-found.new.steps key found.steps
      (match-told more s t c.key.result.now c.find-found.result c.is_some.result key found.first c.is_some.ensures ∙ c.if-is_some.true)
      (c.push_back.ensures.list s.gone (lost-before more s t));
  rest = g.met.C.Cells.transitive _ _ _ c.take_front-at.ensures.rest c.push_back.ensures.rest;
}

pub returns-else-is_some : goal.returns-else-is_some
returns-else-is_some g c = record {
  change = λ hash start holders passed begun more s.
      let t = c.take_front-at.ensures.change s.rest s.left_stands (omega (arith, s.weeding.count, more)) in
      let key = c.key.ensures ∙ ap (g.D.DictDisc.rules c.args.kind.now).key c.body.ensures in
      let before = set-before more s t in
      let found = c.find-found.ensures s.done before in
      ChainWeeding-kept more s t c.link.new.self (g.C.Cells.blocks c.link.new.cells) c.key.result.now c.find-found.new.steps key found.steps
      (match-told more s t c.key.result.now c.find-found.result c.is_some.result key found.first c.is_some.ensures ∙ c.if-is_some.false) (c.link.ensures.change s.done before);
  rest = g.met.C.Cells.transitive _ _ _ c.take_front-at.ensures.rest c.link.ensures.rest;
}
