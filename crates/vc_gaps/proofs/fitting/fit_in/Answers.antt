use Rattle.vc_base.proofs.Common.{length, ap, arith}
use Rattle.vc_gaps.proofs.Common.{tiling}
use Rattle.vc_gaps.proofs.Costs.{found-cost}
use Rattle.vc_gaps.proofs.Found.{among-first, first-within, fitted-by_32, fitted-on}
use Rattle.vc_gaps.proofs.GapTrees.{can_find, gap-found}
use Rattle.vc_gaps.proofs.fitting.fit_in.Goals as goal

pub find_least_at-top-requires : goal.find_least_at-top-requires
find_least_at-top-requires g c =
    let r = c.requires.tree in
    can_find (tiling c.args.gaps.now.extents.now.segs.items) c.args.root r.names r.tree _ _

pub returns-then-align-eq32-clause-fitted : goal.returns-then-align-eq32-clause-fitted
returns-then-align-eq32-clause-fitted g c =
    let f = c.find_least_at-top in
    fitted-by_32 _ f.new.nodes.extents.now.segs.items _ c.args.gaps.now.extents.now.kept f.ensures.rest.1 c.args.root f.result.0 c.args.span c.args.align f.result.1 c.if-align-eq32.true f.ensures.tree f.ensures.answer

pub first_that_holds-requires-clause-within : goal.first_that_holds-requires-clause-within
first_that_holds-requires-clause-within g c =
    let f = c.find_least_at-top in
    let r = c.requires.tree in
    among-first _ f.new.nodes.extents.now.segs.items _ c.args.gaps.now.extents.now.kept f.ensures.rest.1 c.args.root f.result.0 c.args.span c.args.align f.result.1 r.names r.tree f.ensures.tree f.ensures.answer

pub returns-clause-fitted : goal.returns-clause-fitted
returns-clause-fitted g c =
    let f = c.find_least_at-top in
    fitted-on _ f.new.nodes.extents.now.segs.items _ c.args.gaps.now.extents.now.kept f.ensures.rest.1 c.args.root f.result.0 c.args.span c.args.align f.result.1 c.first_that_holds.result c.requires.least f.ensures.tree f.ensures.answer c.first_that_holds.ensures.found

pub returns-clause-steps : goal.returns-clause-steps
returns-clause-steps g c =
    let f = c.find_least_at-top in
    let news = f.new.nodes.extents.now.segs.items in
    let on = c.first_that_holds.ensures.least_steps in
    record {
      rises = let k = f.ensures.rises in omega arith;
      least = λ some. let k = f.ensures.least_steps some in omega arith;
      most = λ xs h.
          let after = gap-found _ news _ c.args.gaps.now.extents.now.kept f.ensures.rest.1 c.args.root f.result.0 0 xs h (f.ensures.tree h.tree h.is_tree) in
          let within = first-within _ news _ c.args.gaps.now.extents.now.kept f.ensures.rest.1 c.args.root f.result.0 c.args.span c.args.align f.result.1 xs h f.ensures.answer in
          let down = f.ensures.most_steps h.tree h.is_tree in
          let along = c.first_that_holds.ensures.most_steps f.result.0 xs after.tree within in
          let len = ap length h.list in
          omega arith;
      most_by_32 = λ xs h unit. absurd (c.if-align-eq32.false unit);
    }

pub returns-then-align-eq32-clause-steps : goal.returns-then-align-eq32-clause-steps
returns-then-align-eq32-clause-steps g c =
    let f = c.find_least_at-top in
    record {
      rises = f.ensures.rises;
      least = f.ensures.least_steps;
      most = λ xs h. let down = f.ensures.most_steps h.tree h.is_tree in let len = ap length h.list in omega arith;
      most_by_32 = λ xs h unit. let down = f.ensures.most_steps h.tree h.is_tree in let len = ap length h.list in omega arith;
    }

pub returns-then-align-eq32-clause-cost : goal.returns-then-align-eq32-clause-cost
returns-then-align-eq32-clause-cost g c = λ _.
    let f = c.find_least_at-top in
    found-cost _ f.new.nodes.extents.now.segs.items _ c.args.gaps.now.extents.now.kept f.ensures.rest.1 c.args.root f.result.0 c.args.steps.now f.new.steps f.ensures.law f.ensures.tree

pub returns-clause-cost : goal.returns-clause-cost
returns-clause-cost g c = λ unit. absurd (c.if-align-eq32.false unit)
