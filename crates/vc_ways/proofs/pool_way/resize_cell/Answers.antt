use Rattle.vc_base.proofs.Common.{◌≢◌, ◌∙◌, ℕ, List, rules, sym, subst, true, Block, HasBlock}
use Rattle.vc_ways.specs.PoolWay.{class_of}
use Rattle.vc_ways.proofs.PoolSteps.{kept-same, kept-then}
use Rattle.vc_ways.proofs.PoolLists.{sized-refused}
use Rattle.vc_ways.proofs.pool_way.resize_cell.Given as given
use Rattle.vc_ways.proofs.pool_way.resize_cell.Goals as goal
use Rattle.vc_ways.proofs.pool_way.resize_cell.Goals.{After-put_cell}

-- it goes into another class
other : (g : given.Over) (c : After-put_cell g) → class_of c.args.size ≢ class_of c.args.old
other g c = λ e. c.if-class_of.false (c.class_of.ensures.value ∙ (e ∙ sym c.class_of-2.ensures.value))

pub returns-then-class_of-clause-leaves : goal.returns-then-class_of-clause-leaves
returns-then-class_of-clause-leaves g c = record { classes = c.requires.can.classes; keeps = kept-same true _; refused = search rules }

pub free_cell-requires-clause-block : goal.free_cell-requires-clause-block
free_cell-requires-clause-block g c =
    subst (λ (bs : List (Block ℕ)). HasBlock bs c.args.at.0) (sym (c.put_cell.ensures.others (class_of c.args.old) (λ e. other g (goal.at.free_cell-requires-clause-block g c).After-put_cell (sym e)))) c.requires.block

pub returns-in-Ok-clause-leaves : goal.returns-in-Ok-clause-leaves
returns-in-Ok-clause-leaves g c =
    record {
      classes = c.free_cell.ensures.classes;
      keeps = kept-then _ _ _ _ c.in-Ok.ensures.leaves.keeps c.free_cell.ensures.keeps;
      refused = search rules;
    }

pub returns-in-Err-clause-answer : goal.returns-in-Err-clause-answer
returns-in-Err-clause-answer g c =
    sized-refused _ _ c.args.old c.args.size _ c.in-Err.fault (other g (goal.at.returns-in-Err-clause-answer g c).After-put_cell) c.in-Err.ensures.answer

pub returns-in-Ok-clause-comes : goal.returns-in-Ok-clause-comes
returns-in-Ok-clause-comes g c =
    record {
      there = c.free_cell.ensures.others (class_of c.args.size) c.in-Ok.to.0 c.in-Ok.ensures.comes.there (λ e. absurd (other g (goal.at.returns-in-Ok-clause-comes g c).After-put_cell e));
      others = λ n b has may. let mid = c.in-Ok.ensures.comes.others n b has tt in (c.free_cell.ensures.others n b mid.0 may, mid.1);
    }
