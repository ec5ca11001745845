use Rattle.vc_base.proofs.Common.{◌≡◌, [], get_or, sym, subst, arith, below_more}
use Rattle.vc_image_check.specs.Marks.Mark.{HasMarkIn, lists}
use Rattle.vc_image_check.proofs.Filling.{has-mark, no-mark, row-of, row-items}
use Rattle.vc_image_check.proofs.marks.marks.Marks.has.Goals as goal
use Rattle.vc_image_check.proofs.marks.marks.Marks.has.Goals.{After-index}

-- the row that was looked through is that of the number
row : (c : After-index) → c.index.result.now.items ≡ get_or (lists c.args.self.now.rows.items) c.loop-n.n []
row c =
    row-of c.args.self.now.rows.items c.loop-n.n c.index.result.now c.index.ensures
    (omega (arith, c.loop-n-test.true, c.len-n-end.ensures, row-items c.args.self.now.rows.items, c.args.self.now.rows.ok.0))

pub returns-then-has_in-clause-some : goal.returns-then-has_in-clause-some
returns-then-has_in-clause-some c = λ _.
    has-mark (lists c.args.self.now.rows.items) c.loop-n.n c.args.mark
    (subst (λ z. HasMarkIn z c.args.mark) (row (goal.at.returns-then-has_in-clause-some c).After-index) (c.has_in.ensures.some c.if-has_in.true))

pub loop-n-preserved : goal.loop-n-preserved
loop-n-preserved c =
    below_more (λ n. HasMarkIn (get_or (lists c.args.self.now.rows.items) n []) c.args.mark → ⊥) c.loop-n.n c.loop-n.invariant
    (λ h. c.has_in.ensures.none c.if-has_in.false (subst (λ z. HasMarkIn z c.args.mark) (sym (row (goal.at.loop-n-preserved c).After-index)) h))

pub returns-clause-none : goal.returns-clause-none
returns-clause-none c = λ _.
    no-mark (lists c.args.self.now.rows.items) c.args.mark c.requires
    (λ n lt. c.loop-n.invariant n (omega (arith, lt, c.loop-n-test.false, c.len-n-end.ensures, row-items c.args.self.now.rows.items, c.args.self.now.rows.ok.0)))
