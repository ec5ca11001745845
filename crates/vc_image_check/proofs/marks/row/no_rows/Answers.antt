use Rattle.vc_base.proofs.Common.{◌≡◌, [], List, ℕ, replicate, ap, ◌∙◌, arith}
use Rattle.vc_image_check.specs.Marks.Mark.{lists}
use Rattle.vc_image_check.proofs.Filling.{rows-push}
use Rattle.vc_image_check.proofs.marks.row.no_rows.Goals as goal

pub loop-init : goal.loop-init
loop-init c = ap lists c.in_ok-rows.ensures.items

pub loop-preserved : goal.loop-preserved
loop-preserved c = rows-push c.loop.rows.items c.push.new.self.items c.loop.counter c.new.result c.loop.invariant c.in_ok-push.ensures.items c.new.ensures.items

pub returns : goal.returns
returns c =
    let end = c.loop-test.false in
    let most = c.loop.auto.counter-end in
    let all : c.loop.counter ≡ 1024 = omega (arith, end, most) in
    c.loop.invariant ∙ ap (λ k. replicate {A = List ℕ} k []) all
