use Rattle.vc_base.proofs.Common.{◌≡◌, ◌∷◌, map, take, OnOk, rules, ap, ◌∙◌, subst}
use Rattle.vc_script.specs.Words.{words}
use Rattle.vc_script.specs.Answer.{answer_to}
use Rattle.vc_script.proofs.FirstRows.{answer_to-front}
use Rattle.vc_script.proofs.ProperCommands.{OnOk-proper}
use Rattle.vc_script.proofs.parse.read_into.Goals as goal

pub returns-in-Some-clause-value : goal.returns-in-Some-clause-value
returns-in-Some-clause-value c =
    let tool = c.args.tool in
    let on = c.args.first in
    let front : c.in-Some.word.now.now ∷ map (λ w. w.now) c.in-Some.others.now ≡ take 6 (words c.args.line.now) = search rules in
    subst (λ wanted. OnOk c.answer_to.result (c.answer_to.new.asked ≡ wanted)) (ap (answer_to tool on) front ∙ answer_to-front tool on (words c.args.line.now)) c.answer_to.ensures

pub returns-in-Some-clause-proper : goal.returns-in-Some-clause-proper
returns-in-Some-clause-proper c = OnOk-proper c.args.tool c.args.first c.args.line.now c.answer_to.result c.answer_to.new.asked (returns-in-Some-clause-value c)
