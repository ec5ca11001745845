use Rattle.vc_base.proofs.Common.{ℕ, inr, rules}
use Rattle.vc_script.specs.declared.line_fault.LineFault.{LineFault}
use Rattle.vc_session.proofs.WholeCuts.{replay-cuts, replay-not_ahead}
use Rattle.vc_session.proofs.StatusDue.{from-source}
use Rattle.vc_session.proofs.ToolPromises.{promises-asked}
use Rattle.vc_session.proofs.tool.run_words.Goals as goal

pub returns-in-Ok-None-clause-promises : goal.returns-in-Ok-None-clause-promises
returns-in-Ok-None-clause-promises g c =
    promises-asked (rw c.in-Ok-None.field-0-is at c.in-Ok-None.ensures.runs.replay) (search rules) (search rules)
    c.in-Ok-None.ensures.runs.reads (search rules) c.in-Ok-None.ensures.keeps.disciplines c.in-Ok-None.ensures.keeps.keeps_rules (search rules) (search rules)

pub returns-in-Ok-clause-promises : goal.returns-in-Ok-clause-promises
returns-in-Ok-clause-promises g c =
    let bad : ℕ × LineFault = (c.in-Ok-Some.n, c.in-Ok-Some.fault) in
    let replay = rw c.in-Ok-Some.field-0-is at c.in-Ok-Some.ensures.runs.replay in
    promises-asked (from-source _ _ _ _ _ _ _ bad replay, (bad, c.in-Ok.ensures.told, replay)) (search rules) (search rules)
    c.in-Ok-Some.ensures.runs.reads (c.in-Ok-Some.ensures.runs.writes, c.in-Ok.ensures.never_falls) c.in-Ok-Some.ensures.keeps.disciplines c.in-Ok-Some.ensures.keeps.keeps_rules (search rules) (search rules)

pub returns-in-Err-clause-promises : goal.returns-in-Err-clause-promises
returns-in-Err-clause-promises g c =
    let bad : ℕ × LineFault = (c.in-Ok-Some.n, c.in-Ok-Some.fault) in
    let replay = rw c.in-Ok-Some.field-0-is at c.in-Ok-Some.ensures.runs.replay in
    promises-asked (inr (bad, c.in-Err.ensures.broke, replay))
    (λ is. replay-cuts _ _ _ _ _ _ _ bad replay) (λ is. replay-not_ahead _ _ _ _ _ _ _ bad replay)
    c.in-Ok-Some.ensures.runs.reads (c.in-Ok-Some.ensures.runs.writes, c.in-Err.ensures.never_falls) c.in-Ok-Some.ensures.keeps.disciplines c.in-Ok-Some.ensures.keeps.keeps_rules (search rules) (search rules)

pub returns-in-Err-Read-clause-promises : goal.returns-in-Err-Read-clause-promises
returns-in-Err-Read-clause-promises g c =
    let read = c.in-Err-Read.ensures.runs.read c.in-Err-Read.field-0-is in
    promises-asked ((read.0, read.1, search rules), read.2) (search rules) (search rules)
    (search rules) (search rules) c.run_asked.ensures.keeps.disciplines c.run_asked.ensures.keeps.keeps_rules (search rules) (search rules)

pub returns-in-Err-Write-clause-promises : goal.returns-in-Err-Write-clause-promises
returns-in-Err-Write-clause-promises g c =
    promises-asked (search rules) (λ is. c.in-Err-Write.ensures.runs.cut) (λ is. c.in-Err-Write.ensures.runs.not_ahead c.in-Err-Write.field-0-is)
    (search rules) (search rules) c.run_asked.ensures.keeps.disciplines c.run_asked.ensures.keeps.keeps_rules (search rules) (search rules)

pub returns-in-Err-Memory-clause-promises : goal.returns-in-Err-Memory-clause-promises
returns-in-Err-Memory-clause-promises g c =
    promises-asked (search rules) (λ is. c.in-Err-Memory.ensures.runs.cut) (search rules)
    (search rules) (search rules) c.run_asked.ensures.keeps.disciplines c.run_asked.ensures.keeps.keeps_rules (search rules) (search rules)

pub returns-in-Ok-None-clause-unarmed : goal.returns-in-Ok-None-clause-unarmed
returns-in-Ok-None-clause-unarmed g c = c.run_asked.ensures.keeps.arms_none

pub returns-in-Ok-clause-unarmed : goal.returns-in-Ok-clause-unarmed
returns-in-Ok-clause-unarmed g c = c.run_asked.ensures.keeps.arms_none

pub returns-in-Err-clause-unarmed : goal.returns-in-Err-clause-unarmed
returns-in-Err-clause-unarmed g c = c.run_asked.ensures.keeps.arms_none

pub returns-in-Err-Read-clause-unarmed : goal.returns-in-Err-Read-clause-unarmed
returns-in-Err-Read-clause-unarmed g c = c.run_asked.ensures.keeps.arms_none

pub returns-in-Err-Write-clause-unarmed : goal.returns-in-Err-Write-clause-unarmed
returns-in-Err-Write-clause-unarmed g c = c.run_asked.ensures.keeps.arms_none

pub returns-in-Err-Memory-clause-unarmed : goal.returns-in-Err-Memory-clause-unarmed
returns-in-Err-Memory-clause-unarmed g c = c.run_asked.ensures.keeps.arms_none
