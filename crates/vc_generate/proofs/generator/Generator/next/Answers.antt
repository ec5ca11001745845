use Rattle.vc_base.proofs.Common.{sym, ap, ◌∙◌}
use Rattle.std.proofs.lemmas.Result.{MatchResult-from_err}
use Rattle.vc_generate.proofs.CommandSteps.{is_object_next-to_come, to_come-block, to_come-closing, to_come-end, to_come-object, to_come-opening}
use Rattle.vc_generate.specs.Next.{is_object_next}
use Rattle.vc_generate.proofs.generator.Generator.next.Goals as goal
use Rattle.vc_generate.proofs.generator.Generator.next.Goals.{in-Vmreplay, in-Dtrun+in_ok-command-in-Dtrun}

pub returns-in-Some-clause-next : goal.returns-in-Some-clause-next
returns-in-Some-clause-next c = sym c.self.view_is ∙ to_come-opening _ _ _ _ _ _ c.in-Some.ensures.next

pub returns-in_err-command-in-Dtrun-clause-memory : goal.returns-in_err-command-in-Dtrun-clause-memory
returns-in_err-command-in-Dtrun-clause-memory c =
    let held = ap is_object_next (sym c.self.view_is)
    ∙ is_object_next-to_come _ _ _ _ _ _ _ c.in-Dtrun.is c.in_default.ensures.next.0 c.in-Some-first.ensures in
    MatchResult-from_err _ _ _ c.from_residual.ensures.0 (λ _. held)

pub returns-in-Some-first-clause-next : goal.returns-in-Some-first-clause-next
returns-in-Some-first-clause-next c =
    elim c.match-self.branch [
      | in-Vmreplay w ↦ rw (c.advance.ensures, w.self-inside-is, w.command-is, w.take_command-command.ensures.command, w.take_command-command.ensures.places) (sym c.self.view_is
          ∙ to_come-block _ _ _ _ _ _ _ w.in-Vmreplay.is c.in_default.ensures.next.0 c.in-Some-first.ensures)
      | in-Dtrun+in_ok-command-in-Dtrun w ↦ rw (c.advance.ensures, w.self-inside-is, w.command-is, w.in_ok-command-in-Dtrun.ensures) (sym c.self.view_is
          ∙ to_come-object _ _ _ _ _ _ _ w.in-Dtrun.is c.in_default.ensures.next.0 c.in-Some-first.ensures)
    ]

pub returns-in_default-closing_command-clause-next : goal.returns-in_default-closing_command-clause-next
returns-in_default-closing_command-clause-next c =
    let none = sym c.self.view_is
    ∙ to_come-end _ _ _ _ _ c.in_default.ensures.next.0 c.in_default-first.ensures.0 c.in_default-closing_command.ensures.next.0
    in (none, none)

pub returns-clause-next : goal.returns-clause-next
returns-clause-next c = sym c.self.view_is
    ∙ to_come-closing _ _ _ _ _ _ c.in_default.ensures.next.0 c.in_default-first.ensures.0 c.in-Some-closing_command.ensures.next
