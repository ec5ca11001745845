use Rattle.vc_base.proofs.Common.{◌≤◌, true, length}
use Rattle.vc_steps.specs.Homes.{state_over}
use Rattle.vc_steps.specs.Moment.{moment}
use Rattle.vc_steps.specs.Steps.{Lasts}
use Rattle.vc_steps.specs.Told.{rules_in}
use Rattle.vc_session.specs.Generating.{Generating}
use Rattle.vc_session.specs.Progress.{CanCountOn}
use Rattle.vc_session.proofs.generated.run_commands.Given as goal

-- the commands so far were run, and those to come are left
abbrev pub invariant-loop-command : goal.invariant-loop-command
invariant-loop-command g l =
    record {
      lasts : Lasts (λ z. (goal.SegDisc-dyn g z).state z.1) g.D.DictDisc.rules l.fn.shelf l.fn.session l.fn.kinds.items l.shelf l.session l.kinds.items;
      can : CanCountOn true l.counts (state_over (λ z. (goal.SegDisc-dyn g z).state z.1) (rules_in g.D.DictDisc.rules l.kinds.items) l.shelf l.session) l.line;
      generating : Generating
          (moment (λ z. (goal.SegDisc-dyn g z).state z.1) g.D.DictDisc.rules g.D.DictDisc.gone l.fn.shelf l.fn.session l.fn.kinds.items)
          (moment (λ z. (goal.SegDisc-dyn g z).state z.1) g.D.DictDisc.rules g.D.DictDisc.gone l.shelf l.session l.kinds.items)
          (g.O.Sink.written l.fn.out) (g.O.Sink.written l.out) l.counts l.gathered.items l.line l.fn.generator l.generator;
      writes : g.O.Sink.failures l.fn.out ≤ g.O.Sink.failures l.out;
    }

-- those to come
abbrev pub decreases-loop-command : goal.decreases-loop-command
decreases-loop-command g l = length l.generator
