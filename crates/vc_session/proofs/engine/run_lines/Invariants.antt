use Rattle.vc_base.proofs.Common.{◌≡◌, ℕ, ◌≤◌, false, List, [], length}
use Rattle.vc_steps.specs.Moment.{moment, over_sink}
use Rattle.vc_base.specs.Told.{Told}
use Rattle.vc_session.specs.SoFar.{CanFeed, SoFar, fuel}
use Rattle.vc_session.specs.Progress.{CanCountOn}
use Rattle.vc_steps.specs.Homes.{state_over}
use Rattle.vc_session.specs.Arming.{LastsArming}
use Rattle.vc_steps.specs.Told.{rules_in}
use Rattle.vc_session.proofs.engine.run_lines.Given as goal

-- what was read is run, up to the line that has begun, and its replies are written
abbrev pub invariant-loop-n : goal.invariant-loop-n
invariant-loop-n g l =
    record {
      room : length l.buf ≡ 4096;
      none : l.scratch.replies.items ≡ [];
      feeds : CanFeed l.cutter;
      lasts : LastsArming (λ z. (goal.SegDisc-dyn g z).state z.1) g.D.DictDisc.rules l.fn.shelf l.fn.session l.fn.kinds.items l.shelf l.session l.kinds.items;
      unarmed : l.cutter.count ≡ 0 → l.session.is_armed ≡ false;
      text : List ℕ;
      counts : CanCountOn l.quiet l.scratch.counts (state_over (λ z. (goal.SegDisc-dyn g z).state z.1) (rules_in g.D.DictDisc.rules l.kinds.items) l.shelf l.session) l.cutter.count;
      so_far : SoFar l.tool l.quiet
          (over_sink (moment (λ z. (goal.SegDisc-dyn g z).state z.1) g.D.DictDisc.rules g.D.DictDisc.gone l.fn.shelf l.fn.session l.fn.kinds.items) (g.O.Sink.written l.fn.out))
          (over_sink (moment (λ z. (goal.SegDisc-dyn g z).state z.1) g.D.DictDisc.rules g.D.DictDisc.gone l.shelf l.session l.kinds.items) (g.O.Sink.written l.out))
          l.scratch.counts text (g.S.Source.left l.fn.source) (g.S.Source.left l.source) l.cutter [];
      told : Told (g.O.Sink.written l.fn.out) (g.O.Sink.written l.out) text;
      reads : g.S.Source.failures l.fn.source ≤ g.S.Source.failures l.source;
      writes : g.O.Sink.failures l.fn.out ≤ g.O.Sink.failures l.out;
    }

abbrev pub decreases-loop-n : goal.decreases-loop-n
decreases-loop-n g l = fuel l.cutter
