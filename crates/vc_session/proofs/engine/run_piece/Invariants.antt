use Rattle.vc_base.proofs.Common.{◌≡◌, ◌+◌, ◌≤◌, false, length, Some}
use Rattle.vc_steps.specs.Moment.{moment, over_sink}
use Rattle.vc_session.specs.SoFar.{CanFeed, GoesOn, fuel}
use Rattle.vc_session.specs.Progress.{CanCountOn}
use Rattle.vc_steps.specs.Homes.{state_over}
use Rattle.vc_session.specs.Arming.{LastsArming}
use Rattle.vc_steps.specs.Told.{rules_in}
use Rattle.vc_session.proofs.engine.run_piece.Given as goal

-- a run so far goes on up to what is left of the piece
abbrev pub invariant-loop-rest : goal.invariant-loop-rest
invariant-loop-rest g l =
    record {
      feeds : CanFeed l.cutter;
      lasts : LastsArming (λ z. (goal.SegDisc-dyn g z).state z.1) g.D.DictDisc.rules l.fn.shelf l.fn.session l.fn.kinds.items l.shelf l.session l.kinds.items;
      unarmed : l.cutter.count ≡ 0 → l.session.is_armed ≡ false;
      counts : CanCountOn l.quiet l.scratch.counts (state_over (λ z. (goal.SegDisc-dyn g z).state z.1) (rules_in g.D.DictDisc.rules l.kinds.items) l.shelf l.session) l.cutter.count;
      goes_on : GoesOn l.tool l.quiet
          (over_sink (moment (λ z. (goal.SegDisc-dyn g z).state z.1) g.D.DictDisc.rules g.D.DictDisc.gone l.fn.shelf l.fn.session l.fn.kinds.items) (Some l.fn.scratch.replies.items))
          (over_sink (moment (λ z. (goal.SegDisc-dyn g z).state z.1) g.D.DictDisc.rules g.D.DictDisc.gone l.shelf l.session l.kinds.items) (Some l.scratch.replies.items))
          l.fn.scratch.counts l.scratch.counts l.scratch.replies.items l.fn.cutter l.cutter l.piece l.rest;
      less : fuel l.cutter + length l.piece ≤ fuel l.fn.cutter + length l.rest;
    }

abbrev pub decreases-loop-rest : goal.decreases-loop-rest
decreases-loop-rest g l = length l.rest
