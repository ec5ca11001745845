use Rattle.vc_base.proofs.Common.{◌≡◌}
use Rattle.vc_objects.proofs.Emptied.{Emptying}
use Rattle.vc_objects.proofs.emptying.empty.Given as goal

abbrev pub invariant-loop-passed : goal.invariant-loop-passed
invariant-loop-passed g l =
    record {
      emptying : Emptying (λ z. (goal.SegDisc-dyn g z).state z.1) (g.D.DictDisc.rules l.initial.kind) l.initial.best l.initial.dict (g.D.DictDisc.gone l.initial.kind) l._passed l.best l.dict (g.D.DictDisc.gone l.kind);
      rules : g.D.DictDisc.rules l.kind ≡ g.D.DictDisc.rules l.initial.kind;
    }
