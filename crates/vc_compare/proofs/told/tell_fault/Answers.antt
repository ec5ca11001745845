use Rattle.vc_base.proofs.Common.{◌≡◌, ◌++◌, List, ℕ, OnErr, OnOk, codes, decimal, subst, rules}
use Rattle.vc_compare.specs.Told.{error_line, trace_fault_text}
use Rattle.vc_base.specs.Told.{Broke, Told}
use Rattle.vc_compare.proofs.told.tell_fault.Goals as goal

pub returns-clause-told : goal.returns-clause-told
returns-clause-told g c =
    let same : c.as_str.result.now ≡ codes "line " ++ decimal c.args.n ++ codes ": " ++ trace_fault_text c.args.fault = search rules in
    subst (λ (t : List ℕ). OnOk c.tell.result (Told (g.E.Sink.written c.args.err.now) (g.E.Sink.written c.tell.new.err) (error_line t))) same c.tell.ensures.told

pub returns-clause-broke : goal.returns-clause-broke
returns-clause-broke g c =
    let same : c.as_str.result.now ≡ codes "line " ++ decimal c.args.n ++ codes ": " ++ trace_fault_text c.args.fault = search rules in
    subst (λ (t : List ℕ). OnErr c.tell.result (Broke (g.E.Sink.failures c.args.err.now) (g.E.Sink.failures c.tell.new.err) (g.E.Sink.written c.args.err.now) (g.E.Sink.written c.tell.new.err) (error_line t))) same c.tell.ensures.broke
