use Rattle.vc_base.proofs.Common.{sym, ◌∙◌, Discipline}
use Rattle.vc_base.proofs.Options.{none_of}
use Rattle.vc_counts.proofs.FoundHome.{table-found, table-lacks}
use Rattle.vc_counts.proofs.step.table_named.Given as given
use Rattle.vc_counts.proofs.step.table_named.Goals as goal

abbrev meaning : (g : given.Over) → (x : g.dyn-1.0.I) × (g.dyn-1.0.entry x).0.Denot → Discipline
meaning g p = (g.dyn-1.0.entry p.0).1.state p.1

pub returns-in-Some : goal.returns-in-Some
returns-in-Some g c =
    c.table_bytes.ensures.bytes ∙ table-found (meaning g) c.args.session.now c.args.name.now c.index.result.now (sym c.index.ensures ∙ c.in-Some.ensures.value)

pub returns-in-None : goal.returns-in-None
returns-in-None g c = table-lacks (meaning g) c.args.session.now c.args.name.now (sym (none_of _ (sym c.in-None.ensures.found)))
