use Rattle.vc_base.proofs.Common.{ℕ, ◌+◌, ap, ◌∙◌, Discipline}
use Rattle.vc_counts.proofs.FoundHome.{dict-found, dict-lacks, entry_table, whole-found}
use Rattle.vc_counts.proofs.step.dict_named.Given as given
use Rattle.vc_counts.proofs.step.dict_named.Goals as goal

abbrev meaning : (g : given.Over) → (x : g.dyn-1.0.I) × (g.dyn-1.0.entry x).0.Denot → Discipline
meaning g p = (g.dyn-1.0.entry p.0).1.state p.1

pub holders_bytes-requires : goal.holders_bytes-requires
holders_bytes-requires g c =
    whole-found (meaning g) c.args.session.now c.args.name.now c.requires.labels c.requires.dicts c.in-Some.entry.now c.in-Some.ensures.value

pub returns-in-Some : goal.returns-in-Some
returns-in-Some g c =
    ap (λ (n : ℕ). n + c.holders_bytes.result) c.table_bytes.ensures.bytes
    ∙ (ap (λ (n : ℕ). entry_table c.in-Some.entry.now + n) c.holders_bytes.ensures.bytes
    ∙ dict-found (meaning g) c.args.session.now c.args.name.now c.requires.labels c.in-Some.entry.now c.in-Some.ensures.value)

pub returns-in-None : goal.returns-in-None
returns-in-None g c = dict-lacks (meaning g) c.args.session.now c.args.name.now c.in-None.ensures.value
