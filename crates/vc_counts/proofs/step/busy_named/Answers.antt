use Rattle.vc_base.proofs.Common.{sym, ap, ◌∙◌, Discipline}
use Rattle.vc_seg.specs.declared.stat.Stat.{Stat}
use Rattle.vc_counts.specs.Working.{busy_in_home}
use Rattle.vc_counts.proofs.FoundHome.{busy-found, home-none}
use Rattle.vc_counts.proofs.step.busy_named.Given as given
use Rattle.vc_counts.proofs.step.busy_named.Goals as goal

abbrev meaning : (g : given.Over) → (x : g.dyn-1.0.I) × (g.dyn-1.0.entry x).0.Denot → Discipline
meaning g p = (g.dyn-1.0.entry p.0).1.state p.1

pub returns-in-Some : goal.returns-in-Some
returns-in-Some g c =
    let session = c.args.session.now in
    ap (λ (t : Stat). t.sbusy) c.stat.ensures
    ∙ busy-found (meaning g) session.homes.entries session.labels.items c.args.name.now c.requires c.in-Some.i c.index.result.now (sym c.in-Some.ensures.index) c.index.ensures

pub returns-in-None : goal.returns-in-None
returns-in-None g c =
    let session = c.args.session.now in
    sym (ap busy_in_home (home-none (meaning g) session.homes.entries session.labels.items c.args.name.now c.requires (sym c.in-None.ensures.found)))
