use Rattle.vc_base.proofs.Common.{sym, ap, ◌∙◌, Discipline}
use Rattle.vc_region.specs.Cells.{rest_in}
use Rattle.vc_region.specs.Parts.{region_of}
use Rattle.vc_region.proofs.Rest.{rest-stat}
use Rattle.vc_script.specs.declared.reply.Reply.TheVariants.{Stats}
use Rattle.vc_region.proofs.Relabel.{stat-relabelled}
use Rattle.vc_commands.specs.Labels.{name_of_tag}
use Rattle.vc_commands.specs.Home.{reply_alone}
use Rattle.vc_commands.specs.Held.{home_of}
use Rattle.vc_commands.specs.RegionRun.{held_of}
use Rattle.vc_commands.proofs.region.home.HomeEntry.stat.Given as given
use Rattle.vc_commands.proofs.region.home.HomeEntry.stat.Goals as goal

abbrev meaning : (g : given.Over) → (x : g.dyn-1.0.I) × (g.dyn-1.0.entry x).0.Denot → Discipline
meaning g p = (g.dyn-1.0.entry p.0).1.state p.1

pub returns : goal.returns
returns g c = λ labels r.
    ap (λ s. reply_alone (home_of (held_of (meaning g) r c.args.self.now labels)) (Stats s)) (stat-relabelled (name_of_tag labels) (rest_in c.args.self.now.region) ∙ (rest-stat (region_of c.args.self.now.region) ∙ sym c.stat.ensures))
