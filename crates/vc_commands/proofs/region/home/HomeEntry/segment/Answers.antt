use Rattle.vc_base.proofs.Common.{sym, ap, ◌∙◌, Discipline, segment_at}
use Rattle.vc_region.proofs.Relabel.{segments-relabelled}
use Rattle.vc_region.specs.Cells.{rest_in}
use Rattle.vc_region.specs.Parts.{region_of}
use Rattle.vc_region.proofs.Rest.{rest-segments}
use Rattle.vc_commands.specs.Labels.{name_of_tag}
use Rattle.vc_commands.specs.Home.{reply_alone}
use Rattle.vc_commands.specs.Whole.{segment_reply}
use Rattle.vc_commands.specs.Held.{home_of}
use Rattle.vc_commands.specs.RegionRun.{held_of}
use Rattle.vc_commands.proofs.region.home.HomeEntry.segment.Given as given
use Rattle.vc_commands.proofs.region.home.HomeEntry.segment.Goals as goal

abbrev meaning : (g : given.Over) → (x : g.dyn-1.0.I) × (g.dyn-1.0.entry x).0.Denot → Discipline
meaning g p = (g.dyn-1.0.entry p.0).1.state p.1

pub returns-in-None : goal.returns-in-None
returns-in-None g c = λ labels r.
    ap (λ o. reply_alone (home_of (held_of (meaning g) r c.args.self.now labels)) (segment_reply c.args.at.seg o))
    (ap (segment_at (c.args.at.seg, c.args.at.off)) (segments-relabelled (name_of_tag labels) (rest_in c.args.self.now.region) ∙ rest-segments (region_of c.args.self.now.region)) ∙ sym c.in-None.ensures)

pub returns-in-Some : goal.returns-in-Some
returns-in-Some g c = λ labels r.
    ap (λ o. reply_alone (home_of (held_of (meaning g) r c.args.self.now labels)) (segment_reply c.args.at.seg o))
    (ap (segment_at (c.args.at.seg, c.args.at.off)) (segments-relabelled (name_of_tag labels) (rest_in c.args.self.now.region) ∙ rest-segments (region_of c.args.self.now.region)) ∙ sym c.in-Some.ensures)
