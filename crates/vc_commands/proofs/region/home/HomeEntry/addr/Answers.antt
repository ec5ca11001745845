use Rattle.vc_base.proofs.Common.{sym, refl, ap, ◌∙◌, place_of, Discipline, address_of}
use Rattle.vc_region.specs.Cells.{rest_in}
use Rattle.vc_region.specs.Parts.{region_of}
use Rattle.vc_commands.specs.Home.{reply_alone}
use Rattle.vc_commands.proofs.Listing.{addr-none, addr-some, places_in}
use Rattle.vc_region.proofs.RestFound.{rest-block_at, rest-label}
use Rattle.vc_commands.specs.Held.{home_of}
use Rattle.vc_commands.specs.RegionRun.{held_of}
use Rattle.vc_commands.proofs.region.home.HomeEntry.addr.Given as given
use Rattle.vc_commands.proofs.region.home.HomeEntry.addr.Goals as goal

abbrev meaning : (g : given.Over) → (x : g.dyn-1.0.I) × (g.dyn-1.0.entry x).0.Denot → Discipline
meaning g p = (g.dyn-1.0.entry p.0).1.state p.1

pub returns-in-None : goal.returns-in-None
returns-in-None g c = λ r.
    ap (reply_alone (home_of (held_of (meaning g) r c.args.self.now c.args.labels.now))) (addr-none (rest_in c.args.self.now.region) c.args.labels.now (c.args.at.seg, c.args.at.off) (rest-block_at (region_of c.args.self.now.region) address_of (λ b. refl) (c.args.at.seg, c.args.at.off) ∙ sym c.in-None.ensures.value))

pub returns-in-Some : goal.returns-in-Some
returns-in-Some g c = λ r.
    ap (reply_alone (home_of (held_of (meaning g) r c.args.self.now c.args.labels.now)))
    (addr-some (rest_in c.args.self.now.region) c.args.labels.now (c.args.at.seg, c.args.at.off) c.in-Some.block.0 c.in-Some.off c.tag.result c.name.result
    (places_in c.args.self.now.region) (rest-block_at (region_of c.args.self.now.region) address_of (λ b. refl) (c.args.at.seg, c.args.at.off) ∙ sym c.in-Some.ensures.value)
    (rest-label (region_of c.args.self.now.region) (place_of c.in-Some.block.0) ∙ c.tag.ensures) c.name.ensures)
