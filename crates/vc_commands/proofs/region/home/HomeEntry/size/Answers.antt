use Rattle.vc_base.proofs.Common.{◌∙◌, place_of, Discipline}
use Rattle.vc_region.specs.Parts.{region_of}
use Rattle.vc_script.specs.declared.reply.Reply.TheVariants.{Size}
use Rattle.vc_commands.specs.RegionRun.{held_of}
use Rattle.vc_commands.specs.Home.{reply_alone}
use Rattle.vc_commands.proofs.FoundBlocks.{gives-none}
use Rattle.vc_region.proofs.RestFound.{rest-size}
use Rattle.vc_commands.proofs.Touching.{gives-size, size-told}
use Rattle.vc_commands.proofs.region.home.HomeEntry.size.Given as given
use Rattle.vc_commands.proofs.region.home.HomeEntry.size.Goals as goal

abbrev meaning : (g : given.Over) → (x : g.dyn-1.0.I) × (g.dyn-1.0.entry x).0.Denot → Discipline
meaning g p = (g.dyn-1.0.entry p.0).1.state p.1

pub returns-in-None : goal.returns-in-None
returns-in-None g c = λ r.
    gives-none (held_of (meaning g) r c.args.self.now c.args.labels.now) c.args.name.now (λ k. λ b. reply_alone k (Size c.args.name.now b.size)) c.no_block.result c.requires.names c.in-None.ensures.none c.no_block.ensures.value

pub returns-in-Some : goal.returns-in-Some
returns-in-Some g c = λ r.
    let has = c.in-Some.ensures.some in
    let h = held_of (meaning g) r c.args.self.now c.args.labels.now in
    gives-size h has c.size.result (size-told h has c.size.result (rest-size (region_of c.args.self.now.region) (place_of c.in-Some.at.0) ∙ c.size.ensures))
