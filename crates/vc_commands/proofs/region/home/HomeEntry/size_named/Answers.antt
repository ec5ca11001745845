use Rattle.vc_base.proofs.Common.{ℕ, [], is_some, Option, option_map, unwrap_or, sym, ap, ◌∙◌, place_of, Discipline, Block}
use Rattle.vc_region.specs.Parts.{region_of}
use Rattle.vc_region.specs.Region.{blocks_of}
use Rattle.vc_commands.specs.Blocks.{is_block}
use Rattle.vc_commands.specs.Home as home
use Rattle.vc_commands.specs.RegionRun.{held_of, region_with}
use Rattle.vc_commands.proofs.Firsts.{find-none}
use Rattle.vc_commands.proofs.FoundBlocks.{the_block}
use Rattle.vc_commands.proofs.Touching.{size-told}
use Rattle.vc_region.proofs.RestFound.{rest-size}
use Rattle.vc_commands.proofs.region.home.HomeEntry.size_named.Given as given
use Rattle.vc_commands.proofs.region.home.HomeEntry.size_named.Goals as goal

abbrev meaning : (g : given.Over) → (x : g.dyn-1.0.I) × (g.dyn-1.0.entry x).0.Denot → Discipline
meaning g p = (g.dyn-1.0.entry p.0).1.state p.1

abbrev size_found : Option (Block home.Label) → ℕ
size_found o = unwrap_or (option_map (λ b. b.size) o) 0

pub returns-in-None : goal.returns-in-None
returns-in-None g c =
    sym (ap size_found (find-none (is_block c.args.name.now) (blocks_of (region_with c.args.self.now c.args.labels.now).0) (sym (c.requires.names.known c.args.name.now) ∙ ap is_some c.in-None.ensures.none)))

pub returns-in-Some : goal.returns-in-Some
returns-in-Some g c =
    let has = c.in-Some.ensures.some in
    let h = held_of (meaning g) [] c.args.self.now c.args.labels.now in
    sym (ap size_found (the_block has).named
    ∙ size-told h has c.size.result (rest-size (region_of c.args.self.now.region) (place_of c.in-Some.at.0) ∙ c.size.ensures))
