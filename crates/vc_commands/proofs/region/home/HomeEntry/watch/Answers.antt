use Rattle.vc_base.proofs.Common.{◌≡◌, ℕ, List, None, sym, ap, ◌∙◌, place_of, Discipline}
use Rattle.vc_model.proofs.Keeping.{NoneRefused-equal, NoneRefused-same}
use Rattle.vc_region.specs.Region.{region_watch, segments_of}
use Rattle.vc_region.specs.Cells.{cells_in, region_cells, rest_in, rest_of}
use Rattle.vc_region.specs.Parts.{disc_in, region_of}
use Rattle.vc_script.specs.declared.refusal.Refusal.TheVariants as why
use Rattle.vc_commands.specs.Held.{Held, home_of}
use Rattle.vc_commands.specs.Audit.{watch_block, watch_in}
use Rattle.vc_commands.specs.RegionRun.{held_of}
use Rattle.vc_commands.proofs.Answers.{change-same, changed-alike, gives-unchanged}
use Rattle.vc_commands.proofs.Auditing.{gives-watched, named-watched, watch-method, watched-segments}
use Rattle.vc_commands.proofs.FoundBlocks.{gives-none}
use Rattle.vc_region.proofs.Rest.{rest-debug, rest-watch}
use Rattle.vc_region.proofs.RestCells.{watch-cells}
use Rattle.vc_commands.proofs.Grants.{granted-watch}
use Rattle.vc_commands.proofs.Runs.{runs-granted}
use Rattle.vc_commands.proofs.Listing.{places_in}
use Rattle.vc_commands.proofs.region.home.HomeEntry.watch.Given as given
use Rattle.vc_commands.proofs.region.home.HomeEntry.watch.Goals as goal

abbrev meaning : (g : given.Over) → (x : g.dyn-1.0.I) × (g.dyn-1.0.entry x).0.Denot → Discipline
meaning g p = (g.dyn-1.0.entry p.0).1.state p.1

pub watch-requires-clause-method : goal.watch-requires-clause-method
watch-requires-clause-method g c = sym (rest-debug (region_of c.args.self.now.region)) ∙ (sym c.is_debug.ensures ∙ c.if-not-is_debug.false)

pub returns-in_default : goal.returns-in_default
returns-in_default g c =
    record {
      runs = runs-granted _ _ _ _ _ _ _ None (λ h need. granted-watch h c.args.line c.args.name.now)
          (λ r. gives-none (held_of (meaning g) r c.args.self.now c.args.labels.now) c.args.name.now (λ k. watch_block k c.args.line c.args.name.now) c.no_block.result c.requires.names c.in_default.ensures.none c.no_block.ensures.value)
          tt (NoneRefused-same _);
      change = λ r. change-same (held_of (meaning g) r c.args.self.now c.args.labels.now) c.args.labels.now c.requires.lent c.requires.names;
    }

pub returns-then-not-is_debug : goal.returns-then-not-is_debug
returns-then-not-is_debug g c =
    record {
      runs = runs-granted _ _ _ _ _ _ _ None (λ h need. granted-watch h c.args.line c.args.name.now)
          (λ r.
          let h = held_of (meaning g) r c.args.self.now c.args.labels.now in
          gives-unchanged (home_of h) (watch_in (home_of h) c.args.line c.args.name.now) why.WrongMethod
          (watch-method h c.in-Some.ensures.some c.args.line (sym c.is_debug.ensures ∙ c.if-not-is_debug.true)))
          tt (NoneRefused-same _);
      change = λ r. change-same (held_of (meaning g) r c.args.self.now c.args.labels.now) c.args.labels.now c.requires.lent c.requires.names;
    }

pub returns : goal.returns
returns g c =
    let has = c.in-Some.ensures.some in
    let before : List ℕ → Held = λ r. held_of (meaning g) r c.args.self.now c.args.labels.now in
    let name = c.args.name.now in
    let line = c.args.line in
    let was = region_of c.args.self.now.region in
    let at = place_of c.in-Some.at.0 in
    let old = rest_in c.args.self.now.region in
    let new = rest_in c.watch.new.self in
    let put : new ≡ region_watch old at line = ap rest_of c.in_ok-watch.ensures.ok ∙ sym (rest-watch was at line) in
    let segments : segments_of new ≡ segments_of old = ap segments_of put ∙ watched-segments old at line in
    record {
      runs = runs-granted _ _ _ _ _ _ _ None (λ h need. granted-watch h c.args.line c.args.name.now)
          (λ r. gives-watched (before r) has line new (sym c.is_debug.ensures ∙ c.if-not-is_debug.false) put)
          tt (NoneRefused-equal _ _ c.watch.ensures.disc);
      change = λ r.
          changed-alike (before r) (disc_in (meaning g) c.watch.new.self) new (cells_in c.watch.new.self) c.args.labels.now (ap region_cells c.in_ok-watch.ensures.ok ∙ watch-cells was at line) c.requires.lent c.watch.ensures.disc segments
          (named-watched (before r) has line new put (places_in c.watch.new.self));
    }
