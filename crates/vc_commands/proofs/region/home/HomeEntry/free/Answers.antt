use Rattle.vc_base.proofs.Common.{◌≡◌, ℕ, List, None, IsSome, sym, refl, ap, ◌∙◌, subst, place_of, Discipline, address_of}
use Rattle.vc_model.proofs.Keeping.{NoneRefused-equal, NoneRefused-same}
use Rattle.vc_region.specs.Region.{blocks_of, region_with_labels, segments_of}
use Rattle.vc_commands.specs.Answered.{answered}
use Rattle.vc_commands.specs.Labels.{kept_of, name_of_tag}
use Rattle.vc_region.specs.Cells.{cells_in, region_cells, rest_in}
use Rattle.vc_region.specs.Parts.{disc_in, region_of}
use Rattle.vc_region.proofs.Sound.{own_places}
use Rattle.vc_commands.specs.Held.{AreLabelsOf, home_of}
use Rattle.vc_commands.specs.Blocks.{free_block_found, kept_freed}
use Rattle.vc_commands.specs.RegionRun.{held_of}
use Rattle.vc_commands.proofs.Answers.{change-same, changed-alike, err-all, if_ok-all}
use Rattle.vc_commands.proofs.FoundBlocks.{gives-none, label_of, the_block}
use Rattle.vc_region.proofs.Freeing.{free-segments}
use Rattle.vc_commands.proofs.Gone.{gives-freed, step-kept, kept-after, none-after, removed-label, removed-so}
use Rattle.vc_commands.proofs.Lists.{index}
use Rattle.vc_commands.proofs.Moving.{named-left}
use Rattle.vc_commands.proofs.Seen.{cells-freed, seen-found, seen-freed, seen-kept, seen-left}
use Rattle.vc_commands.proofs.Grants.{granted-free}
use Rattle.vc_commands.proofs.Runs.{runs-granted}
use Rattle.vc_commands.proofs.Listing.{places_in}
use Rattle.vc_commands.proofs.region.home.HomeEntry.free.Given as given
use Rattle.vc_commands.proofs.region.home.HomeEntry.free.Goals as goal

abbrev meaning : (g : given.Over) → (x : g.dyn-1.0.I) × (g.dyn-1.0.entry x).0.Denot → Discipline
meaning g p = (g.dyn-1.0.entry p.0).1.state p.1

pub returns-in_default : goal.returns-in_default
returns-in_default g c =
    record {
      runs = runs-granted _ _ _ _ _ _ _ None (λ h need. granted-free h c.args.name.now c.args.line)
          (λ r. gives-none (held_of (meaning g) r c.args.self.now c.args.labels.now) c.args.name.now (λ k. free_block_found k c.args.name.now c.args.line) c.no_block.result c.requires.names c.in_default.ensures.none c.no_block.ensures.value)
          tt (NoneRefused-same _);
      change = λ r. change-same (held_of (meaning g) r c.args.self.now c.args.labels.now) c.args.labels.now c.requires.lent c.requires.names;
    }

pub free-requires-in-Ok-clause-there : goal.free-requires-in-Ok-clause-there
free-requires-in-Ok-clause-there g c = subst IsSome (sym c.in-Some.ensures.some.named) refl

pub returns-in-Ok : goal.returns-in-Ok
returns-in-Ok g c =
    let has = c.in-Some.ensures.some in
    let name = c.args.name.now in
    let line = c.args.line in
    let was = region_of c.args.self.now.region in
    let is = region_of c.free.new.self in
    let old = rest_in c.args.self.now.region in
    let new = rest_in c.free.new.self in
    let labels = c.args.labels.now in
    let labels' = c.free-in-Ok.new.self in
    let a = c.in-Some.at.0 in
    let b = the_block has in
    let i = index (place_of a) b.block (blocks_of was) (seen-found was a b.block b.found b.first) in
    let done = seen-freed was a b.block b.found b.first is c.in-Ok.ensures.answer in
    let left = seen-left was a b.block b.found b.first is c.in-Ok.ensures.answer (c.in-Ok.ensures.freed.freed i.at i.within (λ d. ap address_of (i.is d) ∙ b.address) ∙ i.gone) in
    let w = removed-label labels labels' name has.tag (label_of name c.in-Some.at) has.named has.there c.free-in-Ok.result c.free-in-Ok.ensures.some c.free-in-Ok.ensures.none in
    let so = removed-so labels labels' name has.tag _ has.named c.free-in-Ok.result c.free-in-Ok.ensures.kept c.free-in-Ok.ensures.none in
    let keeps : (r : List ℕ) → kept_of labels' ≡ kept_freed (home_of (held_of (meaning g) r c.args.self.now c.args.labels.now)) name line = λ r. kept-after (held_of (meaning g) r c.args.self.now c.args.labels.now) has line labels' c.keeps_freed-keeps.result c.keeps_freed-keeps.ensures so in
    record {
      runs = runs-granted _ _ _ _ _ _ _ None (λ h need. granted-free h name line)
          (λ r. gives-freed (held_of (meaning g) r c.args.self.now c.args.labels.now) has line labels' w new done left (keeps r) c.watch_line-watch.result c.watch_line-watch.ensures)
          tt (NoneRefused-equal _ _ c.free.ensures.disc);
      change = λ r.
          let h = held_of (meaning g) r c.args.self.now labels in
          changed-alike h (disc_in (meaning g) c.free.new.self) new (cells_in c.free.new.self) labels' (cells-freed was a b.block b.found b.first is (own_places c.args.self.now.region) c.in-Ok.ensures.answer) c.requires.lent c.free.ensures.disc (free-segments old new (place_of a) done)
          (named-left labels old c.requires.names name has.tag (label_of name c.in-Some.at) has.there b labels' w refl new left c.free-in-Ok.ensures.agree (places_in c.free.new.self)
          (none-after h has line labels' (keeps r) new done));
    }

pub returns-in-Err : goal.returns-in-Err
returns-in-Err g c =
    let b = the_block c.in-Some.ensures.some in
    let kept = seen-kept (region_of c.args.self.now.region) c.in-Some.at.0 b.block b.found b.first c.in-Err.fault (region_of c.free.new.self) c.in-Err.ensures.answer.0 c.in-Err.ensures.answer.1 in
    record {
      runs = runs-granted _ _ _ _ _ _ _ None (λ h need. granted-free h c.args.name.now c.args.line)
          (if_ok-all (answered c.refused.result c.refused.new.reply) _ (λ r. step-kept (held_of (meaning g) r c.args.self.now c.args.labels.now) c.in-Some.ensures.some c.args.line c.in-Err.fault (answered c.refused.result c.refused.new.reply) c.refused.ensures kept.0 (rest_in c.free.new.self) kept.1))
          (err-all (answered c.refused.result c.refused.new.reply) (ap (λ q. (region_with_labels (name_of_tag c.args.labels.now) q, kept_of c.args.labels.now)) kept.1)) (NoneRefused-equal _ _ c.free.ensures.disc);
      change = λ r.
          changed-alike (held_of (meaning g) r c.args.self.now c.args.labels.now) (disc_in (meaning g) c.free.new.self) (rest_in c.free.new.self) (cells_in c.free.new.self) c.args.labels.now (ap region_cells c.in-Err.ensures.answer.1) c.requires.lent c.free.ensures.disc
          (ap segments_of kept.1) (subst (λ q. AreLabelsOf q c.args.labels.now) (sym kept.1) c.requires.names);
    }
