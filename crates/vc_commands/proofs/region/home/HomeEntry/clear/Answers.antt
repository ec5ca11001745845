use Rattle.vc_base.proofs.Common.{◌≡◌, sym, refl, ap, ◌∙◌, Discipline}
use Rattle.vc_region.proofs.Clearing.{cleared-blocks, cleared-segments}
use Rattle.vc_region.proofs.Keeps.{clear-keeps}
use Rattle.vc_region.specs.Region.{blocks_of, keeps_freed, region_clear, region_with_labels, segments_of}
use Rattle.vc_region.proofs.Sound.{own_places}
use Rattle.vc_region.specs.Cells.{cells_in, region_cells, rest_in, rest_of}
use Rattle.vc_region.specs.Parts.{disc_in, region_of}
use Rattle.vc_script.specs.declared.command.Command.TheVariants.{ClearRegion}
use Rattle.vc_commands.specs.Held.{left_by}
use Rattle.vc_commands.specs.RegionRun.{held_of}
use Rattle.vc_commands.specs.Labels.{name_of_tag}
use Rattle.vc_commands.proofs.Emptying.{change-same, cleared-names, kept-cleared, named-cleared, none-cleared}
use Rattle.vc_region.proofs.Rest.{rest-clear}
use Rattle.vc_region.proofs.RestCells.{clear-cells}
use Rattle.vc_region.proofs.RestFound.{rest-own}
use Rattle.vc_commands.proofs.region.home.HomeEntry.clear.Given as given
use Rattle.vc_commands.proofs.region.home.HomeEntry.clear.Goals as goal

abbrev meaning : (g : given.Over) → (x : g.dyn-1.0.I) × (g.dyn-1.0.entry x).0.Denot → Discipline
meaning g p = (g.dyn-1.0.entry p.0).1.state p.1

pub returns-clause-step : goal.returns-clause-step
returns-clause-step g c = λ r.
    let h = held_of (meaning g) r c.args.self.now c.args.labels.now in
    record {
      region_after =
          cleared-names c.args.labels.now c.clear.new.self (rest_in c.args.self.now.region)
          ∙ ap (region_with_labels (name_of_tag c.clear.new.self)) (sym (ap rest_of c.clear-2.ensures.region ∙ sym (rest-clear (region_of c.args.self.now.region))));
      kept_after = kept-cleared h c.args.line c.clear.new.self c.keeps_freed.result c.keeps_freed.ensures c.requires.names c.clear.ensures.kept;
      replied = refl;
    }

pub returns-clause-change : goal.returns-clause-change
returns-clause-change g c = λ r.
    let was = region_of c.args.self.now.region in
    let old = rest_of was in
    let new = rest_in c.clear-2.new.self in
    let put : new ≡ region_clear old = ap rest_of c.clear-2.ensures.region ∙ sym (rest-clear was) in
    change-same (left_by (ClearRegion c.args.name) (held_of (meaning g) r c.args.self.now c.args.labels.now)) (disc_in (meaning g) c.clear-2.new.self) new (cells_in c.clear-2.new.self) c.clear.new.self
    (ap region_cells c.clear-2.ensures.region ∙ clear-cells was)
    c.clear-2.ensures.disc
    (ap segments_of put ∙ cleared-segments old)
    c.requires.lent
    (named-cleared new c.clear.new.self c.clear.ensures.agree c.clear.ensures.no_names c.clear.ensures.count (rest-own (region_of c.clear-2.new.self) (own_places c.clear-2.new.self)) (ap blocks_of put ∙ cleared-blocks old)
    (λ e. none-cleared c.args.labels.now c.clear.new.self c.keeps_freed.result c.args.line c.clear.ensures.kept (c.keeps_freed.ensures ∙ (sym (ap keeps_freed put ∙ clear-keeps old) ∙ e))))
