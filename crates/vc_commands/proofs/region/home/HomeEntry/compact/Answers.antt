use Rattle.vc_base.proofs.Common.{◌≡◌, sym, ap, ◌∙◌, Discipline}
use Rattle.vc_region.proofs.Clearing.{compacted-blocks}
use Rattle.vc_region.proofs.Relabel.{compact-relabelled, compact_count-relabelled}
use Rattle.vc_region.specs.Region.{blocks_of, keeps_freed, region_compact, region_compact_count, region_with_labels}
use Rattle.vc_region.proofs.Keeps.{compact-keeps}
use Rattle.vc_commands.specs.Held.{home_of}
use Rattle.vc_commands.specs.RegionRun.{held_of}
use Rattle.vc_commands.proofs.region.home.HomeEntry.compact.Given as given
use Rattle.vc_region.specs.Cells.{cells_in, region_cells, rest_in, rest_of}
use Rattle.vc_region.specs.Parts.{disc_in, region_of}
use Rattle.vc_script.specs.declared.reply.Reply.TheVariants.{Compacted}
use Rattle.vc_commands.specs.Labels.{name_of_tag}
use Rattle.vc_commands.specs.Home.{changed_to}
use Rattle.vc_commands.proofs.Emptying.{change-back, named-blocks}
use Rattle.vc_region.proofs.Rest.{rest-compact, rest-compact_count}
use Rattle.vc_region.proofs.RestCells.{compact-cells}
use Rattle.vc_commands.proofs.Seen.{seen-out, seen-took}
use Rattle.vc_commands.proofs.region.home.HomeEntry.compact.Goals as goal

abbrev meaning : (g : given.Over) → (x : g.dyn-1.0.I) × (g.dyn-1.0.entry x).0.Denot → Discipline
meaning g p = (g.dyn-1.0.entry p.0).1.state p.1

pub returns-clause-step : goal.returns-clause-step
returns-clause-step g c = λ labels r.
    let f = name_of_tag labels in
    let was = region_of c.args.self.now.region in
    let old = rest_of was in
    let k = home_of (held_of (meaning g) r c.args.self.now labels) in
    ap (λ q. changed_to k q (Compacted c.args.name (region_compact_count (region_with_labels f old)))) (compact-relabelled f old ∙ ap (region_with_labels f) (sym (ap rest_of c.compact.ensures.region ∙ sym (rest-compact was))))
    ∙ ap (λ n. changed_to k (region_with_labels f (rest_in c.compact.new.self)) (Compacted c.args.name n)) (compact_count-relabelled f old ∙ (rest-compact_count was ∙ sym c.compact.ensures.count))

pub returns-clause-change : goal.returns-clause-change
returns-clause-change g c = λ labels names r.
    let was = region_of c.args.self.now.region in
    let old = rest_of was in
    let new = rest_in c.compact.new.self in
    let put : new ≡ region_compact old = ap rest_of c.compact.ensures.region ∙ sym (rest-compact was) in
    change-back (held_of (meaning g) r c.args.self.now labels) (disc_in (meaning g) c.compact.new.self) new (cells_in c.compact.new.self) labels
    (ap region_cells c.compact.ensures.region ∙ compact-cells was)
    (seen-took (disc_in (meaning g) c.args.self.now.region) (disc_in (meaning g) c.compact.new.self) was (region_of c.compact.new.self) c.compact.ensures.disc) c.requires.lent
    (named-blocks old new labels (ap blocks_of put ∙ compacted-blocks old) (ap keeps_freed put ∙ compact-keeps old) names)

pub compact-requires : goal.compact-requires
compact-requires g c = seen-out (region_of c.args.self.now.region) (disc_in (meaning g) c.args.self.now.region) c.requires.lent
