use Rattle.vc_base.proofs.Common.{◌≡◌, ℕ, ◌+◌, List, length, nat_le, ap, ◌∙◌, subst, arith, place_of, Discipline}
use Rattle.vc_model.proofs.Keeping.{NoneRefused-equal}
use Rattle.vc_region.specs.Region.{region_write, segments_of}
use Rattle.vc_region.proofs.Clearing.{written-segments}
use Rattle.vc_region.specs.Cells.{cells_in, region_cells, rest_in, rest_of}
use Rattle.vc_region.specs.Parts.{disc_in, region_of}
use Rattle.vc_script.specs.declared.refusal.Refusal.TheVariants as why
use Rattle.vc_commands.specs.Held.{Held, home_of}
use Rattle.vc_commands.specs.Blocks.{write_block_found, write_named}
use Rattle.vc_commands.specs.RegionRun.{held_of}
use Rattle.vc_commands.proofs.Answers.{NotNoSegment, changed-alike, gives-unchanged}
use Rattle.vc_commands.proofs.FoundBlocks.{gives-none, the_block}
use Rattle.vc_commands.proofs.Touching.{gives-written, le-beyond, le-within, named-written, size-told, write-range}
use Rattle.vc_region.proofs.RestFound.{rest-size}
use Rattle.vc_commands.proofs.Seen.{cells-written, seen-write, seen-written}
use Rattle.vc_commands.proofs.Listing.{places_in}
use Rattle.vc_commands.proofs.region.home.HomeEntry.write.Given as given
use Rattle.vc_commands.proofs.region.home.HomeEntry.write.Goals as goal

abbrev meaning : (g : given.Over) → (x : g.dyn-1.0.I) × (g.dyn-1.0.entry x).0.Denot → Discipline
meaning g p = (g.dyn-1.0.entry p.0).1.state p.1

pub returns-in-None-clause-step : goal.returns-in-None-clause-step
returns-in-None-clause-step g c = λ r.
    gives-none (held_of (meaning g) r c.args.self.now c.args.labels.now) c.args.name.now (λ k. write_block_found k c.args.name.now c.args.off c.args.bytes.now) c.no_block.result c.requires.names c.in-None.ensures.none c.no_block.ensures.value

pub returns-then-off-bytes-clause-step : goal.returns-then-off-bytes-clause-step
returns-then-off-bytes-clause-step g c = λ r.
    let h = held_of (meaning g) r c.args.self.now c.args.labels.now in
    let last = c.args.off + length c.args.bytes.now in
    let size = size-told h c.in-Some.ensures.some c.size.result (rest-size (region_of c.args.self.now.region) (place_of c.in-Some.at.0) ∙ c.size.ensures) in
    gives-unchanged (home_of h) (write_named (home_of h) c.args.name.now c.args.off c.args.bytes.now) why.Range
    (write-range h c.in-Some.ensures.some c.args.off c.args.bytes.now
    (ap (nat_le last) size ∙ le-beyond last c.size.result (omega arith)))

pub returns-else-off-bytes : goal.returns-else-off-bytes
returns-else-off-bytes g c =
    let has = c.in-Some.ensures.some in
    let before : List ℕ → Held = λ r. held_of (meaning g) r c.args.self.now c.args.labels.now in
    let name = c.args.name.now in
    let off = c.args.off in
    let bytes = c.args.bytes.now in
    let was = region_of c.args.self.now.region in
    let at = place_of c.in-Some.at.0 in
    let old = rest_in c.args.self.now.region in
    let new = rest_in c.write.new.self in
    let b = the_block has in
    let put : new ≡ region_write old at off bytes = ap rest_of c.write.ensures.region ∙ seen-write was c.in-Some.at.0 b.block b.found b.first off bytes in
    let segments : segments_of new ≡ segments_of old = ap segments_of put ∙ written-segments old at off bytes in
    let last = off + length bytes in
    record {
      step = λ r.
          let size = size-told (before r) has c.size.result (rest-size was at ∙ c.size.ensures) in
          gives-written (before r) has off bytes new (ap (nat_le last) size ∙ le-within last c.size.result (omega arith)) put c.watch_line-watch.result c.watch_line-watch.ensures;
      change = λ r.
          changed-alike (before r) (disc_in (meaning g) c.write.new.self) new (cells_in c.write.new.self) c.args.labels.now (ap region_cells c.write.ensures.region ∙ cells-written was c.in-Some.at.0 b.block b.found b.first off bytes) c.requires.lent c.write.ensures.disc segments
          (named-written (before r) has off bytes new put (seen-written was c.in-Some.at.0 b.block b.found b.first off bytes (region_of c.write.new.self) c.write.ensures.region c.write.ensures.others) (places_in c.write.new.self));
      granted = λ e. subst NotNoSegment e tt;
      served = NoneRefused-equal _ _ c.write.ensures.disc;
    }
