use Rattle.vc_base.proofs.Common.{◌≡◌, ℕ, List, sym, ap, ◌∙◌, subst, w64, place_of, Discipline}
use Rattle.std.proofs.lemmas.Int.{to_z-of_z}
use Rattle.vc_model.proofs.Keeping.{NoneRefused-equal}
use Rattle.vc_region.specs.Region.{region_poke, segments_of}
use Rattle.vc_region.specs.Cells.{cells_in, region_cells, rest_in, rest_of}
use Rattle.vc_region.specs.Parts.{disc_in, region_of}
use Rattle.vc_script.specs.declared.refusal.Refusal.TheVariants as why
use Rattle.vc_commands.specs.Held.{Held, home_of}
use Rattle.vc_commands.specs.Audit.{is_poke, poke_block, poke_in}
use Rattle.vc_commands.specs.RegionRun.{held_of}
use Rattle.vc_commands.proofs.Answers.{NotNoSegment, changed-alike, gives-unchanged}
use Rattle.vc_commands.proofs.Auditing.{gives-poked, named-poked, poke-method, poke-range, poked-segments}
use Rattle.vc_commands.proofs.FoundBlocks.{gives-none}
use Rattle.vc_region.proofs.Rest.{rest-debug, rest-poke, rest-watch_at}
use Rattle.vc_region.proofs.RestCells.{poke-cells}
use Rattle.vc_region.proofs.RestFound.{rest-size}
use Rattle.vc_commands.proofs.Seen.{seen-poked}
use Rattle.vc_commands.proofs.Touching.{size-told}
use Rattle.vc_commands.proofs.Listing.{places_in}
use Rattle.vc_commands.proofs.region.home.HomeEntry.poke.Given as given
use Rattle.vc_commands.proofs.region.home.HomeEntry.poke.Goals as goal

abbrev meaning : (g : given.Over) → (x : g.dyn-1.0.I) × (g.dyn-1.0.entry x).0.Denot → Discipline
meaning g p = (g.dyn-1.0.entry p.0).1.state p.1

pub returns-in_default-clause-step : goal.returns-in_default-clause-step
returns-in_default-clause-step g c = λ r.
    gives-none (held_of (meaning g) r c.args.self.now c.args.labels.now) c.args.name.now (λ k. poke_block k c.args.name.now c.args.off c.args.byte) c.no_block.result c.requires.names c.in_default.ensures.none c.no_block.ensures.value

pub returns-then-not-is_debug-clause-step : goal.returns-then-not-is_debug-clause-step
returns-then-not-is_debug-clause-step g c = λ r.
    let h = held_of (meaning g) r c.args.self.now c.args.labels.now in
    gives-unchanged (home_of h) (poke_in (home_of h) c.args.name.now c.args.off c.args.byte) why.WrongMethod
    (poke-method h c.in-Some.ensures.some c.args.off c.args.byte (sym c.is_debug.ensures ∙ c.if-not-is_debug.true))

pub returns-then-not-is_poke-clause-step : goal.returns-then-not-is_poke-clause-step
returns-then-not-is_poke-clause-step g c = λ r.
    let h = held_of (meaning g) r c.args.self.now c.args.labels.now in
    let size = size-told h c.in-Some.ensures.some c.size.result (rest-size (region_of c.args.self.now.region) (place_of c.in-Some.at.0) ∙ c.size.ensures) in
    gives-unchanged (home_of h) (poke_in (home_of h) c.args.name.now c.args.off c.args.byte) why.Range
    (poke-range h c.in-Some.ensures.some c.args.off c.args.byte (sym c.is_debug.ensures ∙ c.if-not-is_debug.false)
    (ap (λ n. is_poke n c.args.off c.args.byte) size ∙ (sym (ap (λ z. is_poke c.size.result z c.args.byte) (to_z-of_z w64 c.args.off c.ranges.off)) ∙ (sym c.is_poke.ensures ∙ c.if-not-is_poke.true))))

pub returns : goal.returns
returns g c =
    let has = c.in-Some.ensures.some in
    let before : List ℕ → Held = λ r. held_of (meaning g) r c.args.self.now c.args.labels.now in
    let name = c.args.name.now in
    let off = c.args.off in
    let byte = c.args.byte in
    let was = region_of c.args.self.now.region in
    let at = place_of c.in-Some.at.0 in
    let old = rest_in c.args.self.now.region in
    let new = rest_in c.poke.new.self in
    let debug = sym c.is_debug.ensures ∙ c.if-not-is_debug.false in
    let poked : region_of c.poke.new.self ≡ region_poke was at off byte = c.poke.ensures.region ∙ ap (λ z. region_poke was at z byte) (to_z-of_z w64 off c.ranges.off) in
    let put : new ≡ region_poke old at off byte = ap rest_of poked ∙ sym (rest-poke was at off byte) in
    let segments : segments_of new ≡ segments_of old = ap segments_of put ∙ poked-segments old at off byte in
    record {
      step = λ r.
          let size = size-told (before r) has c.size.result (rest-size was at ∙ c.size.ensures) in
          gives-poked (before r) has off byte new debug
          (ap (λ n. is_poke n off byte) size ∙ (sym (ap (λ z. is_poke c.size.result z byte) (to_z-of_z w64 off c.ranges.off)) ∙ (sym c.is_poke.ensures ∙ c.if-not-is_poke.false)))
          put c.watched-watch.result (c.watched-watch.ensures ∙ sym (rest-watch_at was at));
      change = λ r.
          changed-alike (before r) (disc_in (meaning g) c.poke.new.self) new (cells_in c.poke.new.self) c.args.labels.now (ap region_cells poked ∙ poke-cells was at off byte) c.requires.lent c.poke.ensures.disc segments
          (named-poked (before r) has off byte new put (seen-poked was at off byte (region_of c.poke.new.self) poked c.poke.ensures.others) (places_in c.poke.new.self));
      granted = λ e. subst NotNoSegment e tt;
      served = NoneRefused-equal _ _ c.poke.ensures.disc;
    }

pub watched-watch-requires-clause-method : goal.watched-watch-requires-clause-method
watched-watch-requires-clause-method g c = sym (rest-debug (region_of c.args.self.now.region)) ∙ (sym c.is_debug.ensures ∙ c.if-not-is_debug.false)

pub poke-requires-clause-method : goal.poke-requires-clause-method
poke-requires-clause-method g c = sym (rest-debug (region_of c.args.self.now.region)) ∙ (sym c.is_debug.ensures ∙ c.if-not-is_debug.false)
