use Rattle.vc_base.proofs.Common.{◌+◌, ◌≤◌, ◌&&◌, nat_le, Some, sym, ap, ◌∙◌, arith, place_of, Discipline}
use Rattle.vc_region.specs.Parts.{region_of}
use Rattle.vc_script.specs.declared.refusal.Refusal.TheVariants as why
use Rattle.vc_commands.specs.Held.{home_of}
use Rattle.vc_commands.specs.Blocks.{read_block_found, read_named}
use Rattle.vc_commands.specs.RegionRun.{held_of}
use Rattle.vc_commands.proofs.Answers.{gives-unchanged}
use Rattle.vc_commands.proofs.FoundBlocks.{gives-none}
use Rattle.vc_region.proofs.RestFound.{rest-size}
use Rattle.vc_commands.proofs.Seen.{seen-bytes}
use Rattle.vc_commands.proofs.Touching.{b, bytes-told, gives-read, range-beyond, range-many, range-none, range-within, read-range, size-told}
use Rattle.vc_commands.proofs.region.home.HomeEntry.read.Given as given
use Rattle.vc_commands.proofs.region.home.HomeEntry.read.Goals as goal
use Rattle.vc_commands.proofs.region.home.HomeEntry.read.Goals.{then-len-eq0-via-then-len-eq0, then-len-eq0-via-else-len-eq0+then-len-gt4096, then-len-eq0-via-else-len-eq0+else-len-gt4096+then-off-len}

abbrev meaning : (g : given.Over) → (x : g.dyn-1.0.I) × (g.dyn-1.0.entry x).0.Denot → Discipline
meaning g p = (g.dyn-1.0.entry p.0).1.state p.1

pub returns-in-None : goal.returns-in-None
returns-in-None g c = λ r.
    gives-none (held_of (meaning g) r c.args.self.now c.args.labels.now) c.args.name.now (λ k. read_block_found k c.args.name.now c.args.off c.args.len) c.no_block.result c.requires.names c.in-None.ensures.none c.no_block.ensures.value

pub returns-then-len-eq0 : goal.returns-then-len-eq0
returns-then-len-eq0 g c = λ r.
    let h = held_of (meaning g) r c.args.self.now c.args.labels.now in
    let block = (b h c.in-Some.ensures.some).block in
    gives-unchanged (home_of h) (read_named (home_of h) c.args.name.now c.args.off c.args.len) why.Range
    (read-range h c.in-Some.ensures.some c.args.off c.args.len
    (elim c.then-len-eq0.branch [
      | then-len-eq0-via-then-len-eq0 w ↦ range-none c.args.off c.args.len block.size (omega arith)
      | then-len-eq0-via-else-len-eq0+then-len-gt4096 w ↦ range-many c.args.off c.args.len block.size (omega arith)
      | then-len-eq0-via-else-len-eq0+else-len-gt4096+then-off-len w ↦
          let same = size-told h c.in-Some.ensures.some w.size.result (rest-size (region_of c.args.self.now.region) (place_of c.in-Some.at.0) ∙ w.size.ensures) in
          range-beyond c.args.off c.args.len block.size (omega (arith, same))
    ]))

pub returns-in_ok-bytes-in-Some : goal.returns-in_ok-bytes-in-Some
returns-in_ok-bytes-in-Some g c = λ r.
    let has = c.in-Some.ensures.some in
    let h = held_of (meaning g) r c.args.self.now c.args.labels.now in
    let block = b h has in
    let few : c.args.len ≤ 4096 = omega arith in
    let some : 1 ≤ c.args.len = omega arith in
    let within : c.args.off + c.args.len ≤ c.size.result = omega arith in
    let size = size-told h has c.size.result (rest-size (region_of c.args.self.now.region) (place_of c.in-Some.at.0) ∙ c.size.ensures) in
    gives-read h has c.args.off c.args.len c.from_vec.result
    (ap (λ n. (nat_le 1 c.args.len && nat_le c.args.len 4096) && nat_le (c.args.off + c.args.len) n) size ∙ range-within c.args.off c.args.len c.size.result some few within)
    (bytes-told h has c.args.off c.args.len c.from_vec.result
    (seen-bytes (region_of c.args.self.now.region) c.in-Some.at.0 block.block block.found block.first c.args.off c.args.len ∙ (c.read.ensures ∙ ap (λ bs. Some bs) (sym (c.from_vec.ensures ∙ c.in_ok-bytes-in-Some.ensures.items_if_clones_equal (λ x y same. same))))))
