use Rattle.vc_base.proofs.Common.{◌≢◌, refl, ◌∙◌, subst, arith}
use Rattle.vc_dthash.specs.Hashed.{IsTable, list_of}
use Rattle.vc_dthash.proofs.FillLemmas.{links-cleared}
use Rattle.vc_dthash.proofs.HashLemmas.{HashFor-adopted, HashFor-unique, IsSlots-some, keeps-adopted}
use Rattle.vc_dthash.proofs.dt_hash.DtHash.adopt_table.Goals as goal

pub clear-requires : goal.clear-requires
clear-requires g c = record { there = c.requires.fits.there; enough = omega (arith, c.requires.fits.size) }

pub fill-requires : goal.fill-requires
fill-requires g c =
    let r = c.requires in
    let cleared = c.clear.ensures.change in
    let links =
    links-cleared (list_of c.args.self.now) (g.C.Cells.blocks c.args.cells.now) (g.C.Cells.blocks c.clear.new.cells) c.args.table.0 c.args.slots r.holders cleared r.fits.apart r.stands.links in
    record {
      holders = r.holders;
      links = rw c.list.ensures links;
      many = r.stands.count;
      place = record { there = cleared.keeps.there c.args.table.0 ∙ r.fits.there; enough = rw (cleared.keeps.sizes c.args.table.0) (omega (arith, r.fits.size)) };
      some = IsSlots-some c.args.slots r.fits.slots_allowed;
      apart = r.fits.apart;
      zeros = cleared.zeros;
    }

pub returns-clause-hash : goal.returns-clause-hash
returns-clause-hash g c = record {
  change = λ holders s.
      let rules = g.D.DictDisc.rules c.args.kind.now in
      let self = c.args.self.now in
      let b0 = g.C.Cells.blocks c.args.cells.now in
      let b1 = g.C.Cells.blocks c.clear.new.cells in
      let b2 = g.C.Cells.blocks c.fill.new.cells in
      let table = c.args.table.0 in
      let fits = subst (λ z. IsTable b0 z table c.args.slots) (HashFor-unique rules rules self b0 c.requires.holders holders c.requires.stands s) c.requires.fits in
      let address = g.met.C.Cells.addresses c.args.cells.now table fits.there in
      let some : table ≢ 0 = λ e. absurd (omega (arith, address.some, e)) in
      let links = links-cleared (list_of self) b0 b1 table c.args.slots holders c.clear.ensures.change fits.apart s.links in
      let filled = c.fill.ensures.change holders (rw c.list.ensures links) in
      record {
        stands = HashFor-adopted rules self b0 b1 b2 c.args.table c.args.slots holders s.links s.count s.hashes fits some c.clear.ensures.change filled;
        table = refl;
        slots = refl;
        keeps = keeps-adopted rules self b0 b1 b2 c.args.table c.args.slots holders s.links s.count s.hashes fits some c.clear.ensures.change filled;
      };
  rest = g.met.C.Cells.transitive _ _ _ c.clear.ensures.rest c.fill.ensures.rest;
}
