use Rattle.vc_base.proofs.Common.{◌≡◌, ◌*◌, ◌≤◌, length, sym, ap, ◌∙◌, subst, arith, eqb-true, eqb-false, bytes_at}
use Rattle.vc_dtlist.proofs.TurnLemmas.{StandsFor-unique}
use Rattle.vc_dthash.specs.Chained.{IsHashed}
use Rattle.vc_dthash.specs.Hashed.{HasTable, list_of}
use Rattle.vc_dthash.specs.ChainWrites.{Marked}
use Rattle.vc_dthash.proofs.FillLemmas.{links-cleared}
use Rattle.vc_dthash.proofs.HashLemmas.{ChainedUp-filled, ChainedUp-none, IsSlots-some, table-fits}
use Rattle.vc_dthash.proofs.dt_hash.DtHash.chain_up.Goals as goal

pub hash_all-requires : goal.hash_all-requires
hash_all-requires g c =
    record { holders = c.requires.holders; links = rw c.list.ensures c.requires.stands.links; many = c.requires.count }

pub returns-then-eq : goal.returns-then-eq
returns-then-eq g c = record {
  change = λ holders s.
      let b = g.C.Cells.blocks c.args.cells.now in
      let same = StandsFor-unique (list_of c.args.self) b c.requires.holders holders c.requires.stands s in
      ChainedUp-none (g.D.DictDisc.rules c.args.kind.now) c.args.self b (g.C.Cells.blocks c.hash_all.new.cells) holders
      (c.requires.count ∙ ap length same) (subst (λ z. HasTable b z c.args.self.table.0 c.args.self.slots) same c.requires.table) (λ e. sym same ∙ c.requires.empty e)
      (rw (← c.list.ensures) (c.hash_all.ensures.change holders (rw c.list.ensures s.links))) (eqb-true c.args.self.table.0 0 (sym c.eq.ensures ∙ c.if-eq.true));
  rest = c.hash_all.ensures.rest;
}

pub clear-requires : goal.clear-requires
clear-requires g c =
    let r = c.requires in
    let fits =
    table-fits (g.D.DictDisc.rules c.args.kind.now) c.args.self (g.C.Cells.blocks c.args.cells.now) (g.C.Cells.blocks c.hash_all.new.cells) r.holders r.count r.table r.empty
    (rw (← c.list.ensures) (c.hash_all.ensures.change r.holders (rw c.list.ensures r.stands.links))) (eqb-false c.args.self.table.0 0 (sym c.eq.ensures ∙ c.if-eq.false)) in
    record { there = fits.there; enough = omega (arith, fits.size) }

pub fill-requires : goal.fill-requires
fill-requires g c =
    let r = c.requires in
    let self = c.args.self in
    let b1 = g.C.Cells.blocks c.hash_all.new.cells in
    let marked : Marked (IsHashed (g.D.DictDisc.rules c.args.kind.now)) (list_of self) r.holders (g.C.Cells.blocks c.args.cells.now) b1 = rw (← c.list.ensures) (c.hash_all.ensures.change r.holders (rw c.list.ensures r.stands.links)) in
    let fits =
    table-fits (g.D.DictDisc.rules c.args.kind.now) self (g.C.Cells.blocks c.args.cells.now) b1 r.holders r.count r.table r.empty
    marked (eqb-false self.table.0 0 (sym c.eq.ensures ∙ c.if-eq.false)) in
    let cleared = c.clear.ensures.change in
    let links = links-cleared (list_of self) b1 (g.C.Cells.blocks c.clear.new.cells) self.table.0 self.slots r.holders cleared fits.apart marked.links in
    let room : 8 * self.slots ≤ length (bytes_at b1 self.table.0) = omega (arith, fits.size) in
    record {
      holders = r.holders;
      links = rw c.list-2.ensures links;
      many = r.count;
      place = record { there = cleared.keeps.there self.table.0 ∙ fits.there; enough = rw (cleared.keeps.sizes self.table.0) room };
      some = IsSlots-some self.slots fits.slots_allowed;
      apart = fits.apart;
      zeros = cleared.zeros;
    }

pub returns : goal.returns
returns g c = record {
  change = λ holders s.
      let self = c.args.self in
      let rules = g.D.DictDisc.rules c.args.kind.now in
      let b = g.C.Cells.blocks c.args.cells.now in
      let b1 = g.C.Cells.blocks c.hash_all.new.cells in
      let b2 = g.C.Cells.blocks c.clear.new.cells in
      let b3 = g.C.Cells.blocks c.fill.new.cells in
      let same = StandsFor-unique (list_of self) b c.requires.holders holders c.requires.stands s in
      let count = c.requires.count ∙ ap length same in
      let table = subst (λ z. HasTable b z self.table.0 self.slots) same c.requires.table in
      let empty = λ (e : self.table.0 ≡ 0). sym same ∙ c.requires.empty e in
      let marked : Marked (IsHashed rules) (list_of self) holders b b1 = rw (← c.list.ensures) (c.hash_all.ensures.change holders (rw c.list.ensures s.links)) in
      let some = eqb-false self.table.0 0 (sym c.eq.ensures ∙ c.if-eq.false) in
      let fits = table-fits rules self b b1 holders count table empty marked some in
      let links = links-cleared (list_of self) b1 b2 self.table.0 self.slots holders c.clear.ensures.change fits.apart marked.links in
      ChainedUp-filled rules self b b1 holders count table empty marked b2 b3 some c.clear.ensures.change (c.fill.ensures.change holders (rw c.list-2.ensures links));
  rest = g.met.C.Cells.transitive _ _ _ (g.met.C.Cells.transitive _ _ _ c.hash_all.ensures.rest c.clear.ensures.rest) c.fill.ensures.rest;
}
