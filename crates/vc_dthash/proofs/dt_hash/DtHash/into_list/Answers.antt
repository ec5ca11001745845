use Rattle.vc_dtlist.specs.Linked.{IsPlain}
use Rattle.vc_dthash.proofs.MarkLemmas.{all-of}
use Rattle.vc_dthash.proofs.dt_hash.DtHash.into_list.Goals as goal

pub free_all-requires : goal.free_all-requires
free_all-requires g c =
    let r = c.requires.is in
    record { holders = r.holders; links = rw c.list.ensures r.stands.links; many = r.stands.count }

pub returns : goal.returns
returns g c = record {
  change = λ rules holders s.
      let m = c.free_all.ensures.change holders (rw c.list.ensures s.links) in
      record {
        stands = record { links = rw (c.list-2.ensures, ← c.list.ensures) m.links; plain = all-of (IsPlain (g.C.Cells.blocks c.free_all.new.cells)) holders m.marks };
        keeps = m.keeps;
      };
  rest = c.free_all.ensures.rest;
}
