use Rattle.vc_base.proofs.Common.{◌≡◌, true, ap, ◌∙◌, subst, contains, some_address}
use Rattle.vc_dtlist.proofs.TurnLemmas.{at_linked, next-linked}
use Rattle.vc_dthash.specs.Hashed.{list_of}
use Rattle.vc_dthash.proofs.HashLemmas.{HashFor-unique}
use Rattle.vc_dthash.proofs.dt_hash.DtHash.next.Goals as goal

pub neighbour-requires-clause-holder : goal.neighbour-requires-clause-holder
neighbour-requires-clause-holder g c =
    (at_linked (list_of c.args.self.now) (g.C.Cells.blocks c.args.cells.now) c.args.at.0 c.requires.holders c.requires.stands.links c.requires.within).words

pub neighbour-requires-clause-fits : goal.neighbour-requires-clause-fits
neighbour-requires-clause-fits g c =
    (at_linked (list_of c.args.self.now) (g.C.Cells.blocks c.args.cells.now) c.args.at.0 c.requires.holders c.requires.stands.links c.requires.within).next_fits

pub returns : goal.returns
returns g c = λ rules holders s.
    let r = c.requires in
    let b = g.C.Cells.blocks c.args.cells.now in
    let within = subst (λ xs. contains xs c.args.at.0 ≡ true) (HashFor-unique r.rules rules c.args.self.now b r.holders holders r.stands s) r.within in
    c.found.ensures ∙ (ap some_address c.neighbour.ensures ∙ next-linked (list_of c.args.self.now) b c.args.at.0 holders s.links within)
