use Rattle.vc_base.proofs.Common.{◌≡◌, false, [], ◌∷◌, ◌++◌, sym, refl, subst, append-nil, contains}
use Rattle.vc_dtlist.specs.Linked.{LinksFor, Relinked}
use Rattle.vc_dtlist.proofs.TurnLemmas.{LinksFor-unique}
use Rattle.vc_dtlist.proofs.dt_list.DtList.join_back.Goals as goal

pub join-requires : goal.join-requires
join-requires g c =
    let r = c.requires in
    let e = sym (append-nil r.holders) in
    record {
      front = r.holders;
      rest = [];
      links = subst (λ z. LinksFor c.args.self.now (g.C.Cells.blocks c.args.cells.now) z) e r.links;
      apart = subst (λ z. contains z c.args.at.0 ≡ false) e r.apart;
      holder = r.holder;
      previous = r.links.last;
      next = refl;
    }

pub returns : goal.returns
returns g c = record {
  change = λ holders s.
      let old = g.C.Cells.blocks c.args.cells.now in
      let at = c.args.at.0 in
      let e = append-nil holders in
      let apart : contains holders at ≡ false = rw (LinksFor-unique c.args.self.now old holders c.requires.holders s c.requires.links) c.requires.apart in
      subst (λ z. Relinked at z old c.join.new.self (g.C.Cells.blocks c.join.new.cells) (holders ++ at ∷ [])) e
      (c.join.ensures.change holders [] (subst (λ z. LinksFor c.args.self.now old z) (sym e) s) (subst (λ z. contains z at ≡ false) (sym e) apart) s.last refl);
  rest = c.join.ensures.rest;
}
