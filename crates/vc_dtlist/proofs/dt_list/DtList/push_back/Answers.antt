use Rattle.vc_base.proofs.Common.{◌≡◌, false, [], ◌∷◌, ◌++◌, sym, refl, subst, append-nil, contains}
use Rattle.vc_dtlist.specs.Linked.{StandsFor, Turned}
use Rattle.vc_dtlist.proofs.TurnLemmas.{apart_in}
use Rattle.vc_dtlist.proofs.dt_list.DtList.push_back.Goals as goal

pub link-requires : goal.link-requires
link-requires g c =
    let r = c.requires in
    let e = sym (append-nil r.holders) in
    record {
      front = r.holders;
      rest = [];
      links = (subst (λ z. StandsFor c.args.self.now (g.C.Cells.blocks c.args.cells.now) z) e r.stands).links;
      apart = subst (λ z. contains z c.args.at.0 ≡ false) e r.apart;
      holder = r.holder;
      previous = r.stands.links.last;
      next = refl;
    }

pub returns : goal.returns
returns g c = record {
  list = λ holders s.
      let blocks = g.C.Cells.blocks in
      let at = c.args.at.0 in
      let e = append-nil holders in
      let apart = apart_in c.args.self.now (blocks c.args.cells.now) at c.requires holders s in
      subst (λ z. Turned at z (blocks c.args.cells.now) c.link.new.self (blocks c.link.new.cells) (holders ++ at ∷ [])) e
      (c.link.ensures.change holders [] (subst (λ z. StandsFor c.args.self.now (blocks c.args.cells.now) z) (sym e) s) (subst (λ z. contains z at ≡ false) (sym e) apart) s.links.last refl);
  rest = c.link.ensures.rest;
}
