use Rattle.vc_base.proofs.Common.{◌∷◌, ◌++◌, sym, refl, ap, ◌∙◌, subst}
use Rattle.vc_base.specs.Holders.{inserted_before}
use Rattle.vc_dtlist.specs.Linked.{StandsFor}
use Rattle.vc_dtlist.proofs.HolderLemmas.{inserted_before-split, split}
use Rattle.vc_dtlist.proofs.TurnLemmas.{Turned-same, apart_in, at_in, previous_word, split_in}
use Rattle.vc_dtlist.proofs.dt_list.DtList.before.Goals as goal

pub neighbour-previous-requires-clause-holder : goal.neighbour-previous-requires-clause-holder
neighbour-previous-requires-clause-holder g c = (at_in c.args.self.now (g.C.Cells.blocks c.args.cells.now) c.args.mark.0 c.requires.mark).words

pub neighbour-previous-requires-clause-fits : goal.neighbour-previous-requires-clause-fits
neighbour-previous-requires-clause-fits g c = (at_in c.args.self.now (g.C.Cells.blocks c.args.cells.now) c.args.mark.0 c.requires.mark).previous_fits

pub link-requires : goal.link-requires
link-requires g c =
    let list = c.args.self.now in
    let b = g.C.Cells.blocks c.args.cells.now in
    let mark = c.args.mark.0 in
    let m = c.requires.mark in
    let p = split m.holders mark m.within in
    let s : StandsFor list b (p.front ++ mark ∷ p.rest) = subst (λ z. StandsFor list b z) p.whole m.stands in
    record {
      front = p.front;
      rest = mark ∷ p.rest;
      links = s.links;
      apart = apart_in list b c.args.at.0 c.requires.at (p.front ++ mark ∷ p.rest) s;
      holder = c.requires.at.holder;
      previous = c.neighbour-previous.ensures ∙ previous_word b p.front mark p.rest s.links.chain;
      next = refl;
    }

pub returns : goal.returns
returns g c = record {
  list = λ holders h.
      let list = c.args.self.now in
      let b = g.C.Cells.blocks c.args.cells.now in
      let mark = c.args.mark.0 in
      let at = c.args.at.0 in
      let p = split_in list b mark c.requires.mark holders h in
      let s : StandsFor list b (p.front ++ mark ∷ p.rest) = subst (λ z. StandsFor list b z) p.whole h in
      Turned-same at (p.front ++ mark ∷ p.rest) holders b c.link.new.self (g.C.Cells.blocks c.link.new.cells)
      (p.front ++ at ∷ mark ∷ p.rest) (inserted_before mark at holders) (sym p.whole)
      (sym (inserted_before-split p.front mark p.rest at p.before) ∙ ap (inserted_before mark at) (sym p.whole))
      (c.link.ensures.change p.front (mark ∷ p.rest) s (apart_in list b at c.requires.at (p.front ++ mark ∷ p.rest) s)
      (c.neighbour-previous.ensures ∙ previous_word b p.front mark p.rest s.links.chain) refl);
  rest = c.link.ensures.rest;
}
