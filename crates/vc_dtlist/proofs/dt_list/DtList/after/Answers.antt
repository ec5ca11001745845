use Rattle.vc_base.proofs.Common.{[], ◌∷◌, ◌++◌, sym, ap, ◌∙◌, subst, append_assoc}
use Rattle.vc_base.specs.Holders.{inserted_after}
use Rattle.vc_dtlist.specs.Linked.{StandsFor}
use Rattle.vc_dtlist.proofs.HolderLemmas.{inserted_after-split, last_of-append, split}
use Rattle.vc_dtlist.proofs.TurnLemmas.{Turned-same, apart_in, at_in, next_word, split_in}
use Rattle.vc_dtlist.proofs.dt_list.DtList.after.Goals as goal

pub neighbour-next-requires-clause-holder : goal.neighbour-next-requires-clause-holder
neighbour-next-requires-clause-holder g c = (at_in c.args.self.now (g.C.Cells.blocks c.args.cells.now) c.args.mark.0 c.requires.mark).words

pub neighbour-next-requires-clause-fits : goal.neighbour-next-requires-clause-fits
neighbour-next-requires-clause-fits g c = (at_in c.args.self.now (g.C.Cells.blocks c.args.cells.now) c.args.mark.0 c.requires.mark).next_fits

pub link-requires : goal.link-requires
link-requires g c =
    let list = c.args.self.now in
    let b = g.C.Cells.blocks c.args.cells.now in
    let mark = c.args.mark.0 in
    let m = c.requires.mark in
    let p = split m.holders mark m.within in
    let one : StandsFor list b (p.front ++ mark ∷ p.rest) = subst (λ z. StandsFor list b z) p.whole m.stands in
    let s : StandsFor list b ((p.front ++ mark ∷ []) ++ p.rest) = subst (λ z. StandsFor list b z) (sym (append_assoc p.front (mark ∷ []) p.rest)) one in
    record {
      front = p.front ++ mark ∷ [];
      rest = p.rest;
      links = s.links;
      apart = apart_in list b c.args.at.0 c.requires.at ((p.front ++ mark ∷ []) ++ p.rest) s;
      holder = c.requires.at.holder;
      previous = sym (last_of-append 0 p.front (mark ∷ []));
      next = c.neighbour-next.ensures ∙ next_word b p.front mark p.rest one.links.chain;
    }

pub returns : goal.returns
returns g c = record {
  list = λ holders h.
      let list = c.args.self.now in
      let b = g.C.Cells.blocks c.args.cells.now in
      let mark = c.args.mark.0 in
      let at = c.args.at.0 in
      let p = split_in list b mark c.requires.mark holders h in
      let one : StandsFor list b (p.front ++ mark ∷ p.rest) = subst (λ z. StandsFor list b z) p.whole h in
      let e = append_assoc p.front (mark ∷ []) p.rest in
      let s : StandsFor list b ((p.front ++ mark ∷ []) ++ p.rest) = subst (λ z. StandsFor list b z) (sym e) one in
      Turned-same at ((p.front ++ mark ∷ []) ++ p.rest) holders b c.link.new.self (g.C.Cells.blocks c.link.new.cells)
      ((p.front ++ mark ∷ []) ++ at ∷ p.rest) (inserted_after mark at holders) (e ∙ sym p.whole)
      (append_assoc p.front (mark ∷ []) (at ∷ p.rest) ∙ sym (inserted_after-split p.front mark p.rest at p.before) ∙ ap (inserted_after mark at) (sym p.whole))
      (c.link.ensures.change (p.front ++ mark ∷ []) p.rest s (apart_in list b at c.requires.at ((p.front ++ mark ∷ []) ++ p.rest) s)
      (sym (last_of-append 0 p.front (mark ∷ []))) (c.neighbour-next.ensures ∙ next_word b p.front mark p.rest one.links.chain));
  rest = c.link.ensures.rest;
}
