use Rattle.vc_base.proofs.Common.{sym, ap, ◌∙◌, subst, length-map}
use Rattle.vc_best.specs.Cells.{cells_in}
use Rattle.vc_dtdisc.specs.Objects.{bytes_of}
use Rattle.vc_objects.specs.Objects.{Dictionary}
use Rattle.vc_objects.specs.Parts.{IsWhole, dictionary_in}
use Rattle.vc_objects.proofs.Leaving.{keeps-out}
use Rattle.vc_store.specs.Contents.{contents_of}
use Rattle.vc_store.proofs.collection.Collection.empty.Goals as goal

pub empty-requires : goal.empty-requires
empty-requires g c = record { whole = c.requires.open.whole }

pub returns-clause-count : goal.returns-clause-count
returns-clause-count g c =
    let self = c.args.self.now in
    c.empty.ensures.count ∙ sym (length-map (dictionary_in self.dict self.best).objects bytes_of)

pub returns-clause-empty : goal.returns-clause-empty
returns-clause-empty g c = ap contents_of c.empty.ensures.empties.dict

pub returns-clause-stays : goal.returns-clause-stays
returns-clause-stays g c = record {
  is_open = record {
    whole = subst (λ r. IsWhole r c.empty.new.dict (cells_in c.empty.new.best)) (sym c.empty.ensures.empties.kind) c.empty.ensures.empties.leaves.whole;
    lent = keeps-out _ _ _ _ c.empty.ensures.empties.leaves.rest.disc c.requires.open.lent;
  };
  rules = c.empty.ensures.empties.kind;
  method = ap (λ (d : Dictionary). d.method) c.empty.ensures.empties.dict;
  lends = c.empty.ensures.empties.leaves.rest.disc;
}
