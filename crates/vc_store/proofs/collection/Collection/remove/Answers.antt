use Rattle.vc_base.proofs.Common.{sym, subst}
use Rattle.vc_best.specs.Cells.{cells_in}
use Rattle.vc_objects.specs.Parts.{IsWhole}
use Rattle.vc_objects.proofs.Leaving.{keeps-out}
use Rattle.vc_store.proofs.collection.Collection.remove.Goals as goal

pub take-requires : goal.take-requires
take-requires g c = record { whole = c.requires.open.whole }

pub returns-clause-stays : goal.returns-clause-stays
returns-clause-stays g c = record {
  is_open = record {
    whole = subst (λ r. IsWhole r c.take.new.dict (cells_in c.take.new.best)) (sym c.take.ensures.rules) c.take.ensures.leaves.whole;
    lent = keeps-out _ _ _ _ c.take.ensures.leaves.rest.disc c.requires.open.lent;
  };
  rules = c.take.ensures.rules;
  method = c.take.ensures.method;
  lends = c.take.ensures.leaves.rest.disc;
}
