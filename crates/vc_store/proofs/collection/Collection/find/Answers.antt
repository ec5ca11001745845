use Rattle.vc_base.proofs.Common.{refl, ap}
use Rattle.vc_objects.proofs.Leaving.{keeps-out}
use Rattle.vc_store.specs.Reading.{Contents}
use Rattle.vc_store.proofs.collection.Collection.find.Goals as goal

pub seek-requires : goal.seek-requires
seek-requires g c = record { whole = c.requires.open.whole }

pub returns-clause-keeps : goal.returns-clause-keeps
returns-clause-keeps g c = record {
  kind = refl;
  stays = record {
    is_open = record {
      whole = c.seek.ensures.leaves.whole;
      lent = keeps-out _ _ _ _ c.seek.ensures.leaves.rest.disc c.requires.open.lent;
    };
    rules = refl;
    method = ap (λ (d : Contents). d.method) c.seek.ensures.sought.same;
    lends = c.seek.ensures.leaves.rest.disc;
  };
}
