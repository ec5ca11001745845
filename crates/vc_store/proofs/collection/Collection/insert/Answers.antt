use Rattle.vc_base.proofs.Common.{refl}
use Rattle.vc_objects.proofs.Leaving.{keeps-out}
use Rattle.vc_store.proofs.collection.Collection.insert.Goals as goal

pub put-requires : goal.put-requires
put-requires g c = record { ask = record { whole = c.requires.open.whole; lent = c.requires.open.lent } }

pub returns-clause-keeps : goal.returns-clause-keeps
returns-clause-keeps g c = record {
  kind = refl;
  stays = record {
    is_open = record {
      whole = c.put.ensures.leaves.whole;
      lent = keeps-out _ _ _ _ c.put.ensures.leaves.rest.disc c.requires.open.lent;
    };
    rules = refl;
    method = c.put.ensures.method;
    lends = c.put.ensures.leaves.rest.disc;
  };
}
