use Rattle.vc_base.proofs.Common.{sym, subst}
use Rattle.vc_store.specs.Stores.Alike.{Keeps}
use Rattle.vc_store_tests.proofs.alike.told.Goals as goal

pub returns : goal.returns
returns g c =
    let rules = g.D.DictDisc.rules in
    (c.into_store.ensures.stays c.args.store
    (subst (λ s. Keeps rules s c.into_store.result) c.of-alike.ensures.store
    (subst (λ t. Keeps rules c.of-alike.result.store t) (sym c.into_store.ensures.store) c.in_ok-asked.ensures)) c.requires.open).is_open
