use Rattle.vc_base.proofs.Common.{sym, ◌∙◌, subst}
use Rattle.vc_objects.specs.Promises.{Brings}
use Rattle.vc_objects.proofs.Bringing.{allowed-between}
use Rattle.vc_objects.proofs.Brought.{brings-none}
use Rattle.vc_objects.proofs.turning.bring.Goals as goal

pub bring_some-requires : goal.bring_some-requires
bring_some-requires g c = record {
  allowed = allowed-between c.args.dict.now.method c.args.method c.args.dict.now.count c.in-Some.slots (sym c.table_for.ensures ∙ c.in-Some.is);
  lent = c.requires.lent;
}

pub returns-in-None : goal.returns-in-None
returns-in-None g c = record { brings = brings-none _ c.args.best.now _ (sym c.table_for.ensures ∙ c.in-None.is) }

pub returns-in-Some : goal.returns-in-Some
returns-in-Some g c =
    record {
      brings =
          subst (λ wanted. Brings (λ z. (goal.SegDisc-dyn g z).state z.1) c.bring_some.result wanted c.args.best.now c.bring_some.new.best)
          (sym (sym c.table_for.ensures ∙ c.in-Some.is)) c.bring_some.ensures.brings;
    }
