use Rattle.vc_base.proofs.Common.{ℕ, ap}
use Rattle.vc_model.specs.Layout.{Layout}
use Rattle.cache.proofs.Tables.{out-with}
use Rattle.cache.proofs.main.Goals as goal

pub ask_keys-told-requires-clause-set : goal.ask_keys-told-requires-clause-set
ask_keys-told-requires-clause-set c =
    (_, out-with _ _ (ap (λ (l : Layout ℕ). l.segments) c.in-Ok-open.ensures.ok.0))

pub ask_keys-told-requires-clause-queue : goal.ask_keys-told-requires-clause-queue
ask_keys-told-requires-clause-queue c =
    (_, out-with _ _ (ap (λ (l : Layout ℕ). l.segments) c.in-Ok-open-2.ensures.ok.0))
