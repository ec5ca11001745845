use Rattle.cache.proofs.Tables.{closed-keeps}
use Rattle.cache.proofs.ask.ask_keys.Goals as goal

pub returns-clause-set : goal.returns-clause-set
returns-clause-set g c = closed-keeps _ _ _ _ _ _ _ c.in-Ok.ensures.lends c.ask_each-told.ensures.stays.set.lends c.close-2.ensures.disc

pub returns-clause-queue : goal.returns-clause-queue
returns-clause-queue g c = closed-keeps _ _ _ _ _ _ _ c.in-Ok-open.ensures.lends c.ask_each-told.ensures.stays.queue.lends c.close-3.ensures.disc
