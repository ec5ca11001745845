use Rattle.vc_store.specs.Reading.{is_sought_from}
use Rattle.vc_store.proofs.Shown.{seen, seen-leaves}
use Rattle.vc_store.proofs.calls.seek_from.Goals as goal

pub returns-clause-sought : goal.returns-clause-sought
returns-clause-sought g c =
    let rules = g.D.DictDisc.rules c.args.kind.now in
    seen (λ z. (goal.SegDisc-dyn g z).state z.1) rules (is_sought_from c.args.dict.now.method rules c.args.key.now) c.args.best.now c.least-at.new.best c.args.dict.now c.least-at.new.dict c.least-at.ensures.looks
    c.least-at.result c.least-at.ensures.found c.show.new.dict c.show.ensures.dict c.show.result c.show.ensures.there

pub returns-clause-leaves : goal.returns-clause-leaves
returns-clause-leaves g c =
    let rules = g.D.DictDisc.rules c.args.kind.now in
    seen-leaves (λ z. (goal.SegDisc-dyn g z).state z.1) rules (is_sought_from c.args.dict.now.method rules c.args.key.now) c.args.best.now c.least-at.new.best c.args.dict.now c.least-at.new.dict c.least-at.ensures.looks
    c.least-at.result c.least-at.ensures.found c.show.new.dict c.show.ensures.dict
