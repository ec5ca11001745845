use Rattle.vc_dtdisc.specs.Objects.{has_key}
use Rattle.vc_store.proofs.Shown.{seen, seen-leaves}
use Rattle.vc_store.proofs.calls.seek.Goals as goal

pub returns-clause-sought : goal.returns-clause-sought
returns-clause-sought g c =
    let rules = g.D.DictDisc.rules c.args.kind.now in
    seen (λ z. (goal.SegDisc-dyn g z).state z.1) rules (has_key rules c.args.key.now) c.args.best.now c.find-at.new.best c.args.dict.now c.find-at.new.dict c.find-at.ensures.looks
    c.find-at.result c.find-at.ensures.found c.show.new.dict c.show.ensures.dict c.show.result c.show.ensures.there

pub returns-clause-leaves : goal.returns-clause-leaves
returns-clause-leaves g c =
    let rules = g.D.DictDisc.rules c.args.kind.now in
    seen-leaves (λ z. (goal.SegDisc-dyn g z).state z.1) rules (has_key rules c.args.key.now) c.args.best.now c.find-at.new.best c.args.dict.now c.find-at.new.dict c.find-at.ensures.looks
    c.find-at.result c.find-at.ensures.found c.show.new.dict c.show.ensures.dict
