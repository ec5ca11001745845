use Rattle.vc_base.proofs.Common.{Some, sym, ap, ◌∙◌}
use Rattle.vc_store.proofs.Here.{current-block, current-none, current-some}
use Rattle.vc_store.proofs.stores.store.Store.current.Goals as goal

pub body-requires : goal.body-requires
body-requires g c =
    current-block (λ z. (goal.SegDisc-dyn g z).state z.1) g.D.DictDisc.rules c.args.self.now c.args.n c.requires.dict c.index.result.now c.in-Some.dict c.index.ensures c.in-Some.is (sym c.if-eq.ensures)

pub returns-then-eq : goal.returns-then-eq
returns-then-eq g c =
    current-none (λ z. (goal.SegDisc-dyn g z).state z.1) g.D.DictDisc.rules c.args.self.now c.args.n c.requires.dict c.index.result.now c.in-Some.dict c.index.ensures c.in-Some.is (sym c.if-eq.ensures)

pub returns-else-eq : goal.returns-else-eq
returns-else-eq g c =
    ap Some c.body.ensures
    ∙ current-some (λ z. (goal.SegDisc-dyn g z).state z.1) g.D.DictDisc.rules c.args.self.now c.args.n c.requires.dict c.index.result.now c.in-Some.dict c.index.ensures c.in-Some.is (sym c.if-eq.ensures)
