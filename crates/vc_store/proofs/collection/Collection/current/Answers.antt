use Rattle.vc_base.proofs.Common.{◌≡◌, Some, sym, ap, ◌∙◌, true, contains}
use Rattle.vc_best.specs.Cells.{cells_in}
use Rattle.vc_dict.specs.Listed.{holders_of}
use Rattle.vc_store.proofs.Shown.{current-there, pointed-shown, within-rest}
use Rattle.vc_store.proofs.collection.Collection.current.Goals as goal

pub body-requires : goal.body-requires
body-requires g c =
    let self = c.args.self.now in
    let whole = c.requires.open.whole in
    current-there (g.D.DictDisc.rules self.kind) self.dict (cells_in self.best) whole
    (within-rest self.dict.current.0 (holders_of self.dict (cells_in self.best)) (sym c.if-eq.ensures) whole.current)

pub returns-else-eq : goal.returns-else-eq
returns-else-eq g c =
    let self = c.args.self.now in
    let whole = c.requires.open.whole in
    let within : contains (holders_of self.dict (cells_in self.best)) self.dict.current.0 ≡ true =
    within-rest self.dict.current.0 (holders_of self.dict (cells_in self.best)) (sym c.if-eq.ensures) whole.current in
    ap Some c.body.ensures ∙ sym (pointed-shown (g.D.DictDisc.rules self.kind) self.dict (cells_in self.best) self.dict.current whole within)
