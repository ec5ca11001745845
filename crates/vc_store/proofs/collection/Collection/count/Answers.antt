use Rattle.vc_base.proofs.Common.{sym, ◌∙◌, length-map}
use Rattle.vc_best.specs.Cells.{cells_in}
use Rattle.vc_dtdisc.specs.Objects.{bytes_of}
use Rattle.vc_objects.specs.Parts.{dictionary_in}
use Rattle.vc_objects.proofs.Remains.{counts-objects}
use Rattle.vc_store.proofs.collection.Collection.count.Goals as goal

pub returns : goal.returns
returns g c =
    let self = c.args.self.now in
    sym (counts-objects (g.D.DictDisc.rules self.kind) self.dict (cells_in self.best) c.requires.open.whole)
    ∙ sym (length-map (dictionary_in self.dict self.best).objects bytes_of)
