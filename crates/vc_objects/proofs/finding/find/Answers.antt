use Rattle.vc_base.proofs.Common.{option_map, sym, ap, ◌∙◌}
use Rattle.vc_dict.specs.Listed.{holders_of}
use Rattle.vc_dtdisc.specs.Finds.{find_key}
use Rattle.vc_dtdisc.specs.Objects.{address_of, bytes_of}
use Rattle.vc_dtdisc.proofs.ObjectsLemmas.{first_with-map}
use Rattle.vc_best.specs.Cells.{cells_in}
use Rattle.vc_objects.specs.Parts.{object_of}
use Rattle.vc_objects.proofs.Looking.{Looks-became}
use Rattle.vc_objects.proofs.Mapped.{address-mapped}
use Rattle.vc_objects.proofs.finding.find.Goals as goal

pub returns-clause-found : goal.returns-clause-found
returns-clause-found g c =
    let rules = g.D.DictDisc.rules c.args.kind.now in
    let b = cells_in c.args.best.now in
    let xs = holders_of c.args.dict.now b in
    (c.find.ensures.found xs c.requires.whole.stands).first
    ∙ sym (ap (option_map address_of) (first_with-map (object_of b) bytes_of rules c.args.key.now xs) ∙ address-mapped b (find_key rules b c.args.key.now xs))

pub returns-clause-looks : goal.returns-clause-looks
returns-clause-looks g c =
    let xs = holders_of c.args.dict.now (cells_in c.args.best.now) in
    Looks-became _ (g.D.DictDisc.rules c.args.kind.now) c.args.best.now c.find.new.cells c.args.dict.now c.find.new.self c.requires.whole
    (c.find.ensures.dict xs c.requires.whole.stands) c.find.ensures.rest
