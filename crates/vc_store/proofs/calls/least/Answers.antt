use Rattle.vc_base.proofs.Common.{find, option_map, sym, ap, ◌∙◌}
use Rattle.vc_dict.specs.Listed.{holders_of}
use Rattle.vc_dtdisc.specs.Finds.{object_at}
use Rattle.vc_dtdisc.specs.Objects.{address_of, bytes_of}
use Rattle.vc_base.proofs.Lists.{find-map}
use Rattle.vc_best.specs.Cells.{cells_in}
use Rattle.vc_objects.specs.Parts.{dictionary_in, object_of}
use Rattle.vc_objects.proofs.Looking.{Looks-became}
use Rattle.vc_objects.proofs.Mapped.{address-mapped}
use Rattle.vc_store.specs.Reading.{is_sought_from}
use Rattle.vc_store.proofs.Shown.{from-none, from-ordered}
use Rattle.vc_store.proofs.calls.least.Goals as goal

pub returns-then-is_ordered-clause-found : goal.returns-then-is_ordered-clause-found
returns-then-is_ordered-clause-found g c =
    let rules = g.D.DictDisc.rules c.args.kind.now in
    let b = cells_in c.args.best.now in
    let xs = holders_of c.args.dict.now b in
    (c.at_least.ensures.found xs c.requires.whole.stands).first
    ∙ (sym (from-ordered c.args.dict.now.method rules c.args.key.now (object_at b) xs (sym c.if-is_ordered.ensures))
    ∙ sym (ap (option_map address_of) (find-map (object_of b) (λ o. is_sought_from c.args.dict.now.method rules c.args.key.now o.bytes) xs)
    ∙ address-mapped b (find (λ at. is_sought_from c.args.dict.now.method rules c.args.key.now (object_at b at)) xs)))

pub returns-then-is_ordered-clause-looks : goal.returns-then-is_ordered-clause-looks
returns-then-is_ordered-clause-looks g c =
    let xs = holders_of c.args.dict.now (cells_in c.args.best.now) in
    Looks-became _ (g.D.DictDisc.rules c.args.kind.now) c.args.best.now c.at_least.new.cells c.args.dict.now c.at_least.new.self c.requires.whole
    (c.at_least.ensures.dict xs c.requires.whole.stands) c.at_least.ensures.rest

pub returns-else-is_ordered-clause-found : goal.returns-else-is_ordered-clause-found
returns-else-is_ordered-clause-found g c =
    sym (ap (option_map address_of) (from-none c.args.dict.now.method (g.D.DictDisc.rules c.args.kind.now) c.args.key.now bytes_of (dictionary_in c.args.dict.now c.args.best.now).objects
    (sym c.if-is_ordered.ensures)))
