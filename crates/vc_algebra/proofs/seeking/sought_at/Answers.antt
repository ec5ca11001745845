use Rattle.vc_base.proofs.Common.{map, is_some, sym, refl, ap, ◌∙◌, subst, same_Some}
use Rattle.vc_best.specs.Cells as best
use Rattle.vc_region.specs.Cells.{cells_in}
use Rattle.vc_dict.specs.Listed.{holders_of}
use Rattle.vc_dict.specs.Stands.{Stands}
use Rattle.vc_paths.specs.Layers.{Layer}
use Rattle.vc_algebra.specs.RegionLaws.{dict-at, layer-is, layer_over_cells}
use Rattle.vc_algebra.specs.Sides.{CanAsk, sought_holder, sought_place}
use Rattle.vc_algebra.proofs.AtHolders.{place-stands}
use Rattle.vc_algebra.proofs.LookLemmas.{by-rules, left}
use Rattle.vc_algebra.proofs.ToldLemmas.{method-told, no-other}
use Rattle.vc_algebra.proofs.seeking.sought_at.Goals as goal

pub unreachable-requires : goal.unreachable-requires
unreachable-requires g c = no-other c.args.region.now c.requires.dict.best c.in_default.not-Best

pub dict_mut-dict-requires : goal.dict_mut-dict-requires
dict_mut-dict-requires g c = c.requires.dict.there

pub kind_of-kind-requires : goal.kind_of-kind-requires
kind_of-kind-requires g c =
    let kinds = map g.D.DictDisc.rules c.args.kinds.now.items in
    ap is_some (dict-at kinds (cells_in c.args.region.now) c.args.dicts.now c.args.d c.dict_mut-dict.result.now c.dict_mut-dict.ensures.dict c.requires.dict.dicts).kind

pub sought-requires-clause-dict : goal.sought-requires-clause-dict
sought-requires-clause-dict g c =
    let kinds = map g.D.DictDisc.rules c.args.kinds.now.items in
    let b = cells_in c.args.region.now in
    let v = c.dict_mut-dict.result.now in
    let rules = g.D.DictDisc.rules c.kind_of-kind.result.now in
    let is = dict-at kinds b c.args.dicts.now c.args.d v c.dict_mut-dict.ensures.dict c.requires.dict.dicts in
    let cells = best.cells_in c.in-Best.best in
    record {
      holders = holders_of v cells;
      stands = subst (λ z. Stands rules v z (holders_of v z)) (ap cells_in c.in-Best.is) (by-rules kinds b v rules c.kind_of-kind.ensures is);
    }

pub sought-requires-clause-side : goal.sought-requires-clause-side
sought-requires-clause-side g c =
    let kinds = map g.D.DictDisc.rules c.args.kinds.now.items in
    subst (CanAsk c.args.side) (sym (method-told kinds (cells_in c.args.region.now) c.args.dicts.now c.args.d c.requires.dict.dicts c.dict_mut-dict.result.now c.dict_mut-dict.ensures.dict)) c.requires.side

pub returns-clause-found : goal.returns-clause-found
returns-clause-found g c =
    let kinds = map g.D.DictDisc.rules c.args.kinds.now.items in
    let b = cells_in c.args.region.now in
    let v = c.dict_mut-dict.result.now in
    let key = c.args.key.now in
    let rules = g.D.DictDisc.rules c.kind_of-kind.result.now in
    let is = dict-at kinds b c.args.dicts.now c.args.d v c.dict_mut-dict.ensures.dict c.requires.dict.dicts in
    let cells = best.cells_in c.in-Best.best in
    let stands : Stands rules v cells (holders_of v cells) = subst (λ z. Stands rules v z (holders_of v z)) (ap cells_in c.in-Best.is) (by-rules kinds b v rules c.kind_of-kind.ensures is) in
    c.sought.ensures.found (holders_of v cells) stands
    ∙ ap (λ q. sought_holder c.args.side q cells key (holders_of v cells)) (same_Some rules is.rules (sym c.kind_of-kind.ensures ∙ is.kind))
    ∙ ap (λ z. sought_holder c.args.side is.rules z key (holders_of v z)) (sym (ap cells_in c.in-Best.is))
    ∙ sym (place-stands b c.args.side (layer_over_cells is.rules v b) key (holders_of v b) refl)
    ∙ ap (λ (l : Layer). sought_place c.args.side l key) (sym (layer-is kinds b c.args.dicts.now c.args.d v c.dict_mut-dict.ensures.dict is))

pub returns-clause-leaves : goal.returns-clause-leaves
returns-clause-leaves g c =
    let kinds = map g.D.DictDisc.rules c.args.kinds.now.items in
    let b = cells_in c.args.region.now in
    let v = c.dict_mut-dict.result.now in
    let rules = g.D.DictDisc.rules c.kind_of-kind.result.now in
    let is = dict-at kinds b c.args.dicts.now c.args.d v c.dict_mut-dict.ensures.dict c.requires.dict.dicts in
    let cells = best.cells_in c.in-Best.best in
    let stands : Stands rules v cells (holders_of v cells) = subst (λ z. Stands rules v z (holders_of v z)) (ap cells_in c.in-Best.is) (by-rules kinds b v rules c.kind_of-kind.ensures is) in
    left kinds c.args.region.now c.in-Best.best c.sought.new.cells c.in-Best.is c.args.dicts.now c.args.d v c.sought.new.dict rules c.dict_mut-dict.ensures.dict c.requires.dict.dicts c.kind_of-kind.ensures
    (c.sought.ensures.dict (holders_of v cells) stands) c.sought.ensures.rest
