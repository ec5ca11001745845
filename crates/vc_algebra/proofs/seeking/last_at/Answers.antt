use Rattle.vc_base.proofs.Common.{◌≡◌, map, is_some, Some, sym, refl, ap, ◌∙◌, subst, same_Some}
use Rattle.vc_best.specs.Cells as best
use Rattle.vc_region.specs.Cells.{cells_in}
use Rattle.vc_dict.specs.Listed.{holders_of}
use Rattle.vc_dict.specs.Stands.{Stands}
use Rattle.vc_paths.specs.Layers.{Layer, bytes_there}
use Rattle.vc_algebra.specs.RegionLaws.{dict-at, layer-is, layer_over_cells}
use Rattle.vc_algebra.specs.Sides.{holder_like, last_place_like}
use Rattle.vc_algebra.proofs.AtHolders.{last-stands}
use Rattle.vc_algebra.proofs.LookLemmas.{by-rules, left}
use Rattle.vc_algebra.proofs.ToldLemmas.{no-other, within}
use Rattle.vc_algebra.proofs.seeking.last_at.Goals as goal

pub unreachable-requires : goal.unreachable-requires
unreachable-requires g c = no-other c.args.region.now c.requires.dict.best c.in_default.not-Best

pub dict_mut-dict-requires : goal.dict_mut-dict-requires
dict_mut-dict-requires g c = c.requires.dict.there

pub kind_of-kind-requires : goal.kind_of-kind-requires
kind_of-kind-requires g c =
    let kinds = map g.D.DictDisc.rules c.args.kinds.now.items in
    ap is_some (dict-at kinds (cells_in c.args.region.now) c.args.dicts.now c.args.d c.dict_mut-dict.result.now c.dict_mut-dict.ensures.dict c.requires.dict.dicts).kind

pub last_like-requires : goal.last_like-requires
last_like-requires g c =
    let kinds = map g.D.DictDisc.rules c.args.kinds.now.items in
    let b = cells_in c.args.region.now in
    let v = c.dict_mut-dict.result.now in
    let rules = g.D.DictDisc.rules c.kind_of-kind.result.now in
    let is = dict-at kinds b c.args.dicts.now c.args.d v c.dict_mut-dict.ensures.dict c.requires.dict.dicts in
    let cells = best.cells_in c.in-Best.best in
    record {
      holders = holders_of v cells;
      stands = subst (λ z. Stands rules v z (holders_of v z)) (ap cells_in c.in-Best.is) (by-rules kinds b v rules c.kind_of-kind.ensures is);
      within = within kinds b c.args.dicts.now c.args.d c.requires.dict.dicts v c.dict_mut-dict.ensures.dict cells (sym (ap cells_in c.in-Best.is)) c.args.at.0 c.requires.place;
    }

pub returns-clause-found : goal.returns-clause-found
returns-clause-found g c = λ bytes h.
    let kinds = map g.D.DictDisc.rules c.args.kinds.now.items in
    let b = cells_in c.args.region.now in
    let v = c.dict_mut-dict.result.now in
    let at = c.args.at.0 in
    let rules = g.D.DictDisc.rules c.kind_of-kind.result.now in
    let is = dict-at kinds b c.args.dicts.now c.args.d v c.dict_mut-dict.ensures.dict c.requires.dict.dicts in
    let cells = best.cells_in c.in-Best.best in
    let layer = layer-is kinds b c.args.dicts.now c.args.d v c.dict_mut-dict.ensures.dict is in
    let stands : Stands rules v cells (holders_of v cells) = subst (λ z. Stands rules v z (holders_of v z)) (ap cells_in c.in-Best.is) (by-rules kinds b v rules c.kind_of-kind.ensures is) in
    let there : bytes_there at (layer_over_cells is.rules v b).objects ≡ Some bytes = subst (λ (l : Layer). bytes_there at l.objects ≡ Some bytes) layer h in
    (c.last_like.ensures.found (holders_of v cells) stands).last
    ∙ ap (λ q. holder_like q cells at (holders_of v cells)) (same_Some rules is.rules (sym c.kind_of-kind.ensures ∙ is.kind))
    ∙ ap (λ z. holder_like is.rules z at (holders_of v z)) (sym (ap cells_in c.in-Best.is))
    ∙ sym (last-stands b at (layer_over_cells is.rules v b) bytes (holders_of v b) refl there)
    ∙ ap (λ (l : Layer). last_place_like l bytes) (sym layer)

pub returns-clause-leaves : goal.returns-clause-leaves
returns-clause-leaves g c =
    let kinds = map g.D.DictDisc.rules c.args.kinds.now.items in
    let b = cells_in c.args.region.now in
    let v = c.dict_mut-dict.result.now in
    let rules = g.D.DictDisc.rules c.kind_of-kind.result.now in
    let is = dict-at kinds b c.args.dicts.now c.args.d v c.dict_mut-dict.ensures.dict c.requires.dict.dicts in
    let cells = best.cells_in c.in-Best.best in
    let stands : Stands rules v cells (holders_of v cells) = subst (λ z. Stands rules v z (holders_of v z)) (ap cells_in c.in-Best.is) (by-rules kinds b v rules c.kind_of-kind.ensures is) in
    left kinds c.args.region.now c.in-Best.best c.last_like.new.cells c.in-Best.is c.args.dicts.now c.args.d v c.last_like.new.self rules c.dict_mut-dict.ensures.dict c.requires.dict.dicts c.kind_of-kind.ensures
    (c.last_like.ensures.dict (holders_of v cells) stands) c.last_like.ensures.rest
