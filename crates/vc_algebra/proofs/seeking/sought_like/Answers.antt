use Rattle.vc_base.proofs.Common.{◌≡◌, ◌≤◌, Some, map, take, length, sym, ap, ◌∙◌, subst, same_Some, at_number}
use Rattle.vc_best.specs.Cells as best
use Rattle.vc_region.specs.Cells.{cells_in}
use Rattle.vc_dtdisc.specs.Rules.{Rules}
use Rattle.vc_algebra.specs.InRegion.{layers_of_region}
use Rattle.vc_algebra.specs.RegionLaws.{found-there}
use Rattle.vc_algebra.specs.Sides.{sought_place}
use Rattle.vc_algebra.proofs.ToldLemmas.{bytes-told, has-body, kind-known, kind-there, kind-told, object-within}
use Rattle.vc_algebra.proofs.seeking.sought_like.Goals as goal

pub dict_of-requires : goal.dict_of-requires
dict_of-requires g c = c.requires.dict.there

pub kind_of-kind-requires : goal.kind_of-kind-requires
kind_of-kind-requires g c =
    let kinds = map g.D.DictDisc.rules c.args.kinds.now.items in
    let b = cells_in c.args.region.now in
    let ds = c.args.dicts.now in
    kind-known kinds b ds c.args.d c.requires.dict.dicts c.requires.dict.there c.dict_of.result.now.kind
    (kind-told kinds b ds c.args.d c.requires.dict.dicts c.dict_of.result.now c.dict_of.ensures)

pub best_of-requires : goal.best_of-requires
best_of-requires g c = c.requires.dict.best

pub body-requires : goal.body-requires
body-requires g c =
    let kinds = map g.D.DictDisc.rules c.args.kinds.now.items in
    let b = cells_in c.args.region.now in
    let has = c.requires.there in
    let f = found-there kinds b c.args.dicts.now c.args.other.0 has.dicts has.there in
    has-body kinds b c.args.dicts.now c.args.other.0 has.dicts f.dict f.found (best.cells_in c.best_of.result.now) c.best_of.ensures c.args.other.1.0 c.requires.place

pub copied-length-requires : goal.copied-length-requires
copied-length-requires g c =
    let kinds = map g.D.DictDisc.rules c.args.kinds.now.items in
    let b = cells_in c.args.region.now in
    let has = c.requires.there in
    let f = found-there kinds b c.args.dicts.now c.args.other.0 has.dicts has.there in
    subst (λ z. length z ≤ 1024) (sym c.body.ensures)
    (object-within kinds b c.args.dicts.now c.args.other.0 has.dicts f.dict f.found (best.cells_in c.best_of.result.now) c.best_of.ensures c.args.other.1.0 c.requires.place)

pub sought_at-requires : goal.sought_at-requires
sought_at-requires g c = record { dict = c.requires.dict; side = c.requires.asked }

pub returns-clause-found : goal.returns-clause-found
returns-clause-found g c = λ bytes h.
    let kinds = map g.D.DictDisc.rules c.args.kinds.now.items in
    let b = cells_in c.args.region.now in
    let ds = c.args.dicts.now in
    let has = c.requires.there in
    let f = found-there kinds b ds c.args.other.0 has.dicts has.there in
    let its = layers_of_region kinds b ds c.args.d in
    let kind = kind-told kinds b ds c.args.d c.requires.dict.dicts c.dict_of.result.now c.dict_of.ensures in
    let rules = same_Some (g.D.DictDisc.rules c.kind_of-kind.result.now) its.rules
    (sym c.kind_of-kind.ensures ∙ ap (at_number kinds) kind ∙ kind-there kinds b ds c.args.d c.requires.dict.dicts c.requires.dict.there) in
    let told = bytes-told kinds b ds c.args.other.0 has.dicts f.dict f.found (best.cells_in c.best_of.result.now) c.best_of.ensures c.args.other.1.0 c.requires.place
    ∙ ap (λ z. Some z) (sym c.body.ensures) in
    let object = c.copied-length.ensures.copy ∙ same_Some c.body.result.now bytes (sym told ∙ h) in
    let key : c.key.result.now ≡ its.rules.key bytes = c.key.ensures ∙ ap (λ (r : Rules). r.key (take c.copied-length.result c.copied-length.new.out)) rules ∙ ap its.rules.key object in
    c.sought_at.ensures.found ∙ ap (sought_place c.args.side its) key
