use Rattle.vc_base.proofs.Common.{map, set, is_some, sym, ap, subst, Discipline}
use Rattle.vc_region.specs.Cells.{cells_in}
use Rattle.vc_region.specs.declared.region.Region.TheVariants.{Best}
use Rattle.vc_algebra.specs.Filling.{CanFillIn, FillsDict}
use Rattle.vc_algebra.specs.RegionLaws.{dict-at}
use Rattle.vc_algebra.proofs.FillLemmas.{can-ask, can-filled, fills}
use Rattle.vc_algebra.proofs.ToldLemmas.{no-other}
use Rattle.vc_algebra.proofs.region_layers.RegionLayers.insert.Given.{Over}
use Rattle.vc_algebra.proofs.region_layers.RegionLayers.insert.Goals as goal

-- what a region's boxed discipline means
abbrev meaning : (g : Over) → (x : g.dyn-1.0.I) × (g.dyn-1.0.entry x).0.Denot → Discipline
meaning g p = (goal.SegDisc-dyn g p).state p.1

pub unreachable-requires : goal.unreachable-requires
unreachable-requires g c = no-other c.args.self.now.region c.requires.fill.best c.in_default.not-Best

pub dict_mut-dict-requires : goal.dict_mut-dict-requires
dict_mut-dict-requires g c = c.requires.there

pub kind_of-kind-requires : goal.kind_of-kind-requires
kind_of-kind-requires g c =
    let kinds = map g.D.DictDisc.rules c.args.self.now.kinds.items in
    ap is_some (dict-at kinds (cells_in c.args.self.now.region) c.args.self.now.dicts c.args.d c.dict_mut-dict.result.now c.dict_mut-dict.ensures.dict c.requires.fill.dicts).kind

pub put-requires-clause-ask : goal.put-requires-clause-ask
put-requires-clause-ask g c =
    let s = c.args.self.now in
    let kinds = map g.D.DictDisc.rules s.kinds.items in
    can-ask (meaning g) kinds c.in-Best.best s.dicts c.args.d c.dict_mut-dict.result.now (g.D.DictDisc.rules c.kind_of-kind.result.now) c.dict_mut-dict.ensures.dict
    (subst (λ r. CanFillIn (meaning g) kinds r s.dicts) c.in-Best.is c.requires.fill) c.kind_of-kind.ensures

pub returns-clause-fills : goal.returns-clause-fills
returns-clause-fills g c =
    let s = c.args.self.now in
    let kinds = map g.D.DictDisc.rules s.kinds.items in
    let v = c.dict_mut-dict.result.now in
    let b = c.in-Best.best in
    subst (λ r. FillsDict (meaning g) kinds c.put.result c.args.d c.args.object.now r (Best c.put.new.best) s.dicts (set s.dicts c.args.d c.put.new.dict)) (sym c.in-Best.is)
    (fills (meaning g) kinds b s.dicts c.args.d v (g.D.DictDisc.rules c.kind_of-kind.result.now) c.dict_mut-dict.ensures.dict
    (subst (λ r. CanFillIn (meaning g) kinds r s.dicts) c.in-Best.is c.requires.fill) c.kind_of-kind.ensures c.put.new.best c.put.new.dict c.put.ensures.leaves c.put.result c.args.object.now c.put.ensures.put)

pub returns-clause-fill : goal.returns-clause-fill
returns-clause-fill g c =
    let s = c.args.self.now in
    let kinds = map g.D.DictDisc.rules s.kinds.items in
    can-filled (meaning g) kinds c.in-Best.best s.dicts c.args.d c.dict_mut-dict.result.now (g.D.DictDisc.rules c.kind_of-kind.result.now) c.dict_mut-dict.ensures.dict
    (subst (λ r. CanFillIn (meaning g) kinds r s.dicts) c.in-Best.is c.requires.fill) c.kind_of-kind.ensures c.put.new.best c.put.new.dict c.put.ensures.leaves
