use Rattle.vc_base.proofs.Common.{◌∙◌, subst}
use Rattle.vc_dict.specs.Listed.{holders_of}
use Rattle.vc_best.specs.Cells.{cells_in}
use Rattle.vc_store.specs.Stores.AlikeLaws.{method-there}
use Rattle.vc_algebra.specs.Sides.{CanAsk}
use Rattle.vc_store.specs.Stores.Stores.{dicts_of}
use Rattle.vc_store.proofs.Here.{below-there, read-there}
use Rattle.vc_store.proofs.Looked.{look-keeps}
use Rattle.vc_store.proofs.ToldLayers.{is-dict, kind-told, sought-told, stands-by}
use Rattle.vc_store.proofs.stores.alike.Alike.sought_at.Goals as goal

pub sought-requires-clause-dict : goal.sought-requires-clause-dict
sought-requires-clause-dict g c =
    let s = c.args.self.now in
    let has = c.requires.dict in
    let at = read-there (dicts_of s.store) c.args.d c.index_mut.result.now (below-there (dicts_of s.store) c.args.d has.there) c.index_mut.ensures.value ∙ c.in-Some.is in
    let same = kind-told g.D.DictDisc.rules s.store s.like c.args.d has c.index.result.now c.index.ensures in
    is-dict g.D.DictDisc.rules s.store s.like c.args.d has c.in-Some.dict at (g.D.DictDisc.rules c.index.result.now) same

pub sought-requires-clause-side : goal.sought-requires-clause-side
sought-requires-clause-side g c =
    let s = c.args.self.now in
    let has = c.requires.dict in
    let at = read-there (dicts_of s.store) c.args.d c.index_mut.result.now (below-there (dicts_of s.store) c.args.d has.there) c.index_mut.ensures.value ∙ c.in-Some.is in
    subst (CanAsk c.args.side) (method-there g.D.DictDisc.rules s.store s.like c.args.d has c.in-Some.dict at) c.requires.side

pub returns-clause-found : goal.returns-clause-found
returns-clause-found g c =
    let s = c.args.self.now in
    let has = c.requires.dict in
    let at = read-there (dicts_of s.store) c.args.d c.index_mut.result.now (below-there (dicts_of s.store) c.args.d has.there) c.index_mut.ensures.value ∙ c.in-Some.is in
    let same = kind-told g.D.DictDisc.rules s.store s.like c.args.d has c.index.result.now c.index.ensures in
    sought-told g.D.DictDisc.rules s.store s.like c.args.d has c.in-Some.dict at (g.D.DictDisc.rules c.index.result.now) same c.args.side c.args.key.now _ c.sought.ensures.found

pub returns-clause-keeps : goal.returns-clause-keeps
returns-clause-keeps g c =
    let s = c.args.self.now in
    let has = c.requires.dict in
    let at = read-there (dicts_of s.store) c.args.d c.index_mut.result.now (below-there (dicts_of s.store) c.args.d has.there) c.index_mut.ensures.value ∙ c.in-Some.is in
    let same = kind-told g.D.DictDisc.rules s.store s.like c.args.d has c.index.result.now c.index.ensures in
    let stands = stands-by g.D.DictDisc.rules s.store s.like c.args.d has c.in-Some.dict at (g.D.DictDisc.rules c.index.result.now) same in
    look-keeps g.D.DictDisc.rules s.store s.like c.args.d has c.index_mut.result.now c.in-Some.dict c.index.result.now c.index_mut.ensures.value c.in-Some.is c.index.ensures c.sought.new.cells c.sought.new.dict
    (c.sought.ensures.dict (holders_of c.in-Some.dict (cells_in s.store.best)) stands) c.sought.ensures.rest
