use Rattle.vc_base.proofs.Common.{Some, sym, ap, ◌∙◌}
use Rattle.vc_store.specs.Stores.AlikeLaws.{there-is}
use Rattle.vc_store.specs.Stores.Stores.{dict_at}
use Rattle.vc_store.proofs.ToldLayers.{bytes-told, has-body}
use Rattle.vc_store.proofs.stores.alike.AlikeLayers.object.Goals as goal

pub body-requires : goal.body-requires
body-requires g c =
    let s = c.args.self.now in
    let e = there-is (dict_at s.store c.args.d) c.requires.dict.there in
    has-body g.D.DictDisc.rules s.store s.like c.args.d c.requires.dict e.0 e.1 c.args.at.0 c.requires.place

pub returns : goal.returns
returns g c =
    let s = c.args.self.now in
    let e = there-is (dict_at s.store c.args.d) c.requires.dict.there in
    bytes-told g.D.DictDisc.rules s.store s.like c.args.d c.requires.dict e.0 e.1 c.args.at.0 c.requires.place ∙ ap Some (sym c.body.ensures)
