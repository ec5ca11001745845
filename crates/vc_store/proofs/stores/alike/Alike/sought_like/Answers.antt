use Rattle.vc_base.proofs.Common.{◌≡◌, ◌≤◌, take, length, sym, ap, ◌∙◌, subst, same_Some}
use Rattle.vc_dtdisc.specs.Rules.{Rules}
use Rattle.vc_store.specs.Stores.Alike.{layers_of}
use Rattle.vc_store.specs.Stores.AlikeLaws.{there-is}
use Rattle.vc_algebra.specs.Sides.{sought_place}
use Rattle.vc_store.specs.Stores.Stores.{dict_at, rules_at}
use Rattle.vc_store.proofs.ToldLayers.{bytes-told, object-within}
use Rattle.vc_store.proofs.stores.alike.Alike.sought_like.Goals as goal

pub copied-length-requires : goal.copied-length-requires
copied-length-requires g c =
    let s = c.args.self.now in
    let e = there-is (dict_at s.store c.args.other.0) c.requires.there.there in
    let told = bytes-told g.D.DictDisc.rules s.store s.like c.args.other.0 c.requires.there e.0 e.1 c.args.other.1.0 c.requires.place in
    subst (λ z. length z ≤ 1024) (same_Some _ c.object.result.now (sym told ∙ c.object.ensures))
    (object-within g.D.DictDisc.rules s.store s.like c.args.other.0 c.requires.there e.0 e.1 c.args.other.1.0 c.requires.place)

pub returns-clause-found : goal.returns-clause-found
returns-clause-found g c = λ bytes h.
    let s = c.args.self.now in
    let its = layers_of g.D.DictDisc.rules s.store s.like c.args.d in
    let object = c.copied-length.ensures.copy ∙ same_Some c.object.result.now bytes (sym c.object.ensures ∙ h) in
    let key : c.key-key.result.now ≡ (rules_at g.D.DictDisc.rules s.store s.like).key bytes =
    c.key-key.ensures
    ∙ ap (λ (r : Rules). r.key (take c.copied-length.result c.copied-length.new.out)) c.kind_of.ensures
    ∙ ap (rules_at g.D.DictDisc.rules s.store s.like).key object in
    c.sought_at.ensures.found ∙ ap (sought_place c.args.side its) key
