use Rattle.vc_base.proofs.Common.{◌≡◌, ◌∙◌, true, false, is_some, sym, refl, ap}
use Rattle.vc_dtdisc.specs.Shapes.{rules_of}
use Rattle.vc_store.specs.Collections.{contents}
use Rattle.vc_store.specs.Reading.{found}
use Rattle.cache.specs.Asking.{key_rules}
use Rattle.vc_base.proofs.Options.{none_of}
use Rattle.cache.proofs.Keys.{asks-hit, asks-new}
use Rattle.cache.proofs.ask.ask.Goals as goal

pub admit-requires-clause-new : goal.admit-requires-clause-new
admit-requires-clause-new g c =
    let key = c.args.key.now in
    let set = c.args.set.now in
    let keys = (contents set).objects in
    let missed : is_some (found (rules_of set.kind.shape) key keys) ≡ false = sym c.find.ensures.sought.there ∙ c.if-find.false in
    none_of (found key_rules key (contents c.args.queue.now).objects)
    (ap (λ ks. is_some (found key_rules key ks)) (sym c.requires.same)
    ∙ (ap (λ r. is_some (found r key keys)) (sym c.requires.set.rules) ∙ missed))

pub returns-then-find-clause-asks : goal.returns-then-find-clause-asks
returns-then-find-clause-asks g c =
    let key = c.args.key.now in
    let set = c.args.set.now in
    let keys = (contents set).objects in
    let old = (contents c.args.queue.now).objects in
    let hit : is_some (found (rules_of set.kind.shape) key keys) ≡ true = sym c.find.ensures.sought.there ∙ c.if-find.true in
    asks-hit key old old c.args.lines.now.items c.put_line.new.lines.items
    (ap (λ ks. is_some (found key_rules key ks)) (sym c.requires.same)
    ∙ (ap (λ r. is_some (found r key keys)) (sym c.requires.set.rules) ∙ hit))
    refl c.in_ok-put_line.ensures

pub returns-clause-asks : goal.returns-clause-asks
returns-clause-asks g c =
    let key = c.args.key.now in
    let set = c.args.set.now in
    let keys = (contents set).objects in
    let old = (contents c.args.queue.now).objects in
    let missed : is_some (found (rules_of set.kind.shape) key keys) ≡ false = sym c.find.ensures.sought.there ∙ c.if-find.false in
    asks-new c.in_ok-put.put key old (contents c.admit.new.queue).objects c.args.lines.now.items c.admit.new.lines.items c.put_line-2.new.lines.items
    (none_of (found key_rules key old)
    (ap (λ ks. is_some (found key_rules key ks)) (sym c.requires.same)
    ∙ (ap (λ r. is_some (found r key keys)) (sym c.requires.set.rules) ∙ missed)))
    (sym c.if-not-is_there.ensures) c.in_ok-put.ensures.admits c.in_ok-put_line-2.ensures
