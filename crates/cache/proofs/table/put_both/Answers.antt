use Rattle.vc_base.proofs.Common.{[], ◌∷◌, ◌++◌, sym, refl, ap, ◌∙◌}
use Rattle.vc_base.specs.declared.dict_method.DictMethod.TheVariants.{DtSet, DtQueue}
use Rattle.vc_store.specs.Collections.{contents}
use Rattle.vc_store.specs.Reading.{found, without_key}
use Rattle.cache.specs.Asking.{key_rules}
use Rattle.cache.proofs.Keys.{are-not, are-there, last-gone, puts-in, puts-not, puts-there}
use Rattle.cache.proofs.table.put_both.Goals as goal

pub returns-then-is_there-clause-same : goal.returns-then-is_there-clause-same
returns-then-is_there-clause-same g c =
    let key = c.args.key.now in
    let old = (contents c.args.queue.now).objects in
    let same = c.requires.table.same in
    let queued = puts-in DtQueue c.insert-queued.result _ key (contents c.args.queue.now) (contents c.insert-queued.new.self).objects c.requires.table.queue.rules c.requires.table.queue.by_method refl c.requires.new c.insert-queued.ensures.objects in
    let put = puts-in DtSet c.insert-put.result _ key (contents c.args.set.now) (contents c.insert-put.new.self).objects c.requires.table.set.rules c.requires.table.set.by_method refl (ap (found key_rules key) same ∙ c.requires.new) c.insert-put.ensures.objects in
    puts-there c.insert-put.result key (contents c.args.set.now).objects (contents c.insert-put.new.self).objects (sym c.if-is_there.ensures) put
    ∙ (ap (λ ks. ks ++ key ∷ []) same
    ∙ sym (puts-there c.insert-queued.result key old (contents c.insert-queued.new.self).objects (sym c.if-not-is_there.ensures) queued))

pub returns-then-is_there-clause-puts : goal.returns-then-is_there-clause-puts
returns-then-is_there-clause-puts g c =
    let key = c.args.key.now in
    let old = (contents c.args.queue.now).objects in
    let queued = puts-in DtQueue c.insert-queued.result _ key (contents c.args.queue.now) (contents c.insert-queued.new.self).objects c.requires.table.queue.rules c.requires.table.queue.by_method refl c.requires.new c.insert-queued.ensures.objects in
    are-there c.insert-put.result key old (contents c.insert-queued.new.self).objects (sym c.if-is_there.ensures)
    (puts-there c.insert-queued.result key old (contents c.insert-queued.new.self).objects (sym c.if-not-is_there.ensures) queued)

pub returns-clause-puts : goal.returns-clause-puts
returns-clause-puts g c =
    let key = c.args.key.now in
    let old = (contents c.args.queue.now).objects in
    let queued = puts-in DtQueue c.insert-queued.result _ key (contents c.args.queue.now) (contents c.insert-queued.new.self).objects c.requires.table.queue.rules c.requires.table.queue.by_method refl c.requires.new c.insert-queued.ensures.objects in
    let last = puts-there c.insert-queued.result key old (contents c.insert-queued.new.self).objects (sym c.if-not-is_there.ensures) queued in
    are-not c.insert-put.result key old (contents c.remove.new.self).objects (sym c.if-is_there.ensures)
    (c.in_ok-remove.ensures.removes.lacks.objects
    ∙ (ap (λ r. without_key r key (contents c.insert-queued.new.self).objects) (c.insert-queued.ensures.keeps.stays.rules ∙ c.requires.table.queue.rules)
    ∙ (ap (without_key key_rules key) last ∙ last-gone key old c.requires.new)))

pub returns-clause-same : goal.returns-clause-same
returns-clause-same g c =
    let key = c.args.key.now in
    let old = (contents c.args.queue.now).objects in
    let same = c.requires.table.same in
    let queued = puts-in DtQueue c.insert-queued.result _ key (contents c.args.queue.now) (contents c.insert-queued.new.self).objects c.requires.table.queue.rules c.requires.table.queue.by_method refl c.requires.new c.insert-queued.ensures.objects in
    let last = puts-there c.insert-queued.result key old (contents c.insert-queued.new.self).objects (sym c.if-not-is_there.ensures) queued in
    let put = puts-in DtSet c.insert-put.result _ key (contents c.args.set.now) (contents c.insert-put.new.self).objects c.requires.table.set.rules c.requires.table.set.by_method refl (ap (found key_rules key) same ∙ c.requires.new) c.insert-put.ensures.objects in
    puts-not c.insert-put.result key (contents c.args.set.now).objects (contents c.insert-put.new.self).objects (sym c.if-is_there.ensures) put
    ∙ (same
    ∙ sym (c.in_ok-remove.ensures.removes.lacks.objects
    ∙ (ap (λ r. without_key r key (contents c.insert-queued.new.self).objects) (c.insert-queued.ensures.keeps.stays.rules ∙ c.requires.table.queue.rules)
    ∙ (ap (without_key key_rules key) last ∙ last-gone key old c.requires.new))))
