use Rattle.vc_base.proofs.Common.{map, string_bytes, take, sym, subst}
use Rattle.vc_model.specs.Discipline.{Discipline}
use Rattle.vc_store.specs.Collections.{contents}
use Rattle.cache.proofs.Keys.{AskedSo, asked-more, blamed, map-more}
use Rattle.cache.specs.Blaming.{Blames}
use Rattle.cache.proofs.Tables.{table-trans}
use Rattle.cache.proofs.ask.ask_each.Given.{Over}
use Rattle.cache.proofs.ask.ask_each.Goals as goal

-- what a region's boxed discipline means
abbrev meaning : (g : Over) → (x : g.dyn-1.0.I) × (g.dyn-1.0.entry x).0.Denot → Discipline
meaning g p = (goal.SegDisc-dyn g p).state p.1

pub loop-key-preserved : goal.loop-key-preserved
loop-key-preserved g c =
    let inv = c.loop-key.invariant in
    let keys = c.args.keys.now in
    let i = c.loop-key.key-index in
    let old = (contents c.loop-key.queue).objects in
    let new = (contents c.ask.new.queue).objects in
    record {
      asked =
          subst (λ ks. AskedSo ks new c.ask.new.lines.items) (map-more string_bytes keys i c.key-item.result c.as_bytes.result.now c.loop-key-test.true c.key-item.is c.as_bytes.ensures.value)
          (asked-more (map string_bytes (take i keys)) c.in-Ok.put c.as_bytes.result.now old new c.loop-key.lines.items c.ask.new.lines.items (sym c.if-not-is_there.ensures) inv.asked c.in-Ok.ensures.asks);
      same = c.in-Ok.ensures.same;
      stays = table-trans (meaning g) c.args.set.now c.args.queue.now c.loop-key.set c.loop-key.queue c.ask.new.set c.ask.new.queue inv.stays c.ask.ensures.stays;
    }

pub returns-then-not-is_there-clause-blames : goal.returns-then-not-is_there-clause-blames
returns-then-not-is_there-clause-blames g c =
    subst (Blames (map string_bytes c.args.keys.now)) (sym c.fault_of.ensures)
    (blamed string_bytes c.args.keys.now c.loop-key.key-index c.key-item.result c.in-Ok.put c.as_bytes.result.now c.loop-key-test.true c.key-item.is c.as_bytes.ensures.value c.in-Ok.ensures.size)
