use Rattle.vc_base.proofs.Common.{◌≡◌, ◌∙◌, true, false, sym, ap, rules}
use Rattle.vc_model.specs.Discipline.{Discipline}
use Rattle.vc_store.specs.Answers.{is_there}
use Rattle.vc_store.specs.Collections.{contents}
use Rattle.cache.proofs.Keys.{drops-false, drops-true, going-on, puts-not}
use Rattle.cache.proofs.Tables.{table-trans}
use Rattle.cache.proofs.table.admit.Given.{Over}
use Rattle.cache.proofs.table.admit.Goals as goal

-- what a region's boxed discipline means
abbrev meaning : (g : Over) → (x : g.dyn-1.0.I) × (g.dyn-1.0.entry x).0.Denot → Discipline
meaning g p = (goal.SegDisc-dyn g p).state p.1

pub returns-then-not-branch-clause-admits : goal.returns-then-not-branch-clause-admits
returns-then-not-branch-clause-admits g c =
    let going = c.loop-put.invariant.going in
    let key = c.args.key.now in
    let now = (contents c.loop-put.queue).objects in
    let mid = (contents c.put_both.new.queue).objects in
    let next = (contents c.drop_oldest.new.queue).objects in
    let kept : mid ≡ now = puts-not c.in_ok-put.put key now mid (ap is_there c.in-NoSegment.is) c.in_ok-put.ensures.puts in
    let is : c.in_ok-drop_oldest.field-0 ≡ false = search rules in
    let none = drops-false c.in_ok-drop_oldest.field-0 mid next c.loop-put.lines.items c.drop_oldest.new.lines.items is c.in_ok-drop_oldest.ensures.drops in
    (going.gone, none.1 ∙ (kept ∙ going.keys), none.2 ∙ going.lines)

pub loop-put-preserved : goal.loop-put-preserved
loop-put-preserved g c =
    let inv = c.loop-put.invariant in
    let key = c.args.key.now in
    let old = (contents c.args.queue.now).objects in
    let now = (contents c.loop-put.queue).objects in
    let mid = (contents c.put_both.new.queue).objects in
    let next = (contents c.drop_oldest.new.queue).objects in
    let kept : mid ≡ now = puts-not c.in_ok-put.put key now mid (ap is_there c.in-NoSegment.is) c.in_ok-put.ensures.puts in
    let is : c.in_ok-drop_oldest.field-0 ≡ true = search rules in
    let went = drops-true c.in_ok-drop_oldest.field-0 mid next c.loop-put.lines.items c.drop_oldest.new.lines.items is c.in_ok-drop_oldest.ensures.drops in
    record {
      going = going-on key old now next c.args.lines.now.items c.loop-put.lines.items c.drop_oldest.new.lines.items went.0 inv.going (sym kept ∙ went.1) went.2;
      same = c.in_ok-drop_oldest.ensures.same;
      stays =
          table-trans (meaning g) c.args.set.now c.args.queue.now c.put_both.new.set c.put_both.new.queue c.drop_oldest.new.set c.drop_oldest.new.queue
          (table-trans (meaning g) c.args.set.now c.args.queue.now c.loop-put.set c.loop-put.queue c.put_both.new.set c.put_both.new.queue inv.stays c.put_both.ensures.stays)
          c.drop_oldest.ensures.stays;
    }
