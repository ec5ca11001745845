use Rattle.vc_base.proofs.Common.{◌≡◌, ◌++◌, ◌<◌, List, ℕ, Some, length, sym, ap, ◌∙◌, subst, append-nil, append_assoc}
use Rattle.vc_model.specs.Discipline.{Discipline}
use Rattle.vc_store.specs.Collections.{contents}
use Rattle.vc_store.specs.Reading.{Contents, next_place, object_at_index}
use Rattle.words.specs.Counting.{count_line}
use Rattle.words.proofs.Kept.{set-on, set-stays}
use Rattle.words.proofs.Lines.{left-next, left_of, lines-first, lines-last, lines-next, lines_before}
use Rattle.words.proofs.count.put_lines.Given.{Over}
use Rattle.words.proofs.count.put_lines.Goals as goal

-- what a region's boxed discipline means
abbrev meaning : (g : Over) → (x : g.dyn-1.0.I) × (g.dyn-1.0.entry x).0.Denot → Discipline
meaning g p = (goal.SegDisc-dyn g p).state p.1

pub loop-object-init : goal.loop-object-init
loop-object-init g c =
    let objects = (contents c.args.set.now).objects in
    record {
      objects = ap (λ (d : Contents). d.objects) c.first.ensures.goes.moved;
      put =
          sym (ap (λ xs. c.args.lines.now.items ++ xs) (ap (λ (d : Contents). lines_before d.place objects) c.first.ensures.goes.moved ∙ lines-first objects)
          ∙ append-nil c.args.lines.now.items);
      stays = set-stays (meaning g) c.args.set.now c.first.new.self c.requires c.first.ensures.keeps.stays;
    }

pub loop-object-preserved : goal.loop-object-preserved
loop-object-preserved g c =
    let inv = c.loop-object.invariant in
    let first = (contents c.args.set.now).objects in
    let here = (contents c.loop-object.set).place in
    let shown : Some c.in-Some.object.now ≡ object_at_index here first =
    c.in-Some.ensures ∙ ap (object_at_index here) inv.objects in
    let place : (contents c.next.new.self).place ≡ next_place (length first) here =
    ap (λ (d : Contents). d.place) c.next.ensures.goes.moved ∙ ap (λ (os : List (List ℕ)). next_place (length os) here) inv.objects in
    record {
      objects = ap (λ (d : Contents). d.objects) c.next.ensures.goes.moved ∙ inv.objects;
      put =
          c.in_ok-put_line.ensures
          ∙ (ap (λ xs. xs ++ count_line c.in-Some.object.now) inv.put
          ∙ (append_assoc c.args.lines.now.items (lines_before here first) (count_line c.in-Some.object.now)
          ∙ ap (λ xs. c.args.lines.now.items ++ xs) (sym (lines-next here first c.in-Some.object.now shown) ∙ ap (λ p. lines_before p first) (sym place))));
      stays = set-on (meaning g) c.args.set.now c.loop-object.set c.next.new.self inv.stays c.next.ensures.keeps.stays;
    }

pub loop-object-smaller : goal.loop-object-smaller
loop-object-smaller g c =
    let here = (contents c.loop-object.set).place in
    let objects = (contents c.loop-object.set).objects in
    subst (λ (d : Contents). left_of (length d.objects) d.place < left_of (length objects) here) (sym c.next.ensures.goes.moved)
    (left-next here objects c.in-Some.object.now c.in-Some.ensures)

pub returns-clause-put : goal.returns-clause-put
returns-clause-put g c =
    let inv = c.loop-object.invariant in
    let first = (contents c.args.set.now).objects in
    let here = (contents c.loop-object.set).place in
    inv.put
    ∙ ap (λ xs. c.args.lines.now.items ++ xs) (lines-last here first (c.in_default.ensures ∙ ap (object_at_index here) inv.objects))
