use Rattle.vc_base.proofs.Common.{◌≡◌, ◌<◌, ◌≤◌, sym, ap, ◌∙◌, subst, ⊎_elim, arith, cases_lt, next_segment}
use Rattle.vc_pool.specs.Cells.Place.{cells_in}
use Rattle.vc_pool.proofs.SegmentList.{pairs-in}
use Rattle.vc_pool.specs.First.{IsBare}
use Rattle.vc_pool.proofs.NextBlock.{bare-above, bare-before, next-above, next-last}
use Rattle.vc_pool.proofs.walks.next.first_above.Goals as goal

pub returns-in-Some-first_in-clause-found : goal.returns-in-Some-first_in-clause-found
returns-in-Some-first_in-clause-found c =
    let is = sym (c.next_segment.ensures ∙ ap (next_segment c.loop-next.after) (pairs-in c.args.segs.now)) ∙ c.in-Some.is in
    let above = next-above c.loop-next.after (cells_in c.args.segs.now) c.in-Some.next c.in-Some.field-0-1 is in
    record {
      number = c.in-Some.next;
      above = omega (arith, above);
      between = bare-before c.loop-next.after (cells_in c.args.segs.now) c.args.number c.in-Some.next c.in-Some.field-0-1 c.loop-next.invariant.bare is;
      first = c.in-Some-first_in.ensures.found;
    }

pub loop-next-smaller : goal.loop-next-smaller
loop-next-smaller c =
    let is = sym (c.next_segment.ensures ∙ ap (next_segment c.loop-next.after) (pairs-in c.args.segs.now)) ∙ c.in-Some.is in
    let last = next-last c.loop-next.after (cells_in c.args.segs.now) c.requires.kept.segments c.in-Some.next c.in-Some.field-0-1 is in
    omega (arith, next-above c.loop-next.after (cells_in c.args.segs.now) c.in-Some.next c.in-Some.field-0-1 is, last)

pub loop-next-preserved : goal.loop-next-preserved
loop-next-preserved c =
    let is = sym (c.next_segment.ensures ∙ ap (next_segment c.loop-next.after) (pairs-in c.args.segs.now)) ∙ c.in-Some.is in
    record {
      up = omega (arith, next-above c.loop-next.after (cells_in c.args.segs.now) c.in-Some.next c.in-Some.field-0-1 is);
      bare = λ m over le.
          ⊎_elim
          (λ (below : m < c.in-Some.next). bare-before c.loop-next.after (cells_in c.args.segs.now) c.args.number c.in-Some.next c.in-Some.field-0-1 c.loop-next.invariant.bare is m over below)
          (λ (high : c.in-Some.next ≤ m).
          let same : c.in-Some.next ≡ m = omega (arith, high, le) in
          subst (λ n. IsBare n (cells_in c.args.segs.now)) same c.in_default-first_in.ensures.none)
          (cases_lt m c.in-Some.next);
    }

pub returns-clause-none : goal.returns-clause-none
returns-clause-none c =
    λ m over.
    ⊎_elim
    (λ (past : c.loop-next.after < m). bare-above c.loop-next.after (cells_in c.args.segs.now) (sym (c.next_segment.ensures ∙ ap (next_segment c.loop-next.after) (pairs-in c.args.segs.now)) ∙ c.in_default.is) m past)
    (λ (so : m ≤ c.loop-next.after). c.loop-next.invariant.bare m over so)
    (cases_lt c.loop-next.after m)
