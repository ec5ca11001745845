use Rattle.vc_base.proofs.Common.{◌≡◌, ℕ, true, not, map, ◌==◌, All, filter, sym, ap, ◌∙◌, subst}
use Rattle.vc_seg.specs.Back.{is_marked, stays_from}
use Rattle.vc_seg.proofs.Backs.{Contains-ends, Contains-own, is_kept-marked, is_kept-unmarked, none-own, ones-filter, remove-own, without_last-own}
use Rattle.vc_seg.proofs.back.give_back_unless.Goals as goal

pub returns-then-marks-number-clause-segments : goal.returns-then-marks-number-clause-segments
returns-then-marks-number-clause-segments g c = sym (is_kept-marked g.T.Numbered.pair (is_marked c.args.marks.now) c.args.number c.args.segs.now.items c.if-marks-number.true)

pub give_back_one-requires-clause-ascending : goal.give_back_one-requires-clause-ascending
give_back_one-requires-clause-ascending g c =
    let pair = g.T.Numbered.pair in
    let segs = c.args.segs.now.items in
    let found = rw c.deref.ensures.value at c.in-Some.ensures.found in
    let own : c.into_segment-segment.result.number ≡ c.args.number =
    ap (λ (p : ℕ × ℕ). p.0) c.into_segment-segment.ensures ∙ (ap (λ s. (pair s).0) c.remove.ensures.value ∙ found.1 c.remove.result) in
    let left : c.deref-in-Some.result.now ≡ filter (λ s. not ((pair s).0 == c.args.number)) segs =
    c.deref-in-Some.ensures.value ∙ (c.remove.ensures.items ∙ remove-own pair c.args.number segs c.in-Some.place c.remove.result c.requires.distinct found.0 (found.1 c.remove.result)) in
    subst (λ n. All (λ s. stays_from (is_marked c.args.marks.now) n s.0 ≡ true) (map pair c.deref-in-Some.result.now)) (sym own)
    (subst (λ ss. All (λ s. stays_from (is_marked c.args.marks.now) c.args.number s.0 ≡ true) (map pair ss)) (sym left)
    (ones-filter pair (λ n. stays_from (is_marked c.args.marks.now) c.args.number n ≡ true) (λ s. not ((pair s).0 == c.args.number)) segs c.requires.ascending))

pub give_back_one-requires-clause-out : goal.give_back_one-requires-clause-out
give_back_one-requires-clause-out g c =
    let found = rw c.deref.ensures.value at c.in-Some.ensures.found in
    rw c.into_segment-segment.ensures
    (Contains-ends _ (map g.T.Numbered.pair c.args.segs.now.items) (g.T.Numbered.pair c.remove.result) c.requires.out
    (Contains-own g.T.Numbered.pair c.args.segs.now.items c.in-Some.place c.remove.result found.0 c.remove.ensures.value))

pub returns-in-Some-clause-segments : goal.returns-in-Some-clause-segments
returns-in-Some-clause-segments g c =
    let found = rw c.deref.ensures.value at c.in-Some.ensures.found in
    c.remove.ensures.items
    ∙ (remove-own g.T.Numbered.pair c.args.number c.args.segs.now.items c.in-Some.place c.remove.result c.requires.distinct found.0 (found.1 c.remove.result)
    ∙ is_kept-unmarked g.T.Numbered.pair (is_marked c.args.marks.now) c.args.number c.args.segs.now.items c.if-marks-number.false)

pub returns-in-Some-clause-out : goal.returns-in-Some-clause-out
returns-in-Some-clause-out g c =
    let found = rw c.deref.ensures.value at c.in-Some.ensures.found in
    record {
      out = λ rest e.
          rw (c.remove.ensures.items, c.give_back_one.ensures.out, c.into_segment-segment.ensures, e)
          (without_last-own g.T.Numbered.pair c.args.segs.now.items c.in-Some.place c.remove.result found.0 c.remove.ensures.value c.requires.distinct rest);
      kept = c.give_back_one.ensures.kept;
      faults = c.give_back_one.ensures.faults;
      exceptions = c.give_back_one.ensures.exceptions;
    }

pub returns-in_default-clause-segments : goal.returns-in_default-clause-segments
returns-in_default-clause-segments g c =
    sym (none-own g.T.Numbered.pair c.args.number c.args.segs.now.items (rw c.deref.ensures.value at c.in_default.ensures.none))
    ∙ is_kept-unmarked g.T.Numbered.pair (is_marked c.args.marks.now) c.args.number c.args.segs.now.items c.if-marks-number.false
