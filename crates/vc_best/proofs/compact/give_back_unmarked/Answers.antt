use Rattle.vc_base.proofs.Common.{◌≡◌, ℕ, ◌+◌, ◌*◌, true, List, map, length, IsSome, All, filter, sym, refl, ap, ◌∙◌, subst, arith, le_prop, ∥∥₁_elim, All-weaker, filter_passes, is_occupied, Block}
use Rattle.vc_best.proofs.Common.{layout_by, pair_of, size_of}
use Rattle.vc_seg.specs.Back.{is_kept, is_marked, stays_from}
use Rattle.vc_seg.proofs.Backs.{HasOut-left, TookBack-more, TookBack-none, stays_from-first, stays_from-last, stays_from-more}
use Rattle.vc_seg.proofs.Filters.{filter-agree_on}
use Rattle.vc_best.proofs.Backs.{all-there, left-there, pairs-first, pairs-last}
use Rattle.vc_best.proofs.Costs.{cost_within, still_cost, then_cost}
use Rattle.vc_best.proofs.Lends.{segments-by}
use Rattle.vc_best.proofs.compact.give_back_unmarked.Given.{Over}
use Rattle.vc_best.proofs.compact.give_back_unmarked.Goals as goal
use Rattle.vc_best.proofs.compact.give_back_unmarked.Goals.{After-loop-number}

pub loop-number-init : goal.loop-number-init
loop-number-init g c =
    record {
      segments = sym (stays_from-first (λ (s : ℕ × ℕ). s) (is_marked c.args.marks.now) (map pair_of c.args.extents.now.segs.items) (∥∥₁_elim c.args.extents.now.kept (hlevel (le_prop)) (λ k. pairs-first c.args.extents.now.segs.items k.segments)));
      blocks = refl;
      kept = c.requires.kept;
      count = omega arith;
      cost = still_cost _ _ c.args.extents.now.kept c.args.root.now.0 0 0 0 0 0 (omega arith);
      back = TookBack-none _ (map pair_of c.args.extents.now.segs.items);
    }

pub give_back_unless-count-requires-clause-out : goal.give_back_unless-count-requires-clause-out
give_back_unless-count-requires-clause-out g c = HasOut-left _ _ (map pair_of c.args.extents.now.segs.items) (map pair_of c.loop-number.extents.segs.items) c.loop-number.invariant.back c.requires.out

pub give_back_unless-count-requires-clause-marks : goal.give_back_unless-count-requires-clause-marks
give_back_unless-count-requires-clause-marks g c = λ n there.
    c.requires.marks n (left-there (λ (s : ℕ × ℕ). stays_from (is_marked c.args.marks.now) c.loop-number.number s.0) n (map pair_of c.args.extents.now.segs.items) (subst (λ (ss : List (ℕ × ℕ)). IsSome (size_of n ss)) c.loop-number.invariant.segments there))
    ∙ ap (λ (bs : List (Block ℕ)). is_occupied bs n) (sym c.loop-number.invariant.blocks)

pub give_back_unless-count-requires-clause-ascending : goal.give_back_unless-count-requires-clause-ascending
give_back_unless-count-requires-clause-ascending g c =
    let p = λ (s : ℕ × ℕ). stays_from (is_marked c.args.marks.now) c.loop-number.number s.0 in
    subst (All (λ s. p s ≡ true)) (sym c.loop-number.invariant.segments) (filter_passes p (map pair_of c.args.extents.now.segs.items))

pub loop-number-preserved : goal.loop-number-preserved
loop-number-preserved g c =
    let i = c.loop-number.invariant in
    let old = i.count in
    let given = c.give_back_unless-count.ensures.given in
    let more = given.count in
    let keeps = is_marked c.args.marks.now in
    record {
      segments =
          given.segments
          ∙ (ap (filter (λ s. is_kept keeps c.loop-number.number s.0)) i.segments
          ∙ stays_from-more (λ (s : ℕ × ℕ). s) keeps c.loop-number.number (map pair_of c.args.extents.now.segs.items));
      blocks = given.blocks ∙ i.blocks;
      kept = c.give_back_unless-count.ensures.kept;
      count = omega arith;
      cost = cost_within (then_cost i.kept.gaps i.cost c.give_back_unless-count.ensures.cost) (12 * (c.loop-number.count + c.give_back_unless-count.result)) 0 0 (omega arith) (omega arith) (omega arith);
      back = TookBack-more _ _ _ (map pair_of c.args.extents.now.segs.items) (map pair_of c.loop-number.extents.segs.items) (map pair_of c.give_back_unless-count.new.extents.segs.items) i.back c.give_back_unless-count.ensures.disc;
    }

-- the segments that are left have a block
left : (g : Over) (c : After-loop-number g) → map pair_of c.loop-number.extents.segs.items ≡ filter (λ s. is_occupied (layout_by c.args.extents.now.segs.items).blocks s.0) (map pair_of c.args.extents.now.segs.items)
left g c =
    let e = c.args.extents.now in
    let ss = map pair_of e.segs.items in
    let keeps = is_marked c.args.marks.now in
    c.loop-number.invariant.segments
    ∙ (stays_from-last (λ (s : ℕ × ℕ). s) keeps c.loop-number.number ss (∥∥₁_elim e.kept (hlevel (le_prop)) (λ k. pairs-last e.segs.items k.segments)) c.loop-number-test.false
    ∙ filter-agree_on (λ s. keeps s.0) (λ s. is_occupied (layout_by e.segs.items).blocks s.0) ss
    (All-weaker (λ (s : ℕ × ℕ). IsSome (size_of s.0 ss)) (λ s. keeps s.0 ≡ is_occupied (layout_by e.segs.items).blocks s.0) (λ s there. c.requires.marks s.0 there) ss (all-there ss)))

kept : (g : Over) (c : After-loop-number g) → map pair_of c.loop-number.extents.segs.items ≡ filter (λ s. is_occupied (layout_by c.args.extents.now.segs.items).blocks s.0) (layout_by c.args.extents.now.segs.items).segments
kept g c = left g c ∙ ap (filter (λ (s : ℕ × ℕ). is_occupied (layout_by c.args.extents.now.segs.items).blocks s.0)) (sym (segments-by c.args.extents.now.segs.items))

pub returns-clause-layout : goal.returns-clause-layout
returns-clause-layout g c =
    let ss = segments-by c.loop-number.extents.segs.items ∙ kept g (goal.at.returns-clause-layout g c).After-loop-number in
    let bs = c.loop-number.invariant.blocks in
    λ j. record { segments = ss j; blocks = bs j }

pub returns-clause-count : goal.returns-clause-count
returns-clause-count g c =
    let now = ap length (kept g (goal.at.returns-clause-count g c).After-loop-number) in
    let all = ap length (segments-by c.args.extents.now.segs.items) in
    omega (arith, c.loop-number.invariant.count)

pub returns-clause-few : goal.returns-clause-few
returns-clause-few g c = let all = c.loop-number.invariant.count in omega arith
