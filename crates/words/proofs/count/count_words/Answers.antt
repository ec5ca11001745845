use Rattle.vc_base.proofs.Common.{◌≡◌, ◌+◌, length, refl, sym, subst, arith}
use Rattle.vc_model.specs.Discipline.{Discipline}
use Rattle.words.proofs.Counted.{part-none}
use Rattle.words.proofs.Kept.{set-same, set-trans}
use Rattle.words.proofs.SoFar.{SoFar, so-far-ends, so-far-goes, so-far-last, so-far-refused}
use Rattle.words.proofs.count.count_words.Given.{Over}
use Rattle.words.proofs.count.count_words.Goals as goal
use Rattle.words.proofs.count.count_words.Goals.{then-text-i-le32+in_ok-put+else-not-is_there, else-text-i-le32}

-- what a region's boxed discipline means
abbrev meaning : (g : Over) → (x : g.dyn-1.0.I) × (g.dyn-1.0.entry x).0.Denot → Discipline
meaning g p = (goal.SegDisc-dyn g p).state p.1

pub loop-i-init : goal.loop-i-init
loop-i-init g c = record {
  begun = omega arith;
  part = part-none c.args.text.now 0;
  counted = refl;
  stays = set-same (meaning g) c.args.set.now c.requires;
}

pub count_word-requires : goal.count_word-requires
count_word-requires g c = c.loop-i.invariant.stays.set

pub returns-in_err-put-clause-stays : goal.returns-in_err-put-clause-stays
returns-in_err-put-clause-stays g c =
    set-trans (meaning g) c.args.set.now c.loop-i.set c.count_word.new.set c.loop-i.invariant.stays c.count_word.ensures.stays

pub returns-then-not-is_there-clause-stays : goal.returns-then-not-is_there-clause-stays
returns-then-not-is_there-clause-stays g c =
    set-trans (meaning g) c.args.set.now c.loop-i.set c.count_word.new.set c.loop-i.invariant.stays c.count_word.ensures.stays

pub returns-then-not-is_there-clause-counts : goal.returns-then-not-is_there-clause-counts
returns-then-not-is_there-clause-counts g c =
    so-far-refused (meaning g) c.args.text.now c.args.set.now c.loop-i.set c.count_word.new.set c.loop-i.start c.loop-i.i c.in_ok-put.put
    c.loop-i.invariant c.loop-i-test.true c.if-text-i-le32.true (sym c.if-not-is_there.ensures) c.in_ok-put.ensures.counts

pub loop-i-preserved : goal.loop-i-preserved
loop-i-preserved g c =
    let inv = c.loop-i.invariant in
    let lt = c.loop-i-test.true in
    let text = c.args.text.now in
    let first = c.args.set.now in
    elim c.if-text-i-le32.branch [
      | then-text-i-le32+in_ok-put+else-not-is_there w ↦
          subst (λ s. SoFar (meaning g) text first s c.if-text-i-le32.start (c.loop-i.i + 1)) (sym w.set-is)
          (subst (λ k. SoFar (meaning g) text first w.count_word.new.set k (c.loop-i.i + 1)) (sym w.start-is)
          (so-far-ends (meaning g) text first c.loop-i.set w.count_word.new.set c.loop-i.start c.loop-i.i w.in_ok-put.put inv lt w.if-text-i-le32.true (sym w.if-not-is_there.ensures) w.in_ok-put.ensures.counts w.count_word.ensures.stays))
      | else-text-i-le32 w ↦
          subst (λ s. SoFar (meaning g) text first s c.if-text-i-le32.start (c.loop-i.i + 1)) (sym w.set-is)
          (subst (λ k. SoFar (meaning g) text first c.loop-i.set k (c.loop-i.i + 1)) (sym w.start-is)
          (so-far-goes (meaning g) text first c.loop-i.set c.loop-i.start c.loop-i.i inv lt w.if-text-i-le32.false))
    ]

pub returns-clause-counts : goal.returns-clause-counts
returns-clause-counts g c =
    let end : c.loop-i.i ≡ length c.args.text.now = omega (arith, c.loop-i-test.false, c.loop-i.auto.i-end) in
    so-far-last (meaning g) c.args.text.now c.args.set.now c.loop-i.set c.count_word-2.new.set c.loop-i.start c.loop-i.i c.count_word-2.result c.loop-i.invariant end c.count_word-2.ensures.counts

pub returns-clause-stays : goal.returns-clause-stays
returns-clause-stays g c =
    set-trans (meaning g) c.args.set.now c.loop-i.set c.count_word-2.new.set c.loop-i.invariant.stays c.count_word-2.ensures.stays
