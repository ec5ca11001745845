use Rattle.vc_base.proofs.Common.{◌<◌, true, false, ◌||◌, length, get_or, set, sym, ap, ◌∙◌, arith, length-set, is_occupied}
use Rattle.vc_last.specs.Chain.{blocks_from}
use Rattle.vc_last.specs.Head.{before_of, block_of}
use Rattle.vc_last.proofs.Chains.{latest-none, latest-some, latest-head}
use Rattle.vc_last.proofs.Marks.{head-number, mark-end, mark-step}
use Rattle.vc_last.proofs.Walks.{shorter, rest-kept}
use Rattle.vc_last.proofs.compact.mark.Goals as goal

pub bounds-marks-seg : goal.bounds-marks-seg
bounds-marks-seg c =
    let l = latest-some c.args.segs.now c.loop-at.at.0 c.loop-at-test.true c.loop-at.invariant.kept in
    omega (arith, head-number c.args.segs.now (block_of c.args.segs.now c.loop-at.at.0) c.loop-at.invariant.kept.segments l.head, c.seg.ensures, c.loop-at.invariant.len)

pub loop-at-smaller : goal.loop-at-smaller
loop-at-smaller c = shorter c.args.segs.now c.loop-at.at.0 c.before_at-at.result.0 c.loop-at.invariant.kept c.loop-at-test.true c.before_at-at.ensures

pub before_at-at-requires : goal.before_at-at-requires
before_at-at-requires c = latest-head c.args.segs.now c.loop-at.at.0 c.loop-at-test.true c.loop-at.invariant.kept

pub loop-at-preserved : goal.loop-at-preserved
loop-at-preserved c =
    let l = latest-some c.args.segs.now c.loop-at.at.0 c.loop-at-test.true c.loop-at.invariant.kept in
    let last = head-number c.args.segs.now (block_of c.args.segs.now c.loop-at.at.0) c.loop-at.invariant.kept.segments l.head in
    let within : c.seg.result < length c.loop-at.marks = omega (arith, last, c.seg.ensures, c.loop-at.invariant.len) in
    record {
      kept = rest-kept c.args.segs.now c.loop-at.at.0 c.before_at-at.result.0 c.loop-at.invariant.kept c.loop-at-test.true c.before_at-at.ensures;
      len = length-set c.loop-at.marks c.seg.result true ∙ c.loop-at.invariant.len;
      marked = λ n lt.
          ap (λ a. get_or (set c.loop-at.marks c.seg.result true) n false || is_occupied (blocks_from c.args.segs.now a) n) c.before_at-at.ensures
          ∙ (mark-step c.loop-at.marks c.seg.result n (blocks_from c.args.segs.now (before_of c.args.segs.now c.loop-at.at.0)) (block_of c.args.segs.now c.loop-at.at.0) (sym c.seg.ensures) within
          ∙ (ap (λ bs. get_or c.loop-at.marks n false || is_occupied bs n) (sym l.blocks) ∙ c.loop-at.invariant.marked n lt));
    }

pub returns : goal.returns
returns c = λ n lt. sym (mark-end (get_or c.loop-at.marks n false) n (blocks_from c.args.segs.now c.loop-at.at.0) (ap (blocks_from c.args.segs.now) c.loop-at-test.false ∙ latest-none c.args.segs.now)) ∙ c.loop-at.invariant.marked n lt
