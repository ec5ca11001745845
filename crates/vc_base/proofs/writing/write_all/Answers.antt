use Rattle.vc_base.proofs.Common.{arith, length-drop, take_rest}
use Rattle.vc_base.proofs.Written.{written-more}
use Rattle.vc_base.proofs.writing.write_all.Goals as goal

pub loop-done-preserved : goal.loop-done-preserved
loop-done-preserved g c =
    let one = rw take_rest at c.in_ok-n.ensures.ok in
    record {
      fits = omega (arith, one.fits, length-drop c.loop-done.done c.args.piece.now, c.loop-done.invariant.fits);
      written = written-more _ _ _ _ _ _ c.loop-done.invariant.written one;
      never_falls = omega (arith, c.loop-done.invariant.never_falls, c.in_ok-n.ensures.never_falls);
    }
