use Rattle.vc_base.proofs.Common.{length}
use Rattle.vc_best.proofs.Found.{busy-of}
use Rattle.vc_best.proofs.Held.{range-within}
use Rattle.vc_best.proofs.Writes.{written, written-counted, written-gaps, written-held}
use Rattle.vc_best.proofs.best.Best.write.Goals as goal

pub put-requires-clause-busy : goal.put-requires-clause-busy
put-requires-clause-busy g c = busy-of _ _ c.args.a.0 c.args.self.now.extents.kept c.requires.block

pub put-requires-clause-within : goal.put-requires-clause-within
put-requires-clause-within g c = range-within _ _ c.args.a.0 c.args.self.now.extents.kept c.requires.block c.args.off (length c.args.src.now) c.requires.range

pub returns-clause-written : goal.returns-clause-written
returns-clause-written g c =
    written _ _ _ _ c.args.self.now.extents.kept c.put.new.self.kept c.args.a.0 c.args.off c.args.src.now c.requires.block c.put.ensures.tiling c.put.ensures.pairs

pub invariant_of-self : goal.invariant_of-self
invariant_of-self g c =
    let b = c.args.self.now in
    let h = written-held _ _ _ _ b.extents.kept c.put.new.self.kept c.args.a.0 c.args.off c.args.src.now c.requires.block c.put.ensures.tiling c.put.ensures.pairs b.merged b.whole in
    record {
      sound = h.sound;
      whole = h.whole;
      merged = h.merged;
      gaps = written-gaps _ _ _ _ b.extents.kept c.put.new.self.kept c.args.a.0 c.args.off c.args.src.now c.requires.block c.put.ensures.tiling c.put.ensures.pairs b.root.0 b.gaps;
      counted = written-counted _ _ _ _ b.extents.kept c.put.new.self.kept c.args.a.0 c.args.off c.args.src.now c.requires.block c.put.ensures.tiling c.put.ensures.pairs b.busy b.counted;
    }
