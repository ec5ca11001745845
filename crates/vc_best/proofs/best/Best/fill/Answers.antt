use Rattle.vc_base.proofs.Common.{replicate}
use Rattle.vc_best.proofs.Found.{busy-of}
use Rattle.vc_best.proofs.Held.{range-within}
use Rattle.vc_best.proofs.Writes.{written, written-counted, written-gaps, written-held}
use Rattle.vc_best.proofs.best.Best.fill.Goals as goal

pub fill-requires-clause-busy : goal.fill-requires-clause-busy
fill-requires-clause-busy g c = busy-of _ _ c.args.a.0 c.args.self.now.extents.kept c.requires.block

pub fill-requires-clause-within : goal.fill-requires-clause-within
fill-requires-clause-within g c = range-within _ _ c.args.a.0 c.args.self.now.extents.kept c.requires.block c.args.off c.args.len c.requires.range

pub returns-clause-written : goal.returns-clause-written
returns-clause-written g c =
    written _ _ _ _ c.args.self.now.extents.kept c.fill.new.self.kept c.args.a.0 c.args.off (replicate c.args.len c.args.byte) c.requires.block c.fill.ensures.tiling c.fill.ensures.pairs

pub invariant_of-self : goal.invariant_of-self
invariant_of-self g c =
    let b = c.args.self.now in
    let h = written-held _ _ _ _ b.extents.kept c.fill.new.self.kept c.args.a.0 c.args.off (replicate c.args.len c.args.byte) c.requires.block c.fill.ensures.tiling c.fill.ensures.pairs b.merged b.whole in
    record {
      sound = h.sound;
      whole = h.whole;
      merged = h.merged;
      gaps = written-gaps _ _ _ _ b.extents.kept c.fill.new.self.kept c.args.a.0 c.args.off (replicate c.args.len c.args.byte) c.requires.block c.fill.ensures.tiling c.fill.ensures.pairs b.root.0 b.gaps;
      counted = written-counted _ _ _ _ b.extents.kept c.fill.new.self.kept c.args.a.0 c.args.off (replicate c.args.len c.args.byte) c.requires.block c.fill.ensures.tiling c.fill.ensures.pairs b.busy b.counted;
    }
