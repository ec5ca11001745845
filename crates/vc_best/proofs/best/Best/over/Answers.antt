use Rattle.vc_best.proofs.Held.{held}
use Rattle.vc_best.proofs.best.Best.over.Goals as goal

pub invariant_of-result : goal.invariant_of-result
invariant_of-result g c =
    let h = held c.args.extents.segs.items c.args.extents.index.items c.args.extents.kept c.requires.whole.sizes c.requires.whole.kept.merged in
    record { sound = h.sound; whole = h.whole; merged = h.merged; gaps = ∣ c.requires.whole.kept.gaps ∣₁; counted = c.requires.counted }
