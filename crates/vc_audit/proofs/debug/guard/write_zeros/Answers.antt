use Rattle.vc_base.proofs.Common.{ℕ, ◌+◌, ◌-◌, replicate, sym, subst, arith, place_of, Layout}
use Rattle.vc_seg.specs.OneBlock.{IsInBlock}
use Rattle.vc_best.specs.Parts.{layout_of}
use Rattle.vc_audit.proofs.DebugFills.{live-written, range-written}
use Rattle.vc_audit.proofs.debug.guard.write_zeros.Goals as goal

pub write_back_guard-requires-clause-range : goal.write_back_guard-requires-clause-range
write_back_guard-requires-clause-range g c =
    let bs = (layout_of c.args.best.now).blocks in
    let a = c.args.at.0 in
    subst (λ (r : Layout ℕ). IsInBlock r.blocks a (32 + c.args.size) 16) (sym c.fill.ensures.written.layout)
    record {
      block = live-written (32 + c.args.kept) (replicate (c.args.size - c.args.kept) 0) (place_of a) bs a c.requires.range.block;
      range = range-written (32 + c.args.kept) (replicate (c.args.size - c.args.kept) 0) bs a 0 (c.args.size + 48) (32 + c.args.size) 16 (omega arith) c.requires.range.range;
    }
