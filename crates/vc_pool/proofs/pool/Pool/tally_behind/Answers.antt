use Rattle.vc_base.proofs.Common.{ℕ, List, map, drop, sym, ap, ◌∙◌}
use Rattle.vc_seg.specs.Tally.{tally_of}
use Rattle.vc_pool.specs.Cells.Blocks.{pair_of}
use Rattle.vc_pool.specs.Cells.Place.{cells_in}
use Rattle.vc_pool.specs.declared.cells.segment.PoolSegment.{PoolSegment}
use Rattle.vc_pool.proofs.PoolAfterCalls.{pairs-of}
use Rattle.vc_pool.proofs.Sound.{kept-of}
use Rattle.vc_pool.proofs.pool.Pool.tally_behind.Goals as goal

pub tally_behind-requires : goal.tally_behind-requires
tally_behind-requires g c = rw c.deref.ensures.value (kept-of c.args.self.now).cells.segments

pub returns-clause-value : goal.returns-clause-value
returns-clause-value g c =
    c.tally_behind.ensures.value
    ∙ (ap (λ (ss : List PoolSegment). tally_of (map (λ (s : ℕ × ℕ). s.1) (drop c.args.first (map pair_of (cells_in ss))))) c.deref.ensures.value
    ∙ ap (λ (ps : List (ℕ × ℕ)). tally_of (map (λ (s : ℕ × ℕ). s.1) (drop c.args.first ps))) (sym (pairs-of c.args.self.now.segs.items c.args.self.now.element c.args.self.now.freed.0)))
