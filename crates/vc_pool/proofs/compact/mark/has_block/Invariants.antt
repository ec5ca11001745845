use Rattle.vc_base.proofs.Common.{◌≡◌, ℕ, ltb, drop, list_any}
use Rattle.vc_pool.proofs.compact.mark.has_block.Given as goal

-- no block is in the cells so far
abbrev pub invariant-loop-cell : goal.invariant-loop-cell
invariant-loop-cell l =
    list_any (λ (c : ℕ × ℕ). ltb 0 c.0) (drop l.cell-index l.segment.cells.items) ≡ list_any (λ (c : ℕ × ℕ). ltb 0 c.0) l.segment.cells.items
