use Rattle.vc_base.proofs.Common.{◌≡◌, ℕ, ◌<◌, get_or, length}
use Rattle.vc_base.specs.Cells.{word_at}
use Rattle.vc_image_check.proofs.lists.chain.slots_of.Given as goal

abbrev pub invariant-loop-k : goal.invariant-loop-k
invariant-loop-k g l = record {
  long : length l.told.items ≡ l.k;
  each : (k : ℕ) → k < l.k → get_or l.told.items k 0 ≡ word_at (g.N.Holders.blocks l.nodes) l.table k;
}
