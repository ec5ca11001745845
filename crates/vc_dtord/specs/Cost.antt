-- What a call on an ordered set or bag costs.
use Rattle.std.specs.Prelude.{ℕ, ◌+◌, ◌*◌}
use Rattle.vc_base.specs.Cells.{Blocks}
use Rattle.vc_splay.specs.Rank.{Costs, binary_digits, size}
use Rattle.vc_splay.specs.Stands.{IsTree}
use Rattle.vc_splay.specs.Tree.{Tree}
use Rattle.vc_dtord.specs.declared.dt_ord.DtOrd.{DtOrd}
use Rattle.vc_dtord.specs.Nodes.{node_store}

-- steps, and twice the rank of the tree of its holders, rise by at most thirty for each binary digit of how many there are
-- with so many more, and thirty
pub record CallCosts (old : DtOrd) (before : Blocks) (new : DtOrd) (after : Blocks) (more start now : ℕ) : Type 0 where
  pub law : (t u : Tree) → IsTree (node_store before) old.root.0 t → IsTree (node_store after) new.root.0 u
      → Costs t u start now (30 * binary_digits (size t + more) + 30)
