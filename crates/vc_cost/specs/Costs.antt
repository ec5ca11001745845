-- What calls on an ordered set or bag cost.
use Rattle.std.specs.Prelude.{◌≡◌, ℕ, ◌+◌, ◌*◌, ◌≤◌, List, ◌++◌, length, if◌then◌else◌}
use Rattle.vc_base.specs.Cells.{Blocks}
use Rattle.vc_dtdisc.specs.Rules.{Rules}
use Rattle.vc_splay.specs.Rank.{Costs, binary_digits, size}
use Rattle.vc_splay.specs.Stands.{IsTree}
use Rattle.vc_splay.specs.Tree.{Tree}
use Rattle.vc_dtord.specs.declared.dt_ord.DtOrd.{DtOrd}
use Rattle.vc_dtord.specs.Nodes.{node_store}
use Rattle.vc_dtord.specs.Ordered.{OrdFor, OrdTurned}
use Rattle.vc_cost.specs.declared.ord_call.OrdCall.{OrdCall}
use Rattle.vc_cost.specs.declared.tally.Made.{Made}
use Rattle.vc_cost.specs.Calls.{CanCall, after_call, finds, linked_by, weight}
use Rattle.vc_cost.specs.Made.{came, found_by, went}

-- to take one out costs at most twice what a search does
pub record TakeCosts (old : DtOrd) (before : Blocks) (new : DtOrd) (after : Blocks) (start now : ℕ) : Type 0 where
  pub law : (t u : Tree) → IsTree (node_store before) old.root.0 t → IsTree (node_store after) new.root.0 u
      → Costs t u start now (2 * (30 * binary_digits (size t) + 30))

-- it stands for some holders, and the call can be made on them
pub record CanMake (rules : Rules) (ord : DtOrd) (blocks : Blocks) (call : OrdCall) : Type 0 where
  pub holders : List ℕ
  pub stands : OrdFor rules ord blocks holders
  pub can : CanCall blocks call holders

-- the call was made: it stands for the holders after it, the blocks keep all but the words of these and those before, and
-- steps and twice the rank of the tree rise by at most thirty for each binary digit of any number that neither count is
-- above, and thirty, for each call that it counts as
pub record IsMade (rules : Rules) (call : OrdCall) (holders : List ℕ) (old : DtOrd) (before : Blocks) (new : DtOrd) (after : Blocks) (start now : ℕ) (made : Made) : Type 0 where
  pub turned : OrdTurned rules (linked_by call ++ holders) before new after (after_call rules before call holders)
  pub count : length (after_call rules before call holders) + went made ≡ length holders + came made
  pub found : found_by made ≡ (if finds rules before call holders then 1 else 0)
  pub cost : (t u : Tree) (most : ℕ) → IsTree (node_store before) old.root.0 t → IsTree (node_store after) new.root.0 u
      → size t ≤ most → size u ≤ most → Costs t u start now (weight call * (30 * binary_digits most + 30))
