-- Bytes and blocks are sets.
use Rattle.vc_base.proofs.Common.{ℕ, List, ℕ_set, Block}
use mathlib.Core.List.{is_set}

pub bytes-set : IsSet (List ℕ)
bytes-set = is_set ℕ_set

pub block-set : IsSet (Block ℕ)
block-set = hlevel (ℕ_set, bytes-set)
