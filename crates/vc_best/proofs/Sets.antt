-- Lists of extents and of blocks are sets.
use Rattle.vc_base.proofs.Common.{ℕ, List, Option, ℕ_set, Run, Block, Layout}
use Rattle.vc_best.proofs.Common.{Extent, IsMerged}
use mathlib.Core.Sum.{⊎_set}
use Rattle.std.proofs.Math.Bool.{Bool-set}
use mathlib.Core.List.{is_set}
use Rattle.vc_base.proofs.Sets.{bytes-set, block-set}

pub extent-set : IsSet Extent
extent-set = hlevel (ℕ_set, bytes-set)

pub extents-set : IsSet (List Extent)
extents-set = is_set extent-set

pub tiling-set : IsSet (List (ℕ × List Extent))
tiling-set = is_set (hlevel (ℕ_set, extents-set))

pub blocks-set : IsSet (List (Block ℕ))
blocks-set = is_set block-set

pub pairs-set : IsSet (List (ℕ × ℕ))
pairs-set = is_set (hlevel (ℕ_set))

pub layout-set : IsSet (Layout ℕ)
layout-set = hlevel (pairs-set, blocks-set)

pub merged-prop : (t : List (ℕ × List Extent)) → IsProp (IsMerged t)
merged-prop t = hlevel (Bool-set)

pub found-set : IsSet (Option (Block ℕ))
found-set = hlevel (block-set, ⊎_set)

pub runs-set : IsSet (List Run)
runs-set = is_set (hlevel (ℕ_set))
