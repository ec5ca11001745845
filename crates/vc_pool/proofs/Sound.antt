-- Every pool has blocks at places of their own, in segments with numbers of their own.
use Rattle.vc_base.proofs.Common.{IsPoolSound, HaveOwnNumbers, HaveOwnPlaces}
use Rattle.vc_pool.specs.Cells.Kept.{IsPool}
use Rattle.vc_pool.specs.Cells.Place.{cells_in}
use Rattle.vc_pool.proofs.Propositions.{have}
use Rattle.vc_pool.specs.Parts.{blocks_in, pool_of, segments_in}
use Rattle.vc_pool.specs.declared.pool.Pool.{Pool}
use Rattle.vc_pool.proofs.PoolParts.{sound-of}

-- what is always true of its segments and of its freed cells
pub kept-of : {I : Type 0} {V : I → Type 0} (p : Pool I V) → IsPool p.element (cells_in p.segs.items) p.freed.0
kept-of p = have p.element (cells_in p.segs.items) p.freed.0 p.kept

sound : {I : Type 0} {V : I → Type 0} (p : Pool I V) → IsPoolSound (pool_of p)
sound p = sound-of p.segs.items p.element p.freed.0 (kept-of p).cells

pub own_places : {I : Type 0} {V : I → Type 0} (p : Pool I V) → HaveOwnPlaces (blocks_in p)
own_places p = (sound p).places

pub own_numbers : {I : Type 0} {V : I → Type 0} (p : Pool I V) → HaveOwnNumbers (segments_in p)
own_numbers p = (sound p).numbered
