use Rattle.vc_base.proofs.Common.{◌≡◌, ℕ, List, take, sym, ap, ◌∙◌, subst}
use Rattle.vc_seg.specs.Tally.{HasRoom, tallied_all}
use Rattle.vc_pool.specs.Sizes.{sizes_in}
use Rattle.vc_pool.proofs.BlockSizes.{sizes-front}
use Rattle.vc_pool.proofs.walks.tally.with_segment.Goals as goal
use Rattle.vc_pool.proofs.walks.tally.with_segment.Goals.{After-deref}

-- the carved cells have all sizes
front : (c : After-deref) → sizes_in (take c.args.segment.now.carved c.deref.result.now) ≡ sizes_in c.args.segment.now.cells.items
front c =
    ap (λ (cs : List (ℕ × ℕ)). sizes_in (take c.args.segment.now.carved cs)) c.deref.ensures.value
    ∙ sizes-front c.args.segment.now.carved c.args.segment.now.cells.items c.requires.fresh

pub with_cells-requires : goal.with_cells-requires
with_cells-requires c = subst (HasRoom c.args.before) (sym (front (goal.at.with_cells-requires c).After-deref)) c.requires.room

pub returns : goal.returns
returns c = c.with_cells.ensures ∙ ap (tallied_all c.args.before) (front (goal.at.returns c).After-deref)
