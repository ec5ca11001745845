use Rattle.vc_base.proofs.Common.{◌≡◌, ◌∙◌, le_prop, ∥∥₁_elim, ℕ_set, place_of, without_block_at}
use Rattle.vc_best.proofs.Common.{IsFree, free_before, free_next, layout_by, tiling}
use Rattle.vc_base.proofs.Sets.{bytes-set}
use Rattle.vc_best.proofs.FreeBlocks.{is-freed, next-freed}
use Rattle.vc_best.proofs.Known.{cut-of}
use Rattle.vc_best.proofs.LeftBlocks.{layout-absorbed, layout-marked}
use Rattle.vc_best.proofs.Released.{before-freed, gaps-freed_before, merged_but-freed}
use Rattle.vc_best.proofs.Sets.{merged-prop}
use Rattle.vc_best.proofs.release.release.Goals as goal
use Rattle.vc_best.proofs.release.release.Goals.{After-absorb_next, After-mark_free}

-- it is free once it is marked, and what is behind it stays
freed : (c : After-mark_free) → IsFree (tiling c.mark_free.new.self.segs.items) c.args.a.0
freed c = ∥∥₁_elim c.args.extents.now.kept (hlevel (le_prop, ℕ_set)) (λ k. is-freed (tiling c.args.extents.now.segs.items) (tiling c.mark_free.new.self.segs.items) (tiling c.args.extents.now.segs.items) c.args.a.0 (cut-of _ _ c.args.a.0 k c.requires.busy.named) c.mark_free.ensures.tiling c.requires.busy.named)

behind : (c : After-mark_free) → free_next (tiling c.mark_free.new.self.segs.items) c.args.a.0 ≡ free_next (tiling c.args.extents.now.segs.items) c.args.a.0
behind c =
    let t1 = tiling c.mark_free.new.self.segs.items in
    ∥∥₁_elim c.args.extents.now.kept (hlevel (bytes-set)) (λ k. next-freed (tiling c.args.extents.now.segs.items) t1 t1 c.args.a.0 (cut-of _ _ c.args.a.0 k c.requires.busy.named) c.mark_free.ensures.tiling)

pub absorb_next-requires : goal.absorb_next-requires
absorb_next-requires c = record { free = freed (goal.at.absorb_next-requires c).After-mark_free }

-- the blocks without it, where it took what is free behind it
gone : (c : After-absorb_next) → layout_by c.absorb_next.new.extents.segs.items ≡ without_block_at (layout_by c.args.extents.now.segs.items) (place_of c.args.a.0)
gone c =
    layout-absorbed _ _ _ _ c.args.a.0 c.mark_free.new.self.kept c.absorb_next.new.extents.kept (freed (goal.at.After-absorb_next c).After-mark_free) c.absorb_next.ensures.changed.tiling c.absorb_next.ensures.changed.pairs
    ∙ layout-marked _ _ _ _ c.args.a.0 c.args.extents.now.kept c.mark_free.new.self.kept c.requires.busy c.mark_free.ensures.tiling c.mark_free.ensures.pairs

pub absorb_before-requires : goal.absorb_before-requires
absorb_before-requires c = record { free = c.absorb_next.ensures.free }

pub returns-clause-layout : goal.returns-clause-layout
returns-clause-layout c = c.absorb_before.ensures.layout ∙ gone (goal.at.returns-clause-layout c).After-absorb_next

pub returns-clause-merged : goal.returns-clause-merged
returns-clause-merged c =
    let t3 = tiling c.absorb_before.new.extents.segs.items in
    ∥∥₁_elim c.args.extents.now.kept (merged-prop t3)
    (λ k. c.absorb_before.ensures.merged (merged_but-freed _ _ _ c.args.a.0 (cut-of _ _ c.args.a.0 k c.requires.busy.named) c.mark_free.ensures.tiling c.absorb_next.ensures.changed.tiling c.requires.merged))

pub returns-clause-gaps : goal.returns-clause-gaps
returns-clause-gaps c =
    let t = tiling c.args.extents.now.segs.items in
    let t2 = tiling c.absorb_next.new.extents.segs.items in
    let a = c.args.a.0 in
    let before : free_before t2 a ≡ free_before t a =
    ∥∥₁_elim c.args.extents.now.kept (hlevel (bytes-set)) (λ k. before-freed t _ t2 a (cut-of _ _ a k c.requires.busy.named) c.mark_free.ensures.tiling c.absorb_next.ensures.changed.tiling) in
    let first = gaps-freed_before t _ t2 a c.mark_free.ensures.tiling c.requires.busy (behind (goal.at.returns-clause-gaps c).After-mark_free) c.absorb_next.ensures.gaps before in
    λ u root out h. c.absorb_before.ensures.gaps u root out (first u root out h)
