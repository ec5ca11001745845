use Rattle.vc_base.proofs.Common.{◌≡◌, ℕ, ◌-◌, ◌<◌, ◌≤◌, List, ◌++◌, replicate, sym, refl, ap, ◌∙◌, subst, arith, ∥∥₁_elim, with_bytes}
use Rattle.vc_best.proofs.Common.{Extent, HasGapsBy, IsBusy, IsMerged, busy_extent, change_extent, extent_of, free_next, layout_by, tiling, write}
use Rattle.vc_best.proofs.Held.{layout-written}
use Rattle.vc_best.proofs.Known.{cut-of}
use Rattle.vc_best.proofs.Merges.{merged-one}
use Rattle.vc_best.proofs.Outs.{gaps-written, next-written, written-busy}
use Rattle.vc_best.proofs.OtherSizes.{moved-busy, moved-extent, moved-merged, there-cut, there-filled}
use Rattle.vc_best.proofs.Sets.{merged-prop}
use Rattle.vc_best.proofs.stay.resize_there.Goals as goal
use Rattle.vc_best.proofs.stay.resize_there.Given.{Over}
use Rattle.vc_best.proofs.stay.resize_there.Goals.{After-move_border}

-- once the border behind it has moved it is busy still, and no two free extents stand beside each other
moved : (g : Over) (c : After-move_border g) → IsBusy (tiling c.move_border.new.extents.segs.items) c.args.a.0
moved g c =
    moved-busy _ _ _ _ c.args.a.0 c.args.size (extent_of (tiling c.move_border.new.extents.segs.items) c.args.a.0).body c.args.extents.now.kept c.move_border.new.extents.kept c.requires.busy c.requires.sized.some c.requires.room c.move_border.ensures.moved.border c.move_border.ensures.moved.pairs

merged : (g : Over) (c : After-move_border g) → IsMerged (tiling c.move_border.new.extents.segs.items)
merged g c =
    moved-merged _ _ _ _ c.args.a.0 c.args.size (extent_of (tiling c.move_border.new.extents.segs.items) c.args.a.0).body c.args.extents.now.kept c.move_border.new.extents.kept c.requires.busy c.requires.sized.some c.requires.room c.move_border.ensures.moved.border c.move_border.ensures.moved.pairs c.requires.merged

pub fill-requires-clause-busy : goal.fill-requires-clause-busy
fill-requires-clause-busy g c = moved g (goal.at.fill-requires-clause-busy g c).After-move_border

pub fill-requires-clause-within : goal.fill-requires-clause-within
fill-requires-clause-within g c =
    let e = ap (λ (x : Extent). x.size) (moved-extent c.args.extents.now.segs.items c.move_border.new.extents.segs.items c.args.extents.now.index.items c.move_border.new.extents.index.items c.args.a.0 c.args.size (extent_of (tiling c.move_border.new.extents.segs.items) c.args.a.0).body c.args.extents.now.kept c.move_border.new.extents.kept c.requires.busy c.requires.sized.some c.requires.room c.move_border.ensures.moved.border c.move_border.ensures.moved.pairs) in
    omega arith

pub returns-then-old-size-clause-layout : goal.returns-then-old-size-clause-layout
returns-then-old-size-clause-layout g c =
    let own = c.size_at-old.ensures in
    let e = extent_of (tiling c.args.extents.now.segs.items) c.args.a.0 in
    let lt : e.size < c.args.size = omega arith in
    let zeros = replicate (c.args.size - e.size) 0 in
    let is : tiling c.fill.new.self.segs.items ≡ change_extent c.args.a.0 (write e.size zeros) (tiling c.move_border.new.extents.segs.items) =
    c.fill.ensures.tiling ∙ ap (λ (n : ℕ). change_extent c.args.a.0 (write n (replicate (c.args.size - n) 0)) (tiling c.move_border.new.extents.segs.items)) own in
    there-filled c.args.extents.now.segs.items c.move_border.new.extents.segs.items c.args.extents.now.index.items c.move_border.new.extents.index.items c.args.a.0 c.args.size (extent_of (tiling c.move_border.new.extents.segs.items) c.args.a.0).body c.args.extents.now.kept c.move_border.new.extents.kept c.requires.busy c.requires.sized.some c.requires.room c.move_border.ensures.moved.border c.move_border.ensures.moved.pairs (layout_by c.fill.new.self.segs.items) (layout-written c.move_border.new.extents.segs.items c.fill.new.self.segs.items c.move_border.new.extents.index.items c.fill.new.self.index.items c.args.a.0 e.size zeros c.move_border.new.extents.kept c.fill.new.self.kept (moved g (goal.at.returns-then-old-size-clause-layout g c).After-move_border) is c.fill.ensures.pairs) c.move_border.ensures.moved.len lt (c.move_border.ensures.moved.kept e.size (omega arith) (omega arith))

pub returns-then-old-size-clause-merged : goal.returns-then-old-size-clause-merged
returns-then-old-size-clause-merged g c =
    let x = extent_of (tiling c.move_border.new.extents.segs.items) c.args.a.0 in
    let src = replicate (c.args.size - c.size_at-old.result) 0 in
    subst IsMerged (sym c.fill.ensures.tiling)
    (∥∥₁_elim c.move_border.new.extents.kept (merged-prop _)
    (λ k.
    merged-one (tiling c.move_border.new.extents.segs.items) c.args.a.0 (write c.size_at-old.result src) (busy_extent x.off x.span x.size x.tag (with_bytes c.size_at-old.result src x.body)) (cut-of c.move_border.new.extents.segs.items c.move_border.new.extents.index.items c.args.a.0 k (moved g (goal.at.returns-then-old-size-clause-merged g c).After-move_border).named) refl refl (merged g (goal.at.returns-then-old-size-clause-merged g c).After-move_border)))

pub returns-else-old-size-clause-layout : goal.returns-else-old-size-clause-layout
returns-else-old-size-clause-layout g c =
    let own = c.size_at-old.ensures in
    let e = extent_of (tiling c.args.extents.now.segs.items) c.args.a.0 in
    let le : c.args.size ≤ e.size = omega arith in
    there-cut c.args.extents.now.segs.items c.move_border.new.extents.segs.items c.args.extents.now.index.items c.move_border.new.extents.index.items c.args.a.0 c.args.size (extent_of (tiling c.move_border.new.extents.segs.items) c.args.a.0).body c.args.extents.now.kept c.move_border.new.extents.kept c.requires.busy c.requires.sized.some c.requires.room c.move_border.ensures.moved.border c.move_border.ensures.moved.pairs c.move_border.ensures.moved.len le (c.move_border.ensures.moved.kept c.args.size (omega arith) le)

pub returns-else-old-size-clause-merged : goal.returns-else-old-size-clause-merged
returns-else-old-size-clause-merged g c = merged g (goal.at.returns-else-old-size-clause-merged g c).After-move_border

pub returns-then-old-size-clause-named : goal.returns-then-old-size-clause-named
returns-then-old-size-clause-named g c =
    (written-busy (tiling c.move_border.new.extents.segs.items) (tiling c.fill.new.self.segs.items) c.args.a.0 c.size_at-old.result (replicate (c.args.size - c.size_at-old.result) 0) c.fill.ensures.tiling (moved g (goal.at.returns-then-old-size-clause-named g c).After-move_border)).named

pub returns-then-old-size-clause-gaps : goal.returns-then-old-size-clause-gaps
returns-then-old-size-clause-gaps g c =
    let t1 = tiling c.move_border.new.extents.segs.items in
    let t2 = tiling c.fill.new.self.segs.items in
    let a = c.args.a.0 in
    let busy = moved g (goal.at.returns-then-old-size-clause-gaps g c).After-move_border in
    let off = c.size_at-old.result in
    let src = replicate (c.args.size - off) 0 in
    record {
      gaps = λ u root out h.
          subst (λ (ns : List ℕ). HasGapsBy u t2 root (ns ++ out)) (sym (next-written _ _ c.move_border.new.extents.kept t2 a off src busy.named c.fill.ensures.tiling))
          (gaps-written t1 t2 a off src c.fill.ensures.tiling busy u root (free_next t1 a ++ out) (c.move_border.ensures.gaps.gaps u root out h));
      same_span = λ same u root out h. gaps-written t1 t2 a off src c.fill.ensures.tiling busy u root out (c.move_border.ensures.gaps.same_span same u root out h);
    }

pub returns-else-old-size-clause-named : goal.returns-else-old-size-clause-named
returns-else-old-size-clause-named g c = (moved g (goal.at.returns-else-old-size-clause-named g c).After-move_border).named
