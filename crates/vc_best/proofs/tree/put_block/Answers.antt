use Rattle.vc_base.proofs.Common.{◌≡◌, ℕ, ◌+◌, ◌<◌, false, [], ◌∷◌, ◌++◌, IfSome, Some, None, Option, refl, ◌∙◌, arith, contains, address, place_of, span}
use Rattle.vc_best.proofs.Common.{Addr, GapsChange, HasGaps, carve, change_extent, cut_back, extent_of, some_name, tiling}
use Rattle.vc_best.proofs.Carves.{back-free, back-span, carved-whole, front-apart, front-can, front-free, rest-can}
use Rattle.vc_best.proofs.Costs.{changed_cost, then_cost}
use Rattle.vc_best.proofs.Linking.{gaps-changed, gaps-more}
use Rattle.vc_best.proofs.Outs.{gaps-put}
use Rattle.vc_best.proofs.Plain.{layout-stays, merged-stays}
use Rattle.vc_best.proofs.Puts.{carved-layout, carved-merged}
use Rattle.vc_best.proofs.tree.put_block.Given.{Over}
use Rattle.vc_best.proofs.tree.put_block.Goals as goal
use Rattle.vc_best.proofs.tree.put_block.Goals.{After-cut_back-rest, After-lay_zeros, After-link_some}

-- the tiling without what is behind the span, and that by its address
cut : (g : Over) (c : After-cut_back-rest g) → tiling c.cut_back-rest.new.extents.segs.items ≡ change_extent c.cut_front-front.result.1.0 (cut_back (span c.args.size)) (tiling c.cut_front-front.new.extents.segs.items)
cut g c = rw (← c.span_of.ensures) c.cut_back-rest.ensures.changed.tiling

behind : (g : Over) (c : After-cut_back-rest g) →
    IfSome c.cut_back-rest.result (λ b. (b.0 ≡ address ((place_of c.cut_front-front.result.1.0).0, (place_of c.cut_front-front.result.1.0).1 + span c.args.size)) × (span c.args.size < (extent_of (tiling c.cut_front-front.new.extents.segs.items) c.cut_front-front.result.1.0).span))
behind g c = rw (← c.span_of.ensures) c.cut_back-rest.ensures.rest

pub cut_back-rest-requires-clause-free : goal.cut_back-rest-requires-clause-free
cut_back-rest-requires-clause-free g c =
    front-free _ _ c.args.extents.now.kept _ c.args.a.0 _ c.args.off c.args.size c.args.tag c.requires.room c.cut_front-front.ensures.rest c.cut_front-front.ensures.changed.tiling

pub lay_zeros-requires-clause-free : goal.lay_zeros-requires-clause-free
lay_zeros-requires-clause-free g c =
    back-free _ _ c.args.extents.now.kept _ c.args.a.0 _ c.args.off c.args.size c.args.tag c.requires.room c.cut_front-front.ensures.rest c.cut_front-front.ensures.changed.tiling _
    (cut g (goal.at.lay_zeros-requires-clause-free g c).After-cut_back-rest)

pub lay_zeros-requires-clause-span : goal.lay_zeros-requires-clause-span
lay_zeros-requires-clause-span g c =
    back-span _ _ c.args.extents.now.kept _ c.args.a.0 _ c.args.off c.args.size c.args.tag c.requires.room c.cut_front-front.ensures.rest c.cut_front-front.ensures.changed.tiling _
    (cut g (goal.at.lay_zeros-requires-clause-span g c).After-cut_back-rest)

-- what was cut off is out of the tree, which stays
change : (g : Over) (c : After-lay_zeros g) → GapsChange (tiling c.args.extents.now.segs.items) (tiling c.lay_zeros.new.extents.segs.items) (c.args.a.0 ∷ []) (some_name c.cut_front-front.result.0 ++ some_name c.cut_back-rest.result)
change g c =
    gaps-put (tiling c.args.extents.now.segs.items) (tiling c.cut_front-front.new.extents.segs.items) (tiling c.cut_back-rest.new.extents.segs.items) (tiling c.lay_zeros.new.extents.segs.items) c.args.a.0 c.cut_front-front.result.1.0 _ _
    c.cut_front-front.ensures.gaps c.cut_back-rest.ensures.gaps c.lay_zeros.ensures.gaps

out : (g : Over) (c : After-lay_zeros g) → HasGaps (tiling c.lay_zeros.new.extents.segs.items) c.args.root.now.0 (some_name c.cut_front-front.result.0 ++ some_name c.cut_back-rest.result)
out g c =
    gaps-changed _ _ _ _ _ (change g c) c.requires.gaps

pub link_some-requires : goal.link_some-requires
link_some-requires g c =
    let at = goal.at.link_some-requires g c in
    front-can _ _ c.args.extents.now.kept _ c.args.a.0 _ c.args.off c.args.size c.args.tag c.requires.room c.cut_front-front.ensures.rest c.cut_front-front.ensures.changed.tiling _ (cut g at.After-cut_back-rest) _ c.lay_zeros.ensures.changed.tiling
    c.cut_front-front.result.0 c.cut_back-rest.result c.args.root.now.0 c.cut_front-front.ensures.front (behind g at.After-cut_back-rest) (out g at.After-lay_zeros)

-- what is behind is out once what is before is in
left : (g : Over) (c : After-link_some g) → HasGaps (tiling c.link_some.new.extents.segs.items) c.link_some.new.root.0 (some_name c.cut_back-rest.result)
left g c =
    let at = goal.at.After-link_some g c in
    c.link_some.ensures.gaps _
    (front-apart _ _ c.args.extents.now.kept _ c.args.a.0 _ c.args.off c.args.size c.args.tag c.requires.room c.cut_front-front.ensures.rest c.cut_front-front.ensures.changed.tiling _ (cut g at.After-cut_back-rest) _ c.lay_zeros.ensures.changed.tiling
    c.cut_front-front.result.0 c.cut_back-rest.result c.args.root.now.0 c.cut_front-front.ensures.front (behind g at.After-cut_back-rest))
    (out g at.After-lay_zeros)

pub link_some-requires-2 : goal.link_some-requires-2
link_some-requires-2 g c =
    let at = goal.at.link_some-requires-2 g c in
    rest-can _ _ c.args.extents.now.kept _ c.args.a.0 _ c.args.off c.args.size c.args.tag c.requires.room c.cut_front-front.ensures.rest c.cut_front-front.ensures.changed.tiling _ (cut g at.After-cut_back-rest) _ c.lay_zeros.ensures.changed.tiling
    c.cut_front-front.result.0 c.cut_back-rest.result c.args.root.now.0 c.cut_front-front.ensures.front (behind g at.After-cut_back-rest) _ _ c.link_some.ensures.rest.extents (left g at.After-link_some)

-- the tiling with the block
carved : (g : Over) (c : After-lay_zeros g) → tiling c.lay_zeros.new.extents.segs.items ≡ change_extent c.args.a.0 (carve c.args.off c.args.size c.args.tag) (tiling c.args.extents.now.segs.items)
carved g c =
    carved-whole _ _ c.args.extents.now.kept _ c.args.a.0 _ c.args.off c.args.size c.args.tag c.requires.room c.cut_front-front.ensures.rest c.cut_front-front.ensures.changed.tiling _ (cut g (goal.at.After-lay_zeros g c).After-cut_back-rest) _ c.lay_zeros.ensures.changed.tiling

pub returns-clause-layout : goal.returns-clause-layout
returns-clause-layout g c =
    layout-stays c.link_some.new.extents.segs.items c.link_some-2.new.extents.segs.items c.link_some-2.ensures.rest
    ∙ layout-stays c.lay_zeros.new.extents.segs.items c.link_some.new.extents.segs.items c.link_some.ensures.rest
    ∙ carved-layout _ _ _ _ c.args.extents.now.kept c.lay_zeros.new.extents.kept c.args.a.0 c.args.off c.args.size c.args.tag c.requires.room.free c.requires.room.sized.some (carved g (goal.at.returns-clause-layout g c).After-lay_zeros)
    (c.lay_zeros.ensures.changed.pairs ∙ c.cut_back-rest.ensures.changed.pairs ∙ c.cut_front-front.ensures.changed.pairs)

pub returns-clause-kept : goal.returns-clause-kept
returns-clause-kept g c =
    let t2 = tiling c.link_some.new.extents.segs.items in
    let at = goal.at.returns-clause-kept g c in
    record {
      merged =
          merged-stays t2 (tiling c.link_some-2.new.extents.segs.items) c.link_some-2.ensures.rest.extents
          (merged-stays (tiling c.lay_zeros.new.extents.segs.items) t2 c.link_some.ensures.rest.extents
          (carved-merged _ _ _ _ c.args.extents.now.kept c.lay_zeros.new.extents.kept c.args.a.0 c.args.off c.args.size c.args.tag c.requires.room.free c.requires.room.sized.some (carved g at.After-lay_zeros) c.requires.merged));
      gaps = c.link_some-2.ensures.gaps [] (none c.cut_back-rest.result) (gaps-more t2 c.link_some.new.root.0 (some_name c.cut_back-rest.result) (left g at.After-link_some));
    }
  where
    none : (o : Option Addr) → IfSome o (λ b. contains [] b.0 ≡ false)
    none None = tt
    none (Some b) = refl

pub returns-clause-cost : goal.returns-clause-cost
returns-clause-cost g c =
    let at = goal.at.returns-clause-cost g c in
    then_cost (out g at.After-lay_zeros)
    (changed_cost _ _ _ _ c.args.extents.now.kept c.lay_zeros.new.extents.kept c.args.root.now.0 c.args.steps.now c.cut_back-rest.new.steps 1 _ _ (change g at.After-lay_zeros) c.requires.gaps (let one = c.cut_back-rest.ensures.counter in omega arith))
    (then_cost (left g at.After-link_some) c.link_some.ensures.cost c.link_some-2.ensures.cost)

-- nothing is before a block at the start
no-front : (a p off : ℕ) (o : Option Addr) → IfSome o (λ f. (f.0 ≡ a) × (p < off)) → off ≡ p → o ≡ None
no-front a p off None h e = refl
no-front a p off (Some f) h e = let low = h.1 in absurd (omega arith)

pub returns-clause-cost_at_start : goal.returns-clause-cost_at_start
returns-clause-cost_at_start g c = λ start.
    let at = goal.at.returns-clause-cost_at_start g c in
    then_cost (out g at.After-lay_zeros)
    (changed_cost _ _ _ _ c.args.extents.now.kept c.lay_zeros.new.extents.kept c.args.root.now.0 c.args.steps.now c.cut_back-rest.new.steps 1 _ _ (change g at.After-lay_zeros) c.requires.gaps (let one = c.cut_back-rest.ensures.counter in omega arith))
    (then_cost (left g at.After-link_some) (c.link_some.ensures.none (no-front c.args.a.0 (place_of c.args.a.0).1 c.args.off c.cut_front-front.result.0 c.cut_front-front.ensures.front start)) c.link_some-2.ensures.cost)
