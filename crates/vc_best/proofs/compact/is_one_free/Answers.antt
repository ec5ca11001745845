use Rattle.vc_base.proofs.Common.{◌≡◌, ◌+◌, ◌<◌, true, false, ◌∷◌, IsSome, sym, refl, subst, arith, eq-eqb, eqb-true}
use Rattle.vc_best.proofs.Common.{IsNamed, IsThere, behind_of, extent_of, extents_of, tiling}
use Rattle.vc_best.proofs.Nexts.{not-busy}
use Rattle.vc_best.proofs.Segments.{one-by_span, one-not}
use Rattle.vc_best.proofs.Walks.{named-end, start-named, start-whole}
use Rattle.vc_best.proofs.compact.is_one_free.Given.{Over}
use Rattle.vc_best.proofs.compact.is_one_free.Goals as goal
use Rattle.vc_best.proofs.compact.is_one_free.Goals.{After-first-first}

there : (g : Over) (c : After-first-first g) → IsThere c.args.seg c.args.extents.now.segs.items
there g c = subst IsSome (sym c.requires) refl

named : (g : Over) (c : After-first-first g) → IsNamed (tiling c.args.extents.now.segs.items) c.first-first.result.0
named g c = start-named _ _ c.args.seg c.first-first.result.0 c.args.extents.now.kept (there g c) c.first-first.ensures

whole : (g : Over) (c : After-first-first g) → extents_of c.args.seg (tiling c.args.extents.now.segs.items) ≡ extent_of (tiling c.args.extents.now.segs.items) c.first-first.result.0 ∷ behind_of (tiling c.args.extents.now.segs.items) c.first-first.result.0
whole g c = start-whole _ _ c.args.seg c.first-first.result.0 c.args.extents.now.kept (there g c) c.first-first.ensures

pub is_busy-requires : goal.is_busy-requires
is_busy-requires g c = named g (goal.at.is_busy-requires g c).After-first-first

pub span_at-requires : goal.span_at-requires
span_at-requires g c = named g (goal.at.span_at-requires g c).After-first-first

pub overflow_add-result : goal.overflow_add-result
overflow_add-result g c =
    let end = named-end _ _ c.first-first.result.0 c.args.extents.now.kept (named g (goal.at.overflow_add-result g c).After-first-first) in
    omega arith

pub returns-then-not-is_busy-clause-value : goal.returns-then-not-is_busy-clause-value
returns-then-not-is_busy-clause-value g c =
    let t = tiling c.args.extents.now.segs.items in
    let a = c.first-first.result.0 in
    let w = whole g (goal.at.returns-then-not-is_busy-clause-value g c).After-first-first in
    let free = not-busy c.is_busy.result (extent_of t a).size c.is_busy.ensures.1 c.if-not-is_busy.true in
    let span = c.span_at.ensures.value in (
      λ q. one-by_span _ _ c.args.seg c.args.size (extent_of t a) (behind_of t a) c.args.extents.now.kept c.requires w free (let is = eqb-true (c.span_at.result + 32) c.args.size q in omega arith),
      λ h. eq-eqb (c.span_at.result + 32) c.args.size (let is = (one-not _ _ c.args.seg c.args.size (extent_of t a) (behind_of t a) c.args.extents.now.kept c.requires w h).1 in omega arith),
    )

pub returns-else-not-is_busy-clause-value : goal.returns-else-not-is_busy-clause-value
returns-else-not-is_busy-clause-value g c =
    let t = tiling c.args.extents.now.segs.items in
    let a = c.first-first.result.0 in
    let w = whole g (goal.at.returns-else-not-is_busy-clause-value g c).After-first-first in
    let yes : c.is_busy.result ≡ true = c.if-not-is_busy.false in
    let busy : 0 < (extent_of t a).size = c.is_busy.ensures.0 yes in (
      λ q. absurd (let no : false ≡ true = rw yes at q in cc),
      λ h. absurd (let free = (one-not _ _ c.args.seg c.args.size (extent_of t a) (behind_of t a) c.args.extents.now.kept c.requires w h).0 in omega arith),
    )
