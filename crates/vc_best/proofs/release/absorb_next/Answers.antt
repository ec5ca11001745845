use Rattle.vc_base.proofs.Common.{◌≡◌, IsSomeAnd, Some, Option, sym, refl, ◌∙◌, subst, arith, ∥∥₁_elim, address, place_of}
use Rattle.vc_best.proofs.Common.{Extent, extent_of, next_of, tiling}
use Rattle.vc_best.proofs.FreeGaps.{gaps-joined_next, gaps-unjoined, joined-free}
use Rattle.vc_best.proofs.Known.{cut-of}
use Rattle.vc_best.proofs.Linking.{name-busy, name-none, next-size}
use Rattle.vc_best.proofs.Nexts.{no-address, not-busy, some-address}
use Rattle.vc_best.proofs.FreeBlocks.{absorb-busy_next, absorb-free_next, absorb-none}
use Rattle.vc_best.proofs.Sets.{tiling-set}
use Rattle.vc_best.proofs.release.absorb_next.Goals as goal
use Rattle.vc_best.proofs.release.absorb_next.Goals.{After-is_busy}

pub returns-in_default-clause-changed : goal.returns-in_default-clause-changed
returns-in_default-clause-changed c =
    let t = tiling c.args.extents.now.segs.items in
    record {
      tiling = ∥∥₁_elim c.args.extents.now.kept (hlevel (tiling-set)) (λ k. absorb-none t c.args.a.0 (cut-of _ _ c.args.a.0 k c.requires.free.named) (no-address _ (next_of t c.args.a.0) c.in_default.ensures.value));
      pairs = refl;
    }

-- the extent behind it, with its address and its size
behind : (c : After-is_busy) → (y : Extent) × (next_of (tiling c.args.extents.now.segs.items) c.args.a.0 ≡ Some y) × (c.in-Some.next.0 ≡ address ((place_of c.args.a.0).0, y.off))
behind c = some-address _ c.in-Some.next.0 (next_of (tiling c.args.extents.now.segs.items) c.args.a.0) c.in-Some.ensures.value

size : (c : After-is_busy) → (extent_of (tiling c.args.extents.now.segs.items) c.in-Some.next.0).size ≡ (behind c).0.size
size c =
    let f = behind c in
    next-size _ _ c.args.extents.now.kept c.args.a.0 c.requires.free.named c.in-Some.next.0 f.0 f.1 f.2

pub join-requires-clause-next : goal.join-requires-clause-next
join-requires-clause-next c =
    let n = (goal.at.join-requires-clause-next c).After-is_busy in
    subst (λ (o : Option Extent). IsSomeAnd o (λ e. e.size ≡ 0)) (sym (behind n).1)
    (sym (size n) ∙ not-busy c.is_busy.result (extent_of (tiling c.args.extents.now.segs.items) c.in-Some.next.0).size c.is_busy.ensures.1 c.if-not-is_busy.true)

pub returns-then-not-is_busy-clause-changed : goal.returns-then-not-is_busy-clause-changed
returns-then-not-is_busy-clause-changed c =
    let t = tiling c.args.extents.now.segs.items in
    let n = (goal.at.returns-then-not-is_busy-clause-changed c).After-is_busy in
    let free = sym (size n) ∙ not-busy c.is_busy.result (extent_of t c.in-Some.next.0).size c.is_busy.ensures.1 c.if-not-is_busy.true in
    record {
      tiling = ∥∥₁_elim c.args.extents.now.kept (hlevel (tiling-set)) (λ k. c.join.ensures.tiling ∙ absorb-free_next t c.args.a.0 (cut-of _ _ c.args.a.0 k c.requires.free.named) (behind n).0 (behind n).1 free);
      pairs = c.join.ensures.pairs;
    }

pub returns-else-not-is_busy-clause-changed : goal.returns-else-not-is_busy-clause-changed
returns-else-not-is_busy-clause-changed c =
    let n = (goal.at.returns-else-not-is_busy-clause-changed c).After-is_busy in
    let busy = c.is_busy.ensures.0 c.if-not-is_busy.false in
    record {
      tiling = ∥∥₁_elim c.args.extents.now.kept (hlevel (tiling-set)) (λ k. absorb-busy_next (tiling c.args.extents.now.segs.items) c.args.a.0 (cut-of _ _ c.args.a.0 k c.requires.free.named) (behind n).0 (behind n).1 (omega (arith, size n, busy)));
      pairs = refl;
    }

pub returns-in_default-clause-gaps : goal.returns-in_default-clause-gaps
returns-in_default-clause-gaps c =
    let t = tiling c.args.extents.now.segs.items in
    gaps-unjoined t c.args.a.0 (name-none _ (next_of t c.args.a.0) (no-address _ (next_of t c.args.a.0) c.in_default.ensures.value))

pub returns-else-not-is_busy-clause-gaps : goal.returns-else-not-is_busy-clause-gaps
returns-else-not-is_busy-clause-gaps c =
    let t = tiling c.args.extents.now.segs.items in
    let n = (goal.at.returns-else-not-is_busy-clause-gaps c).After-is_busy in
    gaps-unjoined t c.args.a.0 (name-busy _ (next_of t c.args.a.0) (behind n).0 (behind n).1 (omega (arith, size n, c.is_busy.ensures.0 c.if-not-is_busy.false)))

pub returns-then-not-is_busy-clause-gaps : goal.returns-then-not-is_busy-clause-gaps
returns-then-not-is_busy-clause-gaps c =
    let n = (goal.at.returns-then-not-is_busy-clause-gaps c).After-is_busy in
    let free = sym (size n) ∙ not-busy c.is_busy.result (extent_of (tiling c.args.extents.now.segs.items) c.in-Some.next.0).size c.is_busy.ensures.1 c.if-not-is_busy.true in
    gaps-joined_next _ _ _ _ c.args.extents.now.kept c.join.new.self.kept c.args.a.0 (behind n).0 c.requires.free c.join.ensures.tiling (behind n).1 free

pub returns-then-not-is_busy-clause-free : goal.returns-then-not-is_busy-clause-free
returns-then-not-is_busy-clause-free c =
    let f = behind (goal.at.returns-then-not-is_busy-clause-free c).After-is_busy in
    joined-free _ _ _ _ c.args.extents.now.kept c.join.new.self.kept c.args.a.0 f.0 c.requires.free c.join.ensures.tiling f.1
