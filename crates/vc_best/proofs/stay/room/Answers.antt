use Rattle.vc_base.proofs.Common.{◌≡◌, ℕ, ◌+◌, ◌≤◌, Some, sym, ap, ◌∙◌, arith, le_prop, ∥∥₁_elim, ℕ_set, address, place_of}
use Rattle.vc_best.proofs.Common.{Extent, extent_of, free_bytes, next_of, tiling}
use Rattle.vc_best.proofs.Borders.{free-busy, free-free}
use Rattle.vc_best.proofs.Known.{cut-of}
use Rattle.vc_best.proofs.Linking.{next-size}
use Rattle.vc_best.proofs.Nexts.{next-extent, next-off, next-place, not-busy, some-address}
use Rattle.vc_best.proofs.Walks.{named-end}
use Rattle.vc_best.proofs.stay.room.Given.{Over}
use Rattle.vc_best.proofs.stay.room.Goals as goal
use Rattle.vc_best.proofs.stay.room.Goals.{After-is_busy}

-- the extent behind it, with its address, its size and its span
behind : (g : Over) (c : After-is_busy g) → (y : Extent) × (next_of (tiling c.args.extents.now.segs.items) c.args.a.0 ≡ Some y) × (c.in-Some.next.0 ≡ address ((place_of c.args.a.0).0, y.off))
behind g c = some-address (place_of c.args.a.0).0 c.in-Some.next.0 (next_of (tiling c.args.extents.now.segs.items) c.args.a.0) c.in-Some.ensures.value

size : (g : Over) (c : After-is_busy g) → (extent_of (tiling c.args.extents.now.segs.items) c.in-Some.next.0).size ≡ (behind g c).0.size
size g c =
    next-size _ _ c.args.extents.now.kept c.args.a.0 c.requires.named c.in-Some.next.0 (behind g c).0 (behind g c).1 (behind g c).2

span : (g : Over) (c : After-is_busy g) → (extent_of (tiling c.args.extents.now.segs.items) c.in-Some.next.0).span ≡ (behind g c).0.span
span g c =
    let f = behind g c in
    ∥∥₁_elim c.args.extents.now.kept (hlevel (ℕ_set)) (λ k. ap (λ (x : Extent). x.span) (next-extent (tiling c.args.extents.now.segs.items) c.args.a.0 c.in-Some.next.0 f.0 (cut-of _ _ c.args.a.0 k c.requires.named) f.1 f.2))

pub overflow_add-result : goal.overflow_add-result
overflow_add-result g c =
    let t = tiling c.args.extents.now.segs.items in
    let a = c.args.a.0 in
    let b = c.in-Some.next.0 in
    let f = behind g (goal.at.overflow_add-result g c).After-is_busy in
    let end : (place_of a).1 + (extent_of t a).span + (extent_of t b).span ≤ 33554432 =
    ∥∥₁_elim c.args.extents.now.kept (hlevel (le_prop))
    (λ k.
    let cut = cut-of _ _ a k c.requires.named in
    let o = next-off t a b f.0 cut f.1 f.2 in
    let p = ap (λ (q : ℕ × ℕ). q.1) (next-place t a b f.0 cut f.1 f.2) in
    let m = named-end _ _ b c.args.extents.now.kept c.in-Some.ensures.named in
    omega arith) in
    omega (arith, end, c.span_at-own.ensures.value, c.span_at.ensures.value)

pub returns-then-is_busy-clause-value : goal.returns-then-is_busy-clause-value
returns-then-is_busy-clause-value g c =
    let n = (goal.at.returns-then-is_busy-clause-value g c).After-is_busy in
    let none : free_bytes (next_of (tiling c.args.extents.now.segs.items) c.args.a.0) ≡ 0 =
    free-busy (next_of (tiling c.args.extents.now.segs.items) c.args.a.0) (behind g n).0 (behind g n).1 (omega (arith, c.is_busy.ensures.0 c.if-is_busy.true, size g n)) in
    omega (arith, none, c.span_at-own.ensures.value)

pub returns-else-is_busy-clause-value : goal.returns-else-is_busy-clause-value
returns-else-is_busy-clause-value g c =
    let t = tiling c.args.extents.now.segs.items in
    let n = (goal.at.returns-else-is_busy-clause-value g c).After-is_busy in
    let f = behind g n in
    let free = not-busy c.is_busy.result (extent_of t c.in-Some.next.0).size c.is_busy.ensures.1 c.if-is_busy.false in
    let more : free_bytes (next_of t c.args.a.0) ≡ (extent_of t c.in-Some.next.0).span = free-free (next_of t c.args.a.0) f.0 f.1 (sym (size g n) ∙ free) ∙ sym (span g n) in
    omega (arith, more, c.span_at-own.ensures.value, c.span_at.ensures.value)
