use Rattle.vc_base.proofs.Common.{◌≡◌, ◌-◌, ◌≤◌, length, Some, ap, ◌∙◌, arith, le_prop, ∥∥₁_elim, ℕ_set}
use Rattle.std.proofs.lemmas.List.{get_or_read}
use Rattle.vc_seg.specs.Segment.{Bytes}
use Rattle.vc_extent.specs.Tiling.{IsPlace, index_from}
use Rattle.vc_extent.proofs.Places.{place-from, size-none, size-place, some-from, there-from, there-last}
use Rattle.vc_extent.proofs.extents.Extents.has.Goals as goal
use Rattle.vc_extent.proofs.extents.Extents.has.Goals.{After-index}

pub returns-then-n-ge1024 : goal.returns-then-n-ge1024
returns-then-n-ge1024 c =
    size-none c.args.n c.args.self.now.segs.items
    (λ there.
    let last : c.args.n ≤ 1023 = ∥∥₁_elim c.args.self.now.kept (le_prop) (λ k. there-last c.args.n c.args.self.now.segs.items k.segments.legal there) in
    omega (arith, c.if-n-ge1024.true))

pub index-requires : goal.index-requires
index-requires c =
    let numbers : length c.args.self.now.index.items ≡ 1024 = ∥∥₁_elim c.args.self.now.kept (hlevel (ℕ_set)) (λ k. k.numbers) in
    omega (arith, c.args.self.now.index.ok, c.if-n-ge1024.false)

index : (c : After-index) → c.index.result.now ≡ index_from 0 c.args.n c.args.self.now.segs.items
index c =
    ∥∥₁_elim c.args.self.now.kept (hlevel (ℕ_set))
    (λ k.
    let numbers = k.numbers in
    let less = c.if-n-ge1024.false in
    get_or_read c.args.self.now.index.items c.args.n c.index.result.now (omega arith) c.index.ensures 0 ∙ k.places c.args.n (omega arith))

pub returns-then-next-eq0 : goal.returns-then-next-eq0
returns-then-next-eq0 c =
    let is = index (goal.at.returns-then-next-eq0 c).After-index in
    size-none c.args.n c.args.self.now.segs.items (λ there. let some = some-from c.args.n c.index.result.now c.args.self.now.segs.items there is in omega (arith, c.if-next-eq0.true))

place : (c : After-index) → (c.index.result.now ≡ 0 → ⊥) → IsPlace c.args.n c.args.self.now.segs.items (c.index.result.now - 1)
place c some = let is = index c in place-from c.args.n c.index.result.now c.args.self.now.segs.items (there-from 0 c.args.n c.args.self.now.segs.items (λ q. some (is ∙ q))) is

pub index-requires-2 : goal.index-requires-2
index-requires-2 c =
    let p = place (goal.at.index-requires-2 c).After-index c.if-next-eq0.false in
    let within = p.within in
    omega (arith, c.args.self.now.segs.ok)

pub returns : goal.returns
returns c =
    let p = place (goal.at.returns c).After-index c.if-next-eq0.false in
    let s : Bytes = c.index-2.result.now in
    ap Some (c.size.ensures.value ∙ ap (λ (b : Bytes). length b.bytes) c.index-2.ensures) ∙ size-place c.args.n (c.index.result.now - 1) c.args.self.now.segs.items s p.within p.numbered p.first
