use Rattle.vc_base.proofs.Common.{◌≡◌, ◌-◌, ◌≤◌, length, ◌∙◌, arith, le_prop, ∥∥₁_elim, ℕ_set}
use Rattle.std.proofs.lemmas.List.{get_or_read}
use Rattle.vc_extent.specs.Tiling.{IsPlace, index_from}
use Rattle.vc_extent.proofs.Places.{there-first, there-last, place-from, some-from}
use Rattle.vc_extent.proofs.Propositions.{tiled-prop}
use Rattle.vc_extent.proofs.extents.Extents.place.Goals as goal
use Rattle.vc_extent.proofs.extents.Extents.place.Goals.{After-index}

pub index-requires : goal.index-requires
index-requires c =
    let last : c.args.number ≤ 1023 = ∥∥₁_elim c.args.self.now.kept (le_prop) (λ k. there-last c.args.number c.args.self.now.segs.items k.segments.legal c.requires) in
    let numbers : length c.args.self.now.index.items ≡ 1024 = ∥∥₁_elim c.args.self.now.kept (hlevel (ℕ_set)) (λ k. k.numbers) in
    omega (arith, c.args.self.now.index.ok)

index : (c : After-index) → c.index.result.now ≡ index_from 0 c.args.number c.args.self.now.segs.items
index c =
    ∥∥₁_elim c.args.self.now.kept (hlevel (ℕ_set))
    (λ k.
    let last = there-last c.args.number c.args.self.now.segs.items k.segments.legal c.requires in
    let numbers = k.numbers in
    get_or_read c.args.self.now.index.items c.args.number c.index.result.now (omega arith) c.index.ensures 0 ∙ k.places c.args.number (omega arith))

pub overflow_sub-result : goal.overflow_sub-result
overflow_sub-result c = some-from c.args.number c.index.result.now c.args.self.now.segs.items c.requires (index (goal.at.overflow_sub-result c).After-index)

place : (c : After-index) → IsPlace c.args.number c.args.self.now.segs.items (c.index.result.now - 1)
place c = place-from c.args.number c.index.result.now c.args.self.now.segs.items c.requires (index c)

pub returns-clause-place : goal.returns-clause-place
returns-clause-place c = place (goal.at.returns-clause-place c).After-index

pub returns-clause-tiled : goal.returns-clause-tiled
returns-clause-tiled c =
    λ d.
    let p = place (goal.at.returns-clause-tiled c).After-index in
    ∥∥₁_elim c.args.self.now.kept (tiled-prop _) (λ k. k.tiled (c.index.result.now - 1) d p.within)

pub returns-clause-first : goal.returns-clause-first
returns-clause-first c = ∥∥₁_elim c.args.self.now.kept (le_prop) (λ k. there-first c.args.number c.args.self.now.segs.items k.segments.legal c.requires)

pub returns-clause-last : goal.returns-clause-last
returns-clause-last c = ∥∥₁_elim c.args.self.now.kept (le_prop) (λ k. there-last c.args.number c.args.self.now.segs.items k.segments.legal c.requires)
