use Rattle.vc_base.proofs.Common.{◌≡◌, ℕ, ◌+◌, ◌≤◌, List, [], ◌∷◌, ◌++◌, length, set, sym, ap, ◌∙◌, subst, arith, le_prop, ∥∥₁_elim, ∥∥₁_map}
use Rattle.vc_seg.specs.Segment.{Bytes}
use Rattle.vc_extent.specs.Tiling.{AreExtents, IsNamed, tiling}
use Rattle.vc_extent.proofs.Pushes.{AreExtents-push, few-unused}
use Rattle.vc_extent.proofs.WalkStarts.{near-pushed}
use Rattle.vc_extent.proofs.extents.Extents.adopt.Goals as goal

pub push_reserved-requires : goal.push_reserved-requires
push_reserved-requires c =
    let few : length c.args.self.now.segs.items ≤ 1022 = ∥∥₁_elim c.args.self.now.kept (le_prop) (λ k. few-unused c.args.seg.number c.args.self.now.segs.items k.segments c.requires.first c.requires.last c.requires.unused) in
    let room = c.args.self.now.reserved in
    omega (arith, c.args.self.now.segs.ok)

pub invariant_of-self : goal.invariant_of-self
invariant_of-self c =
    let segs : List Bytes = c.args.self.now.segs.items in
    let new : Bytes = c.args.seg in
    let len : c.len.result + 1 ≡ length segs + 1 = omega (arith, c.len.ensures, c.args.self.now.segs.ok) in
    let pushed : ∥ AreExtents (segs ++ new ∷ []) (set c.args.self.now.index.items new.number (length segs + 1)) ∥₁ =
    ∥∥₁_map c.args.self.now.kept (λ k. AreExtents-push segs c.args.self.now.index.items new k c.requires.first c.requires.last c.requires.unused c.requires.tiled) in
    let index : set c.args.self.now.index.items new.number (length segs + 1) ≡ set c.args.self.now.index.items c.number-number.result (c.len.result + 1) =
    ap (λ n. set c.args.self.now.index.items n (length segs + 1)) (sym c.number-number.ensures) ∙ ap (set c.args.self.now.index.items c.number-number.result) (sym len) in
    record {
      kept =
          subst (λ (xs : List Bytes). ∥ AreExtents xs (set c.args.self.now.index.items c.number-number.result (c.len.result + 1)) ∥₁) (sym c.push_reserved.ensures.items)
          (subst (λ (xs : List ℕ). ∥ AreExtents (segs ++ new ∷ []) xs ∥₁) index pushed);
      reserved = omega (arith, c.push_reserved.ensures.capacity, c.args.self.now.reserved);
      named = λ some.
          subst (λ (xs : List Bytes). IsNamed (tiling xs) c.args.self.now.near.0) (sym c.push_reserved.ensures.items) (near-pushed c.args.self.now.near.0 segs new c.args.self.now.named some);
    }
