use Rattle.vc_base.proofs.Common.{◌≡◌, ℕ, ◌<◌, false, List, [], ◌∷◌, ◌++◌, sym, ap, ◌∙◌, subst, arith, ∥∥₁_elim, address, place_of}
use Rattle.vc_best.proofs.Common.{HasGapsBy, IsFree, IsMerged, Tiling, behind_of, extent_of, first_of, free_before, free_next, next_of, previous_of, tiling}
use Rattle.vc_base.proofs.Sets.{bytes-set}
use Rattle.vc_model.proofs.Owned.{address-place_of}
use Rattle.vc_best.specs.Standing.{IsOnlyHolding}
use Rattle.vc_best.proofs.FreeBlocks.{lower, place, rest}
use Rattle.vc_best.proofs.Known.{IsCut, cut-of, off-of}
use Rattle.vc_best.proofs.LeftBlocks.{layout-absorbed}
use Rattle.vc_best.proofs.Linking.{before-not, before-one, name-free, name-none}
use Rattle.vc_best.proofs.MergedBut.{merged-absorbed, merged-alone, merged-behind_busy}
use Rattle.vc_best.proofs.Nexts.{next-off, no-address, not-busy, some-address}
use Rattle.vc_best.proofs.Only.{only-absorbed}
use Rattle.vc_best.proofs.Sets.{merged-prop, runs-set}
use Rattle.vc_best.proofs.release.absorb_before.Goals as goal
use Rattle.vc_best.proofs.release.absorb_before.Goals.{After-is_busy}

pub returns-in_default-clause-merged : goal.returns-in_default-clause-merged
returns-in_default-clause-merged c =
    let t = tiling c.args.extents.now.segs.items in
    let a = c.args.a.0 in
    λ m. ∥∥₁_elim c.args.extents.now.kept (merged-prop t)
    (λ k. merged-alone t a (cut-of _ _ a k c.requires.free.named) m c.requires.free.named (no-address (place_of a).0 (previous_of t a) c.in_default.ensures.value))

pub returns-in_default-clause-gaps : goal.returns-in_default-clause-gaps
returns-in_default-clause-gaps c =
    let t = tiling c.args.extents.now.segs.items in
    let a = c.args.a.0 in
    let none : free_before t a ≡ [] = name-none (place_of a).0 (previous_of t a) (no-address (place_of a).0 (previous_of t a) c.in_default.ensures.value) in
    λ u root out h. subst (λ (ps : List ℕ). HasGapsBy u t root ((ps ++ a ∷ []) ++ out)) none h

-- how the two stand
record Stand (t : Tiling) (a b : ℕ) : Type 0 where
  cut : IsCut t a
  first : IsCut t b
  seg : (place_of b).0 ≡ (place_of a).0
  lower : (place_of b).1 < (place_of a).1
  rest : behind_of t b ≡ extent_of t a ∷ behind_of t a

stand : {P : Type 0} (c : After-is_busy) → IsProp P → (Stand (tiling c.args.extents.now.segs.items) c.args.a.0 c.in-Some.first.0 → P) → P
stand c prop f =
    let t = tiling c.args.extents.now.segs.items in
    let a = c.args.a.0 in
    let b = c.in-Some.first.0 in
    let named = c.requires.free.named in
    let p = some-address (place_of a).0 b (previous_of t a) c.in-Some.ensures.value in
    ∥∥₁_elim c.args.extents.now.kept prop
    (λ h.
    let k = cut-of _ _ a h named in
    let d = cut-of _ _ b h c.in-Some.ensures.named in
    f (record {
      cut = k;
      first = d;
      seg = ap (λ (q : ℕ × ℕ). q.0) (place t a k b p.0 p.1 named p.2);
      lower = lower t a k b p.0 p.1 named p.2;
      rest = rest t a k b p.0 p.1 named p.2;
    }))

pub returns-then-is_busy-clause-merged : goal.returns-then-is_busy-clause-merged
returns-then-is_busy-clause-merged c =
    let t = tiling c.args.extents.now.segs.items in
    let n = (goal.at.returns-then-is_busy-clause-merged c).After-is_busy in
    λ m. stand n (merged-prop t) (λ s. merged-behind_busy t c.args.a.0 s.cut m c.in-Some.first.0 s.first s.seg s.lower s.rest (c.is_busy.ensures.0 c.if-is_busy.true))

pub returns-then-is_busy-clause-gaps : goal.returns-then-is_busy-clause-gaps
returns-then-is_busy-clause-gaps c =
    let t = tiling c.args.extents.now.segs.items in
    let a = c.args.a.0 in
    let none : free_before t a ≡ [] = before-not _ _ c.args.extents.now.kept a c.requires.free.named c.in-Some.first.0 c.in-Some.ensures.value (c.is_busy.ensures.0 c.if-is_busy.true) in
    λ u root out h. subst (λ (ps : List ℕ). HasGapsBy u t root ((ps ++ a ∷ []) ++ out)) none h

-- the one before it is free
free : (c : After-is_busy) → c.is_busy.result ≡ false → IsFree (tiling c.args.extents.now.segs.items) c.in-Some.first.0
free c idle = record { named = c.in-Some.ensures.named; free = not-busy c.is_busy.result (extent_of (tiling c.args.extents.now.segs.items) c.in-Some.first.0).size c.is_busy.ensures.1 idle }

pub returns-clause-layout : goal.returns-clause-layout
returns-clause-layout c =
    let n = (goal.at.returns-clause-layout c).After-is_busy in
    layout-absorbed _ _ _ _ c.in-Some.first.0 c.args.extents.now.kept c.absorb_next.new.extents.kept (free n c.if-is_busy.false) c.absorb_next.ensures.changed.tiling c.absorb_next.ensures.changed.pairs

pub returns-clause-merged : goal.returns-clause-merged
returns-clause-merged c =
    let t = tiling c.args.extents.now.segs.items in
    let n = (goal.at.returns-clause-merged c).After-is_busy in
    λ m. stand n (merged-prop (tiling c.absorb_next.new.extents.segs.items))
    (λ s.
    subst IsMerged (sym c.absorb_next.ensures.changed.tiling)
    (merged-absorbed t c.args.a.0 s.cut m c.in-Some.first.0 s.first s.seg s.lower s.rest (free n c.if-is_busy.false).free c.requires.free.free))

pub returns-clause-gaps : goal.returns-clause-gaps
returns-clause-gaps c =
    let t = tiling c.args.extents.now.segs.items in
    let a = c.args.a.0 in
    let b = c.in-Some.first.0 in
    let n = (goal.at.returns-clause-gaps c).After-is_busy in
    let before : free_before t a ≡ b ∷ [] = before-one _ _ c.args.extents.now.kept a c.requires.free.named b c.in-Some.ensures.value (free n c.if-is_busy.false).free in
    let next : free_next t b ≡ a ∷ [] =
    stand n (hlevel (bytes-set))
    (λ s.
    let value : a ≡ address ((place_of b).0, (extent_of t a).off) =
    sym (address-place_of a) ∙ ap (λ (m : ℕ). address ((place_of a).0, m)) (sym (off-of t a s.cut)) ∙ ap (λ (m : ℕ). address (m, (extent_of t a).off)) (sym s.seg) in
    name-free (place_of b).0 a (next_of t b) (extent_of t a) (ap first_of s.rest) value c.requires.free.free) in
    λ u root out h.
    let both : HasGapsBy u t root (b ∷ (a ∷ out)) = subst (λ (ps : List ℕ). HasGapsBy u t root ((ps ++ a ∷ []) ++ out)) before h in
    c.absorb_next.ensures.gaps u root out (subst (λ (ns : List ℕ). HasGapsBy u t root (b ∷ (ns ++ out))) (sym next) both)

pub returns-clause-only : goal.returns-clause-only
returns-clause-only c =
    let t = tiling c.args.extents.now.segs.items in
    let a = c.args.a.0 in
    let b = c.in-Some.first.0 in
    let n = (goal.at.returns-clause-only c).After-is_busy in
    λ size align one. stand n (hlevel (runs-set))
    (λ s.
    let value : a ≡ address ((place_of b).0, (extent_of t a).off) =
    sym (address-place_of a) ∙ ap (λ (m : ℕ). address ((place_of a).0, m)) (sym (off-of t a s.cut)) ∙ ap (λ (m : ℕ). address (m, (extent_of t a).off)) (sym s.seg) in
    let o = next-off t b a (extent_of t a) s.first (ap first_of s.rest) value in
    let own = off-of t b s.first in
    subst (λ (u : Tiling). IsOnlyHolding u size align b) (sym c.absorb_next.ensures.changed.tiling)
    (only-absorbed t a b s.first s.rest s.seg (omega (arith, o, own)) (free n c.if-is_busy.false).free c.requires.free.free size align one))
