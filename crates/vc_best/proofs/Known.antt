-- What is known of the extents of a segment.
use Rattle.vc_base.proofs.Common.{◌≡◌, ℕ, ◌+◌, ◌-◌, ◌≤◌, List, [], ◌∷◌, ◌++◌, length, get_or, sym, refl, ap, ◌∙◌, subst, arith, place_of, IsSegmentSize}
use Rattle.vc_best.proofs.Common.{AreExtents, Bytes, Extent, IsNamed, IsThere, behind, behind_of, change_at, change_extent, extent_in, extent_of, extents_of, tiling}
use Rattle.vc_gaps.proofs.Named.{extents_of-here}
use Rattle.vc_extent.proofs.Places.{found, named-there, there-first, there-last}
use Rattle.vc_best.proofs.Cuts.{Cut, change_in-none, change_in-same, cut, cut-behind, cut-change, cut-extent, cut-steps, steps}
use Rattle.vc_best.proofs.Lies.{Lies, lies-tiled}

-- the extents of a segment lie one behind the other in its usable part
pub record IsSegment (n : ℕ) (es : List Extent) : Type 0 where
  pub size : ℕ
  pub legal : IsSegmentSize size
  pub first : 1 ≤ n
  pub last : n ≤ 1023
  pub lies : Lies (size - 16) 16 es

pub segment-of : (n : ℕ) (segs : List Bytes) (index : List ℕ) → AreExtents segs index → IsThere n segs → IsSegment n (extents_of n (tiling segs))
segment-of n segs index k there =
    let f = found 0 n segs there in
    let d : Bytes = record { number = 0; bytes = [] } in
    let b : List ℕ = (get_or segs f.i d).bytes in
    let t = k.tiled f.i d f.place.within in
    record {
      size = length b;
      legal = t.size;
      first = there-first n segs k.segments.legal there;
      last = there-last n segs k.segments.legal there;
      lies = subst (λ (es : List Extent). Lies (length b - 16) 16 es) (f.place.extents d) (lies-tiled b t);
    }

-- an address names an extent of a segment, at which its extents are cut
pub record IsCut (t : List (ℕ × List Extent)) (a : ℕ) : Type 0 where
  pub size : ℕ
  pub legal : IsSegmentSize size
  pub first : 1 ≤ (place_of a).0
  pub last : (place_of a).0 ≤ 1023
  pub lies : Lies (size - 16) 16 (extents_of (place_of a).0 t)
  pub cut : Cut (size - 16) 16 (place_of a).1 (extents_of (place_of a).0 t)

pub cut-of : (segs : List Bytes) (index : List ℕ) (a : ℕ) → AreExtents segs index → IsNamed (tiling segs) a → IsCut (tiling segs) a
cut-of segs index a k named =
    let n = (place_of a).0 in
    let s = segment-of n segs index k (named-there n (place_of a).1 segs named) in
    record {
      size = s.size;
      legal = s.legal;
      first = s.first;
      last = s.last;
      lies = s.lies;
      cut = cut (s.size - 16) 16 (place_of a).1 (extents_of n (tiling segs)) s.lies named;
    }

-- after the extent that an address names changed, and those behind it
module _ (t new : List (ℕ × List Extent)) (a b : ℕ) (f : Extent → List Extent → List Extent) (c : IsCut t a) (is : new ≡ change_extent a f t) (same : (place_of b).0 ≡ (place_of a).0) (le : (place_of a).1 ≤ (place_of b).1) where
  after : extents_of (place_of b).0 new ≡ change_at (place_of a).1 f (extents_of (place_of a).0 t)
  after = ap (λ (m : ℕ). extents_of m new) same ∙ (ap (extents_of (place_of a).0) is ∙ extents_of-here (place_of a).0 (change_at (place_of a).1 f) t refl)

  pub then-extent : extent_of new b ≡ extent_in (place_of b).1 (f (extent_of t a) (behind_of t a))
  then-extent = ap (extent_in (place_of b).1) after ∙ cut-extent (c.size - 16) 16 (place_of a).1 (extents_of (place_of a).0 t) c.cut (place_of b).1 f le

  pub then-behind : behind_of new b ≡ behind (place_of b).1 (f (extent_of t a) (behind_of t a))
  then-behind = ap (behind (place_of b).1) after ∙ cut-behind (c.size - 16) 16 (place_of a).1 (extents_of (place_of a).0 t) c.cut (place_of b).1 f le

  -- a change of one that is not before it comes to one change with the first
  pub then-steps : (last : List (ℕ × List Extent)) (g h : Extent → List Extent → List Extent) → last ≡ change_extent b g new →
      change_at (place_of b).1 g (f (extent_of t a) (behind_of t a)) ≡ h (extent_of t a) (behind_of t a) → last ≡ change_extent a h t
  then-steps last g h e one =
      e ∙ (ap (change_extent b g) is
      ∙ steps t a b f g h same (cut-steps (c.size - 16) 16 (place_of a).1 (extents_of (place_of a).0 t) c.cut (place_of b).1 f g h le one))

-- changes that do the same there
module _ (t : List (ℕ × List Extent)) (a : ℕ) (c : IsCut t a) where
  abbrev es : List Extent
  es = extents_of (place_of a).0 t

  pub now-same : (f g : Extent → List Extent → List Extent) → f (extent_of t a) (behind_of t a) ≡ g (extent_of t a) (behind_of t a) → change_extent a f t ≡ change_extent a g t
  now-same f g q =
      change_in-same (place_of a).0 t (change_at (place_of a).1 f) (change_at (place_of a).1 g)
      (cut-change (c.size - 16) 16 (place_of a).1 es c.cut f ∙ (ap (λ zs. c.cut.before ++ zs) q ∙ sym (cut-change (c.size - 16) 16 (place_of a).1 es c.cut g)))

  pub now-none : (f : Extent → List Extent → List Extent) → f (extent_of t a) (behind_of t a) ≡ extent_of t a ∷ behind_of t a → change_extent a f t ≡ t
  now-none f q =
      change_in-none (place_of a).0 t (change_at (place_of a).1 f)
      (cut-change (c.size - 16) 16 (place_of a).1 es c.cut f ∙ (ap (λ zs. c.cut.before ++ zs) q ∙ sym c.cut.is))

  -- the offset of a named extent is that of its name
  pub off-of : (extent_of t a).off ≡ (place_of a).1
  off-of = omega (arith, c.cut.here.0.off, c.cut.low)

  -- it ends within the usable part of its segment
  pub end-of : (place_of a).1 + (extent_of t a).span ≤ c.size
  end-of = omega (arith, c.cut.here.0.within, c.cut.low, c.legal.least)
