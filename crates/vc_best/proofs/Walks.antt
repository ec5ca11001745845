-- A walk along the extents of a segment.
use Rattle.vc_base.proofs.Common.{◌≡◌, ℕ, ◌+◌, ◌-◌, ◌<◌, ◌≤◌, true, eqb, ◌≢◌, List, [], ◌∷◌, ◌++◌, IfSome, Some, None, All, Option, option_map, sym, refl, ap, ◌∙◌, subst, arith, eq-eqb, ne_eqb, le_prop, ∥∥₁_elim, ℕ_set, All-head, All-tail, address, place_of}
use Rattle.vc_best.proofs.Common.{Addr, AreExtents, Bytes, Extent, IsNamed, IsThere, behind, behind_of, extent_in, extent_of, extents_from, extents_of, first_of, left_from, next_of, tiling}
use Rattle.vc_seg.proofs.Blocks.{place_of-address}
use Rattle.vc_best.proofs.Cuts.{cut, lower-other}
use Rattle.vc_best.proofs.Known.{IsCut, IsSegment, cut-of, end-of, off-of, segment-of}
use Rattle.vc_best.proofs.Lies.{Lies}
use Rattle.vc_best.proofs.Nexts.{next-behind, next-extent, next-seg, no-address, none-first, some-address}
use Rattle.vc_best.proofs.Sets.{extents-set}

from_on-skip : (off : ℕ) (xs zs : List Extent) → All (λ e. e.off ≢ off) xs → extents_from off (xs ++ zs) ≡ extents_from off zs
from_on-skip off [] zs h = refl
from_on-skip off (x ∷ xs) zs h =
    let P : Extent → Type 0 = λ e. e.off ≢ off in
    rw (ne_eqb x.off off (All-head P x xs h)) (from_on-skip off xs zs (All-tail P x xs h))

-- the extents from a named one on
pub from-cut : (t : List (ℕ × List Extent)) (a : ℕ) → IsCut t a → extents_from (place_of a).1 (extents_of (place_of a).0 t) ≡ extent_of t a ∷ behind_of t a
from-cut t a c =
    let off = (place_of a).1 in
    let e = extent_of t a in
    let ys = behind_of t a in
    let own = off-of t a c in
    ap (extents_from off) c.cut.is
    ∙ (from_on-skip off c.cut.before (e ∷ ys) (lower-other off off c.cut.before (omega arith) c.cut.lower)
    ∙ rw (eq-eqb e.off off own) refl)

-- an optional address of an extent of a segment
abbrev pub IsOn : List (ℕ × List Extent) → ℕ → Option Addr → Type 0
IsOn t n next = IfSome next (λ a. ((place_of a.0).0 ≡ n) × IsNamed t a.0)

-- what is left of a segment from an optional address on
abbrev pub left : List (ℕ × List Extent) → ℕ → Option Addr → List Extent
left t n next = left_from (option_map (λ a. a.0) next) (extents_of n t)

module _ (segs : List Bytes) (index : List ℕ) (k : AreExtents segs index) (n : ℕ) where
  left-here : (a : Addr) → (place_of a.0).0 ≡ n → IsNamed (tiling segs) a.0 → left (tiling segs) n (Some a) ≡ extent_of (tiling segs) a.0 ∷ behind_of (tiling segs) a.0
  left-here a own named =
      ap (λ (m : ℕ). extents_from (place_of a.0).1 (extents_of m (tiling segs))) (sym own) ∙ from-cut (tiling segs) a.0 (cut-of segs index a.0 k named)

  step : (a : Addr) (next : Option Addr) → (place_of a.0).0 ≡ n → IsNamed (tiling segs) a.0 →
      option_map (λ r. r.0) next ≡ option_map (λ e. address ((place_of a.0).0, e.off)) (next_of (tiling segs) a.0) → IfSome next (λ r. IsNamed (tiling segs) r.0) →
      (left (tiling segs) n (Some a) ≡ extent_of (tiling segs) a.0 ∷ left (tiling segs) n next) × IsOn (tiling segs) n next
  step a None own named value later =
      let ys : behind_of (tiling segs) a.0 ≡ [] = none-first (behind_of (tiling segs) a.0) (no-address (place_of a.0).0 (next_of (tiling segs) a.0) value) in
      (left-here a own named ∙ ap (λ zs. extent_of (tiling segs) a.0 ∷ zs) ys, tt)
  step a (Some b) own named value later =
      let f = some-address (place_of a.0).0 b.0 (next_of (tiling segs) a.0) value in
      let c = cut-of segs index a.0 k named in
      let seg : (place_of b.0).0 ≡ n = next-seg (tiling segs) a.0 b.0 f.0 c f.1 f.2 ∙ own in
      let e = next-extent (tiling segs) a.0 b.0 f.0 c f.1 f.2 in
      let ys = next-behind (tiling segs) a.0 b.0 f.0 c f.1 f.2 in (
        left-here a own named ∙ ap (λ zs. extent_of (tiling segs) a.0 ∷ zs) (ys ∙ (ap (λ (x : Extent). x ∷ behind_of (tiling segs) b.0) (sym e) ∙ sym (left-here b seg later))),
        (seg, later),
      )

-- the next extent is what is left behind one
module _ (segs : List Bytes) (index : List ℕ) (k : ∥ AreExtents segs index ∥₁) (n : ℕ) (a : Addr) (next : Option Addr) (own : (place_of a.0).0 ≡ n) (named : IsNamed (tiling segs) a.0)
    (value : option_map (λ r. r.0) next ≡ option_map (λ e. address ((place_of a.0).0, e.off)) (next_of (tiling segs) a.0)) (later : IfSome next (λ r. IsNamed (tiling segs) r.0)) where
  pub left-next : left (tiling segs) n (Some a) ≡ extent_of (tiling segs) a.0 ∷ left (tiling segs) n next
  left-next = ∥∥₁_elim k (hlevel (extents-set)) (λ h. (step segs index h n a next own named value later).0)

-- the first extent of a segment
pub record IsStart (t : List (ℕ × List Extent)) (n a : ℕ) : Type 0 where
  pub cut : IsCut t a
  pub seg : (place_of a).0 ≡ n
  pub off : (place_of a).1 ≡ 32
  pub whole : extents_of n t ≡ extent_of t a ∷ behind_of t a

start-of : (t : List (ℕ × List Extent)) (n a : ℕ) (es : List Extent) → IsSegment n es → extents_of n t ≡ es → Some a ≡ option_map (λ e. address (n, e.off)) (first_of es) → IsStart t n a
start-of t n a [] s is e = absurd (cc)
start-of t n a (y ∷ ys) s is e =
    let value : a ≡ address (n, y.off) = cc in
    let o : y.off ≡ 32 = s.lies.0.off in
    let least = s.lies.0.legal.least in
    let place : place_of a ≡ (n, 32) = ap place_of (value ∙ ap (λ (k : ℕ). address (n, k)) o) ∙ place_of-address n 32 (omega arith) refl in
    let seg : (place_of a).0 ≡ n = ap (λ (p : ℕ × ℕ). p.0) place in
    let off : (place_of a).1 ≡ 32 = ap (λ (p : ℕ × ℕ). p.1) place in
    let own : eqb y.off 32 ≡ true = eq-eqb y.off 32 o in
    let extent : extent_of t a ≡ y = ap (λ (p : ℕ × ℕ). extent_in p.1 (extents_of p.0 t)) place ∙ (ap (extent_in 32) is ∙ rw own refl) in
    let rest : behind_of t a ≡ ys = ap (λ (p : ℕ × ℕ). behind p.1 (extents_of p.0 t)) place ∙ (ap (behind 32) is ∙ rw own refl) in
    let lies : Lies (s.size - 16) 16 (extents_of (place_of a).0 t) = subst (λ (es : List Extent). Lies (s.size - 16) 16 es) (sym (ap (λ (m : ℕ). extents_of m t) seg ∙ is)) s.lies in
    let first = s.first in
    let last = s.last in
    let named : 0 < (extent_of t a).span = rw (ap (λ (x : Extent). x.span) extent) (omega arith) in
    record {
      cut = record {
        size = s.size;
        legal = s.legal;
        first = omega arith;
        last = omega arith;
        lies = lies;
        cut = cut (s.size - 16) 16 (place_of a).1 (extents_of (place_of a).0 t) lies named;
      };
      seg = seg;
      off = off;
      whole = is ∙ (ap (λ (x : Extent). x ∷ ys) (sym extent) ∙ ap (λ zs. extent_of t a ∷ zs) (sym rest));
    }

pub start : (segs : List Bytes) (index : List ℕ) (n a : ℕ) → AreExtents segs index → IsThere n segs → Some a ≡ option_map (λ e. address (n, e.off)) (first_of (extents_of n (tiling segs))) → IsStart (tiling segs) n a
start segs index n a k there value = start-of (tiling segs) n a (extents_of n (tiling segs)) (segment-of n segs index k there) refl value

pub named-cut : (t : List (ℕ × List Extent)) (a : ℕ) → IsCut t a → IsNamed t a
named-cut t a c = let least = c.cut.here.0.legal.least in omega arith

-- where a named extent lies
module _ (segs : List Bytes) (index : List ℕ) (a : ℕ) (k : ∥ AreExtents segs index ∥₁) (named : IsNamed (tiling segs) a) where
  pub named-end : (place_of a).1 + (extent_of (tiling segs) a).span ≤ 33554432
  named-end = ∥∥₁_elim k (hlevel (le_prop)) (λ h. let c = cut-of segs index a h named in let end = end-of (tiling segs) a c in let most = c.legal.most in omega arith)

  pub named-own : (extent_of (tiling segs) a).off ≡ (place_of a).1
  named-own = ∥∥₁_elim k (hlevel (ℕ_set)) (λ h. off-of (tiling segs) a (cut-of segs index a h named))

-- the first extent of a segment, by its address
module _ (segs : List Bytes) (index : List ℕ) (n a : ℕ) (k : ∥ AreExtents segs index ∥₁) (there : IsThere n segs) (value : Some a ≡ option_map (λ e. address (n, e.off)) (first_of (extents_of n (tiling segs)))) where
  pub start-named : IsNamed (tiling segs) a
  start-named = ∥∥₁_elim k (hlevel (le_prop)) (λ h. named-cut (tiling segs) a (start segs index n a h there value).cut)

  pub start-seg : (place_of a).0 ≡ n
  start-seg = ∥∥₁_elim k (hlevel (ℕ_set)) (λ h. (start segs index n a h there value).seg)

  pub start-whole : extents_of n (tiling segs) ≡ extent_of (tiling segs) a ∷ behind_of (tiling segs) a
  start-whole = ∥∥₁_elim k (hlevel (extents-set)) (λ h. (start segs index n a h there value).whole)

  pub start-left : extents_from (place_of a).1 (extents_of n (tiling segs)) ≡ extents_of n (tiling segs)
  start-left =
      ∥∥₁_elim k (hlevel (extents-set))
      (λ h.
      let s = start segs index n a h there value in
      ap (λ (m : ℕ). extents_from (place_of a).1 (extents_of m (tiling segs))) (sym s.seg) ∙ (from-cut (tiling segs) a s.cut ∙ sym s.whole))

-- an optional address that stays on a segment
pub on-next : (segs : List Bytes) (index : List ℕ) (n : ℕ) (a : Addr) (next : Option Addr) → ∥ AreExtents segs index ∥₁ → (place_of a.0).0 ≡ n → IsNamed (tiling segs) a.0 →
    option_map (λ r. r.0) next ≡ option_map (λ e. address ((place_of a.0).0, e.off)) (next_of (tiling segs) a.0) → IfSome next (λ r. IsNamed (tiling segs) r.0) → IsOn (tiling segs) n next
on-next segs index n a None k own named value later = tt
on-next segs index n a (Some b) k own named value later =
    (∥∥₁_elim k (hlevel (ℕ_set)) (λ h. (step segs index h n a (Some b) own named value later).1.0), later)

pub left-named : (segs : List Bytes) (index : List ℕ) → ∥ AreExtents segs index ∥₁ → (n : ℕ) (a : Addr) → (place_of a.0).0 ≡ n → IsNamed (tiling segs) a.0 → left (tiling segs) n (Some a) ≡ extent_of (tiling segs) a.0 ∷ behind_of (tiling segs) a.0
left-named segs index k n a own named = ∥∥₁_elim k (hlevel (extents-set)) (λ h. left-here segs index h n a own named)
