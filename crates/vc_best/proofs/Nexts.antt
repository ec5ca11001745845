-- The extent behind one, and the address that names it.
use Rattle.vc_base.proofs.Common.{◌≡◌, ℕ, zero, suc, ◌+◌, ◌-◌, ◌<◌, Bool, true, false, ◌≢◌, List, [], ◌∷◌, ◌++◌, IsTrue, Some, None, All, Option, option_map, sym, refl, ap, ◌∙◌, subst, arith, ne_eqb, address, place_of}
use Rattle.vc_best.proofs.Common.{Extent, behind, behind_of, extent_in, extent_of, extents_of, first_of, next_of}
use Rattle.vc_gaps.proofs.Joined.{first-cons}
use Rattle.vc_seg.proofs.Blocks.{place_of-address}
use Rattle.vc_best.proofs.Cuts.{behind-here, behind-skip, extent_in-here, extent_in-skip, lower-other}
use Rattle.vc_best.proofs.Known.{IsCut, off-of}
use Rattle.vc_best.proofs.Lies.{Lies}

-- addresses of extents
pub some-address : (n x : ℕ) (o : Option Extent) → Some x ≡ option_map (λ (e : Extent). address (n, e.off)) o → (y : Extent) × (o ≡ Some y) × (x ≡ address (n, y.off))
some-address n x None e = absurd (cc)
some-address n x (Some y) e = (y, refl, cc)

pub no-address : (n : ℕ) (o : Option Extent) → None ≡ option_map (λ (e : Extent). address (n, e.off)) o → o ≡ None
no-address n None e = refl
no-address n (Some y) e = absurd (cc)

pub none-first : (ys : List Extent) → first_of ys ≡ None → ys ≡ []
none-first [] e = refl
none-first (y ∷ ys) e = absurd (cc)

module _ (t : List (ℕ × List Extent)) (a b : ℕ) (y : Extent) (c : IsCut t a) (next : next_of t a ≡ Some y) (value : b ≡ address ((place_of a).0, y.off)) where
  tail : (zs : List Extent) × (behind_of t a ≡ y ∷ zs)
  tail = first-cons (behind_of t a) y next

  lies : Lies (c.size - 16) ((place_of a).1 - 16) (extent_of t a ∷ y ∷ tail.0)
  lies = subst (λ (ys : List Extent). Lies (c.size - 16) ((place_of a).1 - 16) (extent_of t a ∷ ys)) tail.1 c.cut.here

  pub next-off : y.off ≡ (place_of a).1 + (extent_of t a).span
  next-off = omega (arith, lies.1.0.off, c.cut.low)

  pub next-place : place_of b ≡ ((place_of a).0, y.off)
  next-place =
      let o = next-off in
      let low = lies.1.0.off in
      ap place_of value ∙ place_of-address (place_of a).0 y.off (omega (arith, lies.1.0.within, lies.1.0.legal.least, c.legal.most)) (omega (arith, c.cut.here.0.legal.multiple))

  pub next-seg : (place_of b).0 ≡ (place_of a).0
  next-seg = ap (λ (q : ℕ × ℕ). q.0) next-place

  pub next-above : (place_of a).1 < (place_of b).1
  next-above =
      let q : (place_of b).1 ≡ y.off = ap (λ (q : ℕ × ℕ). q.1) next-place in
      omega (arith, next-off, c.cut.here.0.legal.least)

  others : All (λ e. e.off ≢ y.off) c.cut.before
  others = lower-other (place_of a).1 y.off c.cut.before (omega (arith, next-off)) c.cut.lower

  first-other : (extent_of t a).off ≢ y.off
  first-other = λ q. omega (arith, next-off, off-of t a c, c.cut.here.0.legal.least)

  pub next-extent : extent_of t b ≡ y
  next-extent =
      ap (λ (q : ℕ × ℕ). extent_in q.1 (extents_of q.0 t)) next-place
      ∙ (ap (extent_in y.off) (c.cut.is ∙ ap (λ (zs : List Extent). c.cut.before ++ (extent_of t a ∷ zs)) tail.1)
      ∙ (extent_in-skip y.off c.cut.before (extent_of t a ∷ y ∷ tail.0) others
      ∙ rw (ne_eqb (extent_of t a).off y.off first-other) (extent_in-here y.off y tail.0 refl)))

  pub next-behind : behind_of t a ≡ y ∷ behind_of t b
  next-behind =
      let later : behind_of t b ≡ tail.0 =
      ap (λ (q : ℕ × ℕ). behind q.1 (extents_of q.0 t)) next-place
      ∙ (ap (behind y.off) (c.cut.is ∙ ap (λ (zs : List Extent). c.cut.before ++ (extent_of t a ∷ zs)) tail.1)
      ∙ (behind-skip y.off c.cut.before (extent_of t a ∷ y ∷ tail.0) others
      ∙ rw (ne_eqb (extent_of t a).off y.off first-other) (behind-here y.off y tail.0 refl))) in
      tail.1 ∙ ap (λ (zs : List Extent). y ∷ zs) (sym later)

-- a test that shows no size
pub not-busy : (r : Bool) (n : ℕ) → (0 < n → IsTrue r) → r ≡ false → n ≡ 0
not-busy r zero h e = refl
not-busy r (suc n) h e = absurd (let q : r ≡ true = h (omega arith) in cc)
