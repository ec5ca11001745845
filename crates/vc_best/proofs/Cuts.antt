-- A list of extents, cut at the one that an offset names.
use Rattle.vc_base.proofs.Common.{◌≡◌, ℕ, ◌+◌, ◌-◌, ◌<◌, ◌≤◌, true, false, eqb, ◌≢◌, List, [], ◌∷◌, ◌++◌, All, sym, refl, ap, ◌∙◌, subst, ⊎_elim, arith, eq-eqb, ne_eqb, eqb-true, cases_Bool, All-cons, All-head, All-nil, All-tail, All-weaker, place_of}
use Rattle.vc_best.proofs.Common.{Extent, behind, change_at, change_extent, change_in, extent_in, extents_of}
use Rattle.vc_best.proofs.Lies.{Lies}

-- what comes before the offset's extent is passed over
module _ (off : ℕ) where
  abbrev Other : Extent → Type 0
  Other e = e.off ≢ off

  pub extent_in-skip : (xs zs : List Extent) → All Other xs → extent_in off (xs ++ zs) ≡ extent_in off zs
  extent_in-skip [] zs h = refl
  extent_in-skip (x ∷ xs) zs h = rw (ne_eqb x.off off (All-head Other x xs h)) (extent_in-skip xs zs (All-tail Other x xs h))

  pub behind-skip : (xs zs : List Extent) → All Other xs → behind off (xs ++ zs) ≡ behind off zs
  behind-skip [] zs h = refl
  behind-skip (x ∷ xs) zs h = rw (ne_eqb x.off off (All-head Other x xs h)) (behind-skip xs zs (All-tail Other x xs h))

  pub change_at-skip : (f : Extent → List Extent → List Extent) (xs zs : List Extent) → All Other xs → change_at off f (xs ++ zs) ≡ xs ++ change_at off f zs
  change_at-skip f [] zs h = refl
  change_at-skip f (x ∷ xs) zs h = rw (ne_eqb x.off off (All-head Other x xs h)) (ap (λ ys. x ∷ ys) (change_at-skip f xs zs (All-tail Other x xs h)))

  module _ (e : Extent) (es : List Extent) (h : e.off ≡ off) where
    pub extent_in-here : extent_in off (e ∷ es) ≡ e
    extent_in-here = rw (eq-eqb e.off off h) refl

    pub behind-here : behind off (e ∷ es) ≡ es
    behind-here = rw (eq-eqb e.off off h) refl

    pub change_at-here : (f : Extent → List Extent → List Extent) → change_at off f (e ∷ es) ≡ f e es
    change_at-here f = rw (eq-eqb e.off off h) refl

-- extents from a place up to a place, cut at the one that an offset names
pub record Cut (stop at off : ℕ) (es : List Extent) : Type 0 where
  pub before : List Extent
  pub is : es ≡ before ++ extent_in off es ∷ behind off es
  pub lower : All (λ e. e.off < off) before
  pub low : at + 16 ≤ off
  pub here : Lies stop (off - 16) (extent_in off es ∷ behind off es)

pub cut : (stop at off : ℕ) (es : List Extent) → Lies stop at es → 0 < (extent_in off es).span → Cut stop at off es
cut stop at off [] h named = absurd (omega arith)
cut stop at off (e ∷ es) h named =
    let o = h.0.off in
    ⊎_elim
    (λ (t : eqb e.off off ≡ true).
    let z = eqb-true e.off off t in
    let same : at ≡ off - 16 = omega arith in
    record {
      before = [];
      is = rw t refl;
      lower = All-nil (λ (x : Extent). x.off < off);
      low = omega arith;
      here = rw t (subst (λ (k : ℕ). Lies stop k (e ∷ es)) same h);
    })
    (λ (t : eqb e.off off ≡ false).
    let c : Cut stop (at + e.span) off es = cut stop (at + e.span) off es h.1 (rw t at named) in
    let low = c.low in
    let least = h.0.legal.least in
    record {
      before = e ∷ c.before;
      is = rw t (ap (λ xs. e ∷ xs) c.is);
      lower = All-cons (λ (x : Extent). x.off < off) e c.before (omega arith) c.lower;
      low = omega arith;
      here = rw t c.here;
    })
    (cases_Bool (eqb e.off off))

-- extents of lower offsets have other ones
pub lower-other : (off to : ℕ) (xs : List Extent) → off ≤ to → All (λ e. e.off < off) xs → All (λ e. e.off ≢ to) xs
lower-other off to xs le h = All-weaker (λ (e : Extent). e.off < off) (λ (e : Extent). e.off ≢ to) (λ e lt q. omega arith) xs h

-- what a change of a cut list gives
module _ (stop at off : ℕ) (es : List Extent) (c : Cut stop at off es) where
  pub cut-change : (f : Extent → List Extent → List Extent) → change_at off f es ≡ c.before ++ f (extent_in off es) (behind off es)
  cut-change f =
      let e = extent_in off es in
      let ys = behind off es in
      let o = c.here.0.off in
      let low = c.low in
      ap (change_at off f) c.is
      ∙ (change_at-skip off f c.before (e ∷ ys) (lower-other off off c.before (omega arith) c.lower)
      ∙ ap (λ zs. c.before ++ zs) (change_at-here off e ys (omega arith) f))

  -- a change at another offset that is not lower
  pub cut-later : (to : ℕ) (f g : Extent → List Extent → List Extent) → off ≤ to →
      change_at to g (change_at off f es) ≡ c.before ++ change_at to g (f (extent_in off es) (behind off es))
  cut-later to f g le =
      ap (change_at to g) (cut-change f)
      ∙ change_at-skip to g c.before (f (extent_in off es) (behind off es)) (lower-other off to c.before le c.lower)

  pub cut-extent : (to : ℕ) (f : Extent → List Extent → List Extent) → off ≤ to →
      extent_in to (change_at off f es) ≡ extent_in to (f (extent_in off es) (behind off es))
  cut-extent to f le =
      ap (extent_in to) (cut-change f)
      ∙ extent_in-skip to c.before (f (extent_in off es) (behind off es)) (lower-other off to c.before le c.lower)

  pub cut-behind : (to : ℕ) (f : Extent → List Extent → List Extent) → off ≤ to →
      behind to (change_at off f es) ≡ behind to (f (extent_in off es) (behind off es))
  cut-behind to f le =
      ap (behind to) (cut-change f)
      ∙ behind-skip to c.before (f (extent_in off es) (behind off es)) (lower-other off to c.before le c.lower)

  -- two changes that come to one
  pub cut-steps : (to : ℕ) (f g h : Extent → List Extent → List Extent) → off ≤ to →
      change_at to g (f (extent_in off es) (behind off es)) ≡ h (extent_in off es) (behind off es) →
      change_at to g (change_at off f es) ≡ change_at off h es
  cut-steps to f g h le e = cut-later to f g le ∙ (ap (λ zs. c.before ++ zs) e ∙ sym (cut-change h))

-- changes of one segment
module _ (n : ℕ) where
  pub change_in-twice : (t : List (ℕ × List Extent)) (g h : List Extent → List Extent) → change_in n h (change_in n g t) ≡ change_in n (λ es. h (g es)) t
  change_in-twice [] g h = refl
  change_in-twice (s ∷ ss) g h =
      ⊎_elim
      (λ (e : eqb s.0 n ≡ true). rw e (rw e refl))
      (λ (e : eqb s.0 n ≡ false). rw e (rw e (ap (λ ts. s ∷ ts) (change_in-twice ss g h))))
      (cases_Bool (eqb s.0 n))

  pub change_in-same : (t : List (ℕ × List Extent)) (g h : List Extent → List Extent) → g (extents_of n t) ≡ h (extents_of n t) → change_in n g t ≡ change_in n h t
  change_in-same [] g h q = refl
  change_in-same (s ∷ ss) g h q =
      ⊎_elim
      (λ (e : eqb s.0 n ≡ true).
      let own : g s.1 ≡ h s.1 = rw e at q in
      rw e (ap (λ (xs : List Extent). (s.0, xs) ∷ ss) own))
      (λ (e : eqb s.0 n ≡ false).
      let rest : g (extents_of n ss) ≡ h (extents_of n ss) = rw e at q in
      rw e (ap (λ ts. s ∷ ts) (change_in-same ss g h rest)))
      (cases_Bool (eqb s.0 n))

  pub change_in-none : (t : List (ℕ × List Extent)) (h : List Extent → List Extent) → h (extents_of n t) ≡ extents_of n t → change_in n h t ≡ t
  change_in-none [] h q = refl
  change_in-none (s ∷ ss) h q =
      ⊎_elim
      (λ (e : eqb s.0 n ≡ true).
      let own : h s.1 ≡ s.1 = rw e at q in
      rw e (ap (λ (xs : List Extent). (s.0, xs) ∷ ss) own))
      (λ (e : eqb s.0 n ≡ false).
      let rest : h (extents_of n ss) ≡ extents_of n ss = rw e at q in
      rw e (ap (λ ts. s ∷ ts) (change_in-none ss h rest)))
      (cases_Bool (eqb s.0 n))

-- two changes in one segment that come to one
pub steps : (t : List (ℕ × List Extent)) (a b : ℕ) (f g h : Extent → List Extent → List Extent) → (place_of b).0 ≡ (place_of a).0 →
    change_at (place_of b).1 g (change_at (place_of a).1 f (extents_of (place_of a).0 t)) ≡ change_at (place_of a).1 h (extents_of (place_of a).0 t) →
    change_extent b g (change_extent a f t) ≡ change_extent a h t
steps t a b f g h same e =
    let n = (place_of a).0 in
    ap (λ (m : ℕ). change_in m (change_at (place_of b).1 g) (change_extent a f t)) same
    ∙ (change_in-twice n t (change_at (place_of a).1 f) (change_at (place_of b).1 g)
    ∙ change_in-same n t (λ es. change_at (place_of b).1 g (change_at (place_of a).1 f es)) (change_at (place_of a).1 h) e)
