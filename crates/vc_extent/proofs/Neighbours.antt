-- The extents behind and before one.
use Rattle.vc_base.proofs.Common.{◌≡◌, ℕ, ◌+◌, ◌-◌, ◌%◌, ◌<◌, ◌≤◌, true, false, cond, eqb, ◌≢◌, List, [], ◌∷◌, length, Some, None, Option, option_map, sym, refl, ap, ◌∙◌, subst, ⊎_elim, arith, eq-eqb, ne_eqb, eqb-true, cases_Bool, cases_eq}
use Rattle.vc_seg.specs.Field.{field_at}
use Rattle.vc_extent.specs.Extent.{Extent, extents}
use Rattle.vc_extent.specs.Tiles.{IsLegal, Tiles}
use Rattle.vc_extent.specs.Change.{IsExtentAt, extent_in, first_of, last_before}
use Rattle.vc_extent.proofs.Tiled.{named-above, off-at, tiles-lt}

abbrev off_of : Option Extent → Option ℕ
off_of o = option_map (λ (e : Extent). e.off) o

module _ (b : List ℕ) (stop : ℕ) where
  head-off : (p at : ℕ) (e : Extent) (es : List Extent) → Tiles b stop p at (e ∷ es) → e.off ≡ at + 16
  head-off p at e es h = ap (λ (x : Extent). x.off) h.0.extent ∙ off-at at b

  pub next-off : (p at : ℕ) (es : List Extent) → Tiles b stop p at es → at < stop → off_of (first_of es) ≡ Some (at + 16)
  next-off p at [] h lt = absurd (omega (arith, h))
  next-off p at (e ∷ es) h lt = ap Some (head-off p at e es h)

  pub next-none : (p at : ℕ) (es : List Extent) → Tiles b stop p at es → stop ≤ at → off_of (first_of es) ≡ None
  next-none p at [] h le = refl
  next-none p at (e ∷ es) h le = let r = tiles-lt b stop p at e es h in let l = h.0.legal.least in absurd (omega arith)

  pub first-named : (p at : ℕ) (es : List Extent) → Tiles b stop p at es → at < stop → 0 < (extent_in (at + 16) es).span
  first-named p at [] h lt = absurd (omega (arith, h))
  first-named p at (e ∷ es) h lt = let l = h.0.legal.least in rw (eq-eqb e.off (at + 16) (head-off p at e es h)) (omega arith)

  pub next-named : (p from at end : ℕ) (es : List Extent) → Tiles b stop p from es → 0 < (extent_in (at + 16) es).span → end ≡ at + (extent_in (at + 16) es).span → end < stop → 0 < (extent_in (end + 16) es).span
  next-named p from at end [] h named is lt = absurd (omega arith)
  next-named p from at end (e ∷ es) h named is lt =
      let o = head-off p from e es h in
      let l = h.0.legal.least in
      ⊎_elim
      (λ (t : eqb e.off (at + 16) ≡ true).
      let z = eqb-true e.off (at + 16) t in
      let is' : end ≡ at + e.span = rw t at is in
      let place : from + e.span ≡ end = omega arith in
      let rest : Tiles b stop e.span end es = subst (λ (k : ℕ). Tiles b stop e.span k es) place h.1 in
      rw (ne_eqb e.off (end + 16) (λ q. omega arith)) (first-named e.span end es rest lt))
      (λ (t : eqb e.off (at + 16) ≡ false).
      let named' : 0 < (extent_in (at + 16) es).span = rw t at named in
      let is' : end ≡ at + (extent_in (at + 16) es).span = rw t at is in
      let above = named-above b stop e.span (from + e.span) (at + 16) es h.1 named' in
      rw (ne_eqb e.off (end + 16) (λ q. omega arith)) (next-named e.span (from + e.span) at end es h.1 named' is' lt))
      (cases_Bool (eqb e.off (at + 16)))

  -- the boundary word of the first
  pub boundary-first : (p at : ℕ) (es : List Extent) → Tiles b stop p at es → 0 < (extent_in (at + 16) es).span → field_at (at + 12) b ≡ p
  boundary-first p at [] h named = absurd (omega arith)
  boundary-first p at (e ∷ es) h named = h.0.boundary

  pub previous-is : (p from at : ℕ) (last : Option Extent) (es : List Extent) → Tiles b stop p from es → 0 < (extent_in (at + 16) es).span → off_of last ≡ cond (eqb p 0) None (Some (from + 16 - p)) →
      off_of (last_before last (at + 16) es) ≡ cond (eqb (field_at (at + 12) b) 0) None (Some (at + 16 - field_at (at + 12) b))
  previous-is p from at last [] h named is = absurd (omega arith)
  previous-is p from at last (e ∷ es) h named is =
      let o = head-off p from e es h in
      let l = h.0.legal.least in
      ⊎_elim
      (λ (t : eqb e.off (at + 16) ≡ true).
      let z = eqb-true e.off (at + 16) t in
      let place : from ≡ at = omega arith in
      let word : field_at (at + 12) b ≡ p = ap (λ k. field_at (k + 12) b) (sym place) ∙ h.0.boundary in
      rw (t, word, ← place) is)
      (λ (t : eqb e.off (at + 16) ≡ false).
      let here : off_of (Some e) ≡ cond (eqb e.span 0) None (Some (from + e.span + 16 - e.span)) = rw (ne_eqb e.span 0 (λ q. omega arith)) (ap Some (omega arith)) in
      rw t (previous-is e.span (from + e.span) at (Some e) es h.1 (rw t at named) here))
      (cases_Bool (eqb e.off (at + 16)))

  -- what holds of the boundary word of the first and of each span at its end, holds of the boundary word at a place
  pub previous-has : (P : ℕ → ℕ → Type 0) → ((from : ℕ) (e : Extent) → IsLegal e → P e.span (from + e.span)) → (p from at : ℕ) (es : List Extent) → Tiles b stop p from es → 0 < (extent_in (at + 16) es).span → P p from → P (field_at (at + 12) b) at
  previous-has P each p from at [] h named is = absurd (omega arith)
  previous-has P each p from at (e ∷ es) h named is =
      let o = head-off p from e es h in
      ⊎_elim
      (λ (t : eqb e.off (at + 16) ≡ true).
      let z = eqb-true e.off (at + 16) t in
      let place : from ≡ at = omega arith in
      let word : field_at (at + 12) b ≡ p = ap (λ k. field_at (k + 12) b) (sym place) ∙ h.0.boundary in
      subst (λ k. P k at) (sym word) (subst (P p) place is))
      (λ (t : eqb e.off (at + 16) ≡ false). previous-has P each e.span (from + e.span) at es h.1 (rw t at named) (each from e h.0.legal))
      (cases_Bool (eqb e.off (at + 16)))

  pub previous-named : (p from at : ℕ) (es : List Extent) → Tiles b stop p from es → 0 < (extent_in (at + 16) es).span → from < at → 0 < (extent_in (at + 16 - field_at (at + 12) b) es).span
  previous-named p from at [] h named lt = absurd (omega arith)
  previous-named p from at (e ∷ es) h named lt =
      let o = head-off p from e es h in
      let l = h.0.legal.least in
      let t : eqb e.off (at + 16) ≡ false = ne_eqb e.off (at + 16) (λ q. omega arith) in
      let named' : 0 < (extent_in (at + 16) es).span = rw t at named in
      let above = named-above b stop e.span (from + e.span) (at + 16) es h.1 named' in
      ⊎_elim
      (λ (s : from + e.span ≡ at).
      let word : field_at (at + 12) b ≡ e.span = boundary-first e.span at es (subst (λ (k : ℕ). Tiles b stop e.span k es) s h.1) named' in
      let here : e.off ≡ at + 16 - field_at (at + 12) b = omega arith in
      rw (eq-eqb e.off (at + 16 - field_at (at + 12) b) here) (omega arith))
      (λ (s : from + e.span ≡ at → ⊥).
      let r = previous-named e.span (from + e.span) at es h.1 named' (omega arith) in
      let above' = named-above b stop e.span (from + e.span) (at + 16 - field_at (at + 12) b) es h.1 r in
      rw (ne_eqb e.off (at + 16 - field_at (at + 12) b) (λ q. omega arith)) r)
      (cases_eq (from + e.span) at)

-- of a tiled segment
module _ {b : List ℕ} {at : ℕ} (there : IsExtentAt b at) where
  pub previous : off_of (last_before None (at + 16) (extents b)) ≡ cond (eqb (field_at (at + 12) b) 0) None (Some (at + 16 - field_at (at + 12) b))
  previous = previous-is b (length b - 16) 0 16 at None (extents b) there.tiled.tiles there.named refl

  pub boundary-within : field_at (at + 12) b ≤ at
  boundary-within = previous-has b (length b - 16) (λ w k. w ≤ k) (λ from e legal. omega arith) 0 16 at (extents b) there.tiled.tiles there.named (omega arith)

  pub boundary-multiple : field_at (at + 12) b % 32 ≡ 0
  boundary-multiple = previous-has b (length b - 16) (λ w k. w % 32 ≡ 0) (λ from e legal. legal.multiple) 0 16 at (extents b) there.tiled.tiles there.named (omega arith)

  pub before-named : field_at (at + 12) b ≢ 0 → 0 < (extent_in (at + 16 - field_at (at + 12) b) (extents b)).span
  before-named some =
      let above = named-above b (length b - 16) 0 16 (at + 16) (extents b) there.tiled.tiles there.named in
      ⊎_elim
      (λ (s : at ≡ 16).
      let same : field_at (at + 12) b ≡ 0 = ap (λ k. field_at (k + 12) b) s ∙ boundary-first b (length b - 16) 0 16 (extents b) there.tiled.tiles (subst (λ (k : ℕ). 0 < (extent_in (k + 16) (extents b)).span) s there.named) in
      absurd (some same))
      (λ (s : at ≡ 16 → ⊥). previous-named b (length b - 16) 0 16 at (extents b) there.tiled.tiles there.named (omega arith))
      (cases_eq at 16)

  pub behind-named : at + (extent_in (at + 16) (extents b)).span < length b - 16 → 0 < (extent_in (at + (extent_in (at + 16) (extents b)).span + 16) (extents b)).span
  behind-named lt = next-named b (length b - 16) 0 16 at (at + (extent_in (at + 16) (extents b)).span) (extents b) there.tiled.tiles there.named refl lt
