-- What stays of a tiling where all but links stays: its numbers, its busy extents, and what stands before and behind one.
use Rattle.vc_base.proofs.Common.{◌≡◌, ℕ, true, false, eqb, List, [], ◌∷◌, map, Some, None, Option, option_map, sym, refl, ap, ◌∙◌, ⊎_elim, cases_Bool, place_of}
use Rattle.vc_gaps.proofs.Common.{Extent, Tiling, behind, extents_of, extents_of-plain, first_of, last_before, next_of, plain, previous_of, without-off, without_links}

behind-plain : (off : ℕ) (es : List Extent) → behind off (map without_links es) ≡ map without_links (behind off es)
behind-plain off [] = refl
behind-plain off (e ∷ es) =
    ⊎_elim
    (λ (t : eqb e.off off ≡ true). rw (without-off e, t) refl)
    (λ (t : eqb e.off off ≡ false). rw (without-off e, t) (behind-plain off es))
    (cases_Bool (eqb e.off off))

before-plain : (last : Option Extent) (off : ℕ) (es : List Extent) → last_before (option_map without_links last) off (map without_links es) ≡ option_map without_links (last_before last off es)
before-plain last off [] = refl
before-plain last off (e ∷ es) =
    ⊎_elim
    (λ (t : eqb e.off off ≡ true). rw (without-off e, t) refl)
    (λ (t : eqb e.off off ≡ false). rw (without-off e, t) (before-plain (Some e) off es))
    (cases_Bool (eqb e.off off))

first-plain : (es : List Extent) → first_of (map without_links es) ≡ option_map without_links (first_of es)
first-plain [] = refl
first-plain (e ∷ es) = refl

next-plain : (t : Tiling) (a : ℕ) → next_of (plain t) a ≡ option_map without_links (next_of t a)
next-plain t a =
    ap (λ es. first_of (behind (place_of a).1 es)) (extents_of-plain (place_of a).0 t)
    ∙ ap first_of (behind-plain (place_of a).1 (extents_of (place_of a).0 t))
    ∙ first-plain (behind (place_of a).1 (extents_of (place_of a).0 t))

previous-plain : (t : Tiling) (a : ℕ) → previous_of (plain t) a ≡ option_map without_links (previous_of t a)
previous-plain t a =
    ap (λ es. last_before None (place_of a).1 es) (extents_of-plain (place_of a).0 t)
    ∙ before-plain None (place_of a).1 (extents_of (place_of a).0 t)

module _ (old new : Tiling) (same : plain new ≡ plain old) where
  -- the extents behind and before one
  pub next-stays : (a : ℕ) → option_map without_links (next_of new a) ≡ option_map without_links (next_of old a)
  next-stays a = sym (next-plain new a) ∙ ap (λ (t : Tiling). next_of t a) same ∙ next-plain old a

  pub previous-stays : (a : ℕ) → option_map without_links (previous_of new a) ≡ option_map without_links (previous_of old a)
  previous-stays a = sym (previous-plain new a) ∙ ap (λ (t : Tiling). previous_of t a) same ∙ previous-plain old a
