-- Which free extents hold a block, by their offsets and spans.
use Rattle.vc_base.proofs.Common.{◌≡◌, ℕ, ◌+◌, ◌-◌, ◌^◌, ◌<◌, ◌≤◌, true, false, eqb, ltb, leb, List, [], nat_cmp, is_ge, sym, refl, ap, ◌∙◌, ⊎_elim, arith, ltb-false, ltb-true, le-leb, leb-false, leb-true, le_prop, ∥∥₁_elim, cases_Bool, lt-leb, place_of, round_up}
use Rattle.vc_gaps.proofs.Common.{AreExtents, Bytes, IsThere, Tiling, extent_of, extents_of, gap_key, gap_side, holds_at, is_free, is_free-named, key_of, plain, span-stays, tiling}
use Rattle.vc_seg.proofs.Rounding.{round_up-least}
use Rattle.vc_extent.proofs.Places.{found, named-there, named-off}
use Rattle.vc_gaps.proofs.Named.{extent_in-off}

-- two tests of numbers that mean the same
leb-same : (a b c d : ℕ) → (a ≤ b → c ≤ d) → (c ≤ d → a ≤ b) → leb a b ≡ leb c d
leb-same a b c d f g =
    ⊎_elim
    (λ (t : leb a b ≡ true). t ∙ sym (le-leb c d (f (leb-true a b t))))
    (λ (t : leb a b ≡ false).
    ⊎_elim
    (λ (u : leb c d ≡ true). let k = g (leb-true c d u) in let j = leb-false a b t in absurd (omega arith))
    (λ (u : leb c d ≡ false). t ∙ sym u)
    (cases_Bool (leb c d)))
    (cases_Bool (leb a b))

pub ge-leb : (k j : ℕ) → is_ge (nat_cmp k j) ≡ leb j k
ge-leb k j =
    ⊎_elim
    (λ (t : ltb k j ≡ true). let lt = ltb-true k j t in rw (t, lt-leb j k lt) refl)
    (λ (t : ltb k j ≡ false).
    let le = ltb-false k j t in
    ⊎_elim
    (λ (v : eqb k j ≡ true). rw (t, v, le-leb j k le) refl)
    (λ (v : eqb k j ≡ false). rw (t, v, le-leb j k le) refl)
    (cases_Bool (eqb k j)))
    (cases_Bool (ltb k j))

-- a free extent's offset is 32 at least
pub gap_off : (segs : List Bytes) (index : List ℕ) → ∥ AreExtents segs index ∥₁ → (a : ℕ) → is_free (tiling segs) a ≡ true → 32 ≤ (place_of a).1
gap_off segs index kept a h =
    let named : 0 < (extent_of (tiling segs) a).span = is_free-named (tiling segs) a h in
    let there : IsThere (place_of a).0 segs = named-there (place_of a).0 (place_of a).1 segs named in
    let f = found 0 (place_of a).0 segs there in
    let d : Bytes = record { number = 0; bytes = [] } in
    ∥∥₁_elim kept le_prop (λ k. named-off a f.i segs d f.place (k.tiled f.i d f.place.within) named)

-- it holds a block where its offset, rounded up, leaves enough
pub holds-by : (t : Tiling) (a span align : ℕ) → 32 ≤ (place_of a).1 →
    holds_at t span align a ≡ leb (round_up (place_of a).1 align + span) ((place_of a).1 + (extent_of t a).span)
holds-by t a span align h =
    let o : (extent_of t a).off ≡ (place_of a).1 = extent_in-off (place_of a).1 (extents_of (place_of a).0 t) in
    let from : (extent_of t a).off - 16 + 16 ≡ (place_of a).1 = omega arith in
    let to : (extent_of t a).off - 16 + (extent_of t a).span + 16 ≡ (place_of a).1 + (extent_of t a).span = omega arith in
    ap (λ z. leb (round_up z align + span) ((extent_of t a).off - 16 + (extent_of t a).span + 16)) from
    ∙ ap (λ z. leb (round_up (place_of a).1 align + span) z) to

-- as it is computed
pub holds-computed : (t : Tiling) (a span align off rounded bytes : ℕ) → 32 ≤ (place_of a).1 → 1 ≤ align → off ≡ (place_of a).1 → rounded ≡ round_up off align → bytes ≡ (extent_of t a).span →
    leb (rounded - off + span) bytes ≡ holds_at t span align a
holds-computed t a span align off rounded bytes h some o r b =
    let r' : rounded ≡ round_up (place_of a).1 align = r ∙ ap (λ z. round_up z align) o in
    let least = round_up-least (place_of a).1 align some in
    leb-same (rounded - off + span) bytes (round_up (place_of a).1 align + span) ((place_of a).1 + (extent_of t a).span)
    (λ k. omega (arith, least, r', o, b)) (λ k. omega (arith, least, r', o, b))
    ∙ sym (holds-by t a span align h)

-- each that holds it has its span, and at an alignment of 32 each that has its span holds it
pub holds-span : (t : Tiling) (a span align : ℕ) → 32 ≤ (place_of a).1 → 1 ≤ align → holds_at t span align a ≡ true → span ≤ (extent_of t a).span
holds-span t a span align h some e =
    let k = leb-true _ _ (sym (holds-by t a span align h) ∙ e) in
    let least = round_up-least (place_of a).1 align some in
    omega arith

pub holds-by_32 : (t : Tiling) (a span : ℕ) → 32 ≤ (place_of a).1 → holds_at t span 32 a ≡ leb span (extent_of t a).span
holds-by_32 t a span h =
    holds-by t a span 32 h
    ∙ leb-same (round_up (place_of a).1 32 + span) ((place_of a).1 + (extent_of t a).span) span (extent_of t a).span (λ k. omega arith) (λ k. omega arith)

pub side-by : (t : Tiling) (a span : ℕ) → a < 2 ^ 32 → is_ge (gap_side t span 0 a) ≡ leb span (extent_of t a).span
side-by t a span small =
    ge-leb (key_of t a) (gap_key span 0)
    ∙ leb-same (gap_key span 0) (key_of t a) span (extent_of t a).span (λ k. omega arith) (λ k. omega arith)

pub holds-stays : (old new : Tiling) → plain new ≡ plain old → (span align a : ℕ) → holds_at new span align a ≡ holds_at old span align a
holds-stays old new same span align a =
    let o : (extent_of new a).off ≡ (extent_of old a).off = extent_in-off (place_of a).1 (extents_of (place_of a).0 new) ∙ sym (extent_in-off (place_of a).1 (extents_of (place_of a).0 old)) in
    let s = span-stays old new same a in
    rw (o, s) refl
