-- The extents with a block, counted along a segment's bytes and along segments.
use Rattle.vc_base.proofs.Common.{◌≡◌, ℕ, ◌+◌, ◌-◌, ◌*◌, ◌<◌, ◌≤◌, true, false, List, [], ◌∷◌, if◌then◌else◌, length, nat_lt, sym, ap, ◌∙◌, subst, ⊎_elim, arith, cases_Bool, zero-add}
use Rattle.vc_seg.specs.Field.{field_at}
use Rattle.vc_extent.specs.Extent.{Extent, extents}
use Rattle.vc_extent.specs.Tiles.{IsTiled, Tiles}
use Rattle.vc_extent.proofs.Tiled.{size-at, span-at, tiles-lt}
use Rattle.vc_image.specs.Lends.Regions.{busy_count}

-- extents lie from a place on, and those before it are counted
pub record Counting (b : List ℕ) (count at : ℕ) : Type 0 where
  pub before : ℕ
  pub es : List Extent
  pub tiles : Tiles b (length b - 16) before at es
  pub low : 32 * count + 16 ≤ at
  pub within : at ≤ length b - 16
  pub rest : count + busy_count es ≡ busy_count (extents b)

-- the extent at the place
pub record Here (b : List ℕ) (at : ℕ) : Type 0 where
  pub least : 32 ≤ field_at at b
  pub within : at + field_at at b + 16 ≤ length b

pub counting-start : (b : List ℕ) → IsTiled b → Counting b 0 16
counting-start b t = let least = t.size.least in record { before = 0; es = extents b; tiles = t.tiles; low = omega arith; within = omega (arith, least); rest = zero-add (busy_count (extents b)) }

abbrev one : ℕ → ℕ
one size = if nat_lt 0 size then 1 else 0

count-one : (e : Extent) (es : List Extent) (size : ℕ) → e.size ≡ size → busy_count (e ∷ es) ≡ one size + busy_count es
count-one e es size s =
    ⊎_elim
    (λ (t : nat_lt 0 size ≡ true). rw (s, t) (omega arith))
    (λ (t : nat_lt 0 size ≡ false). rw (s, t) (omega arith))
    (cases_Bool (nat_lt 0 size))

one-few : (size : ℕ) → one size ≤ 1
one-few size = ⊎_elim (λ (t : nat_lt 0 size ≡ true). rw t (omega arith)) (λ (t : nat_lt 0 size ≡ false). rw t (omega arith)) (cases_Bool (nat_lt 0 size))

module _ (b : List ℕ) (count at : ℕ) (c : Counting b count at) (lt : at < length b - 16) where
  pub here : Here b at
  here = by c.es c.tiles
    where
      by : (es : List Extent) → Tiles b (length b - 16) c.before at es → Here b at
      by [] t = absurd (omega (arith, t, lt))
      by (e ∷ es) t =
          let s : e.span ≡ field_at at b = ap (λ (x : Extent). x.span) t.0.extent ∙ span-at at b in
          let least = t.0.legal.least in
          let r = tiles-lt b (length b - 16) c.before at e es t in
          record { least = omega (arith, least, s); within = omega (arith, r, s, lt) }

  pub counting-next : (size span one' : ℕ) → size ≡ field_at (at + 4) b → span ≡ field_at at b → one' ≡ (if nat_lt 0 size then 1 else 0) → Counting b (count + one') (at + span)
  counting-next size span one' z p o = by c.es c.tiles c.rest
    where
      by : (es : List Extent) → Tiles b (length b - 16) c.before at es → count + busy_count es ≡ busy_count (extents b) → Counting b (count + one') (at + span)
      by [] t rest = absurd (omega (arith, t, lt))
      by (e ∷ es) t rest =
          let s : e.span ≡ span = ap (λ (x : Extent). x.span) t.0.extent ∙ span-at at b ∙ sym p in
          let w : e.size ≡ size = ap (λ (x : Extent). x.size) t.0.extent ∙ size-at at b ∙ sym z in
          let least = t.0.legal.least in
          let r = tiles-lt b (length b - 16) c.before at e es t in
          let few = one-few size in
          let low = c.low in
          let more = count-one e es size w in
          record {
            before = e.span;
            es = es;
            tiles = subst (λ k. Tiles b (length b - 16) e.span (at + k) es) s t.1;
            low = omega (arith, low, few, o, least, s);
            within = omega (arith, r, s);
            rest = omega (arith, more, rest, o);
          }

pub counted : (b : List ℕ) (count at : ℕ) → Counting b count at → length b - 16 ≤ at → count ≡ busy_count (extents b)
counted b count at c le = by c.es c.tiles c.rest
  where
    by : (es : List Extent) → Tiles b (length b - 16) c.before at es → count + busy_count es ≡ busy_count (extents b) → count ≡ busy_count (extents b)
    by [] t rest = omega (arith, rest)
    by (e ∷ es) t rest = let r = tiles-lt b (length b - 16) c.before at e es t in let least = t.0.legal.least in absurd (omega (arith, r, least, le))
