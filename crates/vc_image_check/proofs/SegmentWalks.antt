-- The rest of a segment from a place on.
use Rattle.vc_base.proofs.Common.{◌≡◌, ℕ, ◌+◌, ◌-◌, ◌%◌, ◌<◌, ◌≤◌, Bool, true, false, not, ◌&&◌, eqb, List, [], ◌∷◌, All, length, sym, refl, ap, ◌∙◌, subst, true≢false, arith, lt-ltb, le-ltb, eq-eqb, ne_eqb, eqb-true, cases_lt, inl, inr, span}
use Rattle.std.specs.List.{AllByRecursion}
use Rattle.std.proofs.lemmas.List.Elements.{All-from_recursion, recursion_from_All}
use Rattle.vc_model.specs.Discipline.{IsSegmentSize}
use Rattle.vc_seg.specs.Field.{field_at}
use Rattle.vc_extent.specs.Extent.{Extent, extent_at, extents}
use Rattle.vc_extent.specs.Tiles.{IsHead, Tiles}
use Rattle.vc_extent.proofs.Tiled.{extents-are, size-at, span-at, tag-at, tiles-lt}
use Rattle.vc_best.specs.Free.{is_free, is_merged}
use Rattle.vc_image_check.specs.Segments.Sound.{CanFollow, IsSoundSegment}

abbrev Most : Extent → Type 0
Most e = e.size ≤ 16777264

-- what is left is sound behind an extent of that span, which is free or not
pub record Rest (b : List ℕ) (stop before : ℕ) (behind_free : Bool) (at : ℕ) : Type 0 where
  pub es : List Extent
  pub tiles : Tiles b stop before at es
  pub merged : is_merged behind_free es ≡ true
  pub sizes : AllByRecursion Most es

both-first : (x y : Bool) → (x && y) ≡ true → x ≡ true
both-first true y h = refl
both-first false y h = absurd (true≢false (sym h))

both-second : (x y : Bool) → (x && y) ≡ true → y ≡ true
both-second true y h = h
both-second false y h = absurd (true≢false (sym h))

apart : (x y : Bool) → not (x && y) ≡ true → y ≡ true → x ≡ false
apart true true h e = absurd (true≢false (sym h))
apart true false h e = absurd (true≢false (sym e))
apart false y h e = refl

-- whether it is free
free-is : (e : Extent) → is_free e ≡ eqb e.size 0
free-is e = elim (cases_lt 0 e.size) as (λ _. is_free e ≡ eqb e.size 0) [
  | inl some ↦ ap not (lt-ltb 0 e.size some) ∙ sym (ne_eqb e.size 0 (λ z. omega (arith, some, z)))
  | inr none ↦ ap not (le-ltb 0 e.size none) ∙ sym (eq-eqb e.size 0 (omega (arith, none)))
]

free-at : (at : ℕ) (b : List ℕ) → is_free (extent_at at b) ≡ eqb (field_at (at + 4) b) 0
free-at at b = free-is (extent_at at b) ∙ ap (λ z. eqb z 0) (size-at at b)

-- at the end nothing is left
pub rest-end : (b : List ℕ) (stop before : ℕ) (behind_free : Bool) (at : ℕ) → at ≡ stop → Rest b stop before behind_free at
rest-end b stop before behind_free at e = record { es = []; tiles = e; merged = refl; sizes = tt }

-- before the end there is an extent, and the rest behind it
pub record Stepped (b : List ℕ) (stop before : ℕ) (behind_free : Bool) (at : ℕ) : Type 0 where
  pub can : CanFollow b before at behind_free
  pub within : at + field_at at b ≤ stop
  pub rest : Rest b stop (field_at at b) (eqb (field_at (at + 4) b) 0) (at + field_at at b)

step-of : (b : List ℕ) (stop before : ℕ) (behind_free : Bool) (at : ℕ) (es : List Extent) → at < stop → Tiles b stop before at es → is_merged behind_free es ≡ true → AllByRecursion Most es → Stepped b stop before behind_free at
step-of b stop before behind_free at [] lt t m z = absurd (omega (arith, lt, t))
step-of b stop before behind_free at (e ∷ es) lt t m z =
    let is : e ≡ extent_at at b = t.0.extent in
    let s : e.span ≡ field_at at b = ap (λ (x : Extent). x.span) is ∙ span-at at b in
    let n : e.size ≡ field_at (at + 4) b = ap (λ (x : Extent). x.size) is ∙ size-at at b in
    let g : e.tag ≡ field_at (at + 8) b = ap (λ (x : Extent). x.tag) is ∙ tag-at at b in
    let f : is_free e ≡ eqb (field_at (at + 4) b) 0 = free-is e ∙ ap (λ k. eqb k 0) n in
    let multiple = t.0.legal.multiple in
    let least = t.0.legal.least in
    let most = z.0 in
    let behind = tiles-lt b stop before at e es t in
    record {
      can = record {
        boundary = t.0.boundary;
        multiple = subst (λ k. k % 32 ≡ 0) s multiple;
        least = omega (arith, least, s);
        busy = λ some. sym s ∙ t.0.legal.busy (omega (arith, some, n)) ∙ ap span n;
        free = λ none. (
          sym g ∙ t.0.legal.free (n ∙ none),
          apart behind_free (is_free e) (both-first (not (behind_free && is_free e)) (is_merged (is_free e) es) m) (f ∙ eq-eqb (field_at (at + 4) b) 0 none),
        );
        most = omega (arith, most, n);
      };
      within = omega (arith, behind, s);
      rest = record {
        es = es;
        tiles = subst (λ k. Tiles b stop k (at + k) es) s t.1;
        merged = subst (λ k. is_merged k es ≡ true) f (both-second (not (behind_free && is_free e)) (is_merged (is_free e) es) m);
        sizes = z.1;
      };
    }

pub rest-to : (b : List ℕ) (stop before : ℕ) (behind_free : Bool) (at : ℕ) → at < stop → Rest b stop before behind_free at → Stepped b stop before behind_free at
rest-to b stop before behind_free at lt r = step-of b stop before behind_free at r.es lt r.tiles r.merged r.sizes

merged-with : (x y z : Bool) → not (x && y) ≡ true → z ≡ true → (not (x && y) && z) ≡ true
merged-with x y z h e = rw (h, e) refl

not-both : (x y : Bool) → (y ≡ true → x ≡ false) → not (x && y) ≡ true
not-both true true h = absurd (true≢false (h refl))
not-both true false h = refl
not-both false y h = refl

pub rest-from : (b : List ℕ) (stop before : ℕ) (behind_free : Bool) (at : ℕ) → CanFollow b before at behind_free → Rest b stop (field_at at b) (eqb (field_at (at + 4) b) 0) (at + field_at at b) → Rest b stop before behind_free at
rest-from b stop before behind_free at can r =
    let e : Extent = extent_at at b in
    let s : e.span ≡ field_at at b = span-at at b in
    let n : e.size ≡ field_at (at + 4) b = size-at at b in
    let g : e.tag ≡ field_at (at + 8) b = tag-at at b in
    let f : is_free e ≡ eqb (field_at (at + 4) b) 0 = free-at at b in
    let least = can.least in
    let most = can.most in
    let head : IsHead b before at e = record {
      extent = refl;
      boundary = can.boundary;
      legal = record {
        multiple = subst (λ k. k % 32 ≡ 0) (sym s) can.multiple;
        least = omega (arith, least, s);
        busy = λ some. s ∙ can.busy (omega (arith, some, n)) ∙ sym (ap span n);
        free = λ none. g ∙ (can.free (sym n ∙ none)).0;
      };
    } in
    record {
      es = e ∷ r.es;
      tiles = (head, subst (λ k. Tiles b stop k (at + k) r.es) (sym s) r.tiles);
      merged =
          merged-with behind_free (is_free e) (is_merged (is_free e) r.es)
          (not-both behind_free (is_free e) (λ y. (can.free (eqb-true (field_at (at + 4) b) 0 (sym f ∙ y))).1))
          (subst (λ k. is_merged k r.es ≡ true) (sym f) r.merged);
      sizes = (omega (arith, most, n), r.sizes);
    }

-- the whole
pub rest-sound : (b : List ℕ) → IsSegmentSize (length b) → Rest b (length b - 16) 0 false 16 → IsSoundSegment b
rest-sound b size r =
    let is : extents b ≡ r.es = extents-are b r.es r.tiles in
    record {
      tiled = record { size = size; tiles = subst (Tiles b (length b - 16) 0 16) (sym is) r.tiles };
      merged = ap (is_merged false) is ∙ r.merged;
      sizes = subst (All Most) (sym is) (All-from_recursion Most r.es r.sizes);
    }

pub sound-rest : (b : List ℕ) → IsSoundSegment b → Rest b (length b - 16) 0 false 16
sound-rest b h = record { es = extents b; tiles = h.tiled.tiles; merged = h.merged; sizes = recursion_from_All Most (extents b) h.sizes }

-- the whole is sound exactly where the rest is
pub record Walking (b : List ℕ) (at before : ℕ) (behind_free : Bool) : Type 0 where
  pub low : 16 ≤ at
  pub high : at + 16 ≤ length b
  pub to : IsSoundSegment b → Rest b (length b - 16) before behind_free at
  pub from : Rest b (length b - 16) before behind_free at → IsSoundSegment b
