-- The marks of a segment up to a place.
use Rattle.vc_base.proofs.Common.{◌≡◌, ℕ, zero, suc, ◌+◌, ◌-◌, ◌*◌, ◌/◌, ◌%◌, ◌<◌, ◌≤◌, List, [], ◌∷◌, ◌==◌, if◌then◌else◌, length, get_or, set, replicate, sym, refl, ap, ◌∙◌, subst, arith, inl, inr, eq-eqb, ne_eqb, eqb_tells, cases_lt, get_or-set_other, get_or-set_same, length-set}
use Rattle.vc_seg.specs.Field.{field_at}
use Rattle.vc_extent.specs.Change.{extent_in}
use Rattle.vc_extent.specs.Extent.{Extent, extents}
use Rattle.vc_extent.specs.Tiles.{IsTiled, Tiles}
use Rattle.vc_extent.proofs.Tiled.{named-above, off-at, size-at, span-at, tag-at, tiles-lt}
use Rattle.vc_image_check.specs.Marks.Mark.{AreMarks, mark_of}

-- extents lie from a place on; what begins before it has its mark, and all else has none yet
pub record Marking (b marks : List ℕ) (at : ℕ) : Type 0 where
  pub before : ℕ
  pub es : List Extent
  pub tiles : Tiles b (length b - 16) before at es
  pub low : 16 ≤ at
  pub multiple : (at + 16) % 32 ≡ 0
  pub len : length marks * 32 ≡ length b
  pub done : (k : ℕ) → k * 32 < at + 16 → get_or marks k 0 ≡ mark_of (extent_in (k * 32) (extents b))
  pub none : (k : ℕ) → at + 16 ≤ k * 32 → get_or marks k 0 ≡ 0
  pub left : (k : ℕ) → at + 16 ≤ k * 32 → extent_in (k * 32) (extents b) ≡ extent_in (k * 32) es

-- an extent that isn't there has no mark
mark-none : (e : Extent) → e.span ≡ 0 → mark_of e ≡ 0
mark-none e z = rw (eq-eqb e.span 0 z) refl

none-below : (b : List ℕ) (stop before at off : ℕ) (es : List Extent) → Tiles b stop before at es → off < at + 16 → (extent_in off es).span ≡ 0
none-below b stop before at off es t lt = elim (cases_lt 0 (extent_in off es).span) as (λ _. (extent_in off es).span ≡ 0) [
  | inl some ↦ let h = named-above b stop before at off es t some in absurd (omega (arith, h, lt))
  | inr none ↦ omega (arith, none)
]

pub marking-start : (b marks : List ℕ) → IsTiled b → length marks * 32 ≡ length b → ((k : ℕ) → get_or marks k 0 ≡ 0) → Marking b marks 16
marking-start b marks t len empty = record {
  before = 0;
  es = extents b;
  tiles = t.tiles;
  low = omega arith;
  multiple = refl;
  len = len;
  done = λ k lt. empty k ∙ sym (mark-none (extent_in (k * 32) (extents b)) (none-below b (length b - 16) 0 16 (k * 32) (extents b) t.tiles lt));
  none = λ k le. empty k;
  left = λ k le. refl;
}

-- the extent at the place
pub record Here (b : List ℕ) (at : ℕ) : Type 0 where
  pub least : 32 ≤ field_at at b
  pub within : at + field_at at b + 16 ≤ length b

pub here : (b marks : List ℕ) (at : ℕ) → Marking b marks at → at < length b - 16 → Here b at
here b marks at m lt = by m.es m.tiles
  where
    by : (es : List Extent) → Tiles b (length b - 16) m.before at es → Here b at
    by [] t = absurd (omega (arith, t, lt))
    by (e ∷ es) t =
        let s : e.span ≡ field_at at b = ap (λ (x : Extent). x.span) t.0.extent ∙ span-at at b in
        let least = t.0.legal.least in
        let r = tiles-lt b (length b - 16) m.before at e es t in
        record { least = omega (arith, least, s); within = omega (arith, r, s, lt) }

-- the mark of an extent that is there
mark-there : (e : Extent) (size tag v : ℕ) → 32 ≤ e.span → e.size ≡ size → e.tag ≡ tag → v ≡ (if size == 0 then 1 else (if tag == 0 then 3 else 2)) → v ≡ mark_of e
mark-there e size tag v some s t is = is ∙ sym (rw (ne_eqb e.span 0 (λ z. omega (arith, some, z)), s, t) refl)

pub marking-next : (b marks marks' : List ℕ) (at v place : ℕ) → Marking b marks at → at < length b - 16 → place ≡ (at + 16) / 32 → marks' ≡ set marks place v
    → v ≡ (if field_at (at + 4) b == 0 then 1 else (if field_at (at + 8) b == 0 then 3 else 2)) → Marking b marks' (at + field_at at b)
marking-next b marks marks' at v place m lt p e is = by m.es m.tiles m.left
  where
    by : (es : List Extent) → Tiles b (length b - 16) m.before at es → ((k : ℕ) → at + 16 ≤ k * 32 → extent_in (k * 32) (extents b) ≡ extent_in (k * 32) es) → Marking b marks' (at + field_at at b)
    by [] t left = absurd (omega (arith, t, lt))
    by (x ∷ es) t left =
        let s : x.span ≡ field_at at b = ap (λ (y : Extent). y.span) t.0.extent ∙ span-at at b in
        let z : x.size ≡ field_at (at + 4) b = ap (λ (y : Extent). y.size) t.0.extent ∙ size-at at b in
        let g : x.tag ≡ field_at (at + 8) b = ap (λ (y : Extent). y.tag) t.0.extent ∙ tag-at at b in
        let o : x.off ≡ at + 16 = ap (λ (y : Extent). y.off) t.0.extent ∙ off-at at b in
        let least = t.0.legal.least in
        let multiple = t.0.legal.multiple in
        let low = m.low in
        let even = m.multiple in
        let place32 : place * 32 ≡ at + 16 = omega (arith, p, even) in
        let r = tiles-lt b (length b - 16) m.before at x es t in
        let len = m.len in
        let inside : place < length marks = omega (arith, place32, r, least, len, lt) in
        let here : get_or marks' place 0 ≡ v = ap (λ y. get_or y place 0) e ∙ get_or-set_same marks place v 0 inside in
        let apart : (k : ℕ) → (k ≡ place → ⊥) → get_or marks' k 0 ≡ get_or marks k 0 = λ k ne. ap (λ y. get_or y k 0) e ∙ get_or-set_other marks place k v 0 ne in
        let skipped : (k : ℕ) → (k ≡ place → ⊥) → extent_in (k * 32) (x ∷ es) ≡ extent_in (k * 32) es = λ k ne. rw (ne_eqb x.off (k * 32) (λ q. ne (omega (arith, q, o, place32)))) refl in
        let found : extent_in (place * 32) (x ∷ es) ≡ x = rw (eq-eqb x.off (place * 32) (omega (arith, o, place32))) refl in
        record {
          before = x.span;
          es = es;
          tiles = subst (λ k. Tiles b (length b - 16) x.span (at + k) es) s t.1;
          low = omega (arith, low);
          multiple = omega (arith, even, multiple, s);
          len = ap (λ y. length y * 32) e ∙ ap (λ n. n * 32) (length-set marks place v) ∙ m.len;
          done = λ k below. elim (cases_lt (k * 32) (at + 16)) as (λ _. get_or marks' k 0 ≡ mark_of (extent_in (k * 32) (extents b))) [
            | inl lt2 ↦ apart k (λ q. omega (arith, q, lt2, place32)) ∙ m.done k lt2
            | inr le2 ↦ elim (eqb_tells k place) as (λ _. get_or marks' k 0 ≡ mark_of (extent_in (k * 32) (extents b))) [
              | inl same ↦ subst (λ q. get_or marks' q 0 ≡ mark_of (extent_in (q * 32) (extents b))) (sym same.1) (here ∙ mark-there x (field_at (at + 4) b) (field_at (at + 8) b) v least z g is ∙ ap mark_of (sym (left place (omega (arith, place32)) ∙ found)))
              | inr other ↦
                  let ne : k ≡ place → ⊥ = other.1 in
                  apart k ne ∙ m.none k le2
                  ∙ sym (mark-none (extent_in (k * 32) (extents b)) (ap (λ (y : Extent). y.span) (left k le2 ∙ skipped k ne) ∙ none-below b (length b - 16) x.span (at + x.span) (k * 32) es t.1 (omega (arith, below, s))))
            ]
          ];
          none = λ k le. apart k (λ q. omega (arith, q, le, place32, s, least)) ∙ m.none k (omega (arith, le));
          left = λ k le. left k (omega (arith, le)) ∙ skipped k (λ q. omega (arith, q, le, place32, s, least));
        }

pub marking-end : (b marks : List ℕ) (at : ℕ) → Marking b marks at → length b - 16 ≤ at → AreMarks b marks
marking-end b marks at m le = record {
  len = m.len;
  each = λ k. elim (cases_lt (k * 32) (at + 16)) as (λ _. get_or marks k 0 ≡ mark_of (extent_in (k * 32) (extents b))) [
    | inl lt ↦ m.done k lt
    | inr far ↦ m.none k far ∙ sym (mark-none (extent_in (k * 32) (extents b)) (ap (λ (y : Extent). y.span) (m.left k far) ∙ none-left m.es m.tiles k))
  ];
}
  where
    none-left : (es : List Extent) → Tiles b (length b - 16) m.before at es → (k : ℕ) → (extent_in (k * 32) es).span ≡ 0
    none-left [] t k = refl
    none-left (x ∷ es) t k = let r = tiles-lt b (length b - 16) m.before at x es t in let least = t.0.legal.least in absurd (omega (arith, r, least, le))

pub get-zeros : (n k d : ℕ) → d ≡ 0 → get_or (replicate n d) k d ≡ d
get-zeros zero k d z = refl
get-zeros (suc n) zero d z = refl
get-zeros (suc n) (suc k) d z = get-zeros n k d z
