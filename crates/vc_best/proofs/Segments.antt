-- Segments that come, go or are emptied.
use Rattle.vc_base.proofs.Common.{◌≡◌, ℕ, ◌+◌, ◌-◌, ◌<◌, Bool, true, false, not, eqb, ltb, ◌≢◌, ◌⊎◌, ◌↔◌, List, [], ◌∷◌, ◌++◌, map, length, IsTrue, ◌==◌, Some, All, filter, AllPairs, sym, refl, ap, ◌∙◌, subst, inl, inr, ⊎_elim, append-nil, arith, ltb-false, eq-eqb, ne_eqb, eqb-true, ∥∥₁_elim, ℕ_set, cases_Bool, eqb-false, or_left, or_right, All-append, All-head, All-map, All-nil, All-tail, All-weaker, list_any-append, list_any, is_occupied, Block, with_grant, new_segment}
use Rattle.vc_best.proofs.Common.{AreExtents, Bytes, Extent, IsMerged, IsOneFree, IsThere, all_busy, busy_in, extents, extents_of, free_extent, in_order, is_merged, layout_by, no_links, pair_of, size_of, tiling}
use Rattle.std.proofs.lemmas.Grind.{flat_map-append}
use Rattle.vc_model.proofs.Pairs.{AllPairs-head, AllPairs-tail}
use Rattle.vc_seg.proofs.InOrder.{All-in_order, any-order}
use Rattle.vc_best.proofs.Layouts.{busy-seg}
use Rattle.vc_best.proofs.Lies.{Differ, Lies, Tiled, lies-tiled}
use Rattle.vc_best.proofs.Parts.{busy-none}
use mathlib.Core.Bool.{Bool-set}
use Rattle.vc_best.proofs.Sets.{blocks-set, extents-set}
use Rattle.vc_best.proofs.Tilings.{other-seg}

pub layout-added : (old new : List Bytes) (n size span : ℕ) → tiling new ≡ tiling old ++ (n, free_extent 32 span no_links ∷ []) ∷ [] → map pair_of new ≡ map pair_of old ++ (n, size) ∷ [] →
    layout_by new ≡ with_grant (layout_by old) (new_segment n size)
unfolding layout_by
layout-added old new n size span t p =
    let e : in_order (all_busy (tiling new)) ≡ in_order (all_busy (tiling old)) =
    ap in_order (ap all_busy t ∙ (flat_map-append busy_in (tiling old) ((n, free_extent 32 span no_links ∷ []) ∷ []) ∙ append-nil (all_busy (tiling old)))) in
    λ i. record { segments = p i; blocks = e i }

-- a segment of one free extent has no block
one-none : (n : ℕ) (es : List Extent) → IsOneFree es → busy_in (n, es) ≡ []
one-none n [] h = absurd h
one-none n (e ∷ es) h = busy-none n e es h.0 ∙ ap (λ (xs : List Extent). busy_in (n, xs)) h.1

all-none : (t : List (ℕ × List Extent)) → All (λ s. IsOneFree s.1) t → all_busy t ≡ []
all-none [] h = refl
all-none (s ∷ ss) h =
    let P : ℕ × List Extent → Type 0 = λ x. IsOneFree x.1 in
    ap (λ bs. bs ++ all_busy ss) (one-none s.0 s.1 (All-head P s ss h)) ∙ all-none ss (All-tail P s ss h)

pub layout-none : (new : List Bytes) → All (λ s. IsOneFree s.1) (tiling new) → (layout_by new).blocks ≡ []
unfolding layout_by
layout-none new h = ap in_order (all-none (tiling new) h)

-- segments of other numbers stay
filter-others : (n : ℕ) (t : List (ℕ × List Extent)) → All (λ s. eqb s.0 n ≡ false) t → filter (λ (s : ℕ × List Extent). not (eqb s.0 n)) t ≡ t
filter-others n [] h = refl
filter-others n (s ∷ ss) h =
    let P : ℕ × List Extent → Type 0 = λ x. eqb x.0 n ≡ false in
    rw (All-head P s ss h) (ap (λ xs. s ∷ xs) (filter-others n ss (All-tail P s ss h)))

others-of : (n : ℕ) (s : Bytes) (ss : List Bytes) → eqb s.number n ≡ true → All (λ b. s.number ≢ b.number) ss → All (λ x. eqb x.0 n ≡ false) (tiling ss)
others-of n s ss t h =
    All-map (λ (x : ℕ × List Extent). eqb x.0 n ≡ false) (λ (x : Bytes). (x.number, extents x.bytes)) ss
    (All-weaker (λ (b : Bytes). s.number ≢ b.number) (λ (b : Bytes). eqb b.number n ≡ false) (λ b other. ne_eqb b.number n (λ e. other (eqb-true s.number n t ∙ sym e))) ss h)

removed : (n : ℕ) (segs : List Bytes) → AllPairs Differ segs → IsOneFree (extents_of n (tiling segs)) → all_busy (filter (λ (s : ℕ × List Extent). not (eqb s.0 n)) (tiling segs)) ≡ all_busy (tiling segs)
removed n [] distinct free = refl
removed n (s ∷ ss) distinct free =
    ⊎_elim
    (λ (t : eqb s.number n ≡ true).
    let free' : IsOneFree (extents s.bytes) = rw t at free in
    rw t (ap all_busy (filter-others n (tiling ss) (others-of n s ss t (AllPairs-head Differ s ss distinct)))
    ∙ ap (λ bs. bs ++ all_busy (tiling ss)) (sym (one-none s.number (extents s.bytes) free'))))
    (λ (t : eqb s.number n ≡ false).
    let free' : IsOneFree (extents_of n (tiling ss)) = rw t at free in
    rw t (ap (λ bs. busy_in (s.number, extents s.bytes) ++ bs) (removed n ss (AllPairs-tail Differ s ss distinct) free')))
    (cases_Bool (eqb s.number n))

-- then none of the blocks is in it
nowhere : (n : ℕ) (segs : List Bytes) → AllPairs Differ segs → IsOneFree (extents_of n (tiling segs)) → All (λ b. b.seg ≢ n) (all_busy (tiling segs))
nowhere n [] distinct free = All-nil (λ (b : Block ℕ). b.seg ≢ n)
nowhere n (s ∷ ss) distinct free =
    let Q : Block ℕ → Type 0 = λ b. b.seg ≢ n in
    ⊎_elim
    (λ (t : eqb s.number n ≡ true).
    let free' : IsOneFree (extents s.bytes) = rw t at free in
    let e : all_busy (tiling (s ∷ ss)) ≡ all_busy (tiling ss) = ap (λ bs. bs ++ all_busy (tiling ss)) (one-none s.number (extents s.bytes) free') in
    subst (λ (bs : List (Block ℕ)). All Q bs) (sym e)
    (All-weaker (λ c. s.number ≢ c.seg) Q (λ c other same. other (eqb-true s.number n t ∙ sym same)) (all_busy (tiling ss)) (other-seg s ss (AllPairs-head Differ s ss distinct))))
    (λ (t : eqb s.number n ≡ false).
    let free' : IsOneFree (extents_of n (tiling ss)) = rw t at free in
    All-append Q (busy_in (s.number, extents s.bytes)) (all_busy (tiling ss))
    (All-weaker (λ c. c.seg ≡ s.number) Q (λ c is same. eqb-false s.number n t (sym is ∙ same)) (busy_in (s.number, extents s.bytes)) (busy-seg s.number (extents s.bytes)))
    (nowhere n ss (AllPairs-tail Differ s ss distinct) free'))
    (cases_Bool (eqb s.number n))

not-any : (n : ℕ) (bs : List (Block ℕ)) → All (λ b. b.seg ≢ n) bs → is_occupied bs n ≡ false
not-any n [] h = refl
not-any n (b ∷ bs) h =
    let Q : Block ℕ → Type 0 = λ c. c.seg ≢ n in
    rw (ne_eqb b.seg n (All-head Q b bs h)) (not-any n bs (All-tail Q b bs h))

-- a segment that isn't one free extent has a block
some-busy : (n stop at : ℕ) (es : List Extent) → at < stop → Lies stop at es → is_merged false es ≡ true → (IsOneFree es → ⊥) → is_occupied (busy_in (n, es)) n ≡ true
some-busy n stop at [] lt h merged busy = absurd (omega (arith, h, lt))
some-busy n stop at (e ∷ es) lt h merged busy =
    ⊎_elim
    (λ (t : ltb 0 e.size ≡ true). rw t (rw (eq-eqb n n refl) refl))
    (λ (t : ltb 0 e.size ≡ false). rw t (next es (rw t at merged) (λ none. busy (le-size e t, none))))
    (cases_Bool (ltb 0 e.size))
  where
    le-size : (e : Extent) → ltb 0 e.size ≡ false → e.size ≡ 0
    le-size e t = let le = ltb-false 0 e.size t in omega (arith, le)

    next : (es : List Extent) → is_merged true es ≡ true → (es ≡ [] → ⊥) → is_occupied (busy_in (n, es)) n ≡ true
    next [] merged some = absurd (some refl)
    next (x ∷ xs) merged some =
        ⊎_elim
        (λ (u : ltb 0 x.size ≡ true). rw u (rw (eq-eqb n n refl) refl))
        (λ (u : ltb 0 x.size ≡ false). let m : false ≡ true = rw u at merged in absurd (cc))
        (cases_Bool (ltb 0 x.size))

occupied-in : (n : ℕ) (segs : List Bytes) → All Tiled segs → IsMerged (tiling segs) → IsThere n segs → (IsOneFree (extents_of n (tiling segs)) → ⊥) → is_occupied (all_busy (tiling segs)) n ≡ true
occupied-in n [] tiled merged there busy = absurd (cc)
occupied-in n (s ∷ ss) tiled merged there busy =
    let M : ℕ × List Extent → Type 0 = λ x. is_merged false x.1 ≡ true in
    let own : List (Block ℕ) = busy_in (s.number, extents s.bytes) in
    let test : Block ℕ → Bool = λ b. eqb b.seg n in
    list_any-append test own (all_busy (tiling ss))
    ∙ ⊎_elim
    (λ (t : eqb s.number n ≡ true).
    let tile = All-head Tiled s ss tiled in
    let least = tile.size.least in
    let busy' : IsOneFree (extents s.bytes) → ⊥ = rw t at busy in
    let some : is_occupied own s.number ≡ true = some-busy s.number (length s.bytes - 16) 16 (extents s.bytes) (omega arith) (lies-tiled s.bytes tile) (All-head M (s.number, extents s.bytes) (tiling ss) merged) busy' in
    or_left (list_any test own) (list_any test (all_busy (tiling ss))) (subst (λ (m : ℕ). is_occupied own m ≡ true) (eqb-true s.number n t) some))
    (λ (t : eqb s.number n ≡ false).
    or_right (list_any test own) (list_any test (all_busy (tiling ss)))
    (occupied-in n ss (All-tail Tiled s ss tiled) (All-tail M (s.number, extents s.bytes) (tiling ss) merged) (rw t at there) (rw t at busy)))
    (cases_Bool (eqb s.number n))

-- whether a segment is one free extent is decided
pub one-or : (es : List Extent) → IsOneFree es ⊎ ¬ IsOneFree es
one-or [] = inr (λ h. h)
one-or (e ∷ x ∷ es) = inr (λ h. let no : x ∷ es ≡ [] = h.1 in absurd (cc))
one-or (e ∷ []) =
    ⊎_elim
    (λ (t : eqb e.size 0 ≡ true). inl (eqb-true e.size 0 t, refl))
    (λ (t : eqb e.size 0 ≡ false). inr (λ h. eqb-false e.size 0 t h.0))
    (cases_Bool (eqb e.size 0))

module _ (old : List Bytes) (index : List ℕ) (n : ℕ) (k : ∥ AreExtents old index ∥₁) where
  pub layout-removed : (new : List Bytes) → IsOneFree (extents_of n (tiling old)) → tiling new ≡ filter (λ (s : ℕ × List Extent). not (eqb s.0 n)) (tiling old) → (layout_by new).blocks ≡ (layout_by old).blocks
  unfolding layout_by
  layout-removed new free t =
      ∥∥₁_elim k (hlevel (blocks-set)) (λ j. ap in_order (ap all_busy t ∙ removed n old j.segments.distinct free))

  pub unoccupied : IsOneFree (extents_of n (tiling old)) → is_occupied (layout_by old).blocks n ≡ false
  unfolding layout_by
  unoccupied free =
      ∥∥₁_elim k (hlevel (Bool-set)) (λ j. not-any n (in_order (all_busy (tiling old))) (All-in_order (λ b. b.seg ≢ n) (all_busy (tiling old)) (nowhere n old j.segments.distinct free)))

  pub occupied : IsMerged (tiling old) → IsThere n old → ¬ IsOneFree (extents_of n (tiling old)) → is_occupied (layout_by old).blocks n ≡ true
  unfolding layout_by
  occupied merged there busy =
      ∥∥₁_elim k (hlevel (Bool-set)) (λ j. any-order (λ b. b.seg == n) (all_busy (tiling old)) ∙ occupied-in n old j.tiled merged there busy)

  -- so a test shows it, and what it shows
  pub occupied-by : IsMerged (tiling old) → IsThere n old → (r : Bool) → IsTrue r ↔ IsOneFree (extents_of n (tiling old)) → not r ≡ is_occupied (layout_by old).blocks n
  occupied-by merged there true is = sym (unoccupied (is.0 refl))
  occupied-by merged there false is = sym (occupied merged there (λ h. let no : false ≡ true = is.1 h in cc))

  pub free-by : IsMerged (tiling old) → IsThere n old → is_occupied (layout_by old).blocks n ≡ false → IsOneFree (extents_of n (tiling old))
  free-by merged there none = ⊎_elim (λ h. h) (λ h. absurd (let no : true ≡ false = sym (occupied merged there h) ∙ none in cc)) (one-or (extents_of n (tiling old)))

-- the extents of a segment of that many bytes
lies-there : (n size : ℕ) (segs : List Bytes) → All Tiled segs → size_of n (map pair_of segs) ≡ Some size → Lies (size - 16) 16 (extents_of n (tiling segs))
lies-there n size [] tiled e = absurd (cc)
lies-there n size (s ∷ ss) tiled e =
    ⊎_elim
    (λ (t : eqb s.number n ≡ true).
    let own : Some (length s.bytes) ≡ Some size = rw t at e in
    let same : length s.bytes ≡ size = cc in
    rw t (subst (λ (m : ℕ). Lies (m - 16) 16 (extents s.bytes)) same (lies-tiled s.bytes (All-head Tiled s ss tiled))))
    (λ (t : eqb s.number n ≡ false). rw t (lies-there n size ss (All-tail Tiled s ss tiled) (rw t at e)))
    (cases_Bool (eqb s.number n))

-- one has the whole usable part of its segment where none is behind it
whole-alone : (stop : ℕ) (e : Extent) (ys : List Extent) → Lies stop 16 (e ∷ ys) → (e.span + 16 ≡ stop → ys ≡ []) × (ys ≡ [] → e.span + 16 ≡ stop)
whole-alone stop e [] h = let end : 16 + e.span ≡ stop = h.1 in (λ q. refl, λ q. omega arith)
whole-alone stop e (y ∷ ys) h = let within = h.1.0.within in let least = h.1.0.legal.least in (λ q. absurd (omega arith), λ q. absurd (cc))

module _ (segs : List Bytes) (index : List ℕ) (n size : ℕ) (e : Extent) (ys : List Extent) (k : ∥ AreExtents segs index ∥₁) (has : size_of n (map pair_of segs) ≡ Some size) (whole : extents_of n (tiling segs) ≡ e ∷ ys) where
  lies : AreExtents segs index → Lies (size - 16) 16 (e ∷ ys)
  lies h = subst (Lies (size - 16) 16) whole (lies-there n size segs h.tiled has)

  pub one-by_span : e.size ≡ 0 → e.span + 32 ≡ size → IsOneFree (extents_of n (tiling segs))
  one-by_span free is = subst IsOneFree (sym whole) (free, ∥∥₁_elim k (hlevel (extents-set)) (λ h. (whole-alone (size - 16) e ys (lies h)).0 (omega arith)))

  pub one-not : IsOneFree (extents_of n (tiling segs)) → (e.size ≡ 0) × (e.span + 32 ≡ size)
  one-not one =
      let own : IsOneFree (e ∷ ys) = subst IsOneFree whole one in (
        own.0,
        ∥∥₁_elim k (hlevel (ℕ_set)) (λ h. let end = (whole-alone (size - 16) e ys (lies h)).1 own.1 in let least = (lies h).0.legal.least in omega arith),
      )
