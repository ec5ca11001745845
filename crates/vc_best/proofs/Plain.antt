-- What stays where all but the links of free extents stays: the layout, what is free, and what stands beside an extent.
use Rattle.vc_base.proofs.Common.{◌≡◌, ℕ, ◌+◌, ◌<◌, Bool, true, false, cond, not, ◌&&◌, eqb, ltb, List, [], ◌∷◌, ◌++◌, map, Some, None, filter, Option, option_map, sym, refl, ap, ◌∙◌, subst, ⊎_elim, arith, le-ltb, lt-ltb, ne_eqb, eqb-true, cases_Bool, All-cons, All-head, All-tail, place_of}
use Rattle.vc_best.proofs.Common.{Bytes, Extent, IsBusy, IsFree, IsMerged, IsNamed, IsOneFree, StaysButLinks, Tiling, all_busy, block_of, busy_in, extent_of, extents_of, free_before, free_bytes, free_extent, free_in, free_name, free_next, free_runs, in_order, is_busy, is_free, is_merged, layout_by, next_of, no_links, plain, previous_of, room_of, run_of_extent, tiling, without_links}
use Rattle.vc_gaps.specs.Fits as gaps
use Rattle.vc_gaps.specs.GapLaws.{extents_of-plain, size-stays, span-stays, without-off, without-size}
use Rattle.vc_gaps.proofs.Staying.{next-stays, previous-stays}

-- an extent with its links and without
is_busy-plain : (e : Extent) → is_busy (without_links e) ≡ is_busy e
is_busy-plain e = ap (λ n. ltb 0 n) (without-size e)

without-span : (e : Extent) → (without_links e).span ≡ e.span
without-span e = ⊎_elim (λ (t : eqb e.size 0 ≡ true). rw t refl) (λ (t : eqb e.size 0 ≡ false). rw t refl) (cases_Bool (eqb e.size 0))

busy_in-plain : (n : ℕ) (es : List Extent) → busy_in (n, map without_links es) ≡ busy_in (n, es)
busy_in-plain n [] = refl
busy_in-plain n (e ∷ es) =
    ⊎_elim
    (λ (t : is_busy e ≡ true).
    let same : without_links e ≡ e = ap (λ z. cond z (free_extent e.off e.span no_links) e) (ne_eqb e.size 0 (some e t)) in
    rw (is_busy-plain e, t) (ap (λ (x : Extent). block_of n x ∷ busy_in (n, map without_links es)) same ∙ ap (λ bs. block_of n e ∷ bs) (busy_in-plain n es)))
    (λ (t : is_busy e ≡ false). rw (is_busy-plain e, t) (busy_in-plain n es))
    (cases_Bool (is_busy e))
  where
    some : (e : Extent) → is_busy e ≡ true → e.size ≡ 0 → ⊥
    some e t z = let no : ltb 0 e.size ≡ false = le-ltb 0 e.size (omega arith) in let q : true ≡ false = sym t ∙ no in cc

all_busy-plain : (t : Tiling) → all_busy (plain t) ≡ all_busy t
all_busy-plain [] = refl
all_busy-plain (s ∷ ss) = ap (λ bs. bs ++ all_busy (plain ss)) (busy_in-plain s.0 s.1) ∙ ap (λ bs. busy_in s ++ bs) (all_busy-plain ss)

pub layout-stays : (old new : List Bytes) → StaysButLinks old new → layout_by new ≡ layout_by old
unfolding layout_by
layout-stays old new s =
    let busy : all_busy (tiling new) ≡ all_busy (tiling old) = sym (all_busy-plain (tiling new)) ∙ ap all_busy s.extents ∙ all_busy-plain (tiling old) in
    let pairs = s.pairs in
    λ i. record { segments = pairs i; blocks = in_order (busy i) }

is_merged-plain : (b : Bool) (es : List Extent) → is_merged b (map without_links es) ≡ is_merged b es
is_merged-plain b [] = refl
is_merged-plain b (e ∷ es) = rw (is_busy-plain e) (ap (λ z. not (b && is_free e) && z) (is_merged-plain (is_free e) es))

plain-merged : (t : Tiling) → IsMerged (plain t) → IsMerged t
plain-merged [] h = h
plain-merged (s ∷ ss) h =
    let P : ℕ × List Extent → Type 0 = λ q. is_merged false q.1 ≡ true in
    All-cons P s ss (sym (is_merged-plain false s.1) ∙ All-head P (s.0, map without_links s.1) (plain ss) h) (plain-merged ss (All-tail P (s.0, map without_links s.1) (plain ss) h))

merged-plain : (t : Tiling) → IsMerged t → IsMerged (plain t)
merged-plain [] h = h
merged-plain (s ∷ ss) h =
    let P : ℕ × List Extent → Type 0 = λ q. is_merged false q.1 ≡ true in
    All-cons P (s.0, map without_links s.1) (plain ss) (is_merged-plain false s.1 ∙ All-head P s ss h) (merged-plain ss (All-tail P s ss h))

-- the names of extents beside one
name-plain : (n : ℕ) (o p : Option Extent) → option_map without_links p ≡ option_map without_links o → free_name n p ≡ free_name n o
name-plain n o p e = sym (own n p) ∙ ap (free_name n) e ∙ own n o
  where
    own : (n : ℕ) (o : Option Extent) → free_name n (option_map without_links o) ≡ free_name n o
    own n None = refl
    own n (Some e) = rw (is_busy-plain e, without-off e) refl

bytes-plain : (o p : Option Extent) → option_map without_links p ≡ option_map without_links o → free_bytes p ≡ free_bytes o
bytes-plain o p e = sym (own p) ∙ ap free_bytes e ∙ own o
  where
    own : (o : Option Extent) → free_bytes (option_map without_links o) ≡ free_bytes o
    own None = refl
    own (Some e) = rw (is_busy-plain e, without-span e) refl

free_in-plain : (n : ℕ) (es : List Extent) → free_in (n, map without_links es) ≡ free_in (n, es)
free_in-plain n [] = refl
free_in-plain n (e ∷ es) =
    let own : run_of_extent n (without_links e) ≡ run_of_extent n e = rw (without-off e, without-span e) refl in
    ⊎_elim
    (λ (t : is_busy e ≡ true). rw (is_busy-plain e, t) (free_in-plain n es))
    (λ (t : is_busy e ≡ false). rw (is_busy-plain e, t) (ap (λ r. r ∷ free_in (n, map without_links es)) own ∙ ap (λ rs. run_of_extent n e ∷ rs) (free_in-plain n es)))
    (cases_Bool (is_busy e))

runs-plain : (t : Tiling) → free_runs (plain t) ≡ free_runs t
runs-plain [] = refl
runs-plain (s ∷ ss) = ap (λ rs. rs ++ free_runs (plain ss)) (free_in-plain s.0 s.1) ∙ ap (λ rs. free_in s ++ rs) (runs-plain ss)

pub one_free-plain : (es : List Extent) → IsOneFree es → IsOneFree (map without_links es)
one_free-plain [] h = h
one_free-plain (e ∷ es) h = (without-size e ∙ h.0, ap (map without_links) h.1)

pub plain-one_free : (es : List Extent) → IsOneFree (map without_links es) → IsOneFree es
plain-one_free [] h = h
plain-one_free (e ∷ []) h = (sym (without-size e) ∙ h.0, refl)
plain-one_free (e ∷ x ∷ xs) h = absurd (let q = h.1 in cc)

module _ (old new : Tiling) (same : plain new ≡ plain old) where
  pub runs-stay : free_runs new ≡ free_runs old
  runs-stay = sym (runs-plain new) ∙ ap free_runs same ∙ runs-plain old

  pub one_free-stays : (n : ℕ) → IsOneFree (extents_of n old) → IsOneFree (extents_of n new)
  one_free-stays n h =
      plain-one_free (extents_of n new)
      (subst IsOneFree (sym (extents_of-plain n old) ∙ ap (extents_of n) (sym same) ∙ extents_of-plain n new) (one_free-plain (extents_of n old) h))

  pub merged-stays : IsMerged old → IsMerged new
  merged-stays m = plain-merged new (subst IsMerged (sym same) (merged-plain old m))

  pub named-stays : (a : ℕ) → IsNamed old a → IsNamed new a
  named-stays a h = subst (λ n. 0 < n) (sym (span-stays old new same a)) h

  pub free-stays : (a : ℕ) → IsFree old a → IsFree new a
  free-stays a h = record { named = named-stays a h.named; free = size-stays old new same a ∙ h.free }

  pub busy-still : (a : ℕ) → IsBusy old a → IsBusy new a
  busy-still a h = record { named = named-stays a h.named; busy = subst (λ n. 0 < n) (sym (size-stays old new same a)) h.busy }

  pub next_name-stays : (a : ℕ) → free_next new a ≡ free_next old a
  next_name-stays a = name-plain (place_of a).0 (next_of old a) (next_of new a) (next-stays old new same a)

  pub before_name-stays : (a : ℕ) → free_before new a ≡ free_before old a
  before_name-stays a = name-plain (place_of a).0 (previous_of old a) (previous_of new a) (previous-stays old new same a)

  pub room-stays : (a : ℕ) → room_of new a ≡ room_of old a
  room-stays a =
      ap (λ n. n + free_bytes (next_of new a)) (span-stays old new same a)
      ∙ ap (λ n. (extent_of old a).span + n) (bytes-plain (next_of old a) (next_of new a) (next-stays old new same a))

-- the free runs are those of the tree of gaps
free-by : (e : Extent) → is_free e ≡ eqb e.size 0
free-by e =
    ⊎_elim
    (λ (t : eqb e.size 0 ≡ true). let z = eqb-true e.size 0 t in ap not (le-ltb 0 e.size (omega arith)) ∙ sym t)
    (λ (t : eqb e.size 0 ≡ false). let ne : 0 < e.size = other e.size t in ap not (lt-ltb 0 e.size ne) ∙ sym t)
    (cases_Bool (eqb e.size 0))
  where
    other : (n : ℕ) → eqb n 0 ≡ false → 0 < n
    other n t = grind arith

free_in-by : (n : ℕ) (es : List Extent) → free_in (n, es) ≡ map (run_of_extent n) (filter (λ e. eqb e.size 0) es)
free_in-by n [] = refl
free_in-by n (e ∷ es) =
    ⊎_elim
    (λ (t : is_free e ≡ true). rw (t, sym (free-by e) ∙ t) (ap (λ rs. run_of_extent n e ∷ rs) (free_in-by n es)))
    (λ (t : is_free e ≡ false). rw (t, sym (free-by e) ∙ t) (free_in-by n es))
    (cases_Bool (is_free e))

pub runs-by : (t : Tiling) → free_runs t ≡ gaps.free_runs t
runs-by [] = refl
runs-by (s ∷ ss) = ap (λ rs. rs ++ free_runs ss) (free_in-by s.0 s.1) ∙ ap (λ rs. map (run_of_extent s.0) (filter (λ e. eqb e.size 0) s.1) ++ rs) (runs-by ss)
