-- The runs of a tiling's free extents are those that its addresses name.
use Rattle.vc_base.proofs.Common.{◌≡◌, ℕ, zero, suc, ◌+◌, ◌-◌, ◌*◌, ◌/◌, ◌%◌, ◌<◌, ◌≤◌, true, false, eqb, ◌≢◌, ◌⊎◌, List, [], ◌∷◌, ◌++◌, map, length, get_or, All, filter, AllPairs, sym, refl, ap, ◌∙◌, subst, inl, inr, ⊎_elim, arith, lt-ltb, eq-eqb, ne_eqb, eqb-true, cases_Bool, All-head, All-tail, address, place_of, Run}
use Rattle.vc_gaps.proofs.Common.{AreExtents, Bytes, Extent, Tiling, extent_in, extent_of, extents, extents_of, free_runs, is_free, is_free-named, is_free-size, run_at, run_of_extent, tiling}
use Rattle.vc_extent.specs.Tiles.{IsTiled, Tiles}
use Rattle.vc_extent.proofs.Tiled.{off-at, tiles-lt}

abbrev runs_in : ℕ → List Extent → List Run
runs_in n es = map (run_of_extent n) (filter (λ e. eqb e.size 0) es)

-- a run stands in a list
abbrev pub HasRun : Run → List Run → Type 0
HasRun r [] = ⊥
HasRun r (x ∷ xs) = (x ≡ r) ⊎ HasRun r xs

has-front : (r : Run) (xs ys : List Run) → HasRun r xs → HasRun r (xs ++ ys)
has-front r [] ys h = absurd h
has-front r (x ∷ xs) ys h = ⊎_elim (λ (e : x ≡ r). inl e) (λ (k : HasRun r xs). inr (has-front r xs ys k)) h

has-back : (r : Run) (xs ys : List Run) → HasRun r ys → HasRun r (xs ++ ys)
has-back r [] ys h = h
has-back r (x ∷ xs) ys h = inr (has-back r xs ys h)

-- that of each free extent stands among those of its segment, and of all
has-extent : (n off : ℕ) (es : List Extent) → 0 < (extent_in off es).span → (extent_in off es).size ≡ 0 → HasRun (run_of_extent n (extent_in off es)) (runs_in n es)
has-extent n off [] named free = absurd (omega arith)
has-extent n off (e ∷ es) named free =
    ⊎_elim
    (λ (t : eqb e.off off ≡ true).
    let z : e.size ≡ 0 = rw t at free in
    rw (t, eq-eqb e.size 0 z) (inl refl))
    (λ (t : eqb e.off off ≡ false).
    let r : HasRun (run_of_extent n (extent_in off es)) (runs_in n es) = has-extent n off es (rw t at named) (rw t at free) in
    ⊎_elim
    (λ (u : eqb e.size 0 ≡ true). rw (t, u) (inr r))
    (λ (u : eqb e.size 0 ≡ false). rw (t, u) r)
    (cases_Bool (eqb e.size 0)))
    (cases_Bool (eqb e.off off))

has-segment : (n off : ℕ) (t : Tiling) → 0 < (extent_in off (extents_of n t)).span → (extent_in off (extents_of n t)).size ≡ 0 → HasRun (run_of_extent n (extent_in off (extents_of n t))) (free_runs t)
has-segment n off [] named free = absurd (omega arith)
has-segment n off (s ∷ ss) named free =
    ⊎_elim
    (λ (t : eqb s.0 n ≡ true).
    let same = eqb-true s.0 n t in
    rw t (has-front (run_of_extent n (extent_in off s.1)) (runs_in s.0 s.1) (free_runs ss)
    (subst (λ z. HasRun (run_of_extent n (extent_in off s.1)) (runs_in z s.1)) (sym same) (has-extent n off s.1 (rw t at named) (rw t at free)))))
    (λ (t : eqb s.0 n ≡ false).
    rw t (has-back (run_of_extent n (extent_in off (extents_of n ss))) (runs_in s.0 s.1) (free_runs ss) (has-segment n off ss (rw t at named) (rw t at free))))
    (cases_Bool (eqb s.0 n))

pub has-gap : (t : Tiling) (a : ℕ) → is_free t a ≡ true → HasRun (run_at t a) (free_runs t)
has-gap t a h = has-segment (place_of a).0 (place_of a).1 t (is_free-named t a h) (is_free-size t a h)

-- a run is that of a free extent
pub record IsGap (t : Tiling) (r : Run) : Type 0 where
  pub at : ℕ
  pub free : is_free t at ≡ true
  pub run : r ≡ run_at t at

abbrev pub AreGaps : Tiling → List Run → Type 0
AreGaps t [] = Unit {0}
AreGaps t (r ∷ rs) = IsGap t r × AreGaps t rs

gaps-append : (t : Tiling) (xs ys : List Run) → AreGaps t xs → AreGaps t ys → AreGaps t (xs ++ ys)
gaps-append t [] ys h k = k
gaps-append t (x ∷ xs) ys h k = (h.0, gaps-append t xs ys h.1 k)

-- the address of an extent names it
record IsKnown (t : Tiling) (n : ℕ) (e : Extent) : Type 0 where
  place : place_of (address (n, e.off)) ≡ (n, e.off)
  extent : extent_in e.off (extents_of n t) ≡ e
  some : 0 < e.span

abbrev AreKnown : Tiling → ℕ → List Extent → Type 0
AreKnown t n [] = Unit {0}
AreKnown t n (e ∷ es) = IsKnown t n e × AreKnown t n es

known : (t : Tiling) (n : ℕ) (b : List ℕ) (stop p at : ℕ) (es : List Extent) → stop < 33554432 → at % 32 ≡ 16 → Tiles b stop p at es → ((off : ℕ) → at + 16 ≤ off → extent_in off (extents_of n t) ≡ extent_in off es) → AreKnown t n es
known t n b stop p at [] most multiple h same = tt
known t n b stop p at (e ∷ es) most multiple h same =
    let o : e.off ≡ at + 16 = ap (λ (x : Extent). x.off) h.0.extent ∙ off-at at b in
    let least = h.0.legal.least in
    let unit = h.0.legal.multiple in
    let end = tiles-lt b stop p at e es h in
    let seg : (n * 1048576 + e.off / 32) / 1048576 ≡ n = omega arith in
    let off : (n * 1048576 + e.off / 32) % 1048576 * 32 ≡ e.off = omega arith in
    let here : extent_in e.off (e ∷ es) ≡ e = rw (eq-eqb e.off e.off refl) refl in (
      record {
        place = λ i. (seg i, off i);
        extent = same e.off (omega arith) ∙ here;
        some = omega arith;
      },
      known t n b stop e.span (at + e.span) es most (omega arith) h.1
          (λ k above. same k (omega arith) ∙ rw (ne_eqb e.off k (λ q. omega arith)) refl),
    )

run-known : (t : Tiling) (n : ℕ) (e : Extent) → IsKnown t n e → e.size ≡ 0 → IsGap t (run_of_extent n e)
run-known t n e k free =
    let a : ℕ = address (n, e.off) in
    let same : extent_of t a ≡ e = ap (λ (q : ℕ × ℕ). extent_in q.1 (extents_of q.0 t)) k.place ∙ k.extent in
    let span : (extent_of t a).span ≡ e.span = ap (λ (x : Extent). x.span) same in
    let size : (extent_of t a).size ≡ 0 = ap (λ (x : Extent). x.size) same ∙ free in
    record {
      at = a;
      free = rw (lt-ltb 0 (extent_of t a).span (subst (λ z. 0 < z) (sym span) k.some), eq-eqb (extent_of t a).size 0 size) refl;
      run = sym (ap (λ (q : ℕ × ℕ). run_of_extent q.0 (extent_of t a)) k.place ∙ ap (run_of_extent n) same);
    }

gaps-known : (t : Tiling) (n : ℕ) (es : List Extent) → AreKnown t n es → AreGaps t (runs_in n es)
gaps-known t n [] k = tt
gaps-known t n (e ∷ es) k =
    ⊎_elim
    (λ (u : eqb e.size 0 ≡ true). rw u (run-known t n e k.0 (eqb-true e.size 0 u), gaps-known t n es k.1))
    (λ (u : eqb e.size 0 ≡ false). rw u (gaps-known t n es k.1))
    (cases_Bool (eqb e.size 0))

gaps-segments : (t : Tiling) (ss : List Bytes) → All (λ (b : Bytes). extents_of b.number t ≡ extents b.bytes) ss → All (λ (b : Bytes). IsTiled b.bytes) ss → AreGaps t (free_runs (tiling ss))
gaps-segments t [] numbered tiled = tt
gaps-segments t (s ∷ ss) numbered tiled =
    let P : Bytes → Type 0 = λ b. extents_of b.number t ≡ extents b.bytes in
    let Q : Bytes → Type 0 = λ b. IsTiled b.bytes in
    let h = All-head Q s ss tiled in
    let e = All-head P s ss numbered in
    let least = h.size.least in
    let most = h.size.most in
    gaps-append t (runs_in s.number (extents s.bytes)) (free_runs (tiling ss))
    (gaps-known t s.number (extents s.bytes) (known t s.number s.bytes (length s.bytes - 16) 0 16 (extents s.bytes) (omega arith) (omega arith) h.tiles (λ off above. ap (extent_in off) e)))
    (gaps-segments t ss (All-tail P s ss numbered) (All-tail Q s ss tiled))

numbers-known : (segs : List Bytes) → AllPairs (λ (a b : Bytes). a.number ≢ b.number) segs → All (λ (b : Bytes). extents_of b.number (tiling segs) ≡ extents b.bytes) segs
numbers-known [] apart k d lt = absurd (omega arith)
numbers-known (s ∷ ss) apart zero d lt = rw (eq-eqb s.number s.number refl) refl
numbers-known (s ∷ ss) apart (suc k) d lt =
    let other : s.number ≢ (get_or ss k d).number = apart 0 (suc k) d (omega arith) lt in
    rw (ne_eqb s.number (get_or ss k d).number other)
    (numbers-known ss (λ i j c less within. apart (suc i) (suc j) c (omega arith) (omega arith)) k d (omega arith))

pub are_gaps : (segs : List Bytes) (index : List ℕ) → AreExtents segs index → AreGaps (tiling segs) (free_runs (tiling segs))
are_gaps segs index a = gaps-segments (tiling segs) segs (numbers-known segs a.segments.distinct) a.tiled
