-- The one free run that holds a block, where a free extent is put behind others, and where it becomes one with the one before it.
use Rattle.vc_base.proofs.Common.{◌≡◌, ℕ, zero, suc, ◌+◌, ◌-◌, ◌/◌, ◌≤◌, Bool, true, false, eqb, List, [], ◌∷◌, ◌++◌, map, length, All, filter, sym, refl, ap, ◌∙◌, subst, ⊎_elim, append_assoc, arith, eq-eqb, eqb-true, le-leb, leb-true, cases_Bool, All-head, filter-append, filter_passes, map-append, length-append, place_of, Run, holds, round_up, span}
use Rattle.std.proofs.lemmas.Grind.{flat_map-append}
use Rattle.std.proofs.lemmas.List.{nil_from_length}
use Rattle.std.proofs.lemmas.Nat.{le-div, mul-le}
use Rattle.std.proofs.Math.Nat.{div-mul-le_self}
use Rattle.vc_extent.specs.Change.{widen}
use Rattle.vc_gaps.specs.Fits as gaps
use Rattle.vc_best.proofs.Common.{Bytes, Extent, IsThere, Tiling, absorb, behind_of, change_at, change_extent, change_in, extent_in, extent_of, extents, extents_of, free_extent, no_links, plain, run_at, run_of_extent, tiling}
use Rattle.vc_best.specs.Standing.{IsOnlyHolding}
use Rattle.vc_best.proofs.Cuts.{extent_in-here}
use Rattle.vc_best.proofs.Known.{IsCut, off-of, then-extent}
use Rattle.vc_best.proofs.Parts.{above, above-changed, above-is, below, front, front-changed, front-is}
use Rattle.vc_best.proofs.Walks.{named-cut}
use Rattle.vc_best.proofs.FreeBlocks.{busy-free}
use Rattle.vc_best.proofs.Bests.{run-stays}
use Rattle.vc_best.proofs.Plain.{runs-by, runs-stay}

nil-both : (xs ys : List Run) → xs ++ ys ≡ [] → (xs ≡ []) × (ys ≡ [])
nil-both [] ys e = (refl, e)
nil-both (x ∷ xs) ys e = absurd (cc)

-- one that passes among others that don't
one-more : (test : Run → Bool) (xs ys : List Run) (r : Run) → filter test (xs ++ ys) ≡ [] → test r ≡ true → filter test (xs ++ (r ∷ ys)) ≡ r ∷ []
one-more test xs ys r none passes =
    let both = nil-both (filter test xs) (filter test ys) (sym (filter-append test xs ys) ∙ none) in
    let here : filter test (r ∷ ys) ≡ r ∷ [] = rw passes (ap (λ zs. r ∷ zs) both.1) in
    filter-append test xs (r ∷ ys) ∙ ap (λ zs. zs ++ filter test (r ∷ ys)) both.0 ∙ here

-- where one of two passes and no other, the rest don't
two-less : (test : Run → Bool) (xs ys : List Run) (e y r : Run) → filter test (xs ++ (e ∷ y ∷ ys)) ≡ r ∷ [] → test y ≡ true → filter test (xs ++ ys) ≡ []
two-less test xs ys e y r one passes =
    let whole = ap length (sym (filter-append test xs (e ∷ y ∷ ys)) ∙ one) in
    let parts = length-append (filter test xs) (filter test (e ∷ y ∷ ys)) in
    let left = ap length (filter-append test xs ys) in
    let halves = length-append (filter test xs) (filter test ys) in
    let two : length (filter test ys) + 1 ≤ length (filter test (e ∷ y ∷ ys)) =
    ⊎_elim
    (λ (t : test e ≡ true). rw (t, passes) (omega arith))
    (λ (t : test e ≡ false). rw (t, passes) (omega arith))
    (cases_Bool (test e)) in
    nil_from_length (filter test (xs ++ ys)) (omega (arith, whole, parts, left, halves, two))

-- the free runs of extents of a segment
abbrev runs_of : ℕ → List Extent → List Run
runs_of n es = map (run_of_extent n) (filter (λ e. eqb e.size 0) es)

runs-append : (n : ℕ) (es ys : List Extent) → runs_of n (es ++ ys) ≡ runs_of n es ++ runs_of n ys
runs-append n es ys = ap (map (run_of_extent n)) (filter-append (λ (e : Extent). eqb e.size 0) es ys) ∙ map-append (run_of_extent n) (filter (λ (e : Extent). eqb e.size 0) es) (filter (λ (e : Extent). eqb e.size 0) ys)

-- a free extent is put behind the others of a segment
pub only-widened : (test : Run → Bool) (n off more : ℕ) (segs : List Bytes) → IsThere n segs → test (run_of_extent n (free_extent off more no_links)) ≡ true → filter test (gaps.free_runs (tiling segs)) ≡ [] →
    filter test (gaps.free_runs (change_in n (widen off more) (tiling segs))) ≡ run_of_extent n (free_extent off more no_links) ∷ []
only-widened test n off more [] there passes none = absurd (cc)
only-widened test n off more (s ∷ ss) there passes none =
    let f : Extent = free_extent off more no_links in
    let xs : List Run = runs_of s.number (extents s.bytes) in
    let ys : List Run = gaps.free_runs (tiling ss) in
    ⊎_elim
    (λ (t : eqb s.number n ≡ true).
    let same = eqb-true s.number n t in
    let r : Run = run_of_extent s.number f in
    rw t
    (ap (λ zs. filter test (zs ++ ys)) (runs-append s.number (extents s.bytes) (f ∷ []))
    ∙ ap (filter test) (append_assoc xs (r ∷ []) ys)
    ∙ one-more test xs ys r none (ap (λ (m : ℕ). test (run_of_extent m f)) same ∙ passes)
    ∙ ap (λ (m : ℕ). run_of_extent m f ∷ []) same))
    (λ (t : eqb s.number n ≡ false).
    let both = nil-both (filter test xs) (filter test ys) (sym (filter-append test xs ys) ∙ none) in
    let rest : List Run = gaps.free_runs (change_in n (widen off more) (tiling ss)) in
    rw t
    (filter-append test xs rest
    ∙ ap (λ zs. zs ++ filter test rest) both.0
    ∙ only-widened test n off more ss (rw t at there) passes both.1))
    (cases_Bool (eqb s.number n))

-- a run that begins earlier holds what one does that ends where it ends
round_up-rise : (n m unit : ℕ) → n ≤ m → round_up n unit ≤ round_up m unit
round_up-rise n m zero le = omega arith
round_up-rise n m (suc k) le =
    let low = div-mul-le_self (n + suc k - 1) (suc k) in
    let rise : (n + suc k - 1) / suc k ≤ (m + suc k - 1) / suc k = le-div ((n + suc k - 1) / suc k) (m + suc k - 1) (suc k) (omega arith) (omega (arith, low, le)) in
    mul-le (suc k) ((n + suc k - 1) / suc k) (suc k) ((m + suc k - 1) / suc k) (omega arith) rise

holds-wider : (size align n from to low : ℕ) → low ≤ from → holds size align (record { seg = n; from = from; to = to }) ≡ true → holds size align (record { seg = n; from = low; to = to }) ≡ true
holds-wider size align n from to low le h =
    let fits : round_up (from + 16) align + size ≤ to + 16 = leb-true (round_up (from + 16) align + size) (to + 16) h in
    let rise = round_up-rise (low + 16) (from + 16) align (omega arith) in
    le-leb (round_up (low + 16) align + size) (to + 16) (omega (arith, fits, rise))

two-free : (n : ℕ) (e y : Extent) (ys : List Extent) → e.size ≡ 0 → y.size ≡ 0 → runs_of n (e ∷ y ∷ ys) ≡ run_of_extent n e ∷ run_of_extent n y ∷ runs_of n ys
two-free n e y ys fe fy = rw (eq-eqb e.size 0 fe, eq-eqb y.size 0 fy) refl

-- a free extent becomes one with the one behind it
module _ (t : Tiling) (a b : ℕ) (c : IsCut t b) (rest : behind_of t b ≡ extent_of t a ∷ behind_of t a) (seg : (place_of b).0 ≡ (place_of a).0) (end : (extent_of t a).off ≡ (extent_of t b).off + (extent_of t b).span)
    (first : (extent_of t b).size ≡ 0) (second : (extent_of t a).size ≡ 0) where
  abbrev n : ℕ
  n = (place_of b).0

  abbrev e : Extent
  e = extent_of t b

  abbrev y : Extent
  y = extent_of t a

  abbrev both : Extent
  both = free_extent (extent_of t b).off ((extent_of t b).span + (extent_of t a).span) no_links

  abbrev lead : List Run
  lead = gaps.free_runs (above (place_of b).0 t) ++ runs_of (place_of b).0 (front (place_of b).1 (extents_of (place_of b).0 t))

  abbrev rear : List Run
  rear = gaps.free_runs (below (place_of b).0 t)

  parted : (xs : List Extent) → gaps.free_runs (above (place_of b).0 t ++ ((place_of b).0, front (place_of b).1 (extents_of (place_of b).0 t) ++ xs) ∷ below (place_of b).0 t) ≡ lead ++ (runs_of (place_of b).0 xs ++ rear)
  parted xs =
      let es : List Extent = front (place_of b).1 (extents_of (place_of b).0 t) in
      let runs : ℕ × List Extent → List Run = λ s. runs_of s.0 s.1 in
      flat_map-append runs (above n t) ((n, es ++ xs) ∷ below n t)
      ∙ (ap (λ rs. gaps.free_runs (above n t) ++ (rs ++ rear)) (runs-append n es xs)
      ∙ (ap (λ rs. gaps.free_runs (above n t) ++ rs) (append_assoc (runs_of n es) (runs_of n xs) rear)
      ∙ sym (append_assoc (gaps.free_runs (above n t)) (runs_of n es) (runs_of n xs ++ rear))))

  absorbed : absorb (extent_of t b) (behind_of t b) ≡ both ∷ behind_of t a
  absorbed = ap (absorb e) rest ∙ rw (busy-free y second) refl

  runs-before : gaps.free_runs t ≡ lead ++ (run_of_extent (place_of b).0 (extent_of t b) ∷ run_of_extent (place_of b).0 (extent_of t a) ∷ (runs_of (place_of b).0 (behind_of t a) ++ rear))
  runs-before =
      let off = (place_of b).1 in
      let named = named-cut t b c in
      ap gaps.free_runs (above-is n off t named)
      ∙ ap (λ (xs : List Extent). gaps.free_runs (above n t ++ (n, xs) ∷ below n t)) (front-is off (extents_of n t) named ∙ ap (λ ys. front off (extents_of n t) ++ (e ∷ ys)) rest)
      ∙ parted (e ∷ y ∷ behind_of t a)
      ∙ ap (λ rs. lead ++ (rs ++ rear)) (two-free n e y (behind_of t a) first second)

  runs-then : gaps.free_runs (change_extent b absorb t) ≡ lead ++ (run_of_extent (place_of b).0 both ∷ (runs_of (place_of b).0 (behind_of t a) ++ rear))
  runs-then =
      let off = (place_of b).1 in
      let named = named-cut t b c in
      ap gaps.free_runs (above-changed n off (change_at off absorb) t named)
      ∙ ap (λ (xs : List Extent). gaps.free_runs (above n t ++ (n, xs) ∷ below n t)) (front-changed off absorb (extents_of n t) named ∙ ap (λ ys. front off (extents_of n t) ++ ys) absorbed)
      ∙ parted (both ∷ behind_of t a)

  pub only-absorbed : (size align : ℕ) → IsOnlyHolding t size align a → IsOnlyHolding (change_extent b absorb t) size align b
  only-absorbed size align one =
      let test : Run → Bool = holds (span size) align in
      let own : run_at t a ≡ run_of_extent n y = ap (λ (m : ℕ). run_of_extent m y) (sym seg) in
      let passes : test (run_of_extent n y) ≡ true =
      ap test (sym own) ∙ All-head (λ r. test r ≡ true) (run_at t a) [] (subst (λ rs. All (λ r. test r ≡ true) rs) one (filter_passes test (gaps.free_runs t))) in
      let qs : List Run = runs_of n (behind_of t a) ++ rear in
      let none : filter test (lead ++ qs) ≡ [] = two-less test lead qs (run_of_extent n e) (run_of_extent n y) (run_at t a) (ap (filter test) (sym runs-before) ∙ one) passes in
      let o = off-of t b c in
      let low = c.cut.low in
      let to : e.off - 16 + (e.span + y.span) ≡ y.off - 16 + y.span = omega (arith, end, o, low) in
      let wider : test (run_of_extent n both) ≡ true =
      ap (λ (m : ℕ). test (record { seg = n; from = e.off - 16; to = m })) to ∙ holds-wider (span size) align n (y.off - 16) (y.off - 16 + y.span) (e.off - 16) (omega (arith, end)) passes in
      let now : extent_of (change_extent b absorb t) b ≡ both =
      then-extent t (change_extent b absorb t) b b absorb c refl refl (omega arith) ∙ ap (extent_in (place_of b).1) absorbed ∙ extent_in-here (place_of b).1 both (behind_of t a) o in
      ap (filter test) runs-then ∙ one-more test lead qs (run_of_extent n both) none wider ∙ ap (λ (x : Extent). run_of_extent n x ∷ []) (sym now)

-- it is so where all but links stays
pub only-stays : (old new : Tiling) → plain new ≡ plain old → (size align a : ℕ) → IsOnlyHolding old size align a → IsOnlyHolding new size align a
only-stays old new same size align a one =
    ap (filter (holds (span size) align)) (sym (runs-by new) ∙ runs-stay old new same ∙ runs-by old) ∙ one ∙ ap (λ r. r ∷ []) (sym (run-stays old new same a))
