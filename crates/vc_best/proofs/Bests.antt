-- The gap that the tree answers, as the least free run that holds a block.
use Rattle.vc_base.proofs.Common.{◌≡◌, ℕ, ◌+◌, List, Some, None, filter, Option, option_map, sym, refl, ap, ◌∙◌, subst, arith, address, place_of, Run, holds, least}
use Rattle.vc_best.proofs.Common.{Addr, AreExtents, Bytes, IsFree, Tiling, extent_of, extents_of, free_runs, plain, run_at, tiling}
use Rattle.vc_model.proofs.Owned.{address-place_of}
use Rattle.vc_gaps.specs.Fits as gaps
use Rattle.vc_gaps.specs.GapLaws.{span-stays}
use Rattle.vc_gaps.proofs.Named.{extent_in-off}
use Rattle.vc_best.proofs.FreeRuns.{IsGap, gap-is}
use Rattle.vc_best.proofs.Plain.{runs-by, runs-stay}

-- the least of them in both words
pub least-by : (t : Tiling) (span align : ℕ) (o : Option Run) → o ≡ least (filter (holds span align) (gaps.free_runs t)) → least (filter (holds span align) (free_runs t)) ≡ o
least-by t span align o e = ap (λ (rs : List Run). least (filter (holds span align) rs)) (runs-by t) ∙ sym e

pub run-stays : (old new : Tiling) → plain new ≡ plain old → (a : ℕ) → run_at new a ≡ run_at old a
run-stays old new same a =
    let o : (extent_of new a).off ≡ (extent_of old a).off = extent_in-off (place_of a).1 (extents_of (place_of a).0 new) ∙ sym (extent_in-off (place_of a).1 (extents_of (place_of a).0 old)) in
    let s = span-stays old new same a in
    rw (o, s) refl

pub least-stays : (old new : Tiling) → plain new ≡ plain old → (span align a : ℕ) → Some (run_at old a) ≡ least (filter (holds span align) (gaps.free_runs old)) → Some (run_at new a) ≡ least (filter (holds span align) (gaps.free_runs new))
least-stays old new same span align a best =
    ap (λ (r : Run). Some r) (run-stays old new same a) ∙ best
    ∙ ap (λ (rs : List Run). least (filter (holds span align) rs)) (sym (runs-by old) ∙ sym (runs-stay old new same) ∙ runs-by new)

-- it is the gap that was found, in a tiling that differs in links
pub least-found : (old new : Tiling) → plain new ≡ plain old → (span n align : ℕ) (o : Option Addr) (a : Addr) → o ≡ Some a → n ≡ span
    → option_map (run_at old) (option_map (λ r. r.0) o) ≡ least (filter (holds n align) (gaps.free_runs old)) → Some (run_at new a.0) ≡ least (filter (holds span align) (gaps.free_runs new))
least-found old new same span n align o a e s best =
    let found : Some (run_at old a.0) ≡ least (filter (holds n align) (gaps.free_runs old)) = subst (λ (p : Option Addr). option_map (run_at old) (option_map (λ r. r.0) p) ≡ least (filter (holds n align) (gaps.free_runs old))) e best in
    least-stays old new same span align a.0 (found ∙ ap (λ (m : ℕ). least (filter (holds m align) (gaps.free_runs old))) s)

-- there is none where none was
pub least-none : (old : Tiling) (span n align : ℕ) (o : Option Addr) → o ≡ None → n ≡ span
    → option_map (run_at old) (option_map (λ r. r.0) o) ≡ least (filter (holds n align) (gaps.free_runs old)) → least (filter (holds span align) (free_runs old)) ≡ None
least-none old span n align o e s best =
    let none : None ≡ least (filter (holds n align) (gaps.free_runs old)) = subst (λ (p : Option Addr). option_map (run_at old) (option_map (λ r. r.0) p) ≡ least (filter (holds n align) (gaps.free_runs old))) e best in
    least-by old span align None (none ∙ ap (λ (m : ℕ). least (filter (holds m align) (gaps.free_runs old))) s)

-- its address is that of the run, and names a free extent
module _ (segs : List Bytes) (index : List ℕ) (k : ∥ AreExtents segs index ∥₁) (span align a : ℕ) (best : Some (run_at (tiling segs) a) ≡ least (filter (holds span align) (gaps.free_runs (tiling segs)))) where
  gap : IsGap (tiling segs) (run_at (tiling segs) a)
  gap = gap-is segs index span align (run_at (tiling segs) a) k (least-by (tiling segs) span align (Some (run_at (tiling segs) a)) best)

  pub best-from : (run_at (tiling segs) a).from + 16 ≡ (place_of a).1
  best-from =
      let o : (extent_of (tiling segs) a).off ≡ (place_of a).1 = extent_in-off (place_of a).1 (extents_of (place_of a).0 (tiling segs)) in
      let low = gap.low in
      omega (arith, o, low)

  pub best-address : a ≡ address ((run_at (tiling segs) a).seg, (run_at (tiling segs) a).from + 16)
  best-address = sym (address-place_of a) ∙ ap (λ (n : ℕ). address ((place_of a).0, n)) (sym best-from)

  pub best-free : IsFree (tiling segs) a
  best-free = subst (IsFree (tiling segs)) (sym best-address) gap.free
