-- A profile region whose blocks all go, and its rows.
use Rattle.vc_base.proofs.Common.{◌≡◌, ℕ, zero, suc, ◌+◌, ◌≤◌, List, [], ◌∷◌, map, length, slice_get, Some, Option, option_map, bytes_eq, sym, refl, ap, ◌∙◌, subst, arith, same_Some, slice_get-map, AllByRecursion, IsDistinct, keys_of, cleared_layout, Block, Layout}
use Rattle.vc_seg.specs.declared.profile_row.ProfileRow.{ProfileRow}
use Rattle.vc_audit.specs.Profile.{Profile, rows_with_peaks, profile_clear, row_of, site_blocks}
use Rattle.vc_audit.specs.ProfileSums.{IsCounted, IsRow, Rows, Sites, clear_at, cleared_rows, peaks_of, row_without_blocks}
use Rattle.vc_audit.specs.declared.profile.rows.Row.{Row}
use Rattle.vc_audit.proofs.ProfileBare.{layout}
use Rattle.vc_audit.proofs.ProfileFree.{profile}
use Rattle.vc_audit.proofs.ProfileRows.{peaks-stay}
use Rattle.indexmap.specs.Layout.{set_value_at}

-- the value that is put is that of the index
pub set-clears : (es : Rows) (i : ℕ) (w : Row) → slice_get (map (λ (e : List ℕ × Row). e.1) es) i ≡ Some w → set_value_at es i (record { blocks = 0; bytes = 0; peak = w.peak }) ≡ clear_at i es
set-clears [] i w e = refl
set-clears (k ∷ es) zero w e = ap (λ (v : Row). (k.0, let r : Row = record { blocks = 0; bytes = 0; peak = v.peak } in r) ∷ es) (sym (same_Some k.1 w e))
set-clears (k ∷ es) (suc i) w e = ap (λ ds. k ∷ ds) (set-clears es i w e)

pub clear-length : (i : ℕ) (es : Rows) → length (clear_at i es) ≡ length es
clear-length i [] = refl
clear-length zero (e ∷ es) = refl
clear-length (suc i) (e ∷ es) = ap suc (clear-length i es)

-- the rows of which the first are emptied
abbrev pub clear_first : ℕ → Rows → Rows
clear_first zero es = es
clear_first (suc n) [] = []
clear_first (suc n) (e ∷ es) = row_without_blocks e ∷ clear_first n es

clear-none : (i : ℕ) (es : Rows) → length es ≤ i → clear_at i es ≡ es
clear-none i [] le = refl
clear-none zero (e ∷ es) le = absurd (omega (arith, le))
clear-none (suc i) (e ∷ es) le = ap (λ ds. e ∷ ds) (clear-none i es (omega (arith, le)))

next : (n : ℕ) (es : Rows) → clear_at n (clear_first n es) ≡ clear_first (suc n) es
next zero [] = refl
next zero (e ∷ es) = refl
next (suc n) [] = refl
next (suc n) (e ∷ es) = ap (λ ds. row_without_blocks e ∷ ds) (next n es)

pub clear-next : (n : ℕ) (es : Rows) → clear_at n (clear_first n es) ≡ clear_first (n + 1) es
clear-next n es = let e : suc n ≡ n + 1 = omega arith in next n es ∙ ap (λ k. clear_first k es) e

pub clear-all : (n : ℕ) (es : Rows) → length es ≤ n → clear_first n es ≡ cleared_rows es
clear-all zero [] le = refl
clear-all zero (e ∷ es) le = absurd (omega (arith, le))
clear-all (suc n) [] le = refl
clear-all (suc n) (e ∷ es) le = ap (λ ds. row_without_blocks e ∷ ds) (clear-all n es (omega (arith, le)))

rows-none : (es : Rows) → AllByRecursion (IsRow []) (cleared_rows es)
rows-none [] = tt
rows-none (e ∷ es) = (record { blocks_are = refl; bytes_are = refl; few = omega arith; peak = omega arith }, rows-none es)

keys-none : (es : Rows) → keys_of (cleared_rows es) ≡ keys_of es
keys-none [] = refl
keys-none (e ∷ es) = ap (λ ks. e.0 ∷ ks) (keys-none es)

pub counted-cleared : (r : Layout ℕ) (t : Sites) (es : Rows) → IsDistinct bytes_eq (keys_of es) → IsCounted (cleared_layout r) t (cleared_rows es)
counted-cleared r t es distinct = record { held = tt; counted = rows-none es; distinct = subst (IsDistinct bytes_eq) (sym (keys-none es)) distinct }

peaks-none : (es : Rows) → peaks_of (cleared_rows es) ≡ peaks_of es
peaks-none [] = refl
peaks-none (e ∷ es) = ap (λ ps. (e.0, e.1.peak) ∷ ps) (peaks-none es)

pub profile-cleared : (r : Layout ℕ) (t t' : Sites) (es : Rows) → profile t' (cleared_layout r) (cleared_rows es) ≡ profile_clear (profile t r es)
profile-cleared r t t' es =
    let with : List (List ℕ × ℕ) → Profile ℕ = λ ps. record { layout = layout r.segments []; peaks = ps } in
    let none : List (Block (ℕ × List ℕ)) = [] in
    ap with (sym (peaks-stay [] (cleared_rows es) (rows-none es)) ∙ ap (rows_with_peaks none) (peaks-none es))

-- the row of an index
abbrev row : List ℕ × Row → ProfileRow
row e = record { site = e.0; blocks = e.1.blocks; bytes = e.1.bytes; peak = e.1.peak }

rows-are : (bs : List (Block (ℕ × List ℕ))) (es : Rows) → AllByRecursion (IsRow bs) es → map row es ≡ map (row_of bs) (peaks_of es)
rows-are bs [] all = refl
rows-are bs (e ∷ es) all =
    let of : ℕ → ℕ → ProfileRow = λ blocks bytes. record { site = e.0; blocks = blocks; bytes = bytes; peak = e.1.peak } in
    ap (λ n. of n e.1.bytes ∷ map row es) all.0.blocks_are
    ∙ (ap (λ n. of (site_blocks e.0 bs) n ∷ map row es) all.0.bytes_are ∙ ap (λ rs. row_of bs (e.0, e.1.peak) ∷ rs) (rows-are bs es all.1))

pub row-here : (bs : List (Block (ℕ × List ℕ))) (es : Rows) → AllByRecursion (IsRow bs) es → (i : ℕ) (o : Option (List ℕ × Row)) → slice_get es i ≡ o → option_map row o ≡ slice_get (map (row_of bs) (peaks_of es)) i
row-here bs es all i o e = ap (option_map row) (sym e) ∙ (sym (slice_get-map row es i) ∙ ap (λ rs. slice_get rs i) (rows-are bs es all))
