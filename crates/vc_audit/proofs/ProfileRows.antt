-- The rows as the row of one site changes.
use Rattle.vc_base.proofs.Common.{◌≡◌, ℕ, ◌≤◌, max, Bool, true, false, cond, List, [], ◌∷◌, is_some, IsSome, Some, None, bytes_eq, unwrap_or, sym, refl, ap, ◌∙◌, subst, ⊎_elim, arith, cases_Bool, IsDistinct-head, IsDistinct-tail, AllByRecursion, IsDistinct, keys_of, lookup, Block}
use Rattle.std.proofs.lemmas.Map.Keys.{IsDistinct-cons}
use Rattle.indexmap.specs.IndexMap.{insert_entry}
use Rattle.vc_base.proofs.Texts.{bytes_eq-swapped, same_bytes, own_bytes}
use Rattle.vc_audit.specs.Profile.{rows_with_peaks, site_blocks, site_bytes, with_site}
use Rattle.vc_audit.specs.ProfileSums.{IsRow, Rows, new_row, peaks_of, row_for}
use Rattle.vc_audit.specs.declared.profile.rows.Row.{Row}

-- a peak that is no less than the bytes stays
kept-peak : (bytes now peak : ℕ) → bytes ≡ now → bytes ≤ peak → max peak now ≡ peak
kept-peak bytes now peak is le = omega (arith, is, le)

pub peaks-stay : (bs : List (Block (ℕ × List ℕ))) (es : Rows) → AllByRecursion (IsRow bs) es → rows_with_peaks bs (peaks_of es) ≡ peaks_of es
peaks-stay bs [] all = refl
peaks-stay bs (e ∷ es) all =
    ap (λ n. (e.0, n) ∷ rows_with_peaks bs (peaks_of es)) (kept-peak e.1.bytes (site_bytes e.0 bs) e.1.peak all.0.bytes_are all.0.peak)
    ∙ ap (λ ps. (e.0, e.1.peak) ∷ ps) (peaks-stay bs es all.1)

-- sums that are the same
pub row-same : (bs bs' : List (Block (ℕ × List ℕ))) (e : List ℕ × Row) → (site_blocks e.0 bs' ≡ site_blocks e.0 bs) × (site_bytes e.0 bs' ≡ site_bytes e.0 bs) → IsRow bs e → IsRow bs' e
row-same bs bs' e same row = record { blocks_are = row.blocks_are ∙ sym same.0; bytes_are = row.bytes_are ∙ sym same.1; few = row.few; peak = row.peak }

pub rows-same : (bs bs' : List (Block (ℕ × List ℕ))) (es : Rows) → ((site : List ℕ) → (site_blocks site bs' ≡ site_blocks site bs) × (site_bytes site bs' ≡ site_bytes site bs)) → AllByRecursion (IsRow bs) es → AllByRecursion (IsRow bs') es
rows-same bs bs' [] same all = tt
rows-same bs bs' (e ∷ es) same all = (row-same bs bs' e (same e.0) all.0, rows-same bs bs' es same all.1)

-- a site that has a row is no new one
pub site-there : (site : List ℕ) (es : Rows) → IsSome (lookup (bytes_eq site) es) → with_site site (peaks_of es) ≡ peaks_of es
site-there site [] there = absurd (cc)
site-there site (e ∷ es) there =
    ⊎_elim
    (λ t. ap (λ v. cond v (peaks_of (e ∷ es)) ((e.0, e.1.peak) ∷ with_site site (peaks_of es))) t)
    (λ t.
    ap (λ v. cond v (peaks_of (e ∷ es)) ((e.0, e.1.peak) ∷ with_site site (peaks_of es))) t
    ∙ ap (λ ps. (e.0, e.1.peak) ∷ ps) (site-there site es (subst (λ v. IsSome (cond v (Some e.1) (lookup (bytes_eq site) es))) t there)))
    (cases_Bool (bytes_eq site e.0))

-- the row that is put is there, and every other one
pub put-own : (site : List ℕ) (w : Row) (es : Rows) → IsSome (lookup (bytes_eq site) (insert_entry bytes_eq es site w))
put-own site w [] = ap (λ v. is_some (cond v (Some w) None)) (own_bytes site)
put-own site w (e ∷ es) =
    ⊎_elim
    (λ t. rw t (ap (λ v. is_some (cond v (Some w) (lookup (bytes_eq site) es))) t))
    (λ t. rw t (ap (λ v. is_some (cond v (Some e.1) (lookup (bytes_eq site) (insert_entry bytes_eq es site w)))) t ∙ put-own site w es))
    (cases_Bool (bytes_eq site e.0))

pub put-keeps : (x site : List ℕ) (w : Row) (es : Rows) → IsSome (lookup (bytes_eq x) es) → IsSome (lookup (bytes_eq x) (insert_entry bytes_eq es site w))
put-keeps x site w [] there = absurd (cc)
put-keeps x site w (e ∷ es) there =
    elim (bytes_eq site e.0) as (λ v. IsSome (lookup (bytes_eq x) (cond v ((e.0, w) ∷ es) (e ∷ insert_entry bytes_eq es site w)))) [
      | true ↦ head (bytes_eq x e.0) there
      | false ↦ ⊎_elim (λ t. rw t refl) (λ t. rw t (put-keeps x site w es (subst (λ v. IsSome (cond v (Some e.1) (lookup (bytes_eq x) es))) t there))) (cases_Bool (bytes_eq x e.0))
    ]
  where
    head : (v : Bool) → IsSome (cond v (Some e.1) (lookup (bytes_eq x) es)) → IsSome (cond v (Some w) (lookup (bytes_eq x) es))
    head true h = refl
    head false h = h

-- each site still has one row
pub distinct-put : (site : List ℕ) (w : Row) (es : Rows) → IsDistinct bytes_eq (keys_of es) → IsDistinct bytes_eq (keys_of (insert_entry bytes_eq es site w))
distinct-put site w [] distinct = IsDistinct-cons bytes_eq site [] tt distinct
distinct-put site w (e ∷ es) distinct =
    ⊎_elim
    (λ t. rw t distinct)
    (λ t. rw t (IsDistinct-cons bytes_eq e.0 (keys_of (insert_entry bytes_eq es site w)) (apart es (bytes_eq-swapped e.0 site ∙ t) (IsDistinct-head bytes_eq e.0 (keys_of es) distinct)) (distinct-put site w es (IsDistinct-tail bytes_eq e.0 (keys_of es) distinct))))
    (cases_Bool (bytes_eq site e.0))
  where
    apart : (ds : Rows) → bytes_eq e.0 site ≡ false → AllByRecursion (λ k. bytes_eq e.0 k ≡ false) (keys_of ds) → AllByRecursion (λ k. bytes_eq e.0 k ≡ false) (keys_of (insert_entry bytes_eq ds site w))
    apart [] other all = (other, tt)
    apart (d ∷ ds) other all =
        elim (bytes_eq site d.0) as (λ v. AllByRecursion (λ k. bytes_eq e.0 k ≡ false) (keys_of (cond v ((d.0, w) ∷ ds) (d ∷ insert_entry bytes_eq ds site w)))) [
          | true ↦ all
          | false ↦ (all.0, apart ds other all.1)
        ]

-- a row with so many blocks and bytes, of which the peak takes note
pub record IsRowWith (v : Row) (n m : ℕ) (w : Row) : Type 0 where
  pub blocks : w.blocks ≡ n
  pub bytes : w.bytes ≡ m
  pub peak : w.peak ≡ max v.peak m

pub peak-with : (v u : Row) (n m : ℕ) (w : Row) → v ≡ u → IsRowWith v n m w → w.peak ≡ max u.peak w.bytes
peak-with v u n m w row with = with.peak ∙ (ap (max v.peak) (sym with.bytes) ∙ ap (λ (x : Row). max x.peak w.bytes) row)

-- the sums of one site change
module _ (bs bs' : List (Block (ℕ × List ℕ))) (site : List ℕ) (w : Row) (own : IsRow bs' (site, w)) (same : (x : List ℕ) → bytes_eq site x ≡ false → (site_blocks x bs' ≡ site_blocks x bs) × (site_bytes x bs' ≡ site_bytes x bs)) where
  rest-same : (es : Rows) → AllByRecursion (IsRow bs) es → AllByRecursion (λ k. bytes_eq site k ≡ false) (keys_of es) → AllByRecursion (IsRow bs') es
  rest-same [] all other = tt
  rest-same (e ∷ es) all other = (row-same bs bs' e (same e.0 other.0) all.0, rest-same es all.1 other.1)

  -- those behind the row of the site
  behind : (e : List ℕ × Row) (es : Rows) → IsDistinct bytes_eq (keys_of (e ∷ es)) → bytes_eq site e.0 ≡ true → AllByRecursion (IsRow bs) es → AllByRecursion (IsRow bs') es
  behind e es distinct t all =
      rest-same es all (subst (λ x. AllByRecursion (λ k. bytes_eq x k ≡ false) (keys_of es)) (sym (same_bytes site e.0 t)) (IsDistinct-head bytes_eq e.0 (keys_of es) distinct))

  pub rows-put : (es : Rows) → IsDistinct bytes_eq (keys_of es) → AllByRecursion (IsRow bs) es → AllByRecursion (IsRow bs') (insert_entry bytes_eq es site w)
  rows-put [] distinct all = (own, tt)
  rows-put (e ∷ es) distinct all =
      ⊎_elim
      (λ t. rw t (subst (λ x. IsRow bs' (x, w)) (same_bytes site e.0 t) own, behind e es distinct t all.1))
      (λ t. rw t (row-same bs bs' e (same e.0 t) all.0, rows-put es (IsDistinct-tail bytes_eq e.0 (keys_of es) distinct) all.1))
      (cases_Bool (bytes_eq site e.0))

  now : w.bytes ≡ site_bytes site bs'
  now = own.bytes_are

  pub peaks-put : (es : Rows) → IsDistinct bytes_eq (keys_of es) → AllByRecursion (IsRow bs) es → w.peak ≡ max (row_for site es).peak w.bytes → peaks_of (insert_entry bytes_eq es site w) ≡ rows_with_peaks bs' (with_site site (peaks_of es))
  peaks-put [] distinct all is = ap (λ n. (site, n) ∷ []) (is ∙ ap (λ n. max 0 n) now)
  peaks-put (e ∷ es) distinct all is =
      ⊎_elim
      (λ t.
      let peak : w.peak ≡ max e.1.peak (site_bytes e.0 bs') =
      is ∙ (ap (λ v. max (unwrap_or (cond v (Some e.1) (lookup (bytes_eq site) es)) new_row).peak w.bytes) t
      ∙ ap (λ n. max e.1.peak n) (now ∙ ap (λ x. site_bytes x bs') (same_bytes site e.0 t))) in
      rw t (ap (λ n. (e.0, n) ∷ peaks_of es) peak ∙ ap (λ ps. (e.0, max e.1.peak (site_bytes e.0 bs')) ∷ ps) (sym (peaks-stay bs' es (behind e es distinct t all.1)))))
      (λ t.
      let row = row-same bs bs' e (same e.0 t) all.0 in
      let deeper : w.peak ≡ max (row_for site es).peak w.bytes = is ∙ ap (λ v. max (unwrap_or (cond v (Some e.1) (lookup (bytes_eq site) es)) new_row).peak w.bytes) t in
      rw t (ap (λ ps. (e.0, e.1.peak) ∷ ps) (peaks-put es (IsDistinct-tail bytes_eq e.0 (keys_of es) distinct) all.1 deeper)
      ∙ ap (λ n. (e.0, n) ∷ rows_with_peaks bs' (with_site site (peaks_of es))) (sym (kept-peak e.1.bytes (site_bytes e.0 bs') e.1.peak row.bytes_are row.peak))))
      (cases_Bool (bytes_eq site e.0))
