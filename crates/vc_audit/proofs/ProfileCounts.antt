-- The sums of a site over blocks of which one is put, changed or taken out.
use Rattle.vc_base.proofs.Common.{◌≡◌, ℕ, suc, ◌+◌, ◌*◌, ◌≤◌, true, false, cond, List, [], ◌∷◌, map, length, Some, sum, filter, sym, refl, ap, ◌∙◌, ⊎_elim, arith, cases_Bool, sum_by-cons, none-some, AllByRecursion, Block, is_at, lies_before, with_block, without_block, change_block, find_block}
use Rattle.vc_audit.specs.Profile.{has_site, site_blocks, site_bytes, site_sizes}
use Rattle.vc_audit.proofs.ProfileLists.{first_at, later_at, without-here, without-later}

module _ {L : Type 0} where
  -- the sum of what blocks weigh
  abbrev pub total : (Block L → ℕ) → List (Block L) → ℕ
  total w [] = 0
  total w (b ∷ bs) = w b + total w bs

  pub total-with : (w : Block L → ℕ) (b : Block L) (bs : List (Block L)) → total w (with_block b bs) ≡ w b + total w bs
  total-with w b [] = refl
  total-with w b (c ∷ cs) =
      elim (lies_before b c) as (λ v. total w (cond v (b ∷ c ∷ cs) (c ∷ with_block b cs)) ≡ w b + (w c + total w cs))
      [ true ↦ refl | false ↦ omega (arith, total-with w b cs) ]

  pub total-change : (w : Block L → ℕ) (f : Block L → Block L) → ((b : Block L) → w (f b) ≡ w b) → (at : ℕ × ℕ) (bs : List (Block L)) → total w (change_block f at bs) ≡ total w bs
  total-change w f same at [] = refl
  total-change w f same at (c ∷ cs) =
      elim (is_at at c) as (λ v. total w (cond v (f c ∷ cs) (c ∷ change_block f at cs)) ≡ w c + total w cs)
      [ true ↦ ap (λ n. n + total w cs) (same c) | false ↦ ap (λ n. w c + n) (total-change w f same at cs) ]

  pub total-without : (w : Block L → ℕ) (at : ℕ × ℕ) (b : Block L) (bs : List (Block L)) → find_block at bs ≡ Some b → total w bs ≡ w b + total w (without_block at bs)
  total-without w at b [] e = absurd (none-some b e)
  total-without w at b (c ∷ cs) e =
      ⊎_elim
      (λ t. ap (λ d. w d + total w cs) (first_at at b c cs e t) ∙ sym (ap (λ ds. w b + total w ds) (without-here at b c cs t)))
      (λ t.
      let rest = total-without w at b cs (later_at at b c cs e t) in
      let left : total w (without_block at (c ∷ cs)) ≡ w c + total w (without_block at cs) = ap (total w) (without-later at b c cs t) in
      omega (arith, rest, left))
      (cases_Bool (is_at at c))

module _ {L : Type 0} (site : List ℕ) where
  -- what a block adds to the sums of the site
  abbrev pub one : Block (L × List ℕ) → ℕ
  one b = cond (has_site site b) 1 0

  abbrev pub size_at : Block (L × List ℕ) → ℕ
  size_at b = cond (has_site site b) b.size 0

  pub blocks-total : (bs : List (Block (L × List ℕ))) → site_blocks site bs ≡ total one bs
  blocks-total [] = refl
  blocks-total (b ∷ bs) =
      elim (has_site site b) as (λ v. length (map (λ (c : Block (L × List ℕ)). c.size) (cond v (b ∷ filter (has_site site) bs) (filter (has_site site) bs))) ≡ cond v 1 0 + total one bs)
      [ true ↦ omega (arith, blocks-total bs) | false ↦ omega (arith, blocks-total bs) ]

  pub bytes-total : (bs : List (Block (L × List ℕ))) → site_bytes site bs ≡ total size_at bs
  bytes-total [] = refl
  bytes-total (b ∷ bs) =
      elim (has_site site b) as (λ v. sum (map (λ (c : Block (L × List ℕ)). c.size) (cond v (b ∷ filter (has_site site) bs) (filter (has_site site) bs))) ≡ cond v b.size 0 + total size_at bs)
      [ true ↦ sum_by-cons (λ n. n) b.size (site_sizes site bs) ∙ ap (λ n. b.size + n) (bytes-total bs) | false ↦ omega (arith, bytes-total bs) ]

  few-bytes : (bs : List (Block (L × List ℕ))) → AllByRecursion (λ b. b.size ≤ 16777216) bs → total size_at bs ≤ 16777216 * total one bs
  few-bytes [] all = omega arith
  few-bytes (b ∷ bs) all =
      let rest = few-bytes bs all.1 in
      elim (has_site site b) as (λ v. cond v b.size 0 + total size_at bs ≤ 16777216 * (cond v 1 0 + total one bs))
      [ true ↦ omega (arith, rest, all.0) | false ↦ omega (arith, rest) ]

  few-of : (bs : List (Block (L × List ℕ))) → total one bs ≤ length bs
  few-of [] = omega arith
  few-of (b ∷ bs) =
      let rest = few-of bs in
      elim (has_site site b) as (λ v. cond v 1 0 + total one bs ≤ suc (length bs))
      [ true ↦ omega (arith, rest) | false ↦ omega (arith, rest) ]

  -- a site has no more blocks than there are
  pub blocks-few : (bs : List (Block (L × List ℕ))) → site_blocks site bs ≤ length bs
  blocks-few bs = omega (arith, few-of bs, blocks-total bs)

  -- the bytes of a site's blocks, each of which has no more than 16,777,216
  pub bytes-few : (bs : List (Block (L × List ℕ))) → AllByRecursion (λ b. b.size ≤ 16777216) bs → site_bytes site bs ≤ 16777216 * site_blocks site bs
  bytes-few bs all = omega (arith, few-bytes bs all, blocks-total bs, bytes-total bs)
