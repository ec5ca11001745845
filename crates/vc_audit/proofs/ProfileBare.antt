-- The layout without its sites is that of the best region, and its sites are those that are kept.
use Rattle.vc_base.proofs.Common.{◌≡◌, ℕ, true, false, cond, List, [], ◌∷◌, map, Some, Option, option_map, unwrap_or, sym, refl, ap, ◌∙◌, subst, AllByRecursion, Block, Layout, address_of, is_at, relabel_block, relabel_layout, without_block, find_block}
use Rattle.vc_audit.specs.ProfileSums.{Sites, site_at, with_its_site, with_sites}

-- the label without the site
abbrev pub bare : ℕ × List ℕ → ℕ
bare l = l.0

abbrev pub layout : {L : Type 0} → List (ℕ × ℕ) → List (Block L) → Layout L
layout segments blocks = record { segments = segments; blocks = blocks }

pub bare-blocks : (t : Sites) (bs : List (Block ℕ)) → map (relabel_block bare) (map (with_its_site t) bs) ≡ bs
bare-blocks t [] = refl
bare-blocks t (b ∷ bs) = ap (λ cs. b ∷ cs) (bare-blocks t bs)

pub bare-layout : (t : Sites) (r : Layout ℕ) → relabel_layout bare (with_sites t r) ≡ r
bare-layout t r = ap (layout r.segments) (bare-blocks t r.blocks)

-- a block whose label tells the site that is kept for it
abbrev pub IsKept : Sites → Block (ℕ × List ℕ) → Type 0
IsKept t q = site_at (address_of q) t ≡ Some q.label.1

-- such blocks are those that the kept sites give
pub kept-blocks : (t : Sites) (qs : List (Block (ℕ × List ℕ))) → AllByRecursion (IsKept t) qs → map (with_its_site t) (map (relabel_block bare) qs) ≡ qs
kept-blocks t [] all = refl
kept-blocks t (q ∷ qs) all =
    let with : Option (List ℕ) → Block (ℕ × List ℕ) = λ o. record { label = (q.label.0, unwrap_or o []); seg = q.seg; off = q.off; size = q.size; bytes = q.bytes } in
    ap (λ o. with o ∷ map (with_its_site t) (map (relabel_block bare) qs)) all.0
    ∙ ap (λ ds. q ∷ ds) (kept-blocks t qs all.1)

pub kept-layout : (t : Sites) (q : Layout (ℕ × List ℕ)) → AllByRecursion (IsKept t) q.blocks → with_sites t (relabel_layout bare q) ≡ q
kept-layout t q all = ap (layout q.segments) (kept-blocks t q.blocks all)

-- the kept sites are looked up block by block
pub sited-without : (t : Sites) (at : ℕ × ℕ) (bs : List (Block ℕ)) → map (with_its_site t) (without_block at bs) ≡ without_block at (map (with_its_site t) bs)
sited-without t at [] = refl
sited-without t at (b ∷ bs) =
    elim (is_at at b) as (λ v. map (with_its_site t) (cond v bs (b ∷ without_block at bs)) ≡ cond v (map (with_its_site t) bs) (with_its_site t b ∷ without_block at (map (with_its_site t) bs)))
    [ true ↦ refl | false ↦ ap (λ cs. with_its_site t b ∷ cs) (sited-without t at bs) ]

pub sited-find : (t : Sites) (at : ℕ × ℕ) (bs : List (Block ℕ)) → find_block at (map (with_its_site t) bs) ≡ option_map (with_its_site t) (find_block at bs)
sited-find t at [] = refl
sited-find t at (b ∷ bs) =
    elim (is_at at b) as (λ v. cond v (Some (with_its_site t b)) (find_block at (map (with_its_site t) bs)) ≡ option_map (with_its_site t) (cond v (Some b) (find_block at bs)))
    [ true ↦ refl | false ↦ sited-find t at bs ]

-- sites that are kept alike
pub sited-alike : (t t' : Sites) (bs : List (Block ℕ)) → AllByRecursion (λ b. site_at (address_of b) t' ≡ site_at (address_of b) t) bs → map (with_its_site t') bs ≡ map (with_its_site t) bs
sited-alike t t' [] all = refl
sited-alike t t' (b ∷ bs) all =
    let with : Option (List ℕ) → Block (ℕ × List ℕ) = λ o. record { label = (b.label, unwrap_or o []); seg = b.seg; off = b.off; size = b.size; bytes = b.bytes } in
    ap (λ o. with o ∷ map (with_its_site t') bs) all.0
    ∙ ap (λ ds. with_its_site t b ∷ ds) (sited-alike t t' bs all.1)

-- what holds of the blocks of the best region holds of those of the profile, and back
pub to-best : (P : List (Block ℕ) → Type 0) (t : Sites) (bs : List (Block ℕ)) → P (map (relabel_block bare) (map (with_its_site t) bs)) → P bs
to-best P t bs h = subst P (bare-blocks t bs) h

pub from-best : (P : List (Block ℕ) → Type 0) (t : Sites) (bs : List (Block ℕ)) → P bs → P (map (relabel_block bare) (map (with_its_site t) bs))
from-best P t bs h = subst P (sym (bare-blocks t bs)) h

pub from-both : (P : List (Block ℕ) → List (Block ℕ) → Type 0) (t t' : Sites) (bs bs' : List (Block ℕ)) → P bs bs' → P (map (relabel_block bare) (map (with_its_site t) bs)) (map (relabel_block bare) (map (with_its_site t') bs'))
from-both P t t' bs bs' h = from-best (λ xs. P xs (map (relabel_block bare) (map (with_its_site t') bs'))) t bs (from-best (P bs) t' bs' h)
