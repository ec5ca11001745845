-- Calls that leave every site's sums: bytes are written, and segments go.
use Rattle.vc_base.proofs.Common.{◌≡◌, ℕ, List, [], map, sym, refl, ap, ◌∙◌, subst, AllByRecursion, compacted_layout, Block, Layout, address_of, change_block, rewritten_block, with_bytes_at}
use Rattle.vc_model.proofs.Relabel.{change_block-relabel, compacted-relabel}
use Rattle.vc_base.proofs.Quantifiers.{all-weaken, all-map}
use Rattle.vc_audit.specs.Profile.{Profile, profile_compact, profile_write, site_blocks, site_bytes}
use Rattle.vc_audit.specs.ProfileSums.{IsCounted, IsHeld, IsRow, Rows, Sites, peaks_of, site_at, with_its_site, with_sites}
use Rattle.vc_audit.proofs.ProfileSites.{some-of}
use Rattle.vc_audit.proofs.ProfileBare.{IsKept, bare, bare-layout, kept-layout, layout}
use Rattle.vc_audit.proofs.ProfileCounts.{blocks-total, bytes-total, one, size_at, total-change}
use Rattle.vc_audit.proofs.ProfileFree.{profile}
use Rattle.vc_audit.proofs.ProfileLists.{all-change}
use Rattle.vc_audit.proofs.ProfileRows.{peaks-stay, rows-same}

module _ (r : Layout ℕ) (t : Sites) (es : Rows) (counted : IsCounted r t es) where
  abbrev S : List (Block (ℕ × List ℕ))
  S = map (with_its_site t) r.blocks

  kept : AllByRecursion (IsKept t) S
  kept = all-map (IsKept t) (with_its_site t) r.blocks (all-weaken (IsHeld t es) (λ b. IsKept t (with_its_site t b)) r.blocks (λ b h. some-of (site_at (address_of b) t) [] h.kept) counted.held)

  abbrev with : Layout (ℕ × List ℕ) → List (List ℕ × ℕ) → Profile ℕ
  with l ps = record { layout = l; peaks = ps }

  -- bytes are written into a block
  module _ (at : ℕ × ℕ) (off : ℕ) (src : List ℕ) where
    abbrev change : {L : Type 0} → Block L → Block L
    change b = rewritten_block off src b

    write-is : with_sites t (with_bytes_at r at off src) ≡ with_bytes_at (with_sites t r) at off src
    write-is =
        ap (λ l. with_sites t (with_bytes_at l at off src)) (sym (bare-layout t r))
        ∙ (ap (λ bs. with_sites t (layout r.segments bs)) (sym (change_block-relabel bare (rewritten_block off src) (rewritten_block off src) (λ b. refl) at S))
        ∙ kept-layout t (with_bytes_at (with_sites t r) at off src) (all-change (IsKept t) (rewritten_block off src) (λ b h. h) at S kept))

    same : (x : List ℕ) → (site_blocks x (change_block (rewritten_block off src) at S) ≡ site_blocks x S) × (site_bytes x (change_block (rewritten_block off src) at S) ≡ site_bytes x S)
    same x = (
      blocks-total x (change_block (rewritten_block off src) at S) ∙ (total-change (one x) (rewritten_block off src) (λ b. refl) at S ∙ sym (blocks-total x S)),
      bytes-total x (change_block (rewritten_block off src) at S) ∙ (total-change (size_at x) (rewritten_block off src) (λ b. refl) at S ∙ sym (bytes-total x S)),
    )

    rows-are : AllByRecursion (IsRow (change_block (rewritten_block off src) at S)) es
    rows-are = rows-same S (change_block (rewritten_block off src) at S) es same counted.counted

    pub counted-written : IsCounted (with_bytes_at r at off src) t es
    counted-written = record {
      held = all-change (IsHeld t es) (rewritten_block off src) (λ b h. record { kept = h.kept; row = h.row; most = h.most }) at r.blocks counted.held;
      counted = subst (λ (l : Layout (ℕ × List ℕ)). AllByRecursion (IsRow l.blocks) es) (sym write-is) rows-are;
      distinct = counted.distinct;
    }

    pub profile-written : profile t (with_bytes_at r at off src) es ≡ profile_write (profile t r es) at off src
    profile-written =
        ap (λ l. with l (peaks_of es)) write-is
        ∙ ap (with (with_bytes_at (with_sites t r) at off src)) (sym (peaks-stay (change_block (rewritten_block off src) at S) es rows-are))

  -- segments without a block go
  compact-is : with_sites t (compacted_layout r) ≡ compacted_layout (with_sites t r)
  compact-is =
      ap (λ l. with_sites t (compacted_layout l)) (sym (bare-layout t r))
      ∙ (ap (with_sites t) (compacted-relabel bare (with_sites t r)) ∙ kept-layout t (compacted_layout (with_sites t r)) kept)

  pub counted-compacted : IsCounted (compacted_layout r) t es
  counted-compacted = record { held = counted.held; counted = counted.counted; distinct = counted.distinct }

  pub profile-compacted : profile t (compacted_layout r) es ≡ profile_compact (profile t r es)
  profile-compacted =
      ap (λ l. with l (peaks_of es)) compact-is
      ∙ ap (with (compacted_layout (with_sites t r))) (sym (peaks-stay S es counted.counted))
