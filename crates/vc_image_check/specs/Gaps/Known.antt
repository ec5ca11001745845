-- Marks of an image's extents, and where free extents lie.
use Rattle.std.specs.Prelude.{◌≡◌, ℕ, ◌*◌, ◌/◌, ◌%◌, ◌<◌, ◌≤◌, ◌^◌, List, All, true, false}
use Rattle.std.proofs.Math.Bridge.{le_prop}
use Rattle.std.proofs.Math.Logic.{∥∥₁_elim}
use Rattle.std.proofs.Common.{arith, ⊎_elim, sym, subst}
use Rattle.std.proofs.lemmas.Bool.{cases_Bool}
use Rattle.vc_base.specs.Holders.{contains}
use Rattle.vc_seg.specs.Segment.{AreSegments, Bytes}
use Rattle.vc_extent.specs.Tiles.{IsTiled}
use Rattle.vc_extent.specs.Tiling.{IsThere, tiling}
use Rattle.vc_extent.proofs.Places.{named-there, there-first, there-last}
use Rattle.vc_gaps.specs.ButLinks.{Tiling}
use Rattle.vc_gaps.specs.GapLaws.{is_free-named}
use Rattle.vc_gaps.specs.GapStore.{is_free}
use Rattle.vc_image_check.specs.Bytes.Contents.{contents_of_image}
use Rattle.vc_image_check.specs.Bytes.Header.{IsHeader}
use Rattle.vc_image_check.specs.Laws.Segs.{are-segments, segs-are}
use Rattle.vc_image_check.specs.Marks.Mark.{IsMarked, lists}
use Rattle.vc_image_check.specs.declared.marks.marks.Marks.{Marks}

-- an image has a head, extents tile its segments, and these are their marks and places
pub record IsKnown (image : List ℕ) (rows : List (List ℕ)) (places : List ℕ) : Type 0 where
  pub head : IsHeader image
  pub tiled : All (λ s. IsTiled s.bytes) (contents_of_image image).segs
  pub marked : IsMarked image rows places

abbrev pub AreExtentMarks : List ℕ → Marks → Type 0
AreExtentMarks image marks = IsKnown image (lists marks.rows.items) marks.places.items

-- each of these names a free extent
abbrev pub AreFree : Tiling → List ℕ → Type 0
AreFree t names = (a : ℕ) → contains names a ≡ true → is_free t a ≡ true

pub known-segments : (image : List ℕ) → IsHeader image → AreSegments (contents_of_image image).segs
known-segments image h = subst AreSegments (sym (segs-are image)) (are-segments image h)

-- no free extent has the address 0, and each is below 2^30
module _ (image : List ℕ) (rows : List (List ℕ)) (places : List ℕ) (known : ∥ IsKnown image rows places ∥₁) where
  abbrev segs : List Bytes
  segs = (contents_of_image image).segs

  there : (a : ℕ) → is_free (tiling segs) a ≡ true → IsThere (a / 1048576) segs
  there a h = named-there (a / 1048576) (a % 1048576 * 32) segs (is_free-named (tiling segs) a h)

  last : (a : ℕ) → is_free (tiling segs) a ≡ true → a / 1048576 ≤ 1023
  last a h = ∥∥₁_elim known le_prop (λ k. there-last (a / 1048576) segs (known-segments image k.head).legal (there a h))

  first : (a : ℕ) → is_free (tiling segs) a ≡ true → 1 ≤ a / 1048576
  first a h = ∥∥₁_elim known le_prop (λ k. there-first (a / 1048576) segs (known-segments image k.head).legal (there a h))

  pub known_fits : (a : ℕ) → is_free (tiling segs) a ≡ true → a < 2 ^ 32
  known_fits a h = let l = last a h in omega arith

  pub known_none : is_free (tiling segs) 0 ≡ false
  known_none =
      ⊎_elim
      (λ (t : is_free (tiling segs) 0 ≡ true). let f = first 0 t in absurd (omega arith))
      (λ (t : is_free (tiling segs) 0 ≡ false). t)
      (cases_Bool (is_free (tiling segs) 0))
