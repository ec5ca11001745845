-- What a best region asks of an image's segments.
use Rattle.vc_base.proofs.Common.{◌≡◌, ℕ, ◌<◌, ◌≤◌, true, false, List, All, length, filter, sym, ◌∙◌, subst, All-map, All-weaker, length-map, Block}
use Rattle.vc_seg.specs.Field.{field_at}
use Rattle.vc_seg.specs.Segment.{Bytes}
use Rattle.vc_seg.proofs.InOrder.{All-in_order}
use Rattle.vc_extent.specs.Extent.{Extent, extents}
use Rattle.vc_extent.specs.Tiling.{AreExtents, tiling}
use Rattle.vc_best.specs.Blocks.{all_busy, busy_in, is_busy}
unfoldable use Rattle.vc_best.specs.Blocks.{layout_by}
use Rattle.vc_best.specs.Counts.{all_extents, busy_sizes}
use Rattle.vc_best.specs.Free.{IsMerged, is_merged}
use Rattle.vc_best.specs.Standing.{AreWhole}
use Rattle.vc_best.proofs.Counting.{blocks-count}
use Rattle.vc_best.proofs.Gaps.{All-flat_map}
use Rattle.vc_best.proofs.Tilings.{All-busy_in}
use Rattle.vc_seg.proofs.Tallies.{tally_of-count}
unfoldable use Rattle.vc_image_check.specs.Bytes.Contents.{contents_of_image}
use Rattle.vc_image_check.specs.Segments.Sound.{AreSoundSegments, IsSoundSegment}
use Rattle.vc_image_check.specs.Parts.Front.{IsSoundFront}
use Rattle.vc_image.specs.Lends.Regions.{busy_count}
use Rattle.vc_image_check.specs.Laws.Lying.{root-is}

all-merged : (segs : List Bytes) → AreSoundSegments segs → IsMerged (tiling segs)
all-merged segs h =
    All-map (λ (t : ℕ × List Extent). is_merged false t.1 ≡ true) (λ (s : Bytes). (s.number, extents s.bytes)) segs
    (All-weaker (λ (s : Bytes). IsSoundSegment s.bytes) (λ s. is_merged false (extents s.bytes) ≡ true) (λ s g. g.merged) segs h)

all-most : (segs : List Bytes) → AreSoundSegments segs → All (λ b. b.size ≤ 16777264) (layout_by segs).blocks
unfolding layout_by
all-most segs h =
    let P : Block ℕ → Type 0 = λ b. b.size ≤ 16777264 in
    All-in_order P (all_busy (tiling segs))
    (All-flat_map P busy_in (tiling segs)
    (All-map (λ (t : ℕ × List Extent). All P (busy_in t)) (λ (s : Bytes). (s.number, extents s.bytes)) segs
    (All-weaker (λ (s : Bytes). IsSoundSegment s.bytes) (λ s. All P (busy_in (s.number, extents s.bytes)))
    (λ s g. All-busy_in P s.number (extents s.bytes) (All-weaker (λ (e : Extent). e.size ≤ 16777264) (λ e. 0 < e.size → e.size ≤ 16777264) (λ e most some. most) (extents s.bytes) g.sizes))
    segs h)))

pub whole-front : (b : List ℕ) (segs : List Bytes) (root : ℕ) → IsSoundFront b → segs ≡ (contents_of_image b).segs → root ≡ field_at 12 b → AreWhole segs root
whole-front b segs root h s r =
    subst (λ xs. AreWhole xs root) (sym s)
    (subst (AreWhole (contents_of_image b).segs) (root-is b ∙ sym r)
    (record {
      kept = record { merged = all-merged (contents_of_image b).segs h.segments; gaps = h.tree };
      sizes = all-most (contents_of_image b).segs h.segments;
    }))

-- the blocks of a region are the extents that have one
pub blocks-busy : (segs : List Bytes) (index : List ℕ) → ∥ AreExtents segs index ∥₁ → busy_count (all_extents (tiling segs)) ≡ length (layout_by segs).blocks
blocks-busy segs index k =
    sym (length-map (filter is_busy (all_extents (tiling segs))) (λ (e : Extent). e.size))
    ∙ sym (tally_of-count (busy_sizes (all_extents (tiling segs))))
    ∙ blocks-count segs index k
