-- The image of a best region has a sound front.
use Rattle.vc_base.proofs.Common.{◌≡◌, ℕ, ◌≤◌, ◌<◌, ◌^◌, true, false, List, [], map, length, All, IsSome, sym, ap, ◌∙◌, subst, arith, le_prop, ℕ_set, ∥∥₁_elim, length-map}
use Rattle.vc_base.proofs.Quantifiers.{All-unmap}
use Rattle.vc_splay.specs.Tree.{Tree, Leaf, Node}
use Rattle.vc_splay.specs.Stands.{IsTree}
use Rattle.vc_seg.specs.Segment.{AreSegments, Bytes}
use Rattle.vc_extent.specs.Extent.{extents}
use Rattle.vc_extent.specs.Tiles.{IsTiled}
use Rattle.vc_extent.specs.Tiling.{AreExtents, tiling}
use Rattle.vc_extent.proofs.Propositions.{tiled-prop}
use Rattle.vc_gaps.specs.GapLaws.{gap_fits}
use Rattle.vc_gaps.specs.GapStore.{gap_store}
use Rattle.vc_gaps.specs.GapTree.{HasGaps}
use Rattle.vc_model.specs.Sound.{HasWholeBlocks}
use Rattle.vc_best.specs.Blocks.{layout_by}
use Rattle.vc_best.specs.Free.{IsMerged, is_merged}
use Rattle.vc_best.specs.declared.best.Best.{Best}
use Rattle.vc_best.proofs.Held.{merged-of, most-of, tree-of}
use Rattle.vc_region.specs.OfBest.{best_in}
use Rattle.vc_region.specs.declared.region.Region.{Region}
use Rattle.vc_region.specs.declared.region.Region.TheVariants.{Best as OfBest, Pool, Last, Debug, Profile}
use Rattle.vc_dict.specs.declared.dict.Dict.{Dict}
use Rattle.vc_image_check.specs.Bytes.Contents.{contents_of_image}
use Rattle.vc_image_check.specs.Bytes.Header.{AreContents, IsHeader}
use Rattle.vc_image_check.specs.Bytes.Image.{DictRow, ImageContents, image_of}
use Rattle.vc_image_check.proofs.Writing.{header-of, read-again}
use Rattle.vc_image_check.specs.Segments.Sound.{AreSoundSegments}
use Rattle.vc_image_check.specs.Parts.Front.{IsSoundFront}
use Rattle.vc_image.specs.Save.{dict_row, image_in}
use Rattle.vc_image.proofs.Rows.{all-fit, low, low_contents, low-image}
use Rattle.vc_image.proofs.Sizes.{each-most}

-- what a best region keeps of its segments and of the root of its tree
pub record AreOfBest (segs : List Bytes) (index : List ℕ) (root : ℕ) : Type 0 where
  pub kept : ∥ AreExtents segs index ∥₁
  pub whole : ∥ HasWholeBlocks (layout_by segs) ∥₁
  pub merged : ∥ IsMerged (tiling segs) ∥₁
  pub gaps : ∥ HasGaps (tiling segs) root [] ∥₁

segments-prop : (segs : List Bytes) → IsProp (AreSegments segs)
segments-prop segs = hlevel (le_prop, ℕ_set)

all-tiled-prop : (segs : List Bytes) → IsProp (All (λ s. IsTiled s.bytes) segs)
all-tiled-prop segs = hlevel (tiled-prop)

module _ (segs : List Bytes) (index : List ℕ) (root : ℕ) (h : AreOfBest segs index root) where
  pub are-segments : AreSegments segs
  are-segments = ∥∥₁_elim h.kept (segments-prop segs) (λ k. k.segments)

  pub are-tiled : All (λ s. IsTiled s.bytes) segs
  are-tiled = ∥∥₁_elim h.kept (all-tiled-prop segs) (λ k. k.tiled)

  are-merged : All (λ s. is_merged false (extents s.bytes) ≡ true) segs
  are-merged = All-unmap (λ s. is_merged false s.1 ≡ true) (λ (s : Bytes). (s.number, extents s.bytes)) segs (merged-of (tiling segs) h.merged)

  sound-segments : AreSoundSegments segs
  sound-segments = λ k d lt. record {
    tiled = are-tiled k d lt;
    merged = are-merged k d lt;
    sizes = each-most segs (most-of (layout_by segs) h.whole) k d lt;
  }

  the-tree : HasGaps (tiling segs) root []
  the-tree = tree-of segs index root h.kept h.gaps

  root-by : (t : Tree) → IsTree (gap_store (tiling segs)) root t → root < 2 ^ 32
  root-by Leaf t = let top = t.top in omega (arith, top)
  root-by (Node l n r) t =
      let top = t.top in
      let small = gap_fits segs index h.kept n t.stands.0.held in
      omega (arith, top, small)

  pub root-fits : root < 2 ^ 32
  root-fits = let g = the-tree in root-by g.tree.tree g.tree.is_tree

  -- an image of these has a sound front, whatever its rows are
  module _ (rows : List DictRow) (few : length rows ≤ 256) where
    abbrev of : ImageContents
    of = record { root = root; segs = segs; rows = rows }

    are-contents : AreContents (low_contents of)
    are-contents =
        let long = length-map rows low in
        record { segments = are-segments; root = root-fits; few = omega (arith, long, few); rows = all-fit rows }

    pub read-low : contents_of_image (image_of of) ≡ low_contents of
    read-low = ap contents_of_image (sym (low-image of)) ∙ read-again (low_contents of) are-contents

    pub front-of : IsSoundFront (image_of of)
    front-of = record {
      head = subst IsHeader (low-image of) (header-of (low_contents of) are-contents);
      segments = subst (λ (c : ImageContents). AreSoundSegments c.segs) (sym read-low) sound-segments;
      tree = subst (λ (c : ImageContents). HasGaps (tiling c.segs) c.root []) (sym read-low) the-tree;
    }

pub of-best : {I : Type 0} {V : I → Type 0} (b : Best I V) → AreOfBest b.extents.segs.items b.extents.index.items b.root.0
of-best b = record { kept = b.extents.kept; whole = b.whole; merged = b.merged; gaps = b.gaps }

pub front-in : {I : Type 0} {V : I → Type 0} (region : Region I V) (dicts : List Dict) → IsSome (best_in region) → length dicts ≤ 256 → IsSoundFront (image_in region dicts)
front-in (OfBest b) dicts h few =
    let long = length-map dicts dict_row in
    front-of b.extents.segs.items b.extents.index.items b.root.0 (of-best b) (map dict_row dicts) (omega (arith, long, few))
front-in (Pool p) dicts h few = absurd (cc)
front-in (Last l) dicts h few = absurd (cc)
front-in (Debug d) dicts h few = absurd (cc)
front-in (Profile p) dicts h few = absurd (cc)
