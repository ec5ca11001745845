-- What clearing, compacting and writing keep of a region, by its method.
use Rattle.vc_base.proofs.Common.{◌≡◌, ℕ, List, [], refl}
use Rattle.vc_region.specs.Region.{OfBest, Region, blocks_of, region_clear, region_compact, region_write, segments_of}

pub cleared-blocks : {L : Type 0} (r : Region L) → blocks_of (region_clear r) ≡ []
cleared-blocks (OfBest layout) = refl
cleared-blocks r = refl

pub cleared-segments : {L : Type 0} (r : Region L) → segments_of (region_clear r) ≡ segments_of r
cleared-segments (OfBest layout) = refl
cleared-segments r = refl

pub compacted-blocks : {L : Type 0} (r : Region L) → blocks_of (region_compact r) ≡ blocks_of r
compacted-blocks (OfBest layout) = refl
compacted-blocks r = refl

pub written-segments : {L : Type 0} (r : Region L) (at : ℕ × ℕ) (off : ℕ) (src : List ℕ) → segments_of (region_write r at off src) ≡ segments_of r
written-segments (OfBest layout) at off src = refl
written-segments r at off src = refl
