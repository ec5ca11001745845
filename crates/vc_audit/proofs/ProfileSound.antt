-- A profile region has blocks at places of their own, in segments with numbers of their own.
use Rattle.vc_base.proofs.Common.{◌≤◌, length, HaveOwnNumbers, HaveOwnPlaces}
use Rattle.vc_best.specs.Parts.{layout_of}
use Rattle.vc_best.specs.declared.best.Best.{Best}
use Rattle.vc_best.proofs.Counting.{blocks-few}
use Rattle.vc_audit.specs.declared.profile.Profile.{Profile}
use Rattle.vc_audit.specs.ProfileParts.{blocks_in, segments_in, sites_in}
use Rattle.vc_audit.proofs.Sound.{own-best, own-numbers}
use Rattle.vc_audit.proofs.ProfileBare.{from-best}

pub best_places : {I : Type 0} {V : I → Type 0} (b : Best I V) → HaveOwnPlaces (layout_of b).blocks
best_places b = own-best (layout_of b) b.sound

-- a best region has few blocks, since each takes 32 bytes at least
pub best-few : {I : Type 0} {V : I → Type 0} (b : Best I V) → length (layout_of b).blocks ≤ 1072693248
best-few b = blocks-few b.extents.segs.items b.extents.index.items b.extents.kept

pub own_places : {I : Type 0} {V : I → Type 0} (p : Profile I V) → HaveOwnPlaces (blocks_in p)
own_places p = from-best HaveOwnPlaces (sites_in p) (layout_of p.best).blocks (best_places p.best)

pub own_numbers : {I : Type 0} {V : I → Type 0} (p : Profile I V) → HaveOwnNumbers (segments_in p)
own_numbers p = own-numbers (layout_of p.best) p.best.sound
