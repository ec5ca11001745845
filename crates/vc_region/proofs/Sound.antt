-- Every region has blocks at places of their own, in segments with numbers of their own.
use Rattle.vc_base.proofs.Common.{HaveOwnNumbers, HaveOwnPlaces}
use Rattle.vc_pool.proofs.Sound as pool
use Rattle.vc_best.specs.Parts.{layout_of}
use Rattle.vc_last.specs.Parts.{layout_of as last_of}
use Rattle.vc_audit.proofs.Sound.{own-best, own-numbers}
use Rattle.vc_audit.proofs.DebugSound as debug
use Rattle.vc_audit.proofs.ProfileSound as profile
use Rattle.vc_region.specs.declared.region.Region.{Region}
use Rattle.vc_region.specs.declared.region.Region.TheVariants.{Best, Pool, Last, Debug, Profile}
use Rattle.vc_region.specs.Parts.{blocks_in, segments_in}

pub own_places : {I : Type 0} {V : I → Type 0} (r : Region I V) → HaveOwnPlaces (blocks_in r)
own_places (Best b) = own-best (layout_of b) b.sound
own_places (Pool p) = pool.own_places p
own_places (Last l) = own-best (last_of l) l.sound
own_places (Debug d) = debug.own_places d
own_places (Profile p) = profile.own_places p

pub own_numbers : {I : Type 0} {V : I → Type 0} (r : Region I V) → HaveOwnNumbers (segments_in r)
own_numbers (Best b) = own-numbers (layout_of b) b.sound
own_numbers (Pool p) = pool.own_numbers p
own_numbers (Last l) = own-numbers (last_of l) l.sound
own_numbers (Debug d) = debug.own_numbers d
own_numbers (Profile p) = profile.own_numbers p
