-- What each call of a region lends, by its method.
use Rattle.vc_base.proofs.Common.{◌≡◌, ℕ, min, Bool, List, [], ℤ, Some, None, Option, refl, best_alloc, without_block_at, is_occupied, Terms, if_latest, last_alloc, last_resize, latest, Block, Layout, is_at, Done, NotLast, Outcome, Refused, done_as, pool_alloc, pool_resize, best_resize}
use Rattle.vc_audit.specs.Debug.{guarded_place, guarded_size, user_size}
use Rattle.vc_audit.specs.Profile.{with_site}
use Rattle.vc_region.specs.Region.{OfBest, OfPool, OfLast, OfDebug, OfProfile, Region, region_align, region_alloc, region_compact, region_free, region_poke, region_resize, region_watch, segments_of}
use Rattle.vc_counts.proofs.GrantedSegments.{Lends, lends-kept}
use Rattle.vc_counts.proofs.RegionLends.{PutsIn, either, in-best, in-guards, in-last, in-pool, in-profile, in-resized, puts-best, puts-last, puts-latest, puts-pool, puts-resize, puts-sized}

pub alloc-puts : {L : Type 0} (terms : Terms) (r : Region L) (label : L) (site : List ℕ) (size : ℕ) (refused : Bool) → PutsIn (segments_of r) (region_alloc terms r label site size refused)
alloc-puts terms (OfBest l) label site size refused = in-best l.segments (best_alloc terms l label size 32 refused) (puts-best terms l label size 32 refused)
alloc-puts terms (OfPool p) label site size refused = in-pool p.layout.segments (pool_alloc terms p label size refused) (puts-pool terms p label size refused)
alloc-puts terms (OfLast l) label site size refused = in-last l.segments (last_alloc terms l label size refused) (puts-last terms l label size refused)
alloc-puts terms (OfDebug d) label site size refused =
    in-guards d.best.segments d.marks size (best_alloc terms d.best label (guarded_size size) 32 refused) (puts-best terms d.best label (guarded_size size) 32 refused)
alloc-puts terms (OfProfile p) label site size refused =
    in-profile p.layout.segments (with_site site p.peaks) (best_alloc terms p.layout (label, site) size 32 refused) (puts-best terms p.layout (label, site) size 32 refused)

pub align-puts : {L : Type 0} (terms : Terms) (r : Region L) (label : L) (site : List ℕ) (size align : ℕ) (refused : Bool) → PutsIn (segments_of r) (region_align terms r label site size align refused)
align-puts terms (OfBest l) label site size align refused = in-best l.segments (best_alloc terms l label size align refused) (puts-best terms l label size align refused)
align-puts terms (OfPool p) label site size align refused = tt
align-puts terms (OfLast l) label site size align refused = tt
align-puts terms (OfDebug d) label site size align refused = tt
align-puts terms (OfProfile p) label site size align refused =
    in-profile p.layout.segments (with_site site p.peaks) (best_alloc terms p.layout (label, site) size align refused) (puts-best terms p.layout (label, site) size align refused)

pub resize-puts : {L : Type 0} (terms : Terms) (r : Region L) (at : ℕ × ℕ) (size : ℕ) (may_move refused : Bool) → PutsIn (segments_of r) (region_resize terms r at size may_move refused)
resize-puts terms (OfBest l) at size may_move refused =
    in-best l.segments (best_resize terms l at size may_move refused) (puts-resize terms l at size may_move refused)
resize-puts terms (OfPool p) at size may_move refused = in-pool p.layout.segments (pool_resize p at size) (puts-sized p at size)
resize-puts terms (OfLast l) at size may_move refused =
    in-last l.segments (last_resize terms l at size may_move refused) (puts-latest terms l at size may_move refused (latest l))
resize-puts terms (OfDebug d) at size may_move refused =
    in-resized d.best.segments d.marks at (min (user_size d at) size) size (best_resize terms d.best (guarded_place at) (guarded_size size) may_move refused)
    (puts-resize terms d.best (guarded_place at) (guarded_size size) may_move refused)
resize-puts terms (OfProfile p) at size may_move refused =
    in-profile p.layout.segments p.peaks (best_resize terms p.layout at size may_move refused) (puts-resize terms p.layout at size may_move refused)

-- a region that is left has the segments that it had
abbrev pub LeavesIn : {L : Type 0} → List (ℕ × ℕ) → Outcome (Region L) → Type 0
LeavesIn segments (Done r) = segments_of r ≡ segments
LeavesIn segments (Refused why) = Unit {0}

free-latest : {L : Type 0} (l : Layout L) (at : ℕ × ℕ) (o : Option (Block L)) → LeavesIn l.segments (done_as OfLast (if_latest at (λ b. Done (without_block_at l at)) o))
free-latest l at None = tt
free-latest l at (Some b) =
    either (λ o. LeavesIn l.segments (done_as OfLast o)) (is_at at b) (Done (without_block_at l at)) (Refused NotLast) refl tt

pub free-leaves : {L : Type 0} (r : Region L) (at : ℕ × ℕ) → LeavesIn (segments_of r) (region_free r at)
free-leaves (OfBest l) at = refl
free-leaves (OfPool p) at = refl
free-leaves (OfLast l) at = free-latest l at (latest l)
free-leaves (OfDebug d) at = refl
free-leaves (OfProfile p) at = refl

pub poke-leaves : {L : Type 0} (r : Region L) (at : ℕ × ℕ) (off : ℤ) (byte : ℕ) → segments_of (region_poke r at off byte) ≡ segments_of r
poke-leaves (OfBest l) at off byte = refl
poke-leaves (OfPool p) at off byte = refl
poke-leaves (OfLast l) at off byte = refl
poke-leaves (OfDebug d) at off byte = refl
poke-leaves (OfProfile p) at off byte = refl

pub watch-leaves : {L : Type 0} (r : Region L) (at : ℕ × ℕ) (line : ℕ) → segments_of (region_watch r at line) ≡ segments_of r
watch-leaves (OfBest l) at line = refl
watch-leaves (OfPool p) at line = refl
watch-leaves (OfLast l) at line = refl
watch-leaves (OfDebug d) at line = refl
watch-leaves (OfProfile p) at line = refl

pub compact-lends : {L : Type 0} (r : Region L) → Lends (segments_of r) (segments_of (region_compact r)) []
compact-lends (OfBest l) = lends-kept (λ s. is_occupied l.blocks s.0) l.segments
compact-lends (OfPool p) = lends-kept (λ s. is_occupied p.layout.blocks s.0) p.layout.segments
compact-lends (OfLast l) = lends-kept (λ s. is_occupied l.blocks s.0) l.segments
compact-lends (OfDebug d) = lends-kept (λ s. is_occupied d.best.blocks s.0) d.best.segments
compact-lends (OfProfile p) = lends-kept (λ s. is_occupied p.layout.blocks s.0) p.layout.segments
