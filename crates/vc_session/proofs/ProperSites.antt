-- The sites of a region's rows stay names, or the hyphen of the blocks without one.
use Rattle.vc_base.proofs.Common.{ℕ, Bool, true, false, cond, ◌||◌, List, [], ◌∷◌, map, ℤ, IsTrue, Some, None, codes, Option, bytes_eq, refl, ap, AllByRecursion, best_alloc, without_block_at, cleared_layout, compacted_layout, Terms, last_alloc, last_free, last_resize, Block, Layout, Done, Outcome, Put, Refused, done_as, outcome_as, pool_alloc, pool_resize, best_resize, with_bytes_at}
use Rattle.vc_audit.specs.Debug.{debug_alloc, debug_resize}
use Rattle.vc_audit.specs.Profile.{Profile, rows_with_peaks, profile_after, row_of, with_site}
use Rattle.vc_region.specs.Region.{OfBest, OfPool, OfLast, OfDebug, OfProfile, Region, region_align, region_alloc, region_clear, region_compact, region_free, region_poke, region_resize, region_watch, region_write}
use Rattle.vc_script.specs.Proper.{IsSite}
use Rattle.vc_script.specs.ProperReply.{is_row_site}
use Rattle.vc_commands.specs.Blocks.{site_or_hyphen}
use Rattle.vc_session.specs.ProperState.{HasProperSites}
use Rattle.vc_commands.specs.Home.{Label}

-- the site of a command is one of a row
pub row-read_site : (site : Option (List ℕ)) → IsSite site → IsTrue (is_row_site (site_or_hyphen site))
row-read_site None site = refl
row-read_site (Some x) site = ap (λ t. t || bytes_eq x (codes "-")) site

abbrev Blocks : Type 0
Blocks = List (Block (Label × List ℕ))

abbrev Peaks : Type 0
Peaks = List (List ℕ × ℕ)

abbrev AreSites : Peaks → Type 0
AreSites ps = AllByRecursion (λ p. IsTrue (is_row_site p.0)) ps

rows-sites : (bs : Blocks) (ps : Peaks) → AreSites ps → AllByRecursion (λ row. IsTrue (is_row_site row.site)) (map (row_of bs) ps)
rows-sites bs [] all = tt
rows-sites bs (p ∷ ps) all = (all.0, rows-sites bs ps all.1)

sites-rows : (bs : Blocks) (ps : Peaks) → AllByRecursion (λ row. IsTrue (is_row_site row.site)) (map (row_of bs) ps) → AreSites ps
sites-rows bs [] all = tt
sites-rows bs (p ∷ ps) all = (all.0, sites-rows bs ps all.1)

peaked-sites : (bs : Blocks) (ps : Peaks) → AreSites ps → AreSites (rows_with_peaks bs ps)
peaked-sites bs [] all = tt
peaked-sites bs (p ∷ ps) all = (all.0, peaked-sites bs ps all.1)

peaks-cond : (t : Bool) (ps qs : Peaks) → AreSites ps → AreSites qs → AreSites (cond t ps qs)
peaks-cond true ps qs all other = all
peaks-cond false ps qs all other = other

with-sites : (site : List ℕ) (ps : Peaks) → IsTrue (is_row_site site) → AreSites ps → AreSites (with_site site ps)
with-sites site [] is all = (is, tt)
with-sites site (p ∷ ps) is all =
    peaks-cond (bytes_eq site p.0) (p ∷ ps) (p ∷ with_site site ps) (all.0, all.1) (all.0, with-sites site ps is all.1)

after-sites : (ps : Peaks) (layout : Layout (Label × List ℕ)) → AreSites ps → HasProperSites (OfProfile (profile_after ps layout))
after-sites ps layout all = rows-sites layout.blocks (rows_with_peaks layout.blocks ps) (peaked-sites layout.blocks ps all)

peaks-of : (p : Profile Label) → HasProperSites (OfProfile p) → AreSites p.peaks
peaks-of p all = sites-rows p.layout.blocks p.peaks all

-- the sites of the region that a call gives
abbrev pub HasSitesAfter : Outcome (Put (Region Label)) → Type 0
HasSitesAfter (Done p) = HasProperSites p.region
HasSitesAfter (Refused why) = Unit {0}

abbrev pub HasSitesFreed : Outcome (Region Label) → Type 0
HasSitesFreed (Done r) = HasProperSites r
HasSitesFreed (Refused why) = Unit {0}

-- a region of another method has no rows
no-sites : {B : Type 0} (make : B → Region Label) → ((x : B) → HasProperSites (make x)) → (o : Outcome (Put B)) → HasSitesAfter (outcome_as make o)
no-sites make none (Done p) = none p.region
no-sites make none (Refused why) = tt

profile-sites : (ps : Peaks) → AreSites ps → (o : Outcome (Put (Layout (Label × List ℕ)))) → HasSitesAfter (outcome_as OfProfile (outcome_as (profile_after ps) o))
profile-sites ps all (Done p) = after-sites ps p.region all
profile-sites ps all (Refused why) = tt

last-sites : (o : Outcome (Layout Label)) → HasSitesFreed (done_as OfLast o)
last-sites (Done l) = tt
last-sites (Refused why) = tt

pub sites-alloc : (terms : Terms) (r : Region Label) (l : Label) (site : List ℕ) (size : ℕ) (refused : Bool) → IsTrue (is_row_site site) → HasProperSites r → HasSitesAfter (region_alloc terms r l site size refused)
sites-alloc terms (OfBest q) l site size refused is all = no-sites OfBest (λ x. tt) (best_alloc terms q l size 32 refused)
sites-alloc terms (OfPool q) l site size refused is all = no-sites OfPool (λ x. tt) (pool_alloc terms q l size refused)
sites-alloc terms (OfLast q) l site size refused is all = no-sites OfLast (λ x. tt) (last_alloc terms q l size refused)
sites-alloc terms (OfDebug q) l site size refused is all = no-sites OfDebug (λ x. tt) (debug_alloc terms q l size refused)
sites-alloc terms (OfProfile p) l site size refused is all =
    profile-sites (with_site site p.peaks) (with-sites site p.peaks is (peaks-of p all)) (best_alloc terms p.layout (l, site) size 32 refused)

pub sites-align : (terms : Terms) (r : Region Label) (l : Label) (site : List ℕ) (size align : ℕ) (refused : Bool) → IsTrue (is_row_site site) → HasProperSites r → HasSitesAfter (region_align terms r l site size align refused)
sites-align terms (OfBest q) l site size align refused is all = no-sites OfBest (λ x. tt) (best_alloc terms q l size align refused)
sites-align terms (OfPool q) l site size align refused is all = tt
sites-align terms (OfLast q) l site size align refused is all = tt
sites-align terms (OfDebug q) l site size align refused is all = tt
sites-align terms (OfProfile p) l site size align refused is all =
    profile-sites (with_site site p.peaks) (with-sites site p.peaks is (peaks-of p all)) (best_alloc terms p.layout (l, site) size align refused)

pub resize-sites : (terms : Terms) (r : Region Label) (at : ℕ × ℕ) (size : ℕ) (may_move refused : Bool) → HasProperSites r → HasSitesAfter (region_resize terms r at size may_move refused)
resize-sites terms (OfBest q) at size may_move refused all = no-sites OfBest (λ x. tt) (best_resize terms q at size may_move refused)
resize-sites terms (OfPool q) at size may_move refused all = no-sites OfPool (λ x. tt) (pool_resize q at size)
resize-sites terms (OfLast q) at size may_move refused all = no-sites OfLast (λ x. tt) (last_resize terms q at size may_move refused)
resize-sites terms (OfDebug q) at size may_move refused all = no-sites OfDebug (λ x. tt) (debug_resize terms q at size may_move refused)
resize-sites terms (OfProfile p) at size may_move refused all =
    profile-sites p.peaks (peaks-of p all) (best_resize terms p.layout at size may_move refused)

pub free-sites : (r : Region Label) (at : ℕ × ℕ) → HasProperSites r → HasSitesFreed (region_free r at)
free-sites (OfBest q) at all = tt
free-sites (OfPool q) at all = tt
free-sites (OfLast q) at all = last-sites (last_free q at)
free-sites (OfDebug q) at all = tt
free-sites (OfProfile p) at all = after-sites p.peaks (without_block_at p.layout at) (peaks-of p all)

pub write-sites : (r : Region Label) (at : ℕ × ℕ) (off : ℕ) (src : List ℕ) → HasProperSites r → HasProperSites (region_write r at off src)
write-sites (OfBest q) at off src all = tt
write-sites (OfPool q) at off src all = tt
write-sites (OfLast q) at off src all = tt
write-sites (OfDebug q) at off src all = tt
write-sites (OfProfile p) at off src all = after-sites p.peaks (with_bytes_at p.layout at off src) (peaks-of p all)

pub clear-sites : (r : Region Label) → HasProperSites r → HasProperSites (region_clear r)
clear-sites (OfBest q) all = tt
clear-sites (OfPool q) all = tt
clear-sites (OfLast q) all = tt
clear-sites (OfDebug q) all = tt
clear-sites (OfProfile p) all = after-sites p.peaks (cleared_layout p.layout) (peaks-of p all)

pub compact-sites : (r : Region Label) → HasProperSites r → HasProperSites (region_compact r)
compact-sites (OfBest q) all = tt
compact-sites (OfPool q) all = tt
compact-sites (OfLast q) all = tt
compact-sites (OfDebug q) all = tt
compact-sites (OfProfile p) all = after-sites p.peaks (compacted_layout p.layout) (peaks-of p all)

pub poke-sites : (r : Region Label) (at : ℕ × ℕ) (off : ℤ) (byte : ℕ) → HasProperSites r → HasProperSites (region_poke r at off byte)
poke-sites (OfBest q) at off byte all = tt
poke-sites (OfPool q) at off byte all = tt
poke-sites (OfLast q) at off byte all = tt
poke-sites (OfDebug q) at off byte all = tt
poke-sites (OfProfile p) at off byte all = all

pub watch-sites : (r : Region Label) (at : ℕ × ℕ) (line : ℕ) → HasProperSites r → HasProperSites (region_watch r at line)
watch-sites (OfBest q) at line all = tt
watch-sites (OfPool q) at line all = tt
watch-sites (OfLast q) at line all = tt
watch-sites (OfDebug q) at line all = tt
watch-sites (OfProfile p) at line all = all
