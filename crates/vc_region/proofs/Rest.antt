-- Every call of a region commutes with the zeros that stand for the bytes of its unlabelled blocks.
use Rattle.vc_base.proofs.Common.{◌≡◌, ℕ, Bool, ◌≢◌, List, ℤ, Some, sym, refl, ap, ◌∙◌, best_alloc, Terms, last_alloc, last_free, Block, Layout, Done, Outcome, Put, Refused, done_as, outcome_as, pool_alloc, find_block, rewritten_block}
use Rattle.vc_audit.specs.Debug.{debug_alloc}
use Rattle.vc_audit.specs.Profile.{profile_alloc}
use Rattle.vc_best.specs.Cells.{zeroed_layout}
use Rattle.vc_region.specs.Cells.{rest_of}
use Rattle.vc_region.specs.Region.{OfBest, OfPool, OfLast, OfDebug, OfProfile, Region, aligns, blocks_of, damaged_in, is_debug, is_profile, keeps_freed, next_damaged_in, region_align, region_alloc, region_clear, region_compact, region_compact_count, region_free, region_need, region_poke, region_watch, region_write, row_in, rows_in, segments_of, watch_at}
use Rattle.vc_region.specs.Stat.{method_of, stat_of}
use Rattle.vc_best.proofs.RestBlocks.{change_block-labelled, without_block-zeroed}
use Rattle.vc_best.proofs.RestLayout.{best_alloc-zeroed, compact_count-zeroed, compacted-zeroed, layout, layout_stat-zeroed}

-- what a call of a best region gives, and one of a region of another method
pub as_best : (o : Outcome (Put (Layout ℕ))) → outcome_as OfBest (outcome_as zeroed_layout o) ≡ outcome_as rest_of (outcome_as OfBest o)
as_best (Done p) = refl
as_best (Refused why) = refl

pub as_same : {B : Type 0} (make : B → Region ℕ) → ((x : B) → rest_of (make x) ≡ make x) → (o : Outcome (Put B)) → outcome_as make o ≡ outcome_as rest_of (outcome_as make o)
as_same make same (Done p) = ap (λ (r : Region ℕ). Done (record { at = p.at; region = r; granted = p.granted })) (sym (same p.region))
as_same make same (Refused why) = refl

pub rest-alloc : (terms : Terms) (r : Region ℕ) (tag : ℕ) (site : List ℕ) (size : ℕ) (refused : Bool) → region_alloc terms (rest_of r) tag site size refused ≡ outcome_as rest_of (region_alloc terms r tag site size refused)
rest-alloc terms (OfBest l) tag site size refused = ap (outcome_as OfBest) (best_alloc-zeroed terms l tag size 32 refused) ∙ as_best (best_alloc terms l tag size 32 refused)
rest-alloc terms (OfPool p) tag site size refused = as_same OfPool (λ x. refl) (pool_alloc terms p tag size refused)
rest-alloc terms (OfLast l) tag site size refused = as_same OfLast (λ x. refl) (last_alloc terms l tag size refused)
rest-alloc terms (OfDebug d) tag site size refused = as_same OfDebug (λ x. refl) (debug_alloc terms d tag size refused)
rest-alloc terms (OfProfile p) tag site size refused = as_same OfProfile (λ x. refl) (profile_alloc terms p tag site size 32 refused)

pub rest-align : (terms : Terms) (r : Region ℕ) (tag : ℕ) (site : List ℕ) (size align : ℕ) (refused : Bool) → region_align terms (rest_of r) tag site size align refused ≡ outcome_as rest_of (region_align terms r tag site size align refused)
rest-align terms (OfBest l) tag site size align refused = ap (outcome_as OfBest) (best_alloc-zeroed terms l tag size align refused) ∙ as_best (best_alloc terms l tag size align refused)
rest-align terms (OfProfile p) tag site size align refused = as_same OfProfile (λ x. refl) (profile_alloc terms p tag site size align refused)
rest-align terms r tag site size align refused = refl

freed_last : (o : Outcome (Layout ℕ)) → done_as OfLast o ≡ done_as rest_of (done_as OfLast o)
freed_last (Done l) = refl
freed_last (Refused why) = refl

pub rest-free : (r : Region ℕ) (at : ℕ × ℕ) → region_free (rest_of r) at ≡ done_as rest_of (region_free r at)
rest-free (OfBest l) at = ap (λ bs. Done (OfBest (layout l.segments bs))) (sym (without_block-zeroed at l.blocks))
rest-free (OfLast l) at = freed_last (last_free l at)
rest-free r at = refl

-- writing into a labelled block
pub rest-write : (r : Region ℕ) (at : ℕ × ℕ) (off : ℕ) (src : List ℕ) (b : Block ℕ) → find_block at (blocks_of r) ≡ Some b → b.label ≢ 0 → region_write (rest_of r) at off src ≡ rest_of (region_write r at off src)
rest-write (OfBest l) at off src b found labelled = ap (λ bs. OfBest (layout l.segments bs)) (sym (change_block-labelled (rewritten_block off src) (λ c. refl) at l.blocks b found labelled))
rest-write r at off src b found labelled = refl

pub rest-clear : (r : Region ℕ) → region_clear (rest_of r) ≡ rest_of (region_clear r)
rest-clear (OfBest l) = refl
rest-clear r = refl

pub rest-compact : (r : Region ℕ) → region_compact (rest_of r) ≡ rest_of (region_compact r)
rest-compact (OfBest l) = ap (λ q. OfBest q) (compacted-zeroed l)
rest-compact r = refl

pub rest-compact_count : (r : Region ℕ) → region_compact_count (rest_of r) ≡ region_compact_count r
rest-compact_count (OfBest l) = compact_count-zeroed l
rest-compact_count r = refl

pub rest-poke : (r : Region ℕ) (at : ℕ × ℕ) (off : ℤ) (byte : ℕ) → region_poke (rest_of r) at off byte ≡ rest_of (region_poke r at off byte)
rest-poke (OfBest l) at off byte = refl
rest-poke r at off byte = refl

pub rest-watch : (r : Region ℕ) (at : ℕ × ℕ) (line : ℕ) → region_watch (rest_of r) at line ≡ rest_of (region_watch r at line)
rest-watch (OfBest l) at line = refl
rest-watch r at line = refl

pub rest-need : (terms : Terms) (r : Region ℕ) (size align : ℕ) → region_need terms (rest_of r) size align ≡ region_need terms r size align
rest-need terms (OfBest l) size align = refl
rest-need terms r size align = refl

pub rest-segments : (r : Region ℕ) → segments_of (rest_of r) ≡ segments_of r
rest-segments (OfBest l) = refl
rest-segments r = refl

pub rest-stat : (r : Region ℕ) → stat_of (rest_of r) ≡ stat_of r
rest-stat (OfBest l) = layout_stat-zeroed l
rest-stat r = refl

pub rest-damaged : (r : Region ℕ) → damaged_in (rest_of r) ≡ damaged_in r
rest-damaged (OfBest l) = refl
rest-damaged r = refl

pub rest-next_damaged : (after : ℕ) (r : Region ℕ) → next_damaged_in after (rest_of r) ≡ next_damaged_in after r
rest-next_damaged after (OfBest l) = refl
rest-next_damaged after r = refl

pub rest-rows : (r : Region ℕ) → rows_in (rest_of r) ≡ rows_in r
rest-rows (OfBest l) = refl
rest-rows r = refl

pub rest-row : (r : Region ℕ) (i : ℕ) → row_in (rest_of r) i ≡ row_in r i
rest-row (OfBest l) i = refl
rest-row r i = refl

pub rest-debug : (r : Region ℕ) → is_debug (rest_of r) ≡ is_debug r
rest-debug (OfBest l) = refl
rest-debug r = refl

pub rest-keeps : (r : Region ℕ) → keeps_freed (rest_of r) ≡ keeps_freed r
rest-keeps r = rest-debug r

pub rest-profile : (r : Region ℕ) → is_profile (rest_of r) ≡ is_profile r
rest-profile (OfBest l) = refl
rest-profile r = refl

pub rest-aligns : (r : Region ℕ) → aligns (rest_of r) ≡ aligns r
rest-aligns (OfBest l) = refl
rest-aligns r = refl

pub rest-watch_at : (r : Region ℕ) (at : ℕ × ℕ) → watch_at (rest_of r) at ≡ watch_at r at
rest-watch_at (OfBest l) at = refl
rest-watch_at r at = refl

pub rest-method : (r : Region ℕ) → method_of (rest_of r) ≡ method_of r
rest-method (OfBest l) = refl
rest-method r = refl
