-- Every call of a region commutes with a change of its labels.
use Rattle.vc_base.proofs.Common.{◌≡◌, ℕ, Bool, List, map, ℤ, sym, refl, ap, ◌∙◌, AllByRecursion, best_alloc, Terms, last_alloc, last_free, last_resize, Block, Layout, relabel_block, relabel_layout, Done, Outcome, Put, Refused, done_as, outcome_as, Pool, pool_alloc, pool_resize, best_resize, rewritten_block}
use Rattle.vc_model.proofs.LastRelabel.{last_alloc-relabel, last_free-relabel, last_resize-relabel, relabel_rest}
use Rattle.vc_model.proofs.PoolRelabel.{pool_alloc-relabel, pool_compact-relabel, pool_free-relabel, pool_resize-relabel, pool_write-relabel, relabel_pools}
use Rattle.vc_model.proofs.Relabel.{best_alloc-relabel, best_resize-relabel, change_block-relabel, compact_count-relabel, compacted-relabel, relabel-alike, relabel_outcome, without_block-relabel}
use Rattle.vc_pool.proofs.Relabel.{pool_stat-relabel}
use Rattle.vc_audit.specs.Debug.{Debug, debug_alloc, debug_resize, relabel_debug}
use Rattle.vc_audit.specs.Profile.{Profile, profile_alloc, profile_resize, relabel_profile}
use Rattle.vc_audit.proofs.DebugRelabel as debug
use Rattle.vc_audit.proofs.ProfileRelabel.{bare_layout-relabel, profile_alloc-relabel, profile_clear-relabel, profile_compact-relabel, profile_count-relabel, profile_free-relabel, profile_resize-relabel, profile_rows-relabel, profile_stat-relabel, profile_write-relabel, relabel_profile-alike}
use Rattle.vc_seg.proofs.Stats.{layout_stat-relabel}
use Rattle.vc_region.specs.Region.{OfBest, OfPool, OfLast, OfDebug, OfProfile, Region, aligns, blocks_of, region_align, region_alloc, region_clear, region_compact, region_compact_count, region_free, region_resize, region_write, region_with_labels, segments_of, keeps_freed, watch_at, damaged_in, is_debug, is_profile, layout_in, region_poke, region_watch, rows_in}
use Rattle.vc_region.specs.Stat.{stat_of}

module _ {L M : Type 0} (f : L → M) where
  abbrev layout : List (ℕ × ℕ) → List (Block M) → Layout M
  layout segments blocks = record { segments = segments; blocks = blocks }

  as_best : (o : Outcome (Put (Layout L))) → outcome_as OfBest (relabel_outcome f o) ≡ outcome_as (region_with_labels f) (outcome_as OfBest o)
  as_best (Done p) = refl
  as_best (Refused why) = refl

  as_pool : (o : Outcome (Put (Pool L))) → outcome_as OfPool (relabel_pools f o) ≡ outcome_as (region_with_labels f) (outcome_as OfPool o)
  as_pool (Done p) = refl
  as_pool (Refused why) = refl

  as_last : (o : Outcome (Put (Layout L))) → outcome_as OfLast (relabel_outcome f o) ≡ outcome_as (region_with_labels f) (outcome_as OfLast o)
  as_last (Done p) = refl
  as_last (Refused why) = refl

  as_debug : (o : Outcome (Put (Debug L))) → outcome_as OfDebug (outcome_as (relabel_debug f) o) ≡ outcome_as (region_with_labels f) (outcome_as OfDebug o)
  as_debug (Done p) = refl
  as_debug (Refused why) = refl

  as_profile : (o : Outcome (Put (Profile L))) → outcome_as OfProfile (outcome_as (relabel_profile f) o) ≡ outcome_as (region_with_labels f) (outcome_as OfProfile o)
  as_profile (Done p) = refl
  as_profile (Refused why) = refl

  pub segments-relabelled : (r : Region L) → segments_of (region_with_labels f r) ≡ segments_of r
  segments-relabelled (OfProfile p) = ap (λ (l : Layout M). l.segments) (bare_layout-relabel f p)
  segments-relabelled r = refl

  pub blocks-relabelled : (r : Region L) → blocks_of (region_with_labels f r) ≡ map (relabel_block f) (blocks_of r)
  blocks-relabelled (OfDebug d) = debug.blocks-relabelled f d
  blocks-relabelled (OfProfile p) = ap (λ (l : Layout M). l.blocks) (bare_layout-relabel f p)
  blocks-relabelled r = refl

  pub layout-relabelled : (r : Region L) → layout_in (region_with_labels f r) ≡ relabel_layout f (layout_in r)
  layout-relabelled r =
      ap (λ ss. layout ss (blocks_of (region_with_labels f r))) (segments-relabelled r) ∙ ap (layout (segments_of r)) (blocks-relabelled r)

  pub alloc-relabelled : (terms : Terms) (r : Region L) (label : L) (site : List ℕ) (size : ℕ) (refused : Bool) → region_alloc terms (region_with_labels f r) (f label) site size refused ≡ outcome_as (region_with_labels f) (region_alloc terms r label site size refused)
  alloc-relabelled terms (OfBest l) label site size refused =
      ap (outcome_as OfBest) (best_alloc-relabel f terms l label size 32 refused) ∙ as_best (best_alloc terms l label size 32 refused)
  alloc-relabelled terms (OfPool p) label site size refused =
      ap (outcome_as OfPool) (pool_alloc-relabel f terms p label size refused) ∙ as_pool (pool_alloc terms p label size refused)
  alloc-relabelled terms (OfLast l) label site size refused =
      ap (outcome_as OfLast) (last_alloc-relabel f terms l label size refused) ∙ as_last (last_alloc terms l label size refused)
  alloc-relabelled terms (OfDebug d) label site size refused =
      ap (outcome_as OfDebug) (debug.alloc-relabelled f terms d label size refused) ∙ as_debug (debug_alloc terms d label size refused)
  alloc-relabelled terms (OfProfile p) label site size refused =
      ap (outcome_as OfProfile) (profile_alloc-relabel f terms p label site size 32 refused) ∙ as_profile (profile_alloc terms p label site size 32 refused)

  pub aligns-relabelled : (r : Region L) → aligns (region_with_labels f r) ≡ aligns r
  aligns-relabelled (OfBest l) = refl
  aligns-relabelled r = refl

  pub align-relabelled : (terms : Terms) (r : Region L) (label : L) (site : List ℕ) (size align : ℕ) (refused : Bool) → region_align terms (region_with_labels f r) (f label) site size align refused ≡ outcome_as (region_with_labels f) (region_align terms r label site size align refused)
  align-relabelled terms (OfBest l) label site size align refused =
      ap (outcome_as OfBest) (best_alloc-relabel f terms l label size align refused) ∙ as_best (best_alloc terms l label size align refused)
  align-relabelled terms (OfPool p) label site size align refused = refl
  align-relabelled terms (OfLast l) label site size align refused = refl
  align-relabelled terms (OfDebug d) label site size align refused = refl
  align-relabelled terms (OfProfile p) label site size align refused =
      ap (outcome_as OfProfile) (profile_alloc-relabel f terms p label site size align refused) ∙ as_profile (profile_alloc terms p label site size align refused)

  pub resize-relabelled : (terms : Terms) (r : Region L) (at : ℕ × ℕ) (size : ℕ) (may_move refused : Bool) → region_resize terms (region_with_labels f r) at size may_move refused ≡ outcome_as (region_with_labels f) (region_resize terms r at size may_move refused)
  resize-relabelled terms (OfBest l) at size may_move refused =
      ap (outcome_as OfBest) (best_resize-relabel f terms l at size may_move refused) ∙ as_best (best_resize terms l at size may_move refused)
  resize-relabelled terms (OfPool p) at size may_move refused =
      ap (outcome_as OfPool) (pool_resize-relabel f p at size) ∙ as_pool (pool_resize p at size)
  resize-relabelled terms (OfLast l) at size may_move refused =
      ap (outcome_as OfLast) (last_resize-relabel f terms l at size may_move refused) ∙ as_last (last_resize terms l at size may_move refused)
  resize-relabelled terms (OfDebug d) at size may_move refused =
      ap (outcome_as OfDebug) (debug.resize-relabelled f terms d at size may_move refused) ∙ as_debug (debug_resize terms d at size may_move refused)
  resize-relabelled terms (OfProfile p) at size may_move refused =
      ap (outcome_as OfProfile) (profile_resize-relabel f terms p at size may_move refused) ∙ as_profile (profile_resize terms p at size may_move refused)

  -- what freeing gives, with other labels
  abbrev pub relabel_freed : Outcome (Region L) → Outcome (Region M)
  relabel_freed (Done r) = Done (region_with_labels f r)
  relabel_freed (Refused why) = Refused why

  freed_last : (o : Outcome (Layout L)) → done_as OfLast (relabel_rest f o) ≡ relabel_freed (done_as OfLast o)
  freed_last (Done l) = refl
  freed_last (Refused why) = refl

  pub free-relabelled : (r : Region L) (at : ℕ × ℕ) → region_free (region_with_labels f r) at ≡ relabel_freed (region_free r at)
  free-relabelled (OfBest l) at = ap (λ bs. Done (OfBest (layout l.segments bs))) (sym (without_block-relabel f at l.blocks))
  free-relabelled (OfPool p) at = ap (λ q. Done (OfPool q)) (pool_free-relabel f p at)
  free-relabelled (OfLast l) at = ap (done_as OfLast) (last_free-relabel f l at) ∙ freed_last (last_free l at)
  free-relabelled (OfDebug d) at = ap (λ q. Done (OfDebug q)) (debug.free-relabelled f d at)
  free-relabelled (OfProfile p) at = ap (λ q. Done (OfProfile q)) (profile_free-relabel f p at)

  pub write-relabelled : (r : Region L) (at : ℕ × ℕ) (off : ℕ) (src : List ℕ) → region_write (region_with_labels f r) at off src ≡ region_with_labels f (region_write r at off src)
  write-relabelled (OfBest l) at off src = ap (λ bs. OfBest (layout l.segments bs)) (sym (change_block-relabel f (rewritten_block off src) (rewritten_block off src) (λ c. refl) at l.blocks))
  write-relabelled (OfPool p) at off src = ap (λ q. OfPool q) (pool_write-relabel f p at off src)
  write-relabelled (OfLast l) at off src = ap (λ bs. OfLast (layout l.segments bs)) (sym (change_block-relabel f (rewritten_block off src) (rewritten_block off src) (λ c. refl) at l.blocks))
  write-relabelled (OfDebug d) at off src = ap (λ q. OfDebug q) (debug.write-relabelled f d at off src)
  write-relabelled (OfProfile p) at off src = ap (λ q. OfProfile q) (profile_write-relabel f p at off src)

  pub clear-relabelled : (r : Region L) → region_clear (region_with_labels f r) ≡ region_with_labels f (region_clear r)
  clear-relabelled (OfDebug d) = ap (λ q. OfDebug q) (debug.clear-relabelled f d)
  clear-relabelled (OfProfile p) = ap (λ q. OfProfile q) (profile_clear-relabel f p)
  clear-relabelled r = refl

  pub compact-relabelled : (r : Region L) → region_compact (region_with_labels f r) ≡ region_with_labels f (region_compact r)
  compact-relabelled (OfBest l) = ap (λ q. OfBest q) (compacted-relabel f l)
  compact-relabelled (OfPool p) = ap (λ q. OfPool q) (pool_compact-relabel f p)
  compact-relabelled (OfLast l) = ap (λ q. OfLast q) (compacted-relabel f l)
  compact-relabelled (OfDebug d) = ap (λ q. OfDebug q) (debug.compact-relabelled f d)
  compact-relabelled (OfProfile p) = ap (λ q. OfProfile q) (profile_compact-relabel f p)

  pub debug-relabelled : (r : Region L) → is_debug (region_with_labels f r) ≡ is_debug r
  debug-relabelled (OfBest l) = refl
  debug-relabelled r = refl

  pub keeps-relabelled : (r : Region L) → keeps_freed (region_with_labels f r) ≡ keeps_freed r
  keeps-relabelled r = debug-relabelled r

  pub profile-relabelled : (r : Region L) → is_profile (region_with_labels f r) ≡ is_profile r
  profile-relabelled (OfBest l) = refl
  profile-relabelled r = refl

  pub watch-relabelled : (r : Region L) (at : ℕ × ℕ) → watch_at (region_with_labels f r) at ≡ watch_at r at
  watch-relabelled (OfDebug d) at = debug.watched-relabelled f d at
  watch-relabelled r at = refl

  pub marks-relabelled : (r : Region L) (at : ℕ × ℕ) (line : ℕ) → region_watch (region_with_labels f r) at line ≡ region_with_labels f (region_watch r at line)
  marks-relabelled (OfDebug d) at line = ap (λ q. OfDebug q) (debug.watch-relabelled f d at line)
  marks-relabelled r at line = refl

  pub poke-relabelled : (r : Region L) (at : ℕ × ℕ) (off : ℤ) (byte : ℕ) → region_poke (region_with_labels f r) at off byte ≡ region_with_labels f (region_poke r at off byte)
  poke-relabelled (OfDebug d) at off byte = ap (λ q. OfDebug q) (debug.poke-relabelled f d at off byte)
  poke-relabelled r at off byte = refl

  pub damaged-relabelled : (r : Region L) → damaged_in (region_with_labels f r) ≡ map (debug.relabel_found f) (damaged_in r)
  damaged-relabelled (OfDebug d) = debug.damaged-relabelled f d
  damaged-relabelled r = refl

  pub rows-relabelled : (r : Region L) → rows_in (region_with_labels f r) ≡ rows_in r
  rows-relabelled (OfProfile p) = profile_rows-relabel f p
  rows-relabelled r = refl

  pub compact_count-relabelled : (r : Region L) → region_compact_count (region_with_labels f r) ≡ region_compact_count r
  compact_count-relabelled (OfBest l) = compact_count-relabel f l
  compact_count-relabelled (OfPool p) = compact_count-relabel f p.layout
  compact_count-relabelled (OfLast l) = compact_count-relabel f l
  compact_count-relabelled (OfDebug d) = debug.compact_count-relabelled f d
  compact_count-relabelled (OfProfile p) = profile_count-relabel f p

pub relabelled-alike : {L M : Type 0} (f g : L → M) (r : Region L) → AllByRecursion (λ b. f b.label ≡ g b.label) (blocks_of r) → region_with_labels f r ≡ region_with_labels g r
relabelled-alike f g (OfBest l) same = ap (λ bs. OfBest (record { segments = l.segments; blocks = bs })) (relabel-alike f g l.blocks same)
relabelled-alike f g (OfPool p) same =
    ap (λ bs. OfPool (record { layout = record { segments = p.layout.segments; blocks = bs }; element = p.element; freed = p.freed; carved = p.carved })) (relabel-alike f g p.layout.blocks same)
relabelled-alike f g (OfLast l) same = ap (λ bs. OfLast (record { segments = l.segments; blocks = bs })) (relabel-alike f g l.blocks same)
relabelled-alike f g (OfDebug d) same = ap (λ q. OfDebug q) (debug.relabelled-alike f g d same)
relabelled-alike f g (OfProfile p) same = ap (λ q. OfProfile q) (relabel_profile-alike f g p same)

-- the numbers of a region say nothing of the labels of its blocks
pub stat-relabelled : {L M : Type 0} (f : L → M) (r : Region L) → stat_of (region_with_labels f r) ≡ stat_of r
stat-relabelled f (OfBest layout) = layout_stat-relabel f layout
stat-relabelled f (OfPool pool) = pool_stat-relabel f pool
stat-relabelled f (OfLast layout) = layout_stat-relabel f layout
stat-relabelled f (OfDebug d) = debug.stat-relabelled f d
stat-relabelled f (OfProfile p) = profile_stat-relabel f p
