-- A command in a region leaves a best one best.
use Rattle.vc_base.proofs.Common.{◌≡◌, ℕ, ◌+◌, Bool, true, false, cond, ◌&&◌, List, [], ◌∷◌, length, ℤ, nat_le, Some, None, Option, find, refl, best_alloc, Terms, last_alloc, last_free, last_resize, Block, Layout, Done, Outcome, Put, Refused, done_as, outcome_as, pool_alloc, pool_resize, best_resize}
use Rattle.vc_audit.specs.Debug.{debug_alloc, debug_resize}
use Rattle.vc_audit.specs.Profile.{profile_alloc, profile_resize}
use Rattle.vc_region.specs.Region.{OfBest, OfPool, OfLast, OfDebug, OfProfile, Region, blocks_of, is_debug, is_profile, region_align, region_alloc, region_clear, region_compact, region_free, region_poke, region_resize, region_watch, region_write, region_with_labels, watch_at, is_best}
use Rattle.vc_script.specs.Needs.{Need}
use Rattle.vc_script.specs.declared.command.Command.{Command}
use Rattle.vc_script.specs.declared.command.Command.TheVariants.{ClearRegion, Compact, Alloc, Align, Resize, Free, WriteBlock, ReadBlock, SizeOf, AddrOf, SegmentOf, StatOf, Segments, Blocks, Poke, Check, Watch, ProfileOf}
use Rattle.vc_script.specs.declared.refusal.Refusal.{Refusal}
use Rattle.vc_script.specs.declared.refusal.Refusal.TheVariants as why
use Rattle.vc_commands.specs.Audit.{is_poke, poke_block, poke_byte, watch_block}
use Rattle.vc_commands.specs.Blocks.{align_refused, free_block_found, change_by_free, has_label, has_label_room, is_block, is_size, kept_freed, put_unless_refused, put_in, put_new, read_block_found, resize_block_found, site_or_hyphen, size_refused, with_named, write_block_found}
use Rattle.vc_commands.specs.FreedNames.{FreedNames, without_name}
use Rattle.vc_commands.specs.Home.{Changed, Home, Label, refusal_alone}
use Rattle.vc_commands.specs.RegionCommands.{in_region, is_for_block}

abbrev pub IsAs : Bool → Changed → Type 0
IsAs best c = is_best c.region ≡ best

module _ (best : Bool) where
  as-if : (t : Bool) (a b : Changed) → IsAs best a → IsAs best b → IsAs best (cond t a b)
  as-if true a b p q = p
  as-if false a b p q = q

  as-block : (h : Home) (x : List ℕ) (o : Option (Block Label)) (act : Block Label → Changed) → is_best h.region ≡ best → ((b : Block Label) → IsAs best (act b)) → IsAs best (with_named h x o act)
  as-block h x None act none some = none
  as-block h x (Some b) act none some = some b

  -- what a call puts
  abbrev PutAs : Outcome (Put (Region Label)) → Type 0
  PutAs (Done p) = is_best p.region ≡ best
  PutAs (Refused fault) = Unit {0}

  as-made : {B : Type 0} (make : B → Region Label) → ((x : B) → is_best (make x) ≡ best) → (o : Outcome (Put B)) → PutAs (outcome_as make o)
  as-made make all (Done p) = all p.region
  as-made make all (Refused fault) = tt

  as-put : (h : Home) (x : List ℕ) (kept : FreedNames) (watch : Option ℕ) (o : Outcome (Put (Region Label))) → is_best h.region ≡ best → PutAs o → IsAs best (put_in h x kept watch o)
  as-put h x kept watch (Done p) same put = put
  as-put h x kept watch (Refused fault) same put = same

  as-by : (h : Home) (x : List ℕ) (words : Option Refusal) (o : Outcome (Put (Region Label))) → is_best h.region ≡ best → PutAs o → IsAs best (put_unless_refused h x words o)
  as-by h x (Some refusal) o same put = same
  as-by h x None o same put =
      as-if (has_label_room h x) (put_in h x (without_name x h.kept) None o) (refusal_alone h why.TooManyBlocks) (as-put h x (without_name x h.kept) None o same put) same

  as-new : (h : Home) (x : List ℕ) (words : Option Refusal) (o : Outcome (Put (Region Label))) → is_best h.region ≡ best → PutAs o → IsAs best (put_new h x words o)
  as-new h x words o same put =
      as-if (has_label x h.region) (refusal_alone h why.BlockExists) (put_unless_refused h x words o) same (as-by h x words o same put)

alloc-best : (terms : Terms) (r : Region Label) (label : Label) (site : List ℕ) (size : ℕ) (refused : Bool) → PutAs (is_best r) (region_alloc terms r label site size refused)
alloc-best terms (OfBest l) label site size refused = as-made true OfBest (λ q. refl) (best_alloc terms l label size 32 refused)
alloc-best terms (OfPool p) label site size refused = as-made false OfPool (λ q. refl) (pool_alloc terms p label size refused)
alloc-best terms (OfLast l) label site size refused = as-made false OfLast (λ q. refl) (last_alloc terms l label size refused)
alloc-best terms (OfDebug d) label site size refused = as-made false OfDebug (λ q. refl) (debug_alloc terms d label size refused)
alloc-best terms (OfProfile p) label site size refused = as-made false OfProfile (λ q. refl) (profile_alloc terms p label site size 32 refused)

align-best : (terms : Terms) (r : Region Label) (label : Label) (site : List ℕ) (size align : ℕ) (refused : Bool) → PutAs (is_best r) (region_align terms r label site size align refused)
align-best terms (OfBest l) label site size align refused = as-made true OfBest (λ q. refl) (best_alloc terms l label size align refused)
align-best terms (OfPool p) label site size align refused = tt
align-best terms (OfLast l) label site size align refused = tt
align-best terms (OfDebug d) label site size align refused = tt
align-best terms (OfProfile p) label site size align refused = as-made false OfProfile (λ q. refl) (profile_alloc terms p label site size align refused)

resize-best : (terms : Terms) (r : Region Label) (at : ℕ × ℕ) (size : ℕ) (may_move refused : Bool) → PutAs (is_best r) (region_resize terms r at size may_move refused)
resize-best terms (OfBest l) at size may_move refused = as-made true OfBest (λ q. refl) (best_resize terms l at size may_move refused)
resize-best terms (OfPool p) at size may_move refused = as-made false OfPool (λ q. refl) (pool_resize p at size)
resize-best terms (OfLast l) at size may_move refused = as-made false OfLast (λ q. refl) (last_resize terms l at size may_move refused)
resize-best terms (OfDebug d) at size may_move refused = as-made false OfDebug (λ q. refl) (debug_resize terms d at size may_move refused)
resize-best terms (OfProfile p) at size may_move refused = as-made false OfProfile (λ q. refl) (profile_resize terms p at size may_move refused)

abbrev FreedAs : Bool → Outcome (Region Label) → Type 0
FreedAs best (Done r) = is_best r ≡ best
FreedAs best (Refused fault) = Unit {0}

last-freed : (o : Outcome (Layout Label)) → FreedAs false (done_as OfLast o)
last-freed (Done l) = refl
last-freed (Refused fault) = tt

free-best : (r : Region Label) (at : ℕ × ℕ) → FreedAs (is_best r) (region_free r at)
free-best (OfBest l) at = refl
free-best (OfPool p) at = refl
free-best (OfLast l) at = last-freed (last_free l at)
free-best (OfDebug d) at = refl
free-best (OfProfile p) at = refl

as-freed : (h : Home) (x : List ℕ) (kept : FreedNames) (watch : Option ℕ) (o : Outcome (Region Label)) → FreedAs (is_best h.region) o → IsAs (is_best h.region) (change_by_free h x kept watch o)
as-freed h x kept watch (Done r) same = same
as-freed h x kept watch (Refused fault) same = refl

write-best : (r : Region Label) (at : ℕ × ℕ) (off : ℕ) (src : List ℕ) → is_best (region_write r at off src) ≡ is_best r
write-best (OfBest l) at off src = refl
write-best (OfPool p) at off src = refl
write-best (OfLast l) at off src = refl
write-best (OfDebug d) at off src = refl
write-best (OfProfile p) at off src = refl

clear-best : (r : Region Label) → is_best (region_clear r) ≡ is_best r
clear-best (OfBest l) = refl
clear-best (OfPool p) = refl
clear-best (OfLast l) = refl
clear-best (OfDebug d) = refl
clear-best (OfProfile p) = refl

compact-best : (r : Region Label) → is_best (region_compact r) ≡ is_best r
compact-best (OfBest l) = refl
compact-best (OfPool p) = refl
compact-best (OfLast l) = refl
compact-best (OfDebug d) = refl
compact-best (OfProfile p) = refl

poke-best : (r : Region Label) (at : ℕ × ℕ) (off : ℤ) (byte : ℕ) → is_best (region_poke r at off byte) ≡ is_best r
poke-best (OfBest l) at off byte = refl
poke-best (OfPool p) at off byte = refl
poke-best (OfLast l) at off byte = refl
poke-best (OfDebug d) at off byte = refl
poke-best (OfProfile p) at off byte = refl

watch-best : (r : Region Label) (at : ℕ × ℕ) (line : ℕ) → is_best (region_watch r at line) ≡ is_best r
watch-best (OfBest l) at line = refl
watch-best (OfPool p) at line = refl
watch-best (OfLast l) at line = refl
watch-best (OfDebug d) at line = refl
watch-best (OfProfile p) at line = refl

-- other labels make no difference
pub relabelled-best : {L M : Type 0} (f : L → M) (r : Region L) → is_best (region_with_labels f r) ≡ is_best r
relabelled-best f (OfBest l) = refl
relabelled-best f (OfPool p) = refl
relabelled-best f (OfLast l) = refl
relabelled-best f (OfDebug d) = refl
relabelled-best f (OfProfile p) = refl

module _ (h : Home) where
  abbrev same : Bool
  same = is_best h.region

  in-block : (x : List ℕ) (act : Block Label → Changed) → ((b : Block Label) → IsAs same (act b)) → IsAs same (with_named h x (find (is_block x) (blocks_of h.region)) act)
  in-block x act each = as-block same h x (find (is_block x) (blocks_of h.region)) act refl each

  poke_byte-best : (x : List ℕ) (off : ℤ) (byte : ℕ) (b : Block Label) → IsAs same (poke_byte h x off byte b)
  poke_byte-best x off byte b = as-if same (is_poke b.size off byte) _ (refusal_alone h why.Range) (poke-best h.region (b.seg, b.off) off byte) refl

  -- a command in a region
  pub region-best : (line : ℕ) (command : Command) (need : Need) → is_best (in_region h line command need).region ≡ is_best h.region
  region-best line (ClearRegion r) need = clear-best h.region
  region-best line (Compact r) need = compact-best h.region
  region-best line (Alloc r x size site) need =
      as-new same h x (size_refused size) (region_alloc h.terms h.region (Some x) (site_or_hyphen site) size (is_for_block need)) refl (alloc-best h.terms h.region (Some x) (site_or_hyphen site) size (is_for_block need))
  region-best line (Align r x size align) need =
      as-new same h x (align_refused h.region size align) (region_align h.terms h.region (Some x) (45 ∷ []) size align (is_for_block need)) refl (align-best h.terms h.region (Some x) (45 ∷ []) size align (is_for_block need))
  region-best line (Resize r x size may_move) need =
      in-block x (resize_block_found h x size may_move (is_for_block need))
      (λ b.
      as-if same (is_size size) _ (refusal_alone h why.Size)
      (as-put same h x h.kept (watch_at h.region (b.seg, b.off)) (region_resize h.terms h.region (b.seg, b.off) size may_move (is_for_block need)) refl (resize-best h.terms h.region (b.seg, b.off) size may_move (is_for_block need)))
      refl)
  region-best line (Free r x) need =
      in-block x (free_block_found h x line)
      (λ b. as-freed h x (kept_freed h x line) (watch_at h.region (b.seg, b.off)) (region_free h.region (b.seg, b.off)) (free-best h.region (b.seg, b.off)))
  region-best line (WriteBlock r x off bytes) need =
      in-block x (write_block_found h x off bytes)
      (λ b. as-if same (nat_le (off + length bytes) b.size) _ (refusal_alone h why.Range) (write-best h.region (b.seg, b.off) off bytes) refl)
  region-best line (ReadBlock r x off len) need =
      in-block x (read_block_found h x off len)
      (λ b. as-if same ((nat_le 1 len && nat_le len 4096) && nat_le (off + len) b.size) _ (refusal_alone h why.Range) refl refl)
  region-best line (SizeOf r x) need = in-block x _ (λ b. refl)
  region-best line (AddrOf r at) need = refl
  region-best line (SegmentOf r at) need = refl
  region-best line (StatOf r) need = refl
  region-best line (Segments r) need = refl
  region-best line (Blocks r) need = refl
  region-best line (Poke r x off byte) need =
      in-block x (poke_block h x off byte)
      (λ b. as-if same (is_debug h.region) (poke_byte h x off byte b) (refusal_alone h why.WrongMethod) (poke_byte-best x off byte b) refl)
  region-best line (Check r) need = as-if same (is_debug h.region) _ (refusal_alone h why.WrongMethod) refl refl
  region-best line (Watch r x) need =
      in-block x (watch_block h line x)
      (λ b. as-if same (is_debug h.region) _ (refusal_alone h why.WrongMethod) (watch-best h.region (b.seg, b.off) line) refl)
  region-best line (ProfileOf r) need = as-if same (is_profile h.region) _ (refusal_alone h why.WrongMethod) refl refl
  region-best line command need = refl
