-- What a command in a region does to the bytes of its blocks: as much as to those of the block that it names.
use Rattle.vc_base.proofs.Common.{◌≡◌, ℕ, ◌+◌, Bool, ◌&&◌, List, [], ◌∷◌, length, ℤ, nat_le, Some, None, Option, find, refl, arith, Block, Done, Outcome, Put, Refused}
use Rattle.vc_region.specs.Region.{Region, blocks_of, is_debug, is_profile, region_align, region_alloc, region_free, region_resize, watch_at}
use Rattle.vc_region.specs.Stat.{stat_of}
use Rattle.vc_script.specs.declared.command.Command.{Command}
use Rattle.vc_script.specs.declared.command.Command.TheVariants.{ClearRegion, Compact, Alloc, Align, Resize, Free, WriteBlock, ReadBlock, SizeOf, Poke, Check, Watch, ProfileOf}
use Rattle.vc_script.specs.declared.refusal.Refusal.{Refusal}
use Rattle.vc_script.specs.declared.refusal.Refusal.TheVariants as why
use Rattle.vc_script.specs.Needs.{Need}
use Rattle.vc_commands.specs.Audit.{is_poke, poke_block, poke_byte, poke_in, watch_block, watch_in}
use Rattle.vc_commands.specs.Blocks.{align_refused, free_block_found, free_named, change_by_free, has_label, has_label_room, is_block, is_name_of, is_size, kept_freed, put_unless_refused, put_in, put_new, read_block_found, resize_block_found, resize_named, site_or_hyphen, size_refused, with_named, write_block_found, write_named}
use Rattle.vc_commands.specs.Home.{Changed, Home, Label, refusal_alone}
use Rattle.vc_commands.specs.FreedNames.{FreedNames, without_name}
use Rattle.vc_commands.specs.RegionCommands.{in_region, is_for_block}
use Rattle.vc_commands.specs.Sizes.{size_named}
use Rattle.vc_counts.specs.Reach.{reach_of}
use Rattle.vc_counts.proofs.CallOthers.{LeftIn, StaysIn, align-stays, alloc-stays, busy-sizes, compact-left, found-behind, free-left, name-own, no_label, others_in, poke-left, resize-stays, watch-left, write-left}
use Rattle.vc_counts.proofs.OwnNames.{IsProper}
use Rattle.vc_counts.proofs.RegionLends.{either}
use Rattle.vc_counts.proofs.Sums.{put_region}
use Rattle.vc_counts.proofs.Tallies.{Reaches}

-- the sizes of blocks of these labels are left out
abbrev Leaves : (Label → Bool) → Home → Changed → Type 0
Leaves mine h c = others_in mine c.region ≡ others_in mine h.region

module _ (mine : Label → Bool) (h : Home) where
  on-named : (x : List ℕ) (o : Option (Block Label)) (act : Block Label → Changed) → ((b : Block Label) → o ≡ Some b → Leaves mine h (act b)) → Leaves mine h (with_named h x o act)
  on-named x None act each = refl
  on-named x (Some b) act each = each b refl

  put-leaves : (x : List ℕ) (kept : FreedNames) (watch : Option ℕ) (o : Outcome (Put (Region Label))) → StaysIn mine h.region o → Leaves mine h (put_in h x kept watch o)
  put-leaves x kept watch (Done p) e = e
  put-leaves x kept watch (Refused fault) e = refl

  by-leaves : (x : List ℕ) (words : Option Refusal) (o : Outcome (Put (Region Label))) → StaysIn mine h.region o → Leaves mine h (put_unless_refused h x words o)
  by-leaves x (Some refusal) o e = refl
  by-leaves x None o e =
      either (Leaves mine h) (has_label_room h x) (put_in h x (without_name x h.kept) None o) (refusal_alone h why.TooManyBlocks)
      (put-leaves x (without_name x h.kept) None o e) refl

  new-leaves : (x : List ℕ) (words : Option Refusal) (o : Outcome (Put (Region Label))) → StaysIn mine h.region o → Leaves mine h (put_new h x words o)
  new-leaves x words o e =
      either (Leaves mine h) (has_label x h.region) (refusal_alone h why.BlockExists) (put_unless_refused h x words o) refl (by-leaves x words o e)

  freed-leaves : (x : List ℕ) (kept : FreedNames) (watch : Option ℕ) (o : Outcome (Region Label)) → LeftIn mine h.region o → Leaves mine h (change_by_free h x kept watch o)
  freed-leaves x kept watch (Done r) e = e
  freed-leaves x kept watch (Refused fault) e = refl

  write-leaves : (x : List ℕ) (off : ℕ) (bytes : List ℕ) → Leaves mine h (write_named h x off bytes)
  write-leaves x off bytes =
      on-named x (find (is_block x) (blocks_of h.region)) (write_block_found h x off bytes)
      (λ b at. either (Leaves mine h) (nat_le (off + length bytes) b.size) _ (refusal_alone h why.Range) (write-left mine (b.seg, b.off) h.region off bytes) refl)

  poke-leaves : (x : List ℕ) (off : ℤ) (byte : ℕ) → Leaves mine h (poke_in h x off byte)
  poke-leaves x off byte =
      on-named x (find (is_block x) (blocks_of h.region)) (poke_block h x off byte)
      (λ b at.
      either (Leaves mine h) (is_debug h.region) (poke_byte h x off byte b) (refusal_alone h why.WrongMethod)
      (either (Leaves mine h) (is_poke b.size off byte) _ (refusal_alone h why.Range) (poke-left mine (b.seg, b.off) h.region off byte) refl) refl)

  watch-leaves : (line : ℕ) (x : List ℕ) → Leaves mine h (watch_in h line x)
  watch-leaves line x =
      on-named x (find (is_block x) (blocks_of h.region)) (watch_block h line x)
      (λ b at. either (Leaves mine h) (is_debug h.region) _ (refusal_alone h why.WrongMethod) (watch-left mine (b.seg, b.off) h.region line) refl)

module _ (h : Home) (proper : IsProper h) (x : List ℕ) where
  resize-leaves : (size : ℕ) (may_move refused : Bool) → Leaves (is_name_of x) h (resize_named h x size may_move refused)
  resize-leaves size may_move refused =
      on-named (is_name_of x) h x (find (is_block x) (blocks_of h.region)) (resize_block_found h x size may_move refused)
      (λ b at.
      either (Leaves (is_name_of x) h) (is_size size) _ (refusal_alone h why.Size)
      (put-leaves (is_name_of x) h x h.kept (watch_at h.region (b.seg, b.off)) (region_resize h.terms h.region (b.seg, b.off) size may_move refused)
      (resize-stays (is_name_of x) (b.seg, b.off) h.terms h.region size may_move refused (found-behind (is_name_of x) (is_block x) h.region b at) (proper.own x b at)))
      refl)

  free-leaves : (line : ℕ) → Leaves (is_name_of x) h (free_named h x line)
  free-leaves line =
      on-named (is_name_of x) h x (find (is_block x) (blocks_of h.region)) (free_block_found h x line)
      (λ b at.
      freed-leaves (is_name_of x) h x (kept_freed h x line) (watch_at h.region (b.seg, b.off)) (region_free h.region (b.seg, b.off))
      (free-left (is_name_of x) (b.seg, b.off) h.region (found-behind (is_name_of x) (is_block x) h.region b at) (proper.own x b at)))

  -- all blocks change by as many bytes as the block of that name
  by-name : (region : Region Label) (kept : FreedNames) → IsProper (put_region region kept h) → others_in (is_name_of x) region ≡ others_in (is_name_of x) h.region → (stat_of region).sbusy + size_named x h.region ≡ (stat_of h.region).sbusy + size_named x region
  by-name region kept proper' same = omega (arith, busy-sizes region, busy-sizes h.region, proper.split x, proper'.split x, same)

-- or by none
no-size : (h : Home) (region : Region Label) → others_in no_label region ≡ others_in no_label h.region → (stat_of region).sbusy + 0 ≡ (stat_of h.region).sbusy + 0
no-size h region same = omega (arith, busy-sizes region, busy-sizes h.region, same)

abbrev pub ReachesBy : Command → Home → Changed → Type 0
ReachesBy command h c = Reaches (reach_of command) h c.region c.kept

-- all change as they do
pub both-ways : (a b : ℕ) → a + b ≡ b + a
both-ways a b = omega arith

pub command-reaches : (h : Home) → IsProper h → (line : ℕ) (command : Command) (need : Need) → IsProper (put_region (in_region h line command need).region (in_region h line command need).kept h) → ReachesBy command h (in_region h line command need)
command-reaches h proper line (ClearRegion r) need proper' = both-ways (stat_of (in_region h line (ClearRegion r) need).region).sbusy (stat_of h.region).sbusy
command-reaches h proper line (Compact r) need proper' = no-size h (in_region h line (Compact r) need).region (compact-left no_label h.region)
command-reaches h proper line (Alloc r x size site) need proper' =
    by-name h proper x (in_region h line (Alloc r x size site) need).region (in_region h line (Alloc r x size site) need).kept proper'
    (new-leaves (is_name_of x) h x (size_refused size) (region_alloc h.terms h.region (Some x) (site_or_hyphen site) size (is_for_block need))
    (alloc-stays (is_name_of x) (Some x) (name-own x) h.terms h.region (site_or_hyphen site) size (is_for_block need)))
command-reaches h proper line (Align r x size align) need proper' =
    by-name h proper x (in_region h line (Align r x size align) need).region (in_region h line (Align r x size align) need).kept proper'
    (new-leaves (is_name_of x) h x (align_refused h.region size align) (region_align h.terms h.region (Some x) (45 ∷ []) size align (is_for_block need))
    (align-stays (is_name_of x) (Some x) (name-own x) h.terms h.region (45 ∷ []) size align (is_for_block need)))
command-reaches h proper line (Resize r x size may_move) need proper' =
    by-name h proper x (in_region h line (Resize r x size may_move) need).region (in_region h line (Resize r x size may_move) need).kept proper'
    (resize-leaves h proper x size may_move (is_for_block need))
command-reaches h proper line (Free r x) need proper' =
    by-name h proper x (in_region h line (Free r x) need).region (in_region h line (Free r x) need).kept proper' (free-leaves h proper x line)
command-reaches h proper line (WriteBlock r x off bytes) need proper' =
    no-size h (in_region h line (WriteBlock r x off bytes) need).region (write-leaves no_label h x off bytes)
command-reaches h proper line (ReadBlock r x off len) need proper' =
    no-size h (in_region h line (ReadBlock r x off len) need).region
    (on-named no_label h x (find (is_block x) (blocks_of h.region)) (read_block_found h x off len)
    (λ b at. either (Leaves no_label h) ((nat_le 1 len && nat_le len 4096) && nat_le (off + len) b.size) _ (refusal_alone h why.Range) refl refl))
command-reaches h proper line (SizeOf r x) need proper' =
    no-size h (in_region h line (SizeOf r x) need).region (on-named no_label h x (find (is_block x) (blocks_of h.region)) _ (λ b at. refl))
command-reaches h proper line (Poke r x off byte) need proper' =
    no-size h (in_region h line (Poke r x off byte) need).region (poke-leaves no_label h x off byte)
command-reaches h proper line (Check r) need proper' =
    no-size h (in_region h line (Check r) need).region (either (Leaves no_label h) (is_debug h.region) _ (refusal_alone h why.WrongMethod) refl refl)
command-reaches h proper line (Watch r x) need proper' =
    no-size h (in_region h line (Watch r x) need).region (watch-leaves no_label h line x)
command-reaches h proper line (ProfileOf r) need proper' =
    no-size h (in_region h line (ProfileOf r) need).region (either (Leaves no_label h) (is_profile h.region) _ (refusal_alone h why.WrongMethod) refl refl)
command-reaches h proper line command need proper' = refl
