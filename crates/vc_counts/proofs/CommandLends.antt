-- What a command in a region lends.
use Rattle.vc_base.proofs.Common.{ℕ, ◌+◌, Bool, ◌&&◌, List, [], ◌∷◌, length, ℤ, nat_le, Some, None, Option, find, refl, Block, Done, Outcome, Put, Refused}
use Rattle.vc_region.proofs.Clearing.{written-segments, cleared-segments}
use Rattle.vc_objects.specs.Objects.{option_list}
use Rattle.vc_region.specs.Region.{Region, blocks_of, is_debug, is_profile, region_align, region_alloc, region_free, region_resize, region_write, segments_of, watch_at}
use Rattle.vc_script.specs.declared.command.Command.{Command}
use Rattle.vc_script.specs.declared.command.Command.TheVariants.{ClearRegion, Compact, Alloc, Align, Resize, Free, WriteBlock, ReadBlock, SizeOf, Poke, Check, Watch, ProfileOf}
use Rattle.vc_script.specs.declared.refusal.Refusal.{Refusal}
use Rattle.vc_script.specs.declared.refusal.Refusal.TheVariants as why
use Rattle.vc_script.specs.Needs.{Need}
use Rattle.vc_commands.specs.Audit.{is_poke, poke_block, poke_byte, poke_in, watch_block, watch_in}
use Rattle.vc_commands.specs.Blocks.{align_refused, free_block_found, free_named, change_by_free, has_label, has_label_room, is_block, is_size, kept_freed, put_unless_refused, put_in, put_new, read_block_found, read_named, resize_block_found, resize_named, site_or_hyphen, size_refused, with_named, write_block_found, write_named}
use Rattle.vc_commands.specs.Home.{Changed, Home, Label, refusal_alone}
use Rattle.vc_commands.specs.FreedNames.{FreedNames, without_name}
use Rattle.vc_commands.specs.RegionCommands.{in_region, is_for_block}
use Rattle.vc_counts.proofs.CallLends.{LeavesIn, align-puts, alloc-puts, compact-lends, free-leaves, poke-leaves, resize-puts, watch-leaves}
use Rattle.vc_counts.proofs.GrantedSegments.{Lends, lends-more, lends-same}
use Rattle.vc_counts.proofs.RegionLends.{PutsIn, either}

-- from a region to what a command leaves of it
abbrev pub Changes : Home → Changed → Type 0
Changes h c = Lends (segments_of h.region) (segments_of c.region) (option_list c.granted)

-- nothing changes, or something is told
same : (h : Home) → Lends (segments_of h.region) (segments_of h.region) []
same h = lends-same (segments_of h.region) (segments_of h.region) refl

on-named : (h : Home) (x : List ℕ) (o : Option (Block Label)) (act : Block Label → Changed) → ((b : Block Label) → Changes h (act b)) → Changes h (with_named h x o act)
on-named h x None act each = same h
on-named h x (Some b) act each = each b

put-changes : (h : Home) (x : List ℕ) (kept : FreedNames) (watch : Option ℕ) (o : Outcome (Put (Region Label))) → PutsIn (segments_of h.region) o → Changes h (put_in h x kept watch o)
put-changes h x kept watch (Done p) e = lends-more (segments_of h.region) (segments_of p.region) (option_list p.granted) e
put-changes h x kept watch (Refused fault) e = same h

by-changes : (h : Home) (x : List ℕ) (words : Option Refusal) (o : Outcome (Put (Region Label))) → PutsIn (segments_of h.region) o → Changes h (put_unless_refused h x words o)
by-changes h x (Some refusal) o e = same h
by-changes h x None o e =
    either (Changes h) (has_label_room h x) (put_in h x (without_name x h.kept) None o) (refusal_alone h why.TooManyBlocks)
    (put-changes h x (without_name x h.kept) None o e) (same h)

new-changes : (h : Home) (x : List ℕ) (words : Option Refusal) (o : Outcome (Put (Region Label))) → PutsIn (segments_of h.region) o → Changes h (put_new h x words o)
new-changes h x words o e =
    either (Changes h) (has_label x h.region) (refusal_alone h why.BlockExists) (put_unless_refused h x words o) (same h) (by-changes h x words o e)

freed-changes : (h : Home) (x : List ℕ) (kept : FreedNames) (watch : Option ℕ) (o : Outcome (Region Label)) → LeavesIn (segments_of h.region) o → Changes h (change_by_free h x kept watch o)
freed-changes h x kept watch (Done r) e = lends-same (segments_of h.region) (segments_of r) e
freed-changes h x kept watch (Refused fault) e = same h

resize-changes : (h : Home) (x : List ℕ) (size : ℕ) (may_move refused : Bool) → Changes h (resize_named h x size may_move refused)
resize-changes h x size may_move refused =
    on-named h x (find (is_block x) (blocks_of h.region)) (resize_block_found h x size may_move refused)
    (λ b. either (Changes h) (is_size size) _ (refusal_alone h why.Size)
    (put-changes h x h.kept (watch_at h.region (b.seg, b.off)) (region_resize h.terms h.region (b.seg, b.off) size may_move refused) (resize-puts h.terms h.region (b.seg, b.off) size may_move refused))
    (same h))

free-changes : (h : Home) (x : List ℕ) (line : ℕ) → Changes h (free_named h x line)
free-changes h x line =
    on-named h x (find (is_block x) (blocks_of h.region)) (free_block_found h x line)
    (λ b. freed-changes h x (kept_freed h x line) (watch_at h.region (b.seg, b.off)) (region_free h.region (b.seg, b.off)) (free-leaves h.region (b.seg, b.off)))

write-changes : (h : Home) (x : List ℕ) (off : ℕ) (bytes : List ℕ) → Changes h (write_named h x off bytes)
write-changes h x off bytes =
    on-named h x (find (is_block x) (blocks_of h.region)) (write_block_found h x off bytes)
    (λ b. either (Changes h) (nat_le (off + length bytes) b.size) _ (refusal_alone h why.Range)
    (lends-same (segments_of h.region) (segments_of (region_write h.region (b.seg, b.off) off bytes)) (written-segments h.region (b.seg, b.off) off bytes))
    (same h))

read-changes : (h : Home) (x : List ℕ) (off len : ℕ) → Changes h (read_named h x off len)
read-changes h x off len =
    on-named h x (find (is_block x) (blocks_of h.region)) (read_block_found h x off len)
    (λ b. either (Changes h) ((nat_le 1 len && nat_le len 4096) && nat_le (off + len) b.size) _ (refusal_alone h why.Range) (same h) (same h))

poked-changes : (h : Home) (x : List ℕ) (off : ℤ) (byte : ℕ) (b : Block Label) → Changes h (poke_byte h x off byte b)
poked-changes h x off byte b =
    either (Changes h) (is_poke b.size off byte) _ (refusal_alone h why.Range)
    (lends-same (segments_of h.region) _ (poke-leaves h.region (b.seg, b.off) off byte)) (same h)

poke-changes : (h : Home) (x : List ℕ) (off : ℤ) (byte : ℕ) → Changes h (poke_in h x off byte)
poke-changes h x off byte =
    on-named h x (find (is_block x) (blocks_of h.region)) (poke_block h x off byte)
    (λ b. either (Changes h) (is_debug h.region) (poke_byte h x off byte b) (refusal_alone h why.WrongMethod) (poked-changes h x off byte b) (same h))

watch-changes : (h : Home) (line : ℕ) (x : List ℕ) → Changes h (watch_in h line x)
watch-changes h line x =
    on-named h x (find (is_block x) (blocks_of h.region)) (watch_block h line x)
    (λ b. either (Changes h) (is_debug h.region) _ (refusal_alone h why.WrongMethod)
    (lends-same (segments_of h.region) _ (watch-leaves h.region (b.seg, b.off) line)) (same h))

-- a command in a region changes its segments by what it is granted
pub command-changes : (h : Home) (line : ℕ) (command : Command) (need : Need) → Changes h (in_region h line command need)
command-changes h line (ClearRegion r) need = lends-same (segments_of h.region) _ (cleared-segments h.region)
command-changes h line (Compact r) need = compact-lends h.region
command-changes h line (Alloc r x size site) need =
    new-changes h x (size_refused size) (region_alloc h.terms h.region (Some x) (site_or_hyphen site) size (is_for_block need))
    (alloc-puts h.terms h.region (Some x) (site_or_hyphen site) size (is_for_block need))
command-changes h line (Align r x size align) need =
    new-changes h x (align_refused h.region size align) (region_align h.terms h.region (Some x) (45 ∷ []) size align (is_for_block need))
    (align-puts h.terms h.region (Some x) (45 ∷ []) size align (is_for_block need))
command-changes h line (Resize r x size may_move) need = resize-changes h x size may_move (is_for_block need)
command-changes h line (Free r x) need = free-changes h x line
command-changes h line (WriteBlock r x off bytes) need = write-changes h x off bytes
command-changes h line (ReadBlock r x off len) need = read-changes h x off len
command-changes h line (SizeOf r x) need = on-named h x (find (is_block x) (blocks_of h.region)) _ (λ b. same h)
command-changes h line (Poke r x off byte) need = poke-changes h x off byte
command-changes h line (Check r) need = either (Changes h) (is_debug h.region) _ (refusal_alone h why.WrongMethod) (same h) (same h)
command-changes h line (Watch r x) need = watch-changes h line x
command-changes h line (ProfileOf r) need = either (Changes h) (is_profile h.region) _ (refusal_alone h why.WrongMethod) (same h) (same h)
command-changes h line command need = same h
