-- Which replies tell that a segment was refused.
use Rattle.vc_base.proofs.Common.{◌≡◌, ℕ, ◌+◌, Bool, true, false, cond, ◌&&◌, List, [], ◌∷◌, length, ℤ, IfSome, nat_le, Some, None, Option, find, refl, ◌∙◌, subst, Block, Done, Outcome, Put, Refused, block_at, segment_at}
use Rattle.vc_model.specs.Outcome as model
use Rattle.vc_region.proofs.Freeing.{free-granted}
use Rattle.vc_region.specs.Region.{Region, blocks_of, region_align, region_alloc, region_free, region_resize, segments_of, watch_at, aligns, is_debug, is_profile}
use Rattle.vc_script.specs.declared.command.Command.{Command}
use Rattle.vc_script.specs.declared.command.Command.TheVariants.{Alloc, Align, Resize, Free, WriteBlock, ReadBlock, SizeOf, AddrOf, SegmentOf, Poke, Check, Watch, ProfileOf}
use Rattle.vc_script.specs.declared.place.Place.{Place}
use Rattle.vc_script.specs.declared.reply.Reply.{Reply}
use Rattle.vc_script.specs.declared.reply.Reply.TheVariants as reply
use Rattle.vc_script.specs.declared.refusal.Refusal.{Refusal}
use Rattle.vc_script.specs.declared.refusal.Refusal.TheVariants as why
use Rattle.vc_script.specs.Needs.{Need}
use Rattle.vc_commands.specs.FreedNames.{FreedNames, freed_line, without_name}
use Rattle.vc_commands.specs.Home.{Changed, Home, Label, refusal_alone}
use Rattle.vc_commands.specs.Audit.{check_in, is_poke, poke_block, poke_byte, poke_in, profile_in, watch_block, watch_in}
use Rattle.vc_commands.specs.Blocks.{free_block_found, free_named, change_by_free, has_label, has_label_room, is_align, is_block, is_size, kept_freed, no_block, align_refused, put_unless_refused, put_in, put_new, site_or_hyphen, size_refused, read_block_found, read_named, resize_block_found, resize_named, size_of_named, with_named, write_block_found, write_named}
use Rattle.vc_commands.specs.RegionCommands.{in_region, is_for_block}
use Rattle.vc_commands.specs.Whole.{addr_in, addr_reply, segment_in, segment_reply}

-- no segment was refused
abbrev pub IsGranted : Reply → Type 0
IsGranted (reply.Refused why.NoSegment) = ⊥
IsGranted (reply.Refused why.NoSegmentForTable) = ⊥
IsGranted (reply.Refused why.NoSegmentForObject) = ⊥
IsGranted told = Unit {0}

-- none was refused for a table or an object
abbrev pub IsPlain : Reply → Type 0
IsPlain (reply.Refused why.NoSegmentForTable) = ⊥
IsPlain (reply.Refused why.NoSegmentForObject) = ⊥
IsPlain told = Unit {0}

pub holds-if : (P : Reply → Type 0) (t : Bool) (a b : Changed) → P a.reply → P b.reply → P (cond t a b).reply
holds-if P true a b p q = p
holds-if P false a b p q = q

pub holds-block : (P : Reply → Type 0) (h : Home) (x : List ℕ) (o : Option (Block Label)) (act : Block Label → Changed) → ((line : Option ℕ) → P (reply.Refused (no_block line))) → ((b : Block Label) → P (act b).reply) → P (with_named h x o act).reply
holds-block P h x None act none some = none (freed_line x h.kept)
holds-block P h x (Some b) act none some = some b

granted-none : (line : Option ℕ) → IsGranted (reply.Refused (no_block line))
granted-none None = tt
granted-none (Some line) = tt

plain-none : (line : Option ℕ) → IsPlain (reply.Refused (no_block line))
plain-none None = tt
plain-none (Some line) = tt

pub granted-write : (h : Home) (x : List ℕ) (off : ℕ) (bytes : List ℕ) → IsGranted (write_named h x off bytes).reply
granted-write h x off bytes =
    holds-block IsGranted h x (find (is_block x) (blocks_of h.region)) (write_block_found h x off bytes) granted-none
    (λ b. holds-if IsGranted (nat_le (off + length bytes) b.size) _ (refusal_alone h why.Range) tt tt)

pub granted-read : (h : Home) (x : List ℕ) (off len : ℕ) → IsGranted (read_named h x off len).reply
granted-read h x off len =
    holds-block IsGranted h x (find (is_block x) (blocks_of h.region)) (read_block_found h x off len) granted-none
    (λ b. holds-if IsGranted ((nat_le 1 len && nat_le len 4096) && nat_le (off + len) b.size) _ (refusal_alone h why.Range) tt tt)

pub granted-size : (h : Home) (x : List ℕ) → IsGranted (size_of_named h x).reply
granted-size h x = holds-block IsGranted h x (find (is_block x) (blocks_of h.region)) _ granted-none (λ b. tt)

granted-freed : (h : Home) (x : List ℕ) (kept : FreedNames) (watch : Option ℕ) (o : Outcome (Region Label)) → (o ≡ Refused model.NoSegment → ⊥) → IsGranted (change_by_free h x kept watch o).reply
granted-freed h x kept watch (Done r) none = tt
granted-freed h x kept watch (Refused model.TooManySegments) none = tt
granted-freed h x kept watch (Refused model.NoSegment) none = absurd (none refl)
granted-freed h x kept watch (Refused model.Fixed) none = tt
granted-freed h x kept watch (Refused model.PoolSize) none = tt
granted-freed h x kept watch (Refused model.NotLast) none = tt
granted-freed h x kept watch (Refused model.WrongMethod) none = tt

pub granted-free : (h : Home) (x : List ℕ) (line : ℕ) → IsGranted (free_named h x line).reply
granted-free h x line =
    holds-block IsGranted h x (find (is_block x) (blocks_of h.region)) (free_block_found h x line) granted-none
    (λ b. granted-freed h x (kept_freed h x line) (watch_at h.region (b.seg, b.off)) (region_free h.region (b.seg, b.off)) (free-granted h.region (b.seg, b.off)))

granted-addr_reply : (o : Option (Block Label × ℕ)) → IsGranted (addr_reply o)
granted-addr_reply None = tt
granted-addr_reply (Some f) = tt

pub granted-addr : (h : Home) (at : Place) → IsGranted (addr_in h at).reply
granted-addr h at = granted-addr_reply (block_at (at.seg, at.off) (blocks_of h.region))

granted-segment_reply : (n : ℕ) (o : Option ℕ) → IsGranted (segment_reply n o)
granted-segment_reply n None = tt
granted-segment_reply n (Some size) = tt

pub granted-segment : (h : Home) (at : Place) → IsGranted (segment_in h at).reply
granted-segment h at = granted-segment_reply at.seg (segment_at (at.seg, at.off) (segments_of h.region))

granted-poke_byte : (h : Home) (x : List ℕ) (off : ℤ) (byte : ℕ) (b : Block Label) → IsGranted (poke_byte h x off byte b).reply
granted-poke_byte h x off byte b = holds-if IsGranted (is_poke b.size off byte) _ (refusal_alone h why.Range) tt tt

pub granted-poke : (h : Home) (x : List ℕ) (off : ℤ) (byte : ℕ) → IsGranted (poke_in h x off byte).reply
granted-poke h x off byte =
    holds-block IsGranted h x (find (is_block x) (blocks_of h.region)) (poke_block h x off byte) granted-none
    (λ b. holds-if IsGranted (is_debug h.region) (poke_byte h x off byte b) (refusal_alone h why.WrongMethod) (granted-poke_byte h x off byte b) tt)

pub granted-watch : (h : Home) (line : ℕ) (x : List ℕ) → IsGranted (watch_in h line x).reply
granted-watch h line x =
    holds-block IsGranted h x (find (is_block x) (blocks_of h.region)) (watch_block h line x) granted-none
    (λ b. holds-if IsGranted (is_debug h.region) _ (refusal_alone h why.WrongMethod) tt tt)

pub granted-check : (h : Home) → IsGranted (check_in h).reply
granted-check h = holds-if IsGranted (is_debug h.region) _ (refusal_alone h why.WrongMethod) tt tt

pub granted-profile : (h : Home) → IsGranted (profile_in h).reply
granted-profile h = holds-if IsGranted (is_profile h.region) _ (refusal_alone h why.WrongMethod) tt tt

plain-put : (h : Home) (x : List ℕ) (kept : FreedNames) (watch : Option ℕ) (o : Outcome (Put (Region Label))) → IsPlain (put_in h x kept watch o).reply
plain-put h x kept watch (Done p) = tt
plain-put h x kept watch (Refused model.TooManySegments) = tt
plain-put h x kept watch (Refused model.NoSegment) = tt
plain-put h x kept watch (Refused model.Fixed) = tt
plain-put h x kept watch (Refused model.PoolSize) = tt
plain-put h x kept watch (Refused model.NotLast) = tt
plain-put h x kept watch (Refused model.WrongMethod) = tt

plain-sized : (legal : Bool) → IfSome (let o : Option Refusal = cond legal None (Some why.Size) in o) (λ w. IsPlain (reply.Refused w))
plain-sized true = tt
plain-sized false = tt

plain-aligned : (aligned legal : Bool) → IfSome (let o : Option Refusal = cond aligned (cond legal None (Some why.Size)) (Some why.WrongMethod) in o) (λ w. IsPlain (reply.Refused w))
plain-aligned true legal = plain-sized legal
plain-aligned false legal = tt

plain-by : (h : Home) (x : List ℕ) (words : Option Refusal) (o : Outcome (Put (Region Label))) → IfSome words (λ w. IsPlain (reply.Refused w)) → IsPlain (put_unless_refused h x words o).reply
plain-by h x (Some refusal) o plain = plain
plain-by h x None o plain =
    holds-if IsPlain (has_label_room h x) (put_in h x (without_name x h.kept) None o) (refusal_alone h why.TooManyBlocks) (plain-put h x (without_name x h.kept) None o) tt

plain-new : (h : Home) (x : List ℕ) (words : Option Refusal) (o : Outcome (Put (Region Label))) → IfSome words (λ w. IsPlain (reply.Refused w)) → IsPlain (put_new h x words o).reply
plain-new h x words o plain =
    holds-if IsPlain (has_label x h.region) (refusal_alone h why.BlockExists) (put_unless_refused h x words o) tt (plain-by h x words o plain)

plain-resize : (h : Home) (x : List ℕ) (size : ℕ) (may_move refused : Bool) → IsPlain (resize_named h x size may_move refused).reply
plain-resize h x size may_move refused =
    holds-block IsPlain h x (find (is_block x) (blocks_of h.region)) (resize_block_found h x size may_move refused) plain-none
    (λ b. holds-if IsPlain (is_size size) _ (refusal_alone h why.Size) (plain-put h x h.kept (watch_at h.region (b.seg, b.off)) (region_resize h.terms h.region (b.seg, b.off) size may_move refused)) tt)

plain-refusal : (w : Refusal) → IsGranted (reply.Refused w) → IsPlain (reply.Refused w)
plain-refusal why.NoSegmentForTable g = absurd g
plain-refusal why.NoSegmentForObject g = absurd g
plain-refusal w g = tt

plain-granted : (told : Reply) → IsGranted told → IsPlain told
plain-granted (reply.Refused w) g = plain-refusal w g
plain-granted told g = tt

-- a command in a region tells of no table and no object
pub plain-region : (h : Home) (line : ℕ) (command : Command) (need : Need) → IsPlain (in_region h line command need).reply
plain-region h line (Alloc r x size site) need = plain-new h x (size_refused size) (region_alloc h.terms h.region (Some x) (site_or_hyphen site) size (is_for_block need)) (plain-sized (is_size size))
plain-region h line (Align r x size align) need = plain-new h x (align_refused h.region size align) (region_align h.terms h.region (Some x) (45 ∷ []) size align (is_for_block need)) (plain-aligned (aligns h.region) (is_size size && is_align align))
plain-region h line (Resize r x size may_move) need = plain-resize h x size may_move (is_for_block need)
plain-region h line (Free r x) need = plain-granted (free_named h x line).reply (granted-free h x line)
plain-region h line (WriteBlock r x off bytes) need = plain-granted (write_named h x off bytes).reply (granted-write h x off bytes)
plain-region h line (ReadBlock r x off len) need = plain-granted (read_named h x off len).reply (granted-read h x off len)
plain-region h line (SizeOf r x) need = plain-granted (size_of_named h x).reply (granted-size h x)
plain-region h line (AddrOf r at) need = plain-granted (addr_in h at).reply (granted-addr h at)
plain-region h line (SegmentOf r at) need = plain-granted (segment_in h at).reply (granted-segment h at)
plain-region h line (Poke r x off byte) need = plain-granted (poke_in h x off byte).reply (granted-poke h x off byte)
plain-region h line (Check r) need = plain-granted (check_in h).reply (granted-check h)
plain-region h line (Watch r x) need = plain-granted (watch_in h line x).reply (granted-watch h line x)
plain-region h line (ProfileOf r) need = plain-granted (profile_in h).reply (granted-profile h)
plain-region h line command need = tt

-- a reply that the definitions give is no refusal of a segment
pub not_refused : (d : Changed) (told : Reply) → IsGranted d.reply → d.reply ≡ told → told ≡ reply.Refused why.NoSegment → ⊥
not_refused d told granted e is = subst IsGranted (e ∙ is) granted
