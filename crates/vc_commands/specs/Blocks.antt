-- The commands on the blocks of a region: each gives the first refusal that applies, else the region after it and the reply.
use Rattle.std.specs.Prelude.{ℕ, ◌+◌, List, [], ◌∷◌, Option, Some, None, Bool, false, count_by, find, is_some, length, take, drop, nat_lt, nat_le, ◌==◌, ◌&&◌, ◌||◌, if◌then◌else◌}
use Rattle.std.specs.List.{list_any}
use Rattle.std.specs.Str.{bytes_eq}
use Rattle.vc_model.specs.Layout.{Block}
use Rattle.vc_model.specs.Outcome as model
use Rattle.vc_model.specs.Outcome.{Fault, Outcome, Done, Refused, Put}
use Rattle.vc_region.specs.Region.{Region, blocks_of, region_align, region_alloc, region_free, region_resize, region_write, aligns, keeps_freed, watch_at}
use Rattle.vc_seg.specs.declared.fault.RegionFault.{RegionFault}
use Rattle.vc_seg.specs.declared.fault.RegionFault.TheVariants as code
use Rattle.vc_script.specs.declared.reply.Reply.{Reply}
use Rattle.vc_script.specs.declared.reply.Reply.TheVariants.{At, Freed, Written, Hex, Size}
use Rattle.vc_script.specs.declared.refusal.Refusal.{Refusal}
use Rattle.vc_script.specs.declared.refusal.Refusal.TheVariants as why
use Rattle.vc_commands.specs.FreedNames.{FreedNames, freed_line, with_line, without_name}
use Rattle.vc_commands.specs.Home.{Changed, Home, Label, changed_to, reply_alone, refusal_alone}

-- whether a label is that name
abbrev pub is_name_of : List ℕ → Label → Bool
is_name_of x None = false
is_name_of x (Some y) = bytes_eq y x

abbrev pub is_block : List ℕ → Block Label → Bool
is_block x b = is_name_of x b.label

abbrev pub has_label : List ℕ → Region Label → Bool
has_label x r = list_any (is_block x) (blocks_of r)

-- how many blocks have a name
abbrev pub label_count : Region Label → ℕ
label_count r = count_by (λ b. is_some b.label) (blocks_of r)

-- the refusal where no block has the name, by the line with which the name is kept
abbrev pub no_block : Option ℕ → Refusal
no_block None = why.NoBlock
no_block (Some line) = why.FreedAt line

-- what is done with the block of that name
abbrev pub with_named : Home → List ℕ → Option (Block Label) → (Block Label → Changed) → Changed
with_named h x None act = refusal_alone h (no_block (freed_line x h.kept))
with_named h x (Some b) act = act b

abbrev pub on_block : Home → List ℕ → (Block Label → Changed) → Changed
on_block h x act = with_named h x (find (is_block x) (blocks_of h.region)) act

-- a script's sizes are from 1 to 16,777,216 bytes
abbrev pub is_size : ℕ → Bool
is_size size = nat_le 1 size && nat_le size 16777216

-- a script's alignments are the powers of two from 32 to 4,096
abbrev pub is_align : ℕ → Bool
is_align align = list_any (λ n. align == n) (32 ∷ 64 ∷ 128 ∷ 256 ∷ 512 ∷ 1024 ∷ 2048 ∷ 4096 ∷ [])

-- a region has at most so many labels, the names that it keeps among them
abbrev pub label_limit : ℕ
label_limit = 1000000

-- whether there is room for that name: one that is kept may be taken again
abbrev pub has_label_room : Home → List ℕ → Bool
has_label_room h x = is_some (freed_line x h.kept) || nat_lt (label_count h.region + length h.kept) label_limit

-- the reply that tells a block's place, and the line of its watch
abbrev pub at_place : List ℕ → ℕ × ℕ → Option ℕ → Reply
at_place x at watch = At x (record { seg = at.0; off = at.1 }) watch

-- the refusal of a script for each of a region's
abbrev pub script_refusal : Fault → Refusal
script_refusal model.TooManySegments = why.TooManySegments
script_refusal model.NoSegment = why.NoSegment
script_refusal model.Fixed = why.CannotGrow
script_refusal model.PoolSize = why.PoolSize
script_refusal model.NotLast = why.NotLast
script_refusal model.WrongMethod = why.WrongMethod

-- the fault of the definitions that a region's fault is; want of memory is none
abbrev pub fault_of : RegionFault → Option Fault
fault_of code.TooManySegments = Some model.TooManySegments
fault_of code.NoSegment = Some model.NoSegment
fault_of code.OutOfMemory = None
fault_of code.Fixed = Some model.Fixed
fault_of code.PoolSize = Some model.PoolSize
fault_of code.NotLast = Some model.NotLast
fault_of code.WrongMethod = Some model.WrongMethod

-- what a call gives that puts a block or keeps it, where these names are kept then and this is the block's watch
abbrev pub put_in : Home → List ℕ → FreedNames → Option ℕ → Outcome (Put (Region Label)) → Changed
put_in h x kept watch (Done p) = record { region = p.region; kept = kept; reply = at_place x p.at watch; granted = p.granted }
put_in h x kept watch (Refused fault) = refusal_alone h (script_refusal fault)

-- a new block whose name no block has
abbrev pub put_unless_refused : Home → List ℕ → Option Refusal → Outcome (Put (Region Label)) → Changed
put_unless_refused h x (Some refusal) outcome = refusal_alone h refusal
put_unless_refused h x None outcome =
    if has_label_room h x then put_in h x (without_name x h.kept) None outcome else refusal_alone h why.TooManyBlocks

-- a new block needs a name that no block has, words that are not refused, and room for the name; the name is kept as freed no more
abbrev pub put_new : Home → List ℕ → Option Refusal → Outcome (Put (Region Label)) → Changed
put_new h x words outcome = if has_label x h.region then refusal_alone h why.BlockExists else put_unless_refused h x words outcome

-- the refusal of the size of a new block
abbrev pub size_refused : ℕ → Option Refusal
size_refused size = if is_size size then None else Some why.Size

-- and of an alignment besides, in a region whose method aligns blocks
abbrev pub align_refused : {L : Type 0} → Region L → ℕ → ℕ → Option Refusal
align_refused r size align =
    if aligns r then (if is_size size && is_align align then None else Some why.Size) else Some why.WrongMethod

-- the site of an allocation; a hyphen where the command has none
abbrev pub site_or_hyphen : Option (List ℕ) → List ℕ
site_or_hyphen None = 45 ∷ []
site_or_hyphen (Some site) = site

-- a block is allocated; whether a segment is refused is the one free choice
abbrev pub alloc_in : Home → List ℕ → Option (List ℕ) → ℕ → Bool → Changed
alloc_in h x site size not_lent =
    put_new h x (size_refused size) (region_alloc h.terms h.region (Some x) (site_or_hyphen site) size not_lent)

-- and at an offset that the alignment divides
abbrev pub align_in : Home → List ℕ → ℕ → ℕ → Bool → Changed
align_in h x size align not_lent =
    put_new h x (align_refused h.region size align) (region_align h.terms h.region (Some x) (45 ∷ []) size align not_lent)

-- the names that are kept once a block of that name is freed at a line
abbrev pub kept_freed : Home → List ℕ → ℕ → FreedNames
kept_freed h x line = if keeps_freed h.region then with_line x line h.kept else h.kept

abbrev pub change_by_free : Home → List ℕ → FreedNames → Option ℕ → Outcome (Region Label) → Changed
change_by_free h x kept watch (Done region) = record { region = region; kept = kept; reply = Freed x watch; granted = None }
change_by_free h x kept watch (Refused fault) = refusal_alone h (script_refusal fault)

abbrev pub free_block_found : Home → List ℕ → ℕ → Block Label → Changed
free_block_found h x line b =
    change_by_free h x (kept_freed h x line) (watch_at h.region (b.seg, b.off)) (region_free h.region (b.seg, b.off))

-- a block is freed at a line
abbrev pub free_named : Home → List ℕ → ℕ → Changed
free_named h x line = on_block h x (free_block_found h x line)

abbrev pub resize_block_found : Home → List ℕ → ℕ → Bool → Bool → Block Label → Changed
resize_block_found h x size may_move not_lent b =
    if is_size size
    then put_in h x h.kept (watch_at h.region (b.seg, b.off))
    (region_resize h.terms h.region (b.seg, b.off) size may_move not_lent)
    else refusal_alone h why.Size

-- a block gets another size, where it is or where it moves to
abbrev pub resize_named : Home → List ℕ → ℕ → Bool → Bool → Changed
resize_named h x size may_move not_lent = on_block h x (resize_block_found h x size may_move not_lent)

abbrev pub write_block_found : Home → List ℕ → ℕ → List ℕ → Block Label → Changed
write_block_found h x off bytes b =
    if nat_le (off + length bytes) b.size
    then changed_to h (region_write h.region (b.seg, b.off) off bytes)
    (Written x (length bytes) (watch_at h.region (b.seg, b.off)))
    else refusal_alone h why.Range

-- bytes are written into a block, from an offset on
abbrev pub write_named : Home → List ℕ → ℕ → List ℕ → Changed
write_named h x off bytes = on_block h x (write_block_found h x off bytes)

abbrev pub read_block_found : Home → List ℕ → ℕ → ℕ → Block Label → Changed
read_block_found h x off len b =
    if (nat_le 1 len && nat_le len 4096) && nat_le (off + len) b.size
    then reply_alone h (Hex x (take len (drop off b.bytes)))
    else refusal_alone h why.Range

-- 1 to 4,096 bytes of a block, from an offset on
abbrev pub read_named : Home → List ℕ → ℕ → ℕ → Changed
read_named h x off len = on_block h x (read_block_found h x off len)

abbrev pub size_of_named : Home → List ℕ → Changed
size_of_named h x = on_block h x (λ b. reply_alone h (Size x b.size))
