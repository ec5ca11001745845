-- The commands on a debug region, and that on a profile region: where the region has another method, each is refused.
use Rattle.std.specs.Prelude.{ℕ, ◌+◌, ℤ, pos, negsuc, List, Option, Bool, int_le, int_lt, nat_le, option_map, ◌&&◌, if◌then◌else◌}
use Rattle.std.specs.List.{filter_map}
use Rattle.vc_model.specs.Layout.{Block}
use Rattle.vc_region.specs.Region.{damaged_in, is_debug, is_profile, region_poke, region_watch, rows_in, watch_at}
use Rattle.vc_script.specs.declared.reply.Reply.TheVariants.{Poked, Watched, Damaged, Rows}
use Rattle.vc_script.specs.declared.refusal.Refusal.TheVariants as why
use Rattle.vc_commands.specs.Blocks.{on_block}
use Rattle.vc_commands.specs.Home.{Changed, Home, Label, changed_to, reply_alone, refusal_alone}

-- what is done where the region's method allows it
abbrev pub where_allowed : Home → Bool → Changed → Changed
where_allowed h allowed c = if allowed then c else refusal_alone h why.WrongMethod

-- a byte that is put at an offset in the block's bytes or in its guards
abbrev pub is_poke : ℕ → ℤ → ℕ → Bool
is_poke size off byte = (int_le (negsuc 31) off && int_lt off (pos (size + 16))) && nat_le byte 255

abbrev pub poke_byte : Home → List ℕ → ℤ → ℕ → Block Label → Changed
poke_byte h x off byte b =
    if is_poke b.size off byte
    then changed_to h (region_poke h.region (b.seg, b.off) off byte) (Poked x (watch_at h.region (b.seg, b.off)))
    else refusal_alone h why.Range

abbrev pub poke_block : Home → List ℕ → ℤ → ℕ → Block Label → Changed
poke_block h x off byte b = where_allowed h (is_debug h.region) (poke_byte h x off byte b)

-- one byte is put into a block or its guards; the watch that is told is that of before
abbrev pub poke_in : Home → List ℕ → ℤ → ℕ → Changed
poke_in h x off byte = on_block h x (poke_block h x off byte)

abbrev pub watch_block : Home → ℕ → List ℕ → Block Label → Changed
watch_block h line x b =
    where_allowed h (is_debug h.region) (changed_to h (region_watch h.region (b.seg, b.off) line) (Watched x))

-- a block is watched with a line
abbrev pub watch_in : Home → ℕ → List ℕ → Changed
watch_in h line x = on_block h x (watch_block h line x)

-- the name of a damaged block, where it has one, and the offset of the damage
abbrev pub damage_item : Block Label × ℤ → Option (List ℕ × ℤ)
damage_item f = option_map (λ x. (x, f.1)) f.0.label

-- the damaged blocks by address; each block of a debug region has a name
abbrev pub check_in : Home → Changed
check_in h = where_allowed h (is_debug h.region) (reply_alone h (Damaged (filter_map damage_item (damaged_in h.region))))

-- the counts of each site
abbrev pub profile_in : Home → Changed
profile_in h = where_allowed h (is_profile h.region) (reply_alone h (Rows (rows_in h.region)))
