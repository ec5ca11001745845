-- What an open region is: its discipline, its method with tags for labels, its cells, and the names of the tags in use.
use Rattle.std.specs.Prelude.{◌≡◌, ℕ, ◌-◌, ◌≤◌, List, [], Some, length, take, count_by, nat_lt, is_some, false}
use Rattle.std.specs.List.{AllByRecursion}
use Rattle.vc_base.specs.Cells.{Blocks}
use Rattle.vc_base.specs.declared.addr.Addr.{Addr}
use Rattle.vc_model.specs.Discipline.{Discipline, HasOut, Kept, Unserved}
use Rattle.vc_model.specs.Layout.{Block, address_of, place_of_block}
use Rattle.vc_model.specs.Addr.{place_of}
use Rattle.vc_region.specs.Cells.{no_cells_at_all}
use Rattle.vc_region.specs.Region.{Region, blocks_of, keeps_freed, region_need, region_with_labels, segments_of}
use Rattle.vc_model.specs.Sound.{HaveOwnPlaces}
use Rattle.slab.specs.Slab.{slab_len}
use Rattle.vc_commands.specs.declared.region.labels.Label.{Label}
use Rattle.vc_commands.specs.declared.region.labels.Labels.{Labels}
use Rattle.vc_commands.specs.Labels.{AreLabels, kept_of, label_at, name_of_tag, tag_of}
use Rattle.vc_commands.specs.Home.{Home}
use Rattle.vc_commands.specs.Blocks.{has_label}
use Rattle.vc_script.specs.declared.command.Command.{Command}
use Rattle.vc_script.specs.declared.command.Command.TheVariants.{ClearRegion}

-- a region that is open: its discipline, what it is by its method with tags for labels but for the bytes in its cells, its cells, and the names of the tags in use
pub record Held : Type 0 where
  pub name : List ℕ
  pub place : ℕ
  pub disc : Discipline
  pub region : Region ℕ
  pub cells : Blocks
  pub labels : Labels

-- the region of the session that it stands for
abbrev pub home_of : Held → Home
home_of h =
    record {
      name = h.name;
      place = h.place;
      terms = h.disc.terms;
      region = region_with_labels (name_of_tag h.labels) h.region;
      kept = kept_of h.labels;
    }

-- a block that has a tag is the live one of that tag
pub record IsLive (labels : Labels) (b : Block ℕ) : Type 0 where
  pub label : Label
  pub here : label_at labels b.label ≡ Some label
  pub at : label.at.0 ≡ address_of b
  pub place : place_of label.at.0 ≡ place_of_block b

-- how many blocks have a tag
abbrev pub tag_count : List (Block ℕ) → ℕ
tag_count blocks = count_by (λ b. nat_lt 0 b.label) blocks

-- the live names are those of the blocks that have one, and each block has a place of its own; none is kept as freed where the region keeps none
pub record AreLabelsOf (region : Region ℕ) (labels : Labels) : Type 0 where
  pub agree : AreLabels labels
  pub count : tag_count (blocks_of region) ≡ slab_len labels.by_tag
  pub live : AllByRecursion (λ b. 1 ≤ b.label → IsLive labels b) (blocks_of region)
  pub known : (x : List ℕ) → is_some (tag_of labels x) ≡ has_label x (region_with_labels (name_of_tag labels) region)
  pub places : HaveOwnPlaces (blocks_of region)
  pub none : keeps_freed region ≡ false → kept_of labels ≡ []

-- the block of a name has a tag, whose label tells the block's address
pub record HasName (region : Region ℕ) (labels : Labels) (x : List ℕ) (addr : Addr) : Type 0 where
  pub names : AreLabelsOf region labels
  pub tag : ℕ
  pub named : tag_of labels x ≡ Some tag
  pub there : label_at labels tag ≡ Some (record { name = x; at = addr })

-- what is out of a discipline without segments that are the last of those
abbrev pub out_without : Discipline → List (ℕ × ℕ) → List (ℕ × ℕ)
out_without d segments = take (length d.out - length segments) d.out

-- a region after a change of its lists: its discipline keeps what was out before it, and its cells stay
pub record IsChange (before after : Held) : Type 0 where
  pub name : after.name ≡ before.name
  pub place : after.place ≡ before.place
  pub kept : Kept before.disc after.disc
  pub lent : HasOut after.disc (segments_of after.region)
  pub out : out_without after.disc (segments_of after.region) ≡ out_without before.disc (segments_of before.region)
  pub names : AreLabelsOf after.region after.labels
  pub cells : after.cells ≡ before.cells

-- what a command leaves of a region's cells: clearing it leaves none
abbrev pub cells_left : Command → Blocks → Blocks
cells_left (ClearRegion r) cells = no_cells_at_all
cells_left command cells = cells

-- a region with the cells that a command leaves
abbrev pub left_by : Command → Held → Held
left_by command h = record h { cells = cells_left command h.cells }

-- for a block of that size and alignment a region asked its discipline for a segment, and was refused it
abbrev pub LacksSegment : Held → Held → ℕ × ℕ → Type 0
LacksSegment before after asked =
    Unserved before.disc after.disc (region_need before.disc.terms before.region asked.0 asked.1)
