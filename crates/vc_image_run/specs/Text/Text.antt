-- What the commands that look at a best region and its dictionaries print of them.
use Rattle.std.specs.Prelude.{ℕ, List, ◌∷◌, Some, None, decimal, map, ◌==◌, if◌then◌else◌}
use Rattle.vc_model.specs.Layout.{Block, Layout, relabel_block}
use Rattle.vc_model.specs.Walk.{by_address, by_number}
use Rattle.vc_base.specs.Cells.{Blocks}
use Rattle.vc_seg.specs.Stat.{layout_stat}
use Rattle.vc_dtdisc.specs.Objects.{bytes_of}
use Rattle.vc_dtdisc.specs.Rules.{Rules}
use Rattle.vc_dict.specs.declared.dict.Dict.{Dict}
use Rattle.vc_best.specs.Cells.{cells_of}
use Rattle.vc_objects.specs.Parts.{IsWhole, dictionary_of}
use Rattle.vc_script.specs.Print.{text}
use Rattle.vc_script.specs.declared.place.Place.{Place}
use Rattle.vc_script.specs.declared.reply.Reply.{Reply}
use Rattle.vc_script.specs.declared.reply.Reply.TheVariants.{BlockList, Objects, SegmentList, Stats}
use Rattle.vc_commands.specs.Home.{Label}
use Rattle.vc_commands.specs.Whole.{item_of}

-- a tag in place of a name: its number, and none for 0, that of a block without a label
abbrev pub label_of : ℕ → Label
label_of tag = if tag == 0 then None else Some (decimal tag)

-- the blocks by address, as `blocks` tells them
abbrev pub items_of : List (Block ℕ) → List (Label × Place × ℕ)
items_of blocks = map (λ b. item_of (relabel_block label_of b)) (by_address blocks)

-- the objects of a dictionary in order, as `walk` tells them
abbrev pub walked_objects : Blocks → Dict → Reply
walked_objects cells dict = Objects (map bytes_of (dictionary_of dict cells).objects)

-- the numbers of a region, its segments by number, its blocks by address, and the objects of each dictionary
abbrev pub replies_of : Layout ℕ → List Dict → List Reply
replies_of r dicts =
    Stats (layout_stat r) ∷ SegmentList (by_number r.segments) ∷ BlockList (items_of r.blocks)
    ∷ map (walked_objects (cells_of r.blocks)) dicts

-- their lines
abbrev pub image_text : Layout ℕ → List Dict → List ℕ
image_text r dicts = text (replies_of r dicts)

-- a dictionary is whole over some blocks by the rules of some kind
pub record IsWholeInCells (cells : Blocks) (dict : Dict) : Type 0 where
  pub rules : Rules
  pub whole : IsWhole rules dict cells
