-- Blocks that have tags and no names, and the names that are made of their tags.
use Rattle.std.specs.Prelude.{◌≡◌, ◌≢◌, ℕ, ◌-◌, ◌≤◌, List, [], ◌∷◌, ◌++◌, Option, Some, None, Bool, true, codes, decimal, find, is_some, length, not, nat_le, option_map, slice_index_or, ◌==◌, ◌&&◌, ◌||◌, if◌then◌else◌}
use Rattle.std.specs.List.{list_any}
use Rattle.std.specs.Option.{unwrap_or}
use Rattle.vc_base.specs.declared.addr.Addr.{Addr}
use Rattle.vc_model.specs.Layout.{Block, address_of}
use Rattle.vc_commands.specs.declared.region.labels.Label.{Label as Live}
use Rattle.vc_commands.specs.declared.region.labels.Labels.{Labels}
use Rattle.vc_commands.specs.Blocks.{label_limit}
use Rattle.vc_commands.specs.Home.{Label}
use Rattle.vc_commands.specs.Labels.{AreLabels, kept_of, label_at}

-- the letter `b` and a tag in decimal digits
abbrev pub text_by_tag : ℕ → List ℕ
text_by_tag tag = codes "b" ++ decimal tag

-- the name of a block of that tag where no name is known; 0 is the tag of a block without a label
abbrev pub name_by_tag : ℕ → Label
name_by_tag tag = if tag == 0 then None else Some (text_by_tag tag)

-- whether a block has that tag
abbrev pub has_tag : ℕ → Block ℕ → Bool
has_tag tag b = b.label == tag

-- whether a tag is of no label, or none of the others' and at most as great as a region has labels
abbrev pub is_own_tag : ℕ → List (Block ℕ) → Bool
is_own_tag tag others = tag == 0 || (nat_le tag label_limit && not (list_any (has_tag tag) others))

-- whether no two blocks have one tag, and none is above the most labels that a region has
abbrev pub have_own_tags : List (Block ℕ) → Bool
have_own_tags [] = true
have_own_tags (b ∷ bs) = is_own_tag b.label bs && have_own_tags bs

-- where the block of a tag stands, by a list whose first item is of the tag 1
abbrev pub place_of_tag : List (Option Addr) → ℕ → Option Addr
place_of_tag places tag = slice_index_or places (tag - 1) None

-- each tag has the place of its block, or none, and there are at most as many places as a region has labels
pub record ArePlaces (blocks : List (Block ℕ)) (places : List (Option Addr)) : Type 0 where
  pub most : length places ≤ label_limit
  pub at : (tag : ℕ) → 1 ≤ tag → option_map (λ a. a.0) (place_of_tag places tag) ≡ option_map address_of (find (has_tag tag) blocks)

-- whether a tag is of no label, or has no place yet and is at most as great as a region has labels
abbrev pub is_vacant : List (Option Addr) → ℕ → Bool
is_vacant places tag = tag == 0 || (nat_le tag label_limit && not (is_some (place_of_tag places tag)))

-- new has this place at the tag, and every other tag is as in old
pub record PutsPlace (old new : List (Option Addr)) (tag : ℕ) (at : Addr) : Type 0 where
  pub here : 1 ≤ tag → place_of_tag new tag ≡ Some at
  pub others : (other : ℕ) → 1 ≤ other → other ≢ tag → place_of_tag new other ≡ place_of_tag old other

-- the address that stands for none
abbrev pub address_of_none : Addr
address_of_none = record { 0 = 0 }

-- the places of the tags up to the last one, where that of a tag without a block is the address that stands for none
abbrev pub filled : List (Option Addr) → ℕ → Option Addr
filled places tag =
    if nat_le tag (length places) then Some (unwrap_or (place_of_tag places tag) address_of_none) else None

-- the block of a tag, by its name
abbrev pub label_by_tag : ℕ → Addr → Live
label_by_tag tag at = record { name = text_by_tag tag; at = at }

-- the blocks stand at these places, each under the name of its tag, and no name is kept as freed
pub record AreByTag (places : ℕ → Option Addr) (labels : Labels) : Type 0 where
  pub agree : AreLabels labels
  pub at : (tag : ℕ) → 1 ≤ tag → label_at labels tag ≡ option_map (label_by_tag tag) (places tag)
  pub kept : kept_of labels ≡ []
