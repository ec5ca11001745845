-- The live blocks of a region, by tag and by name, and the names that it keeps as freed.
use Rattle.std.specs.Prelude.{◌≡◌, ◌≢◌, ℕ, ◌+◌, ◌-◌, ◌≤◌, ◌==◌, List, [], ◌∷◌, Option, Some, None, ◌⊎◌, Bool, IsSome, is_some, length, option_map, if◌then◌else◌}
use Rattle.std.specs.HashMap as names
use Rattle.std.specs.Str.{bytes_eq}
use Rattle.slab.specs.Slab.{get, slab_len}
use Rattle.vc_commands.specs.declared.region.labels.Label.{Label}
use Rattle.vc_commands.specs.declared.region.labels.Labels.{Labels}
use Rattle.vc_commands.specs.declared.region.labels.Known.{Known}
use Rattle.vc_commands.specs.declared.region.labels.Known.TheVariants.{Live, Freed}
use Rattle.vc_commands.specs.FreedNames.{FreedNames, freed_line, with_line, without_name}

-- the block of a tag, from 1 on
abbrev pub label_at : Labels → ℕ → Option Label
label_at labels tag = get labels.by_tag (tag - 1)

-- the name of a tag; 0 is the tag of a block without one
abbrev pub name_of_tag : Labels → ℕ → Option (List ℕ)
name_of_tag labels tag = if tag == 0 then None else option_map (λ l. l.name) (label_at labels tag)

-- the tag of a live block; the line of the free of one that is gone
abbrev pub tag_in : Option Known → Option ℕ
tag_in None = None
tag_in (Some (Live tag)) = Some tag
tag_in (Some (Freed line)) = None

abbrev pub line_in : Option Known → Option ℕ
line_in None = None
line_in (Some (Live tag)) = None
line_in (Some (Freed line)) = Some line

-- the tag of the block of a name
abbrev pub tag_of : Labels → List ℕ → Option ℕ
tag_of labels name = tag_in (names.get bytes_eq labels.tags name)

-- what a name is known as
abbrev pub known_of : Labels → List ℕ → Option Known
known_of labels name = names.get bytes_eq labels.tags name

-- the names that are kept as freed, by name
abbrev pub kept_with : List ℕ → Known → FreedNames → FreedNames
kept_with x (Live tag) kept = without_name x kept
kept_with x (Freed line) kept = with_line x line kept

abbrev pub kept_among : List (List ℕ × Known) → FreedNames
kept_among [] = []
kept_among (e ∷ es) = kept_with e.0 e.1 (kept_among es)

abbrev pub kept_of : Labels → FreedNames
kept_of labels = kept_among labels.tags.entries

-- each live name has the tag of the one block of that name, and every other name is kept as freed
pub record AreLabels (labels : Labels) : Type 0 where
  pub tagged : (x : List ℕ) (tag : ℕ) → tag_of labels x ≡ Some tag → (1 ≤ tag) × ((l : Label) × (label_at labels tag ≡ Some l) × (l.name ≡ x))
  pub named : (tag : ℕ) (l : Label) → 1 ≤ tag → label_at labels tag ≡ Some l → tag_of labels l.name ≡ Some tag
  pub all : length labels.tags.entries ≡ slab_len labels.by_tag + length (kept_of labels)

-- both have the same blocks, by tag and by name, and keep the same names as freed
pub record SameLabels (old new : Labels) : Type 0 where
  pub by_tag : (tag : ℕ) → label_at new tag ≡ label_at old tag
  pub by_name : (x : List ℕ) → tag_of new x ≡ tag_of old x
  pub kept : kept_of new ≡ kept_of old
  pub count : slab_len new.by_tag ≡ slab_len old.by_tag

-- new has one block more, of this tag, and every other tag and name is as in old
pub record WithLabel (old new : Labels) (tag : ℕ) (label : Label) : Type 0 where
  pub first : 1 ≤ tag
  pub at : label_at new tag ≡ Some label
  pub other_tags : (other : ℕ) → 1 ≤ other → other ≢ tag → label_at new other ≡ label_at old other
  pub name : tag_of new label.name ≡ Some tag
  pub other_names : (x : List ℕ) → x ≢ label.name → tag_of new x ≡ tag_of old x
  pub count : slab_len new.by_tag ≡ slab_len old.by_tag + 1

-- old has this block of this tag, new has it no more, and every other tag and name is as in old
pub record WithoutLabel (old new : Labels) (tag : ℕ) (label : Label) : Type 0 where
  pub first : 1 ≤ tag
  pub was_at : label_at old tag ≡ Some label
  pub was_named : tag_of old label.name ≡ Some tag
  pub gone : label_at new tag ≡ None
  pub other_tags : (other : ℕ) → 1 ≤ other → other ≢ tag → label_at new other ≡ label_at old other
  pub name_gone : tag_of new label.name ≡ None
  pub other_names : (x : List ℕ) → x ≢ label.name → tag_of new x ≡ tag_of old x
  pub count : slab_len new.by_tag + 1 ≡ slab_len old.by_tag

-- the block of this tag has another address, and every other tag and each name is as in old
pub record MovesLabel (old new : Labels) (tag : ℕ) (label : Label) : Type 0 where
  pub first : 1 ≤ tag
  pub at : label_at new tag ≡ Some label
  pub other_tags : (other : ℕ) → 1 ≤ other → other ≢ tag → label_at new other ≡ label_at old other
  pub names : (x : List ℕ) → tag_of new x ≡ tag_of old x
  pub count : slab_len new.by_tag ≡ slab_len old.by_tag

-- each name is known as before, or the block that it had was freed at that line
abbrev pub FreesNames : Labels → Labels → ℕ → Type 0
FreesNames old new line =
    (x : List ℕ) → (known_of new x ≡ known_of old x) ⊎ (IsSome (tag_of old x) × (known_of new x ≡ Some (Freed line)))

-- the line with which a name is kept once all blocks are gone
abbrev pub line_left : Labels → Bool → ℕ → List ℕ → Option ℕ
line_left old keeps line x =
    if keeps then (if is_some (tag_of old x) then Some line else freed_line x (kept_of old)) else None
