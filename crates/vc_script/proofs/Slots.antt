-- The slots of the first words.
use Rattle.vc_base.proofs.Common.{◌≡◌, ℕ, ◌+◌, ◌*◌, ◌%◌, List, length, Some, None, slice_index, slice_index_or, refl, ap, ◌∙◌}
use Rattle.vc_script.specs.declared.first_word.OneRegion.TheVariants.{Close, Clear, Compact, Stat, Segments, Blocks, Check, Profile}
use Rattle.vc_script.specs.declared.first_word.BlockWord.TheVariants.{Free, Size, Watch}
use Rattle.vc_script.specs.declared.first_word.PlaceWord.TheVariants.{Addr, Segment}
use Rattle.vc_script.specs.declared.first_word.NumbersWord.TheVariants.{Align, Read}
use Rattle.vc_script.specs.declared.first_word.OneDictionary.TheVariants.{First, Last, Walk, Count, Empty, Shut}
use Rattle.vc_script.specs.declared.first_word.ObjectWord.TheVariants.{Insert, Append, Attach, Detach, Search, MatchKey, Next, Prev}
use Rattle.vc_script.specs.declared.first_word.RegionWord.TheVariants.{Open, Alloc, Resize, Write, Poke, One, Block, Place, Numbers}
use Rattle.vc_script.specs.declared.first_word.DictionaryWord.TheVariants.{Dict, Delete, View, Method, Alone, Object}
use Rattle.vc_script.specs.declared.first_word.FirstWord.{FirstWord}
use Rattle.vc_script.specs.declared.first_word.FirstWord.TheVariants.{Region, Dictionary}
use Rattle.vc_script.specs.declared.first_word.TheConstants.{SLOTS}
use Rattle.vc_script.specs.FirstWords.{spelling}

-- the slot of a word
abbrev pub slot : List ℕ → ℕ
slot word = (22 * length word + 7 * slice_index word 0 + slice_index word 2 + 20 * slice_index word 3) % 64

-- each first word stands in its slot
in_slot : (w : FirstWord) → slice_index_or SLOTS (slot (spelling w)) None ≡ Some w
in_slot (Region (Open)) = refl
in_slot (Region (One (Close))) = refl
in_slot (Region (One (Clear))) = refl
in_slot (Region (One (Compact))) = refl
in_slot (Region (Alloc)) = refl
in_slot (Region (Numbers (Align))) = refl
in_slot (Region (Resize)) = refl
in_slot (Region (Block (Free))) = refl
in_slot (Region (Write)) = refl
in_slot (Region (Numbers (Read))) = refl
in_slot (Region (Block (Size))) = refl
in_slot (Region (Place (Addr))) = refl
in_slot (Region (Place (Segment))) = refl
in_slot (Region (One (Stat))) = refl
in_slot (Region (One (Segments))) = refl
in_slot (Region (One (Blocks))) = refl
in_slot (Region (Poke)) = refl
in_slot (Region (One (Check))) = refl
in_slot (Region (Block (Watch))) = refl
in_slot (Region (One (Profile))) = refl
in_slot (Dictionary (Dict)) = refl
in_slot (Dictionary (Object (Insert))) = refl
in_slot (Dictionary (Object (Append))) = refl
in_slot (Dictionary (Object (Attach))) = refl
in_slot (Dictionary (Delete)) = refl
in_slot (Dictionary (Object (Detach))) = refl
in_slot (Dictionary (Object (Search))) = refl
in_slot (Dictionary (Object (MatchKey))) = refl
in_slot (Dictionary (Alone (First))) = refl
in_slot (Dictionary (Alone (Last))) = refl
in_slot (Dictionary (Object (Next))) = refl
in_slot (Dictionary (Object (Prev))) = refl
in_slot (Dictionary (Alone (Walk))) = refl
in_slot (Dictionary (Alone (Count))) = refl
in_slot (Dictionary (View)) = refl
in_slot (Dictionary (Method)) = refl
in_slot (Dictionary (Alone (Empty))) = refl
in_slot (Dictionary (Alone (Shut))) = refl

pub slot-spelled : (word : List ℕ) (w : FirstWord) → word ≡ spelling w → slice_index_or SLOTS (slot word) None ≡ Some w
slot-spelled word w spelled = ap (λ bytes. slice_index_or SLOTS (slot bytes) None) spelled ∙ in_slot w
