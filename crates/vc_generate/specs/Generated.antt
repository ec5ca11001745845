-- The commands that a tool makes of a seed: each word of the seed gives one, between a fixed beginning and end.
use Rattle.std.specs.Prelude.{ℕ, ◌+◌, ◌/◌, ◌%◌, List, [], ◌∷◌, ◌++◌, Bool, true, false, Some, None, codes, decimal, map, nat_lt, replicate, set, slice_index_or, ◌==◌, if◌then◌else◌}
use Rattle.vc_base.specs.declared.dict_method.DictMethod.TheVariants.{DtOset}
use Rattle.vc_seg.specs.declared.method.Method.TheVariants.{VmBest}
use Rattle.vc_script.specs.declared.command.Command.{Command}
use Rattle.vc_script.specs.declared.command.Command.TheVariants.{Alloc, CloseRegion, Delete, Free, Insert, OpenDict, OpenRegion, Resize, Search, Shut}
use Rattle.vc_script.specs.declared.tool.Tool.{Tool}
use Rattle.vc_script.specs.declared.tool.Tool.TheVariants.{Dtrun, Vmreplay}
use Rattle.vc_generate.specs.Words.{generated_words}

-- the place that a word names, one of 256
abbrev pub place_in_word : ℕ → ℕ
place_in_word word = word % 256

-- the block of that place, x0 to x255
abbrev pub generated_block : ℕ → List ℕ
generated_block word = codes "x" ++ decimal (place_in_word word)

-- a taken place is resized for one word of four
abbrev pub is_resize : ℕ → Bool
is_resize word = word / 256 % 4 == 0

-- the command of a word, where the block of its place is taken and where it isn't
abbrev pub block_command : Bool → ℕ → Command
block_command false word = Alloc (codes "r") (generated_block word) (1 + word / 256 % 1000) None
block_command true word =
    if is_resize word then Resize (codes "r") (generated_block word) (1 + word / 1024 % 1000) true
    else Free (codes "r") (generated_block word)

-- whether the place is taken behind that command
abbrev pub is_taken_after : Bool → ℕ → Bool
is_taken_after false word = true
is_taken_after true word = is_resize word

-- whether a place is taken, of a list with one answer for each place
abbrev pub is_taken : List Bool → ℕ → Bool
is_taken taken place = slice_index_or taken place false

-- the taken places behind the command of a word
abbrev pub taken_after : List Bool → ℕ → List Bool
taken_after taken word = set taken (place_in_word word) (is_taken_after (is_taken taken (place_in_word word)) word)

-- the commands of words on blocks, of which each finds the places as those before left them
unfoldable pub block_commands : List Bool → List ℕ → List Command
block_commands taken [] = []
block_commands taken (word ∷ words) =
    block_command (is_taken taken (place_in_word word)) word ∷ block_commands (taken_after taken word) words

-- no place is taken
unfoldable pub none_taken : List Bool
none_taken = replicate 256 false

-- the object of a word, k0 to k999
abbrev pub generated_object : ℕ → List ℕ
generated_object word = codes "k" ++ decimal (word / 256 % 1000)

-- the command of a word on the dictionary, by its remainder of four
abbrev pub object_command : ℕ → Command
object_command word =
    if nat_lt (word % 4) 2 then Insert (codes "d") (generated_object word)
    else (if word % 4 == 2 then Delete (codes "d") (Some (generated_object word)) else Search (codes "d") (generated_object word))

-- the commands of words, where these places are taken before them
abbrev pub commands_of : Tool → List Bool → List ℕ → List Command
commands_of Vmreplay taken words = block_commands taken words
commands_of Dtrun taken words = map object_command words

-- the commands before those of the words
abbrev pub opening : Tool → List Command
opening Vmreplay = OpenRegion (codes "r") VmBest 1 ∷ []
opening Dtrun = OpenRegion (codes "r") VmBest 1 ∷ OpenDict (codes "d") DtOset (codes "r") 1 ∷ []

-- the commands behind those of the words
abbrev pub closing : Tool → List Command
closing Vmreplay = CloseRegion (codes "r") ∷ []
closing Dtrun = Shut (codes "d") ∷ CloseRegion (codes "r") ∷ []

-- all commands of a tool, with one for each of so many words of a seed
unfoldable pub commands_of_seed : Tool → ℕ → ℕ → List Command
commands_of_seed tool count seed = opening tool ++ commands_of tool none_taken (generated_words seed count) ++ closing tool
