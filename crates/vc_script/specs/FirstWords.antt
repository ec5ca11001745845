-- How the first words of the commands are spelled, and what they and the words behind them ask for.
use Rattle.std.specs.Prelude.{ℕ, List, codes}
use Rattle.vc_script.specs.declared.line_answer.LineAnswer.{LineAnswer}
use Rattle.vc_script.specs.Table.{Row}
use Rattle.vc_script.specs.Answer.{answer_of, command_in}
use Rattle.vc_script.specs.declared.first_word.OneRegion.{OneRegion}
use Rattle.vc_script.specs.declared.first_word.OneRegion.TheVariants.{Close, Clear, Compact, Stat, Segments, Blocks, Check, Profile}
use Rattle.vc_script.specs.declared.first_word.BlockWord.{BlockWord}
use Rattle.vc_script.specs.declared.first_word.BlockWord.TheVariants.{Free, Size, Watch}
use Rattle.vc_script.specs.declared.first_word.PlaceWord.{PlaceWord}
use Rattle.vc_script.specs.declared.first_word.PlaceWord.TheVariants.{Addr, Segment}
use Rattle.vc_script.specs.declared.first_word.NumbersWord.{NumbersWord}
use Rattle.vc_script.specs.declared.first_word.NumbersWord.TheVariants.{Align, Read}
use Rattle.vc_script.specs.declared.first_word.OneDictionary.{OneDictionary}
use Rattle.vc_script.specs.declared.first_word.OneDictionary.TheVariants.{First, Last, Walk, Count, Empty, Shut}
use Rattle.vc_script.specs.declared.first_word.ObjectWord.{ObjectWord}
use Rattle.vc_script.specs.declared.first_word.ObjectWord.TheVariants.{Insert, Append, Attach, Detach, Search, MatchKey, Next, Prev}
use Rattle.vc_script.specs.declared.first_word.RegionWord.{RegionWord}
use Rattle.vc_script.specs.declared.first_word.RegionWord.TheVariants.{Open, Alloc, Resize, Write, Poke, One, Block, Place, Numbers}
use Rattle.vc_script.specs.declared.first_word.DictionaryWord.{DictionaryWord}
use Rattle.vc_script.specs.declared.first_word.DictionaryWord.TheVariants.{Dict, Delete, View, Method, Alone, Object}
use Rattle.vc_script.specs.declared.first_word.FirstWord.{FirstWord}
use Rattle.vc_script.specs.declared.first_word.FirstWord.TheVariants.{Region, Dictionary}

-- behind which `R` stands
abbrev pub one_region_spelling : OneRegion → List ℕ
one_region_spelling Close = codes "close"
one_region_spelling Clear = codes "clear"
one_region_spelling Compact = codes "compact"
one_region_spelling Stat = codes "stat"
one_region_spelling Segments = codes "segments"
one_region_spelling Blocks = codes "blocks"
one_region_spelling Check = codes "check"
one_region_spelling Profile = codes "profile"

-- behind which `R X` stands
abbrev pub block_spelling : BlockWord → List ℕ
block_spelling Free = codes "free"
block_spelling Size = codes "size"
block_spelling Watch = codes "watch"

-- behind which `R S:O` stands
abbrev pub place_spelling : PlaceWord → List ℕ
place_spelling Addr = codes "addr"
place_spelling Segment = codes "segment"

-- behind which `R X`, and two numbers stands
abbrev pub numbers_spelling : NumbersWord → List ℕ
numbers_spelling Align = codes "align"
numbers_spelling Read = codes "read"

-- behind which `D` stands
abbrev pub one_dictionary_spelling : OneDictionary → List ℕ
one_dictionary_spelling First = codes "first"
one_dictionary_spelling Last = codes "last"
one_dictionary_spelling Walk = codes "walk"
one_dictionary_spelling Count = codes "count"
one_dictionary_spelling Empty = codes "empty"
one_dictionary_spelling Shut = codes "shut"

-- behind which `D OBJ` stands
abbrev pub object_spelling : ObjectWord → List ℕ
object_spelling Insert = codes "insert"
object_spelling Append = codes "append"
object_spelling Attach = codes "attach"
object_spelling Detach = codes "detach"
object_spelling Search = codes "search"
object_spelling MatchKey = codes "match"
object_spelling Next = codes "next"
object_spelling Prev = codes "prev"

-- of both tools
abbrev pub region_spelling : RegionWord → List ℕ
region_spelling Open = codes "open"
region_spelling Alloc = codes "alloc"
region_spelling Resize = codes "resize"
region_spelling Write = codes "write"
region_spelling Poke = codes "poke"
region_spelling (One word) = one_region_spelling word
region_spelling (Block word) = block_spelling word
region_spelling (Place word) = place_spelling word
region_spelling (Numbers word) = numbers_spelling word

-- that dtrun has besides
abbrev pub dictionary_spelling : DictionaryWord → List ℕ
dictionary_spelling Dict = codes "dict"
dictionary_spelling Delete = codes "delete"
dictionary_spelling View = codes "view"
dictionary_spelling Method = codes "method"
dictionary_spelling (Alone word) = one_dictionary_spelling word
dictionary_spelling (Object word) = object_spelling word

abbrev pub spelling : FirstWord → List ℕ
spelling (Region word) = region_spelling word
spelling (Dictionary word) = dictionary_spelling word

-- what a first word of these rows and the words behind it ask for
abbrev pub answer_in : List Row → List ℕ → List (List ℕ) → LineAnswer
answer_in rows first others = answer_of (command_in rows first others)
