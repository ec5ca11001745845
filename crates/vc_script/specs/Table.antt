-- The commands of each tool: their first words, and the words behind them.
use Rattle.std.specs.Prelude.{ℕ, ◌+◌, List, [], ◌∷◌, ◌++◌, Option, Some, None, Bool, codes, length, ◌==◌, ◌||◌, if◌then◌else◌, Result, Ok, Err}
use Rattle.vc_script.specs.declared.command.Command.{Command}
use Rattle.vc_script.specs.declared.command.Command.TheVariants.{OpenRegion, CloseRegion, ClearRegion, Compact, Alloc, Align, Resize, Free, WriteBlock, ReadBlock, SizeOf, AddrOf, SegmentOf, StatOf, Segments, Blocks, Poke, Check, Watch, ProfileOf, OpenDict, Insert, Append, Attach, Delete, Detach, Search, MatchKey, First, Last, Next, Prev, Walk, Count, View, Remethod, Empty, Shut}
use Rattle.vc_script.specs.declared.line_fault.LineFault.{LineFault}
use Rattle.vc_script.specs.declared.line_fault.LineFault.TheVariants.{WordCount}
use Rattle.vc_script.specs.declared.tool.Tool.{Tool}
use Rattle.vc_script.specs.declared.tool.Tool.TheVariants.{Vmreplay, Dtrun}
use Rattle.vc_script.specs.Forms.{◌>>=◌, Form, Name, Site, Number, SignedNumber, Address, Bytes, RegionMethod, DictionaryMethod, Mode, NameOrDash, Value, read_value}

-- what takes a value for each form, and one or none for the form of a last word that may be missing, and gives a command
abbrev pub Makes : List Form → Option Form → Type 0
Makes [] None = Command
Makes [] (Some form) = Option (Value form) → Command
Makes (form ∷ forms) last = Value form → Makes forms last

-- a command: its first word, the forms of the words behind it, the form of a last word that may be missing, and what the
-- values of these words make
pub record Row : Type 0 where
  pub word : List ℕ
  pub forms : List Form
  pub last : Option Form
  pub make : Makes forms last

abbrev pub row : (word : List ℕ) (forms : List Form) → Makes forms None → Row
row word forms make = record { word = word; forms = forms; last = None; make = make }

-- a last word may be missing
abbrev pub row_with : (word : List ℕ) (forms : List Form) (last : Form) → Makes forms (Some last) → Row
row_with word forms last make = record { word = word; forms = forms; last = Some last; make = make }

-- the commands of both tools
abbrev pub region_rows : List Row
region_rows =
    row (codes "open") (Name ∷ RegionMethod ∷ Number ∷ []) OpenRegion
    ∷ row (codes "close") (Name ∷ []) CloseRegion
    ∷ row (codes "clear") (Name ∷ []) ClearRegion
    ∷ row (codes "compact") (Name ∷ []) Compact
    ∷ row_with (codes "alloc") (Name ∷ Name ∷ Number ∷ []) Site Alloc
    ∷ row (codes "align") (Name ∷ Name ∷ Number ∷ Number ∷ []) Align
    ∷ row (codes "resize") (Name ∷ Name ∷ Number ∷ Mode ∷ []) Resize
    ∷ row (codes "free") (Name ∷ Name ∷ []) Free
    ∷ row (codes "write") (Name ∷ Name ∷ Number ∷ Bytes ∷ []) WriteBlock
    ∷ row (codes "read") (Name ∷ Name ∷ Number ∷ Number ∷ []) ReadBlock
    ∷ row (codes "size") (Name ∷ Name ∷ []) SizeOf
    ∷ row (codes "addr") (Name ∷ Address ∷ []) AddrOf
    ∷ row (codes "segment") (Name ∷ Address ∷ []) SegmentOf
    ∷ row (codes "stat") (Name ∷ []) StatOf
    ∷ row (codes "segments") (Name ∷ []) Segments
    ∷ row (codes "blocks") (Name ∷ []) Blocks
    ∷ row (codes "poke") (Name ∷ Name ∷ SignedNumber ∷ Number ∷ []) Poke
    ∷ row (codes "check") (Name ∷ []) Check
    ∷ row (codes "watch") (Name ∷ Name ∷ []) Watch
    ∷ row (codes "profile") (Name ∷ []) ProfileOf
    ∷ []

-- the commands that dtrun has besides
abbrev pub dictionary_rows : List Row
dictionary_rows =
    row (codes "dict") (Name ∷ DictionaryMethod ∷ Name ∷ Number ∷ []) OpenDict
    ∷ row (codes "insert") (Name ∷ Bytes ∷ []) Insert
    ∷ row (codes "append") (Name ∷ Bytes ∷ []) Append
    ∷ row (codes "attach") (Name ∷ Bytes ∷ []) Attach
    ∷ row_with (codes "delete") (Name ∷ []) Bytes Delete
    ∷ row (codes "detach") (Name ∷ Bytes ∷ []) Detach
    ∷ row (codes "search") (Name ∷ Bytes ∷ []) Search
    ∷ row (codes "match") (Name ∷ Bytes ∷ []) MatchKey
    ∷ row (codes "first") (Name ∷ []) First
    ∷ row (codes "last") (Name ∷ []) Last
    ∷ row (codes "next") (Name ∷ Bytes ∷ []) Next
    ∷ row (codes "prev") (Name ∷ Bytes ∷ []) Prev
    ∷ row (codes "walk") (Name ∷ []) Walk
    ∷ row (codes "count") (Name ∷ []) Count
    ∷ row (codes "view") (Name ∷ NameOrDash ∷ []) View
    ∷ row (codes "method") (Name ∷ DictionaryMethod ∷ []) Remethod
    ∷ row (codes "empty") (Name ∷ []) Empty
    ∷ row (codes "shut") (Name ∷ []) Shut
    ∷ []

abbrev pub own_rows : Tool → List Row
own_rows Vmreplay = []
own_rows Dtrun = dictionary_rows

-- the commands of a tool
abbrev pub table : Tool → List Row
table tool = region_rows ++ own_rows tool

-- whether so many words stand behind the first
abbrev pub takes : List Form → Option Form → ℕ → Bool
takes forms None n = n == length forms
takes forms (Some last) n = (n == length forms) || (n == length forms + 1)

-- a value for each form, and one or none for the form of a last word that may be missing
abbrev pub Values : List Form → Option Form → Type 0
Values [] None = Unit {0}
Values [] (Some form) = Option (Value form)
Values (form ∷ forms) last = Value form × Values forms last

-- a value, and those behind it; the first fault ends the reading
abbrev pub before : {A B : Type 0} → Result A LineFault → Result B LineFault → Result (A × B) LineFault
before first behind = first >>= λ value. (behind >>= λ values. Ok (value, values))

abbrev pub no_more : Result (Unit {0}) LineFault
no_more = Ok tt

-- the values of words by their forms, from the left; the first word that isn't of its form gives the fault
abbrev pub values_of : (forms : List Form) (last : Option Form) → List (List ℕ) → Result (Values forms last) LineFault
values_of [] None others = no_more
values_of [] (Some form) [] = Ok None
values_of [] (Some form) (word ∷ others) = read_value form word >>= λ value. Ok (Some value)
values_of (form ∷ forms) last [] = Err WordCount
values_of (form ∷ forms) last (word ∷ others) =
    before (read_value form word) (values_of forms last others)

-- the number of the words is judged before their forms
abbrev pub read_words : (forms : List Form) (last : Option Form) → List (List ℕ) → Result (Values forms last) LineFault
read_words forms last others =
    if takes forms last (length others) then values_of forms last others else Err WordCount

abbrev pub command_made : (forms : List Form) (last : Option Form) → Makes forms last → Values forms last → Command
command_made [] None make values = make
command_made [] (Some form) make value = make value
command_made (form ∷ forms) last make values = command_made forms last (make values.0) values.1

-- the command of a row, with these words behind the first
abbrev pub command_of : Row → List (List ℕ) → Result Command LineFault
command_of r others = read_words r.forms r.last others >>= λ values. Ok (command_made r.forms r.last r.make values)
