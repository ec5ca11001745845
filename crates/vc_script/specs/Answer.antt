-- The grammar of lines.
use Rattle.std.specs.Prelude.{ℕ, List, [], ◌∷◌, Bool, false, bytes_eq, codes, ◌==◌, ◌&&◌, ◌||◌, if◌then◌else◌, Result, Ok, Err}
use Rattle.vc_script.specs.declared.command.Command.{Command}
use Rattle.vc_script.specs.declared.line_fault.LineFault.{LineFault}
use Rattle.vc_script.specs.declared.line_fault.LineFault.TheVariants.{UnknownCommand, UnknownVersion, WordCount}
use Rattle.vc_script.specs.declared.line_answer.LineAnswer.{LineAnswer}
use Rattle.vc_script.specs.declared.line_answer.LineAnswer.TheVariants.{Blank, Is, Version, Bad}
use Rattle.vc_script.specs.declared.tool.Tool.{Tool}
use Rattle.vc_script.specs.Forms.{read_number}
use Rattle.vc_script.specs.Words.{words}
use Rattle.vc_script.specs.Table.{Row, command_of, table}

-- a line whose first byte that isn't a blank is `#` is a comment
abbrev pub is_comment : List ℕ → Bool
is_comment [] = false
is_comment (b ∷ bs) = b == 35

-- the first word has to be that of a row
abbrev pub command_in : List Row → List ℕ → List (List ℕ) → Result Command LineFault
command_in [] first others = Err UnknownCommand
command_in (r ∷ rows) first others =
    if bytes_eq first r.word then command_of r others else command_in rows first others

abbrev pub answer_of : Result Command LineFault → LineAnswer
answer_of (Ok command) = Is command
answer_of (Err fault) = Bad fault

-- the version that a number tells
abbrev pub version_answer : Result ℕ LineFault → LineAnswer
version_answer (Ok n) = if (n == 1) || (n == 2) then Version n else Bad UnknownVersion
version_answer (Err fault) = Bad fault

-- one word stands behind `vc`, a number
abbrev pub version_by_words : List (List ℕ) → LineAnswer
version_by_words (word ∷ []) = version_answer (read_number word)
version_by_words others = Bad WordCount

-- `vc` is the first word of a line that tells the version; only the first line can be one
abbrev pub is_version_line : Bool → List ℕ → Bool
is_version_line first word = first && bytes_eq word (codes "vc")

-- the answer to the words of a line; `first` says that it is the first line
abbrev pub answer_to : Tool → Bool → List (List ℕ) → LineAnswer
answer_to tool first [] = Blank
answer_to tool first (word ∷ others) =
    if is_comment word then Blank
    else (if is_version_line first word then version_by_words others else answer_of (command_in (table tool) word others))

-- the answer to a line; `first` says that it is the line numbered 1
abbrev pub answer : Tool → Bool → List ℕ → LineAnswer
answer tool first line = answer_to tool first (words line)
