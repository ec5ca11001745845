-- What is written of replies, and the needs that a text shows.
use Rattle.std.specs.Prelude.{ℕ, List, [], ◌++◌, Bool, true, false, bytes_eq, codes, decimal, map, if◌then◌else◌}
use Rattle.std.specs.List.{flat_map, list_any}
use Rattle.vc_script.specs.declared.reply.Reply.{Reply}
use Rattle.vc_script.specs.Lines.{ended_lines}
use Rattle.vc_script.specs.Needs.{Need, NoNeed, ForBlock, ForTable, ForObject, need_shown, needs_of}
use Rattle.vc_script.specs.Print.{line_of}
use Rattle.vc_session.specs.declared.style.Style.{Style}
use Rattle.vc_session.specs.declared.style.Style.TheVariants.{Plain, Numbered, Quiet}

-- how replies are written, by whether that is quiet, and whether the script is of version 2
abbrev pub style_by : Bool → Bool → Style
style_by true second = Quiet
style_by false true = Numbered
style_by false false = Plain

-- whether a need is shown
abbrev pub is_need : Need → Bool
is_need NoNeed = false
is_need need = true

-- the line of a reply with a number in front; nothing where it shows no need
abbrev pub numbered_line : ℕ → Reply → Need → List ℕ
numbered_line n reply NoNeed = []
numbered_line n reply need = decimal n ++ codes " " ++ line_of reply

-- what is written of the reply to the command of a line: its line, plainly or behind the number, and quietly only a refused segment, behind the number
abbrev pub line_by : Style → ℕ × Reply → List ℕ
line_by Plain r = line_of r.1
line_by Numbered r = decimal r.0 ++ codes " " ++ line_of r.1
line_by Quiet r = numbered_line r.0 r.1 (need_shown r.1)

-- of replies in order
abbrev pub body_by : Style → List (ℕ × Reply) → List ℕ
body_by style replies = flat_map (line_by style) replies

-- whether one of these lines is this number and this text
abbrev pub has_line : ℕ → List ℕ → List (List ℕ) → Bool
has_line n refusal printed = list_any (λ line. bytes_eq line (decimal n ++ refusal)) printed

-- the need of the command of a line, by the printed line with its number in front
abbrev pub numbered_need : List (List ℕ) → ℕ → Need
numbered_need printed n =
    if has_line n (codes " refused: no segment") printed then ForBlock
    else (if has_line n (codes " refused: no segment for table") printed then ForTable
    else (if has_line n (codes " refused: no segment for object") printed then ForObject
    else NoNeed))

-- of the commands of these lines, the needs that a text shows
abbrev pub needs_by_text : Style → List ℕ → List ℕ → List (ℕ × Need)
needs_by_text Plain lines written = needs_of lines written
needs_by_text style lines written = map (λ n. (n, numbered_need (ended_lines written) n)) lines
