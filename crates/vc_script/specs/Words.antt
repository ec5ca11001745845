-- The words of a line, and tests of words.
use Rattle.std.specs.Prelude.{ℕ, ◌+◌, ◌-◌, ◌*◌, List, [], ◌∷◌, ◌++◌, Bool, true, false, length, fold, nat_le, ◌==◌, ◌&&◌, ◌||◌, if◌then◌else◌}
use Rattle.std.specs.List.{list_all}
use Rattle.std.specs.Char.{is_ascii_hexdigit}
use Rattle.vc_script.specs.Lines.{piece}

-- blanks are space and tab
abbrev pub is_blank : ℕ → Bool
is_blank b = (b == 32) || (b == 9)

-- the words, of the first of which some bytes were read
abbrev pub words_after : List ℕ → List ℕ → List (List ℕ)
words_after begun [] = piece begun
words_after begun (b ∷ bs) = if is_blank b then piece begun ++ words_after [] bs else words_after (begun ++ b ∷ []) bs

-- words are separated by runs of blanks
abbrev pub words : List ℕ → List (List ℕ)
words line = words_after [] line

abbrev pub is_between : ℕ → ℕ → ℕ → Bool
is_between low high b = nat_le low b && nat_le b high

abbrev pub is_digit : ℕ → Bool
is_digit b = is_between 48 57 b

abbrev pub is_letter : ℕ → Bool
is_letter b = is_between 65 90 b || is_between 97 122 b

-- letters, digits, `_` and `.` stand in names
abbrev pub is_name_byte : ℕ → Bool
is_name_byte b = is_letter b || (is_digit b || ((b == 95) || (b == 46)))

-- a name is a letter, then name bytes; 1 to 32 bytes
abbrev pub is_name : List ℕ → Bool
is_name [] = false
is_name (b ∷ bs) = is_letter b && (list_all is_name_byte bs && nat_le (length bs) 31)

-- the number that decimal digits spell
abbrev pub digits_value : List ℕ → ℕ
digits_value digits = fold (λ n d. 10 * n + (d - 48)) 0 digits

-- a number is 1 to 10 digits, at most 4,294,967,295; leading zeros are allowed
abbrev pub is_number : List ℕ → Bool
is_number word =
    list_all is_digit word && (is_between 1 10 (length word) && nat_le (digits_value word) 4294967295)

-- two hexadecimal digits of either case come first
abbrev pub begins_with_byte : List ℕ → Bool
begins_with_byte (high ∷ low ∷ rest) = is_ascii_hexdigit high && is_ascii_hexdigit low
begins_with_byte word = false

-- each `%` is followed by two hexadecimal digits
abbrev pub is_escaped : List ℕ → Bool
is_escaped [] = true
is_escaped (b ∷ bs) = (if b == 37 then begins_with_byte bs else true) && is_escaped bs
