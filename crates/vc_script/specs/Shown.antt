-- How objects are shown.
use Rattle.std.specs.Prelude.{ℕ, List, [], ◌∷◌, Bool, ◌==◌, ◌||◌, if◌then◌else◌}
use Rattle.std.specs.List.{flat_map}
use Rattle.percent_encoding.specs.Percent.{percent_encode_byte}
use Rattle.vc_script.specs.Words.{is_digit, is_letter}

-- ASCII letters, digits and `-`, `.`, `_`, `~` stand for themselves
abbrev pub is_plain : ℕ → Bool
is_plain b = is_letter b || (is_digit b || ((b == 45) || ((b == 46) || ((b == 95) || (b == 126)))))

-- every other byte is `%` and two upper-case hexadecimal digits
abbrev pub shown_byte : ℕ → List ℕ
shown_byte b = if is_plain b then b ∷ [] else percent_encode_byte b

abbrev pub shown_bytes : List ℕ → List ℕ
shown_bytes bytes = flat_map shown_byte bytes
