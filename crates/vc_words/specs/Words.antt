-- What the words behind the name of a tool ask for, by clap's meaning of a command with four options.
use Rattle.std.specs.Prelude.{ℕ, List, [], ◌∷◌, fold, Option, Some, None, Bool, true, false, codes, bytes_eq, if◌then◌else◌, option_and_then, option_map, unwrap_or}
use Rattle.std.specs.Option.{option_map_or}
use Rattle.std.specs.Result.{result_ok}
use Rattle.clap.specs.Words.{App, Row, Rule, Text, first_of, matches_of, new_app, new_rule, one_of, takes, with_rule}
use Rattle.clap.specs.Simple.{on_top}
use Rattle.clap.specs.declared.builder.action.ArgAction.TheVariants.{Set, SetTrue}
use Rattle.vc_script.specs.Forms.{read_number}
use Rattle.vc_script.specs.Words.{is_between}
use Rattle.vc_words.specs.declared.words.Words.{Words}

-- `--name`
abbrev pub flag : Text → Rule
flag name = record (new_rule name) { long = Some name; action = Some SetTrue }

-- `--name TEXT` or `--name=TEXT`
abbrev pub option : Text → Rule
option name = record (new_rule name) { long = Some name; action = Some Set }

-- a command with no option, not even for help, of which no word is the program's name
abbrev pub bare_command : App
bare_command =
    on_top (λ s. record s { no_binary_name = true; disable_help_flag = true })
    (new_app (codes "words"))

-- each may stand once among the words, in any order
abbrev pub options : List Rule
options =
    flag (codes "quiet") ∷ flag (codes "stat") ∷ option (codes "gen") ∷ option (codes "seed") ∷ []

-- the command of both tools
abbrev pub command : App
command = fold with_rule bare_command options

-- the number that a text spells, by the rule of scripts
abbrev pub spelled : Text → Option ℕ
spelled text = result_ok (read_number text)

-- a count of commands is a number from 1 to 1,000,000
abbrev pub command_count : ℕ → Option ℕ
command_count n = if is_between 1 1000000 n then Some n else None

-- the count that a text spells
abbrev pub read_count : Text → Option ℕ
read_count text = option_and_then command_count (spelled text)

-- what is read of a text, which may be missing; none where it can't be read
abbrev pub read_if_given : (Text → Option ℕ) → Option Text → Option (Option ℕ)
read_if_given read None = Some None
read_if_given read (Some text) = option_map (λ n. Some n) (read text)

-- clap's matches give `true` for a flag that stands among the words, and `false` for one that doesn't
abbrev pub has_flag : Text → List Row → Bool
has_flag name rows = option_map_or (λ text. bytes_eq text (codes "true")) (one_of name rows) false

-- what the matches ask for; none where a text can't be read. The seed is 0 where none is given
abbrev pub asked : List Row → Option Words
asked rows =
    option_and_then (λ generate. option_map (λ seed. record {
      quiet = has_flag (codes "quiet") rows;
      stat = has_flag (codes "stat") rows;
      generate = generate;
      seed = unwrap_or seed 0;
    }) (read_if_given spelled (first_of (codes "seed") rows)))
    (read_if_given read_count (first_of (codes "gen") rows))

-- what the words ask for; none where they are refused
abbrev pub words_of : List Text → Option Words
words_of words = if takes command words then asked (matches_of command words) else None
