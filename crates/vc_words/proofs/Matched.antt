-- From the matches to what is asked.
use Rattle.vc_base.proofs.Common.{◌≡◌, ℕ, Bool, true, false, cond, List, [], None, codes, Option, option_map, option_and_then, unwrap_or, sym, refl, ap, ◌∙◌, Bor, and_from, list_all}
use Rattle.clap.proofs.FaultLemmas.{leaf_fault}
use Rattle.clap.proofs.TakesLemmas.{leaf_takes}
use Rattle.clap.specs.Faults.{settle_fault, walk_fault}
use Rattle.clap.specs.Simple.{built}
use Rattle.clap.specs.Takes.{default_passes, is_valid}
use Rattle.clap.proofs.OnLiterals.{clap_on_literals}
use Rattle.clap.proofs.WalkLemmas.{first_value-rows}
use Rattle.clap.specs.Matches.{first_value}
use Rattle.clap.specs.Walk.{finished, nothing_held, walk, walk_from}
use Rattle.clap.specs.Words.{Row, Text, fault_of, first_of, is_simple, is_simple_and_free, matches_of, rows_of, takes}
use Rattle.clap.specs.declared.parser.matches.Found.{Found}
use Rattle.vc_words.specs.Words.{asked, command, read_count, has_flag, read_if_given, spelled, words_of}
use Rattle.vc_words.proofs.Faultless.{none_of_both, settle_holds, walk_holds}
use Rattle.vc_words.specs.declared.words.Words.{Words}

pub is_command_simple : is_simple command ≡ true
unfolding clap_on_literals
is_command_simple = refl

pub is_command_free : is_simple_and_free command ≡ true
unfolding clap_on_literals
is_command_free = refl

defaults_pass : list_all default_passes (built command).top.rules ≡ true
unfolding clap_on_literals
defaults_pass = refl

rows_are_valid : (rows : List Row) → is_valid (built command).top rows false ≡ true
rows_are_valid rows = refl

-- the command takes words at which it has no fault
pub takes_faultless : (words : List Text) → fault_of command words ≡ [] → takes command words ≡ true
takes_faultless words e =
    let s = (built command).top in
    let end = (walk s.rules [] nothing_held words).held in
    let level = sym (leaf_fault (built command) nothing_held words refl) ∙ e in
    let walked = none_of_both (walk_fault s [] (walk_from nothing_held) words) _ level in
    let settled = none_of_both (settle_fault s.rules s.args_override_self end) _ walked.1 in
    let level_holds = and_from _ _ (walk_holds s [] (walk_from nothing_held) words walked.0)
    (and_from _ _ (settle_holds s.rules s.args_override_self end settled.0)
    (and_from _ _ defaults_pass (rows_are_valid (finished s.rules end)))) in
    and_from _ _ is_command_simple (leaf_takes (built command) nothing_held words refl level_holds)

-- what is read of a text that stands among the matches
pub read_rows : (read : Text → Option ℕ) (name : Text) (f : Found) (text : Option (Bor Text)) (r : Option (Option ℕ))
    → option_map (λ t. t.now) text ≡ first_value f name → r ≡ read_if_given read (option_map (λ t. t.now) text)
    → r ≡ read_if_given read (first_of name (rows_of f))
read_rows read name f text r given is = is ∙ ap (read_if_given read) (given ∙ first_value-rows f name)

-- what is asked, by its parts
abbrev pub asked_by : Bool → Bool → Option (Option ℕ) → Option (Option ℕ) → Option Words
asked_by quiet stat generate seed =
    option_and_then (λ g. option_map (λ s. record { quiet = quiet; stat = stat; generate = g; seed = unwrap_or s 0 }) seed) generate

pub asked_is : (rows : List Row) (quiet stat : Bool) (generate seed : Option (Option ℕ))
    → quiet ≡ has_flag (codes "quiet") rows → stat ≡ has_flag (codes "stat") rows
    → generate ≡ read_if_given read_count (first_of (codes "gen") rows) → seed ≡ read_if_given spelled (first_of (codes "seed") rows)
    → asked_by quiet stat generate seed ≡ asked rows
asked_is rows quiet stat generate seed q s g k = λ i. asked_by (q i) (s i) (g i) (k i)

pub taken : (words : List Text) → fault_of command words ≡ [] → words_of words ≡ asked (matches_of command words)
taken words none = rw (takes_faultless words none) refl

pub refused : (words : List Text) → (takes command words ≡ true → ⊥) → None ≡ words_of words
refused words other = go (takes command words) other
  where
    go : (b : Bool) → (b ≡ true → ⊥) → None ≡ cond b (asked (matches_of command words)) None
    go true h = absurd (h refl)
    go false h = refl
