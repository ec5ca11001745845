-- The range of a count that is asked for.
use Rattle.vc_base.proofs.Common.{◌≡◌, ℕ, ◌≤◌, Bool, true, false, cond, ◌&&◌, List, IfSome, nat_le, Some, None, codes, Option, option_map, option_and_then, refl, leb-true}
use Rattle.clap.specs.Words.{Row, Text, first_of, matches_of, takes}
use Rattle.vc_words.specs.Words.{asked, command, read_count, command_count, has_flag, read_if_given, spelled, words_of}
use Rattle.vc_words.proofs.Matched.{asked_by}

abbrev IsCount : ℕ → Type 0
IsCount n = (1 ≤ n) × (n ≤ 1000000)

counted_in_range : (n : ℕ) → IfSome (command_count n) IsCount
counted_in_range n = go (nat_le 1 n) (nat_le n 1000000) refl refl
  where
    go : (some few : Bool) → nat_le 1 n ≡ some → nat_le n 1000000 ≡ few → IfSome (cond (some && few) (Some n) None) IsCount
    go true true a b = (leb-true 1 n a, leb-true n 1000000 b)
    go true false a b = tt
    go false few a b = tt

count_in_range : (number : Option ℕ) → IfSome (option_and_then command_count number) IsCount
count_in_range None = tt
count_in_range (Some n) = counted_in_range n

read_in_range : (text : Option Text) → IfSome (read_if_given read_count text) (λ count. IfSome count IsCount)
read_in_range None = tt
read_in_range (Some text) = go (read_count text) (count_in_range (spelled text))
  where
    go : (count : Option ℕ) → IfSome count IsCount → IfSome (option_map (λ n. Some n) count) (λ count. IfSome count IsCount)
    go None range = tt
    go (Some n) range = range

asked_in_range : (rows : List Row) → IfSome (asked rows) (λ w. IfSome w.generate IsCount)
asked_in_range rows =
    go (has_flag (codes "quiet") rows) (has_flag (codes "stat") rows) (read_if_given read_count (first_of (codes "gen") rows)) (read_if_given spelled (first_of (codes "seed") rows)) (read_in_range (first_of (codes "gen") rows))
  where
    go : (quiet stat : Bool) (count seed : Option (Option ℕ)) → IfSome count (λ count. IfSome count IsCount)
        → IfSome (asked_by quiet stat count seed) (λ w. IfSome w.generate IsCount)
    go quiet stat None seed range = tt
    go quiet stat (Some count) None range = tt
    go quiet stat (Some count) (Some seed) range = range

pub counts_in_range : (words : List Text) → IfSome (words_of words) (λ w. IfSome w.generate IsCount)
counts_in_range words = go (takes command words)
  where
    go : (b : Bool) → IfSome (cond b (asked (matches_of command words)) None) (λ w. IfSome w.generate IsCount)
    go true = asked_in_range (matches_of command words)
    go false = tt
