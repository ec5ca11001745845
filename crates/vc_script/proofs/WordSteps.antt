-- Steps of the readers of escapes and of addresses.
use Rattle.vc_base.proofs.Common.{◌≡◌, ℕ, suc, Some, ◌∷◌, ◌+◌, ◌<◌, ◌≤◌, true, false, cond, ◌&&◌, eqb, List, [], length, get_or, take, drop, Ok, Err, ap, ◌∙◌, arith, and-false, at_drop_more}
use Rattle.std.proofs.lemmas.List.{at_drop_all}
use Rattle.std.proofs.lemmas.List.Sums.{position_or_len_is}
use Rattle.percent_encoding.specs.Percent.{percent_decode}
use Rattle.percent_encoding.proofs.PercentLemmas.{percent_decode-nil, percent_decode_not_percent}
use Rattle.vc_script.specs.declared.line_fault.LineFault.TheVariants.{BadAddress}
use Rattle.vc_script.specs.Words.{begins_with_byte, digits_value, is_between, is_escaped, is_number}
use Rattle.vc_script.specs.Forms.{read_address, read_address_parts, is_colon}

-- the rest of a word at a byte
is_escaped-at : (xs : List ℕ) (i : ℕ) → i < length xs → is_escaped (drop i xs) ≡ (cond (eqb (get_or xs i 0) 37) (begins_with_byte (drop (i + 1) xs)) true && is_escaped (drop (i + 1) xs))
is_escaped-at xs i within = at_drop_more is_escaped xs i 0 within

-- a byte other than `%` is passed over
pub is_escaped-other : (xs : List ℕ) (i : ℕ) → i < length xs → eqb (get_or xs i 0) 37 ≡ false → is_escaped (drop i xs) ≡ is_escaped (drop (i + 1) xs)
is_escaped-other xs i within other =
    is_escaped-at xs i within ∙ ap (λ test. cond test (begins_with_byte (drop (i + 1) xs)) true && is_escaped (drop (i + 1) xs)) other

-- `%` and two digits too
pub is_escaped-escape : (xs : List ℕ) (i : ℕ) → i < length xs → eqb (get_or xs i 0) 37 ≡ true → begins_with_byte (drop (i + 1) xs) ≡ true → is_escaped (drop i xs) ≡ is_escaped (drop (i + 1) xs)
is_escaped-escape xs i within percent digits =
    is_escaped-at xs i within
    ∙ ap (λ test. cond test (begins_with_byte (drop (i + 1) xs)) true && is_escaped (drop (i + 1) xs)) percent
    ∙ ap (λ test. test && is_escaped (drop (i + 1) xs)) digits

-- any other `%` ends the reading
pub is_escaped-bare : (xs : List ℕ) (i : ℕ) → i < length xs → eqb (get_or xs i 0) 37 ≡ true → begins_with_byte (drop (i + 1) xs) ≡ false → is_escaped (drop i xs) ≡ false
is_escaped-bare xs i within percent digits =
    is_escaped-at xs i within
    ∙ ap (λ test. cond test (begins_with_byte (drop (i + 1) xs)) true && is_escaped (drop (i + 1) xs)) percent
    ∙ ap (λ test. test && is_escaped (drop (i + 1) xs)) digits

-- behind the last byte nothing is left
pub is_escaped-end : (xs : List ℕ) (i : ℕ) → length xs ≤ i → is_escaped (drop i xs) ≡ true
is_escaped-end xs i end = at_drop_all is_escaped xs i end

pub ruleset escape_steps = (is_escaped-other, is_escaped-escape, is_escaped-bare, is_escaped-end)

-- a word without `%` spells itself
decoded-plain : (xs : List ℕ) → ((k : ℕ) → k < length xs → get_or xs k 0 ≡ 37 → ⊥) → percent_decode xs ≡ xs
decoded-plain [] plain = percent_decode-nil
decoded-plain (b ∷ bs) plain =
    percent_decode_not_percent b bs (plain 0 (omega arith)) ∙ ap (λ rest. b ∷ rest) (decoded-plain bs (λ k less. plain (suc k) (omega arith)))

pub plain-word : (xs : List ℕ) (n : ℕ) → (n ≡ 0 → (k : ℕ) → k < length xs → get_or xs k 0 ≡ 37 → ⊥) → Some n ≡ Some 0 → percent_decode xs ≡ xs
plain-word xs n plain none = decoded-plain xs (plain (cc))

-- an address is cut at its first colon
pub read_address-colon : (xs : List ℕ) (i : ℕ) → i < length xs → ((k : ℕ) → k < i → is_colon (get_or xs k 0) ≡ false) → get_or xs i 0 ≡ 58 → read_address xs ≡ read_address_parts (take i xs) (drop (i + 1) xs)
read_address-colon xs i within before colon =
    ap (λ k. read_address_parts (take k xs) (drop (k + 1) xs)) (position_or_len_is is_colon xs i 0 (omega arith) before (λ _. ap is_colon colon))

-- an offset has a digit
read_address_parts-no_offset : (seg : List ℕ) → read_address_parts seg [] ≡ Err BadAddress
read_address_parts-no_offset seg =
    ap (λ test. cond test (Ok (record { seg = digits_value seg; off = 0 })) (Err BadAddress)) (and-false (is_number seg && is_between 1 1023 (digits_value seg)))

-- a word without a colon is none
pub read_address-none : (xs : List ℕ) → ((k : ℕ) → k < length xs → is_colon (get_or xs k 0) ≡ false) → read_address xs ≡ Err BadAddress
read_address-none xs none =
    ap (λ k. read_address_parts (take k xs) (drop (k + 1) xs)) (position_or_len_is is_colon xs (length xs) 0 (omega arith) none (λ within. absurd (omega arith)))
    ∙ at_drop_all (read_address_parts (take (length xs) xs)) xs (length xs + 1) (omega arith)
    ∙ read_address_parts-no_offset (take (length xs) xs)

pub ruleset address_steps = (read_address-colon, read_address-none)
