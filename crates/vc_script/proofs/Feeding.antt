-- What feed does, by the first byte that doesn't go to the line that has begun.
use Rattle.vc_base.proofs.Common.{◌≡◌, ℕ, zero, suc, ◌+◌, ◌<◌, ◌≤◌, false, eqb, ◌≢◌, List, [], ◌∷◌, ◌++◌, length, get_or, take, drop, sym, refl, ap, ◌∙◌, append_assoc, append-nil, zero-add, arith, length-append, length-take, eq-eqb, nat_tests, at_drop_more, drop_all, length_push}
use Rattle.vc_script.specs.declared.line_fault.LineFault.TheVariants.{LineTooLong, TooManyLines}
use Rattle.vc_script.specs.declared.cutter.Cut.TheVariants.{Whole, More, Bad}
use Rattle.vc_script.specs.Judged.{line_limit, last_number}
use Rattle.vc_script.specs.Cutting.{Cutting}
use Rattle.vc_script.specs.Cutter.{Fed, result_of_feed, one_more, with_byte, with_whole_line, closed_cutting}

-- the same cutting with these bytes kept
abbrev pub with_bytes : Cutting → List ℕ → Cutting
with_bytes s bytes = record { kept = s.kept ++ bytes; count = s.count; line = s.line; is_open = s.is_open }

not_eqb : (m n : ℕ) → m ≢ n → eqb m n ≡ false
not_eqb m n other = grind (arith, nat_tests)

-- one byte of a line that has room for it
fed-byte : (s : Cutting) (b : ℕ) (bs : List ℕ) → s.count ≢ last_number → b ≢ 10 → length s.kept < line_limit → result_of_feed s (b ∷ bs) ≡ one_more (result_of_feed (with_byte s b) bs)
fed-byte s b bs number plain room =
    let short : length s.kept ≢ line_limit = λ e. omega (arith, e, room) in
    rw (not_eqb _ _ number, not_eqb _ _ plain, not_eqb _ _ short) refl

-- so many bytes more were taken
abbrev pub with_used : ℕ → Fed → Fed
with_used n f = record { after = f.after; cut = f.cut; used = f.used + n }

-- bytes without a newline for which the line has room
pub fed-plain : (n : ℕ) (s : Cutting) (xs : List ℕ) → n ≤ length xs → s.count ≢ last_number → length s.kept + n ≤ line_limit → ((k : ℕ) → k < n → get_or xs k 0 ≢ 10) → result_of_feed s xs ≡ with_used n (result_of_feed (with_bytes s (take n xs)) (drop n xs))
fed-plain zero s xs within number room plain =
    let all : with_used 0 (result_of_feed s xs) ≡ result_of_feed s xs = ap (λ m. let f : Fed = record { after = (result_of_feed s xs).after; cut = (result_of_feed s xs).cut; used = m } in f) (omega arith) in
    sym all
    ∙ ap (λ kept. with_used 0 (result_of_feed (record { kept = kept; count = s.count; line = s.line; is_open = s.is_open }) xs)) (sym (append-nil s.kept))
fed-plain (suc n) s [] within number room plain = absurd (omega arith)
fed-plain (suc n) s (b ∷ bs) within number room plain =
    let r = result_of_feed (with_bytes s (b ∷ take n bs)) (drop n bs) in
    fed-byte s b bs number (plain 0 (omega arith)) (omega arith)
    ∙ (ap one_more (fed-plain n (with_byte s b) bs (omega arith) number (omega (arith, length_push s.kept b)) (λ k less. plain (suc k) (omega arith)))
    ∙ (ap (λ kept. one_more (with_used n (result_of_feed (record { kept = kept; count = s.count; line = s.line; is_open = s.is_open }) (drop n bs)))) (append_assoc s.kept (b ∷ []) (take n bs))
    ∙ ap (λ m. let f : Fed = record { after = r.after; cut = r.cut; used = m } in f) (omega arith)))

module _ (s : Cutting) (xs : List ℕ) (n : ℕ) (within : n ≤ length xs) (number : s.count ≢ last_number) (room : length s.kept + n ≤ line_limit) (plain : (k : ℕ) → k < n → get_or xs k 0 ≢ 10) where
  passed : result_of_feed s xs ≡ with_used n (result_of_feed (with_bytes s (take n xs)) (drop n xs))
  passed = fed-plain n s xs within number room plain

  -- no byte of the piece is left
  pub fed-more : length xs ≡ n → result_of_feed s xs ≡ record { after = with_bytes s (take n xs); cut = More; used = n }
  fed-more all =
      passed
      ∙ (ap (λ bs. with_used n (result_of_feed (with_bytes s (take n xs)) bs)) (drop_all n xs (omega arith))
      ∙ ap (λ m. let f : Fed = record { after = with_bytes s (take n xs); cut = More; used = m } in f) (zero-add n))

  one_n : 1 + n ≡ n + 1
  one_n = omega arith

  -- the byte at which it stops
  stops_at : n < length xs → result_of_feed s xs ≡ with_used n (result_of_feed (with_bytes s (take n xs)) (get_or xs n 0 ∷ drop (n + 1) xs))
  stops_at below = passed ∙ at_drop_more (λ bs. with_used n (result_of_feed (with_bytes s (take n xs)) bs)) xs n 0 below

  pub fed-whole : n < length xs → get_or xs n 0 ≡ 10 → result_of_feed s xs ≡ record { after = with_whole_line (with_bytes s (take n xs)); cut = Whole; used = n + 1 }
  fed-whole below newline =
      stops_at below
      ∙ (rw (not_eqb _ _ number, eq-eqb _ _ newline) refl
      ∙ ap (λ m. let f : Fed = record { after = with_whole_line (with_bytes s (take n xs)); cut = Whole; used = m } in f) one_n)

  pub fed-long : n < length xs → length s.kept + n ≡ line_limit → get_or xs n 0 ≢ 10 → result_of_feed s xs ≡ record { after = closed_cutting (with_bytes s (take n xs)); cut = Bad LineTooLong; used = n + 1 }
  fed-long below full other =
      let long : length (s.kept ++ take n xs) ≡ line_limit = omega (arith, length-append s.kept (take n xs), length-take n xs) in
      stops_at below
      ∙ (rw (not_eqb _ _ number, not_eqb _ _ other, eq-eqb _ _ long) refl
      ∙ ap (λ m. let f : Fed = record { after = closed_cutting (with_bytes s (take n xs)); cut = Bad LineTooLong; used = m } in f) one_n)

-- the first byte behind the last line that is numbered
pub fed-late : (s : Cutting) (xs : List ℕ) → s.count ≡ last_number → 0 < length xs → result_of_feed s xs ≡ record { after = closed_cutting s; cut = Bad TooManyLines; used = 1 }
fed-late s [] number some = absurd (omega arith)
fed-late s (b ∷ bs) number some = rw (eq-eqb _ _ number) refl
