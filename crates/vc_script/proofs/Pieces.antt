-- What feed and end find in pieces is what stands in the pieces concat.
use Rattle.vc_base.proofs.Common.{◌≡◌, ℕ, zero, suc, ◌+◌, ◌<◌, ◌≤◌, Bool, true, false, cond, eqb, ◌≢◌, List, [], ◌∷◌, ◌++◌, length, drop, Ok, Err, sym, refl, ap, ◌∙◌, inl, inr, add-one, arith, length-append, length-drop, eqb_tells, nat_tests, cases_Bool, length_push}
use Rattle.std.specs.List.{concat}
use Rattle.vc_script.specs.declared.line_fault.LineFault.TheVariants.{LineTooLong, TooManyLines}
use Rattle.vc_script.specs.declared.cutter.Cut.{Cut}
use Rattle.vc_script.specs.declared.cutter.Cut.TheVariants.{Whole, More, Bad}
use Rattle.vc_script.specs.Lines.{without_cr, lines_after, lines}
use Rattle.vc_script.specs.Judged.{line_limit, last_number, judge, judged_from, judged_then, judged_lines}
use Rattle.vc_script.specs.Cutting.{Cutting, IsCutting, new_cutting}
use Rattle.vc_script.specs.Cutter.{Fed, result_of_feed, one_more, with_byte, with_whole_line, closed_cutting, end_cut, after_end}
use Rattle.vc_script.specs.Pieces.{FoundLines, found_then, found_in}

-- what is judged of the bytes that are left
abbrev pub judged_rest : Cutting → List ℕ → FoundLines
judged_rest s bytes = judged_from (s.count + 1) (lines_after s.kept bytes)

judge-late : (number : ℕ) (line : List ℕ) → last_number < number → judge number line ≡ Err TooManyLines
judge-late number line late = grind (arith, nat_tests)

judge-long : (number : ℕ) (line : List ℕ) → number ≤ last_number → line_limit < length line → judge number line ≡ Err LineTooLong
judge-long number line early long = grind (arith, nat_tests)

pub judge-ok : (number : ℕ) (line : List ℕ) → number ≤ last_number → length line ≤ line_limit → judge number line ≡ Ok (without_cr line)
judge-ok number line early short = grind (arith, nat_tests)

judged-late : (number : ℕ) (kept bytes : List ℕ) → last_number < number → 0 < length kept + length bytes → judged_from number (lines_after kept bytes) ≡ (number, Err TooManyLines) ∷ []
judged-late number [] [] late some = absurd (omega arith)
judged-late number (k ∷ ks) [] late some = ap (λ j. judged_then number j []) (judge-late number (k ∷ ks) late)
judged-late number kept (b ∷ bs) late some =
    elim (eqb b 10) as (λ t. judged_from number (cond t (kept ∷ lines_after [] bs) (lines_after (kept ++ b ∷ []) bs)) ≡ (number, Err TooManyLines) ∷ []) [
      | true ↦ ap (λ j. judged_then number j (judged_from (number + 1) (lines bs))) (judge-late number kept late)
      | false ↦ judged-late number (kept ++ b ∷ []) bs late (omega (arith, length_push kept b))
    ]

judged-long : (number : ℕ) (kept bytes : List ℕ) → number ≤ last_number → line_limit < length kept → judged_from number (lines_after kept bytes) ≡ (number, Err LineTooLong) ∷ []
judged-long number [] [] early long = absurd (omega arith)
judged-long number (k ∷ ks) [] early long = ap (λ j. judged_then number j []) (judge-long number (k ∷ ks) early long)
judged-long number kept (b ∷ bs) early long =
    elim (eqb b 10) as (λ t. judged_from number (cond t (kept ∷ lines_after [] bs) (lines_after (kept ++ b ∷ []) bs)) ≡ (number, Err LineTooLong) ∷ []) [
      | true ↦ ap (λ j. judged_then number j (judged_from (number + 1) (lines bs))) (judge-long number kept early long)
      | false ↦ judged-long number (kept ++ b ∷ []) bs early (omega (arith, length_push kept b))
    ]

-- what one call tells of the bytes fed and those behind them
abbrev pub Tells : Cut → Cutting → ℕ → Cutting → List ℕ → List ℕ → Type 0
Tells Whole after used s xs behind =
    (judged_rest s (xs ++ behind) ≡ (after.count, Ok after.line) ∷ judged_rest after (drop used xs ++ behind))
    × (IsCutting after × ((0 < used) × (used ≤ length xs)))
Tells More after used s xs behind = (judged_rest s (xs ++ behind) ≡ judged_rest after behind) × IsCutting after
Tells (Bad fault) after used s xs behind = judged_rest s (xs ++ behind) ≡ (after.count + 1, Err fault) ∷ []

abbrev FedTells : Fed → Cutting → List ℕ → List ℕ → Type 0
FedTells f s xs behind = Tells f.cut f.after f.used s xs behind

-- a byte more in front, which is kept
tells-byte : (cut : Cut) (after : Cutting) (used : ℕ) (s : Cutting) (b : ℕ) (bs behind : List ℕ) → judged_rest s (b ∷ bs ++ behind) ≡ judged_rest (with_byte s b) (bs ++ behind) → Tells cut after used (with_byte s b) bs behind → Tells cut after (used + 1) s (b ∷ bs) behind
tells-byte Whole after used s b bs behind same tells =
    let shift : drop (used + 1) (b ∷ bs) ≡ drop used bs = ap (λ n. drop n (b ∷ bs)) (add-one used) in
    (same ∙ (tells.0 ∙ ap (λ rest. (after.count, Ok after.line) ∷ judged_rest after (rest ++ behind)) (sym shift)), (tells.1.0, (omega arith, omega (arith, tells.1.1.1))))
tells-byte More after used s b bs behind same tells = (same ∙ tells.0, tells.1)
tells-byte (Bad fault) after used s b bs behind same tells = same ∙ tells

module _ (s : Cutting) (b : ℕ) (bs behind : List ℕ) (is : IsCutting s) where
  abbrev long_or : Bool → Fed
  long_or t = cond t (record { after = closed_cutting s; cut = Bad LineTooLong; used = 1 }) (one_more (result_of_feed (with_byte s b) bs))

  abbrev line_or : Bool → Fed → Fed
  line_or t f = cond t (record { after = with_whole_line s; cut = Whole; used = 1 }) f

  abbrev late_or : Bool → Fed → Fed
  late_or t f = cond t (record { after = closed_cutting s; cut = Bad TooManyLines; used = 1 }) f

  abbrev rest_or : Bool → FoundLines
  rest_or t = judged_from (s.count + 1) (cond t (s.kept ∷ lines (bs ++ behind)) (lines_after (s.kept ++ b ∷ []) (bs ++ behind)))

  tells-late : s.count ≡ last_number → judged_rest s (b ∷ bs ++ behind) ≡ (s.count + 1, Err TooManyLines) ∷ []
  tells-late number = judged-late (s.count + 1) s.kept (b ∷ bs ++ behind) (omega arith) (omega arith)

  tells-line : s.count ≢ last_number → eqb b 10 ≡ true → Tells Whole (with_whole_line s) 1 s (b ∷ bs) behind
  tells-line number newline = (
    ap rest_or newline ∙ ap (λ j. judged_then (s.count + 1) j (judged_from (s.count + 1 + 1) (lines (bs ++ behind)))) (judge-ok (s.count + 1) s.kept (omega (arith, number, is.few)) is.short),
    (record { short = omega arith; few = omega (arith, number, is.few); no_more = λ e. refl }, (omega arith, omega arith)),
  )

  tells-long : s.count ≢ last_number → eqb b 10 ≡ false → length s.kept ≡ line_limit → judged_rest s (b ∷ bs ++ behind) ≡ (s.count + 1, Err LineTooLong) ∷ []
  tells-long number other full =
      ap rest_or other ∙ judged-long (s.count + 1) (s.kept ++ b ∷ []) (bs ++ behind) (omega (arith, number, is.few)) (omega (arith, length_push s.kept b))

  is-byte : s.count ≢ last_number → length s.kept ≢ line_limit → IsCutting (with_byte s b)
  is-byte number room = record { short = omega (arith, length_push s.kept b, is.short, room); few = is.few; no_more = λ e. absurd (number e) }

-- feed tells what is judged of all bytes
pub fed-tells : (s : Cutting) (xs behind : List ℕ) → IsCutting s → FedTells (result_of_feed s xs) s xs behind
fed-tells s [] behind is = (refl, is)
fed-tells s (b ∷ bs) behind is =
    elim (eqb_tells s.count last_number) [
      | inl number ↦ rw number.0 (tells-late s b bs behind is number.1)
      | inr number ↦ elim (cases_Bool (eqb b 10)) [
        | inl newline ↦ rw (number.0, newline) (tells-line s b bs behind is number.1 newline)
        | inr other ↦ elim (eqb_tells (length s.kept) line_limit) [
          | inl full ↦ rw (number.0, other, full.0) (tells-long s b bs behind is number.1 other full.1)
          | inr room ↦ rw (number.0, other, room.0) (tells-byte (result_of_feed (with_byte s b) bs).cut (result_of_feed (with_byte s b) bs).after (result_of_feed (with_byte s b) bs).used s b bs behind (ap (rest_or s b bs behind is) other) (fed-tells (with_byte s b) bs behind (is-byte s b bs behind is number.1 room.1)))
        ]
      ]
    ]

-- and end tells what is judged where nothing is behind
pub end-tells : (s : Cutting) → IsCutting s → found_then (end_cut s.kept) (after_end s s.kept) [] [] ≡ judged_rest s []
end-tells s is = end_of s.kept is.short (λ e some. omega (arith, ap length (is.no_more e), some)) where
  end_of : (kept : List ℕ) → length kept ≤ line_limit → (s.count ≡ last_number → 0 < length kept → ⊥) → found_then (end_cut kept) (after_end (record { kept = kept; count = s.count; line = s.line; is_open = s.is_open }) kept) [] [] ≡ judged_from (s.count + 1) (lines_after kept [])
  end_of [] short no_more = refl
  end_of (b ∷ bs) short no_more =
      let number : s.count ≢ last_number = λ e. no_more e (omega arith) in
      ap (λ j. judged_then (s.count + 1) j []) (sym (judge-ok (s.count + 1) (b ∷ bs) (omega (arith, number, is.few)) short))

-- one call, and the calls behind it
calls-tell : (calls : ℕ) (cut : Cut) (after : Cutting) (used : ℕ) (s : Cutting) (p : List ℕ) (ps : List (List ℕ)) → Tells cut after used s p (concat ps) → length (p ++ concat ps) + length ps < calls → ((t : Cutting) (qs : List (List ℕ)) → IsCutting t → length (concat qs) + length qs < calls → found_in calls t qs ≡ judged_rest t (concat qs)) → found_then cut after (found_in calls after (drop used p ∷ ps)) (found_in calls after ps) ≡ judged_rest s (p ++ concat ps)
calls-tell calls Whole after used s p ps tells few others =
    let fewer : length (drop used p ++ concat ps) + length (drop used p ∷ ps) < calls = omega (arith, few, tells.1.1.0, tells.1.1.1, length-append p (concat ps), length-append (drop used p) (concat ps), length-drop used p) in
    ap (λ found. (after.count, Ok after.line) ∷ found) (others after (drop used p ∷ ps) tells.1.0 fewer) ∙ sym tells.0
calls-tell calls More after used s p ps tells few others =
    others after ps tells.1 (omega (arith, few, length-append p (concat ps))) ∙ sym tells.0
calls-tell calls (Bad fault) after used s p ps tells few others = sym tells

-- with enough calls
found_in-rest : (calls : ℕ) (s : Cutting) (ps : List (List ℕ)) → IsCutting s → length (concat ps) + length ps < calls → found_in calls s ps ≡ judged_rest s (concat ps)
found_in-rest zero s ps is few = absurd (omega arith)
found_in-rest (suc calls) s [] is few = end-tells s is
found_in-rest (suc calls) s (p ∷ ps) is few =
    let f = result_of_feed s p in
    calls-tell calls f.cut f.after f.used s p ps (fed-tells s p (concat ps) is) (omega arith) (found_in-rest calls)

-- from the first piece on
pub found_in-judged : (pieces : List (List ℕ)) (calls : ℕ) → length (concat pieces) + length pieces < calls → found_in calls new_cutting pieces ≡ judged_lines (concat pieces)
found_in-judged pieces calls few =
    found_in-rest calls new_cutting pieces (record { short = omega arith; few = omega arith; no_more = λ e. refl }) few
