-- What a call of feed does to the lines that are ended, and how many bytes can still be taken.
use Rattle.vc_base.proofs.Common.{◌≡◌, ℕ, ◌+◌, ◌≤◌, Bool, true, cond, eqb, ◌≢◌, List, [], ◌∷◌, ◌++◌, length, drop, Ok, sym, refl, ap, ◌∙◌, inl, inr, add-one, arith, eqb_tells, cases_Bool, length_push}
use Rattle.vc_script.specs.declared.cutter.Cut.{Cut}
use Rattle.vc_script.specs.declared.cutter.Cut.TheVariants.{Whole, More, Bad}
use Rattle.vc_script.specs.Lines.{ended_after}
use Rattle.vc_script.specs.Judged.{line_limit, last_number, judged_from, judged_then}
use Rattle.vc_script.specs.Cutting.{Cutting, IsCutting}
use Rattle.vc_script.specs.Cutter.{result_of_feed, with_byte, with_whole_line}
use Rattle.vc_script.proofs.Pieces.{judge-ok}
use Rattle.vc_session.specs.SoFar.{FoundSoFar, ended_rest, fuel}

abbrev pub Feeds : Cut → Cutting → ℕ → Cutting → List ℕ → List ℕ → Type 0
Feeds Whole after used s xs behind =
    (ended_rest s (xs ++ behind) ≡ (after.count, Ok after.line) ∷ ended_rest after (drop used xs ++ behind))
    × ((fuel after + used ≤ fuel s) × ((after.is_open ≡ s.is_open) × (after.count ≡ s.count + 1)))
Feeds More after used s xs behind =
    (ended_rest s (xs ++ behind) ≡ ended_rest after behind)
    × ((fuel after + used ≤ fuel s) × ((after.is_open ≡ s.is_open) × ((used ≡ length xs) × (after.count ≡ s.count))))
Feeds (Bad fault) after used s xs behind = Unit {0}

-- a byte more in front, which is kept
feeds-byte : (cut : Cut) (after : Cutting) (used : ℕ) (s : Cutting) (b : ℕ) (bs behind : List ℕ) → fuel (with_byte s b) + 1 ≤ fuel s → ended_rest s (b ∷ bs ++ behind) ≡ ended_rest (with_byte s b) (bs ++ behind) → Feeds cut after used (with_byte s b) bs behind → Feeds cut after (used + 1) s (b ∷ bs) behind
feeds-byte Whole after used s b bs behind less same feeds =
    let shift : drop (used + 1) (b ∷ bs) ≡ drop used bs = ap (λ n. drop n (b ∷ bs)) (add-one used) in
    (same ∙ (feeds.0 ∙ ap (λ rest. (after.count, Ok after.line) ∷ ended_rest after (rest ++ behind)) (sym shift)), (omega (arith, less, feeds.1.0), feeds.1.1))
feeds-byte More after used s b bs behind less same feeds =
    (same ∙ feeds.0, (omega (arith, less, feeds.1.0), (feeds.1.1.0, (omega (arith, feeds.1.1.1.0), feeds.1.1.1.1))))
feeds-byte (Bad fault) after used s b bs behind less same feeds = tt

module _ (s : Cutting) (b : ℕ) (bs behind : List ℕ) (is : IsCutting s) (number : s.count ≢ last_number) where
  abbrev ended_or : Bool → FoundSoFar
  ended_or t = judged_from (s.count + 1) (cond t (s.kept ∷ ended_after [] (bs ++ behind)) (ended_after (s.kept ++ b ∷ []) (bs ++ behind)))

  feeds-line : eqb b 10 ≡ true → Feeds Whole (with_whole_line s) 1 s (b ∷ bs) behind
  feeds-line newline = (
    ap ended_or newline ∙ ap (λ j. judged_then (s.count + 1) j (judged_from (s.count + 1 + 1) (ended_after [] (bs ++ behind)))) (judge-ok (s.count + 1) s.kept (omega (arith, number, is.few)) is.short),
    (omega (arith, number, is.few, is.short), (refl, refl)),
  )

  is-byte : length s.kept ≢ line_limit → IsCutting (with_byte s b)
  is-byte room = record { short = omega (arith, length_push s.kept b, is.short, room); few = is.few; no_more = λ e. absurd (number e) }

  less-byte : length s.kept ≢ line_limit → fuel (with_byte s b) + 1 ≤ fuel s
  less-byte room = omega (arith, length_push s.kept b, is.short, room)

pub fed-feeds : (s : Cutting) (xs behind : List ℕ) → IsCutting s → Feeds (result_of_feed s xs).cut (result_of_feed s xs).after (result_of_feed s xs).used s xs behind
fed-feeds s [] behind is = (refl, (omega arith, (refl, (refl, refl))))
fed-feeds s (b ∷ bs) behind is =
    elim (eqb_tells s.count last_number) [
      | inl number ↦ rw number.0 tt
      | inr number ↦ elim (cases_Bool (eqb b 10)) [
        | inl newline ↦ rw (number.0, newline) (feeds-line s b bs behind is number.1 newline)
        | inr other ↦ elim (eqb_tells (length s.kept) line_limit) [
          | inl full ↦ rw (number.0, other, full.0) tt
          | inr room ↦ rw (number.0, other, room.0) (feeds-byte (result_of_feed (with_byte s b) bs).cut (result_of_feed (with_byte s b) bs).after (result_of_feed (with_byte s b) bs).used s b bs behind (less-byte s b bs behind is number.1 room.1) (ap (ended_or s b bs behind is number.1) other) (fed-feeds (with_byte s b) bs behind (is-byte s b bs behind is number.1 room.1)))
        ]
      ]
    ]
