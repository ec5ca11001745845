-- What a call of feed leaves of a cutter.
use Rattle.vc_base.proofs.Common.{◌≡◌, ℕ, ◌+◌, eqb, List, [], ◌∷◌, length, refl, subst, inl, inr, arith, eqb_tells, cases_Bool, length_push}
use Rattle.vc_script.specs.declared.cutter.Cut.{Cut}
use Rattle.vc_script.specs.declared.cutter.Cut.TheVariants.{Whole, More, Bad}
use Rattle.vc_script.specs.Judged.{line_limit, last_number}
use Rattle.vc_script.specs.Cutting.{Cutting, IsCutting, new_cutting}
use Rattle.vc_script.specs.Cutter.{result_of_feed, with_byte}
use Rattle.vc_script.proofs.Pieces.{Tells, fed-tells}

-- more may be fed behind a whole line, and where more is wanted; then all bytes are kept
abbrev pub Leaves : Cut → Cutting → ℕ → Cutting → List ℕ → Type 0
Leaves Whole after used s xs = (after.is_open ≡ s.is_open) × (after.count ≡ s.count + 1)
Leaves More after used s xs =
    (after.is_open ≡ s.is_open) × ((after.count ≡ s.count) × ((used ≡ length xs) × (length after.kept ≡ length s.kept + used)))
Leaves (Bad fault) after used s xs = Unit {0}

leaves-byte : (cut : Cut) (after : Cutting) (used : ℕ) (s : Cutting) (b : ℕ) (bs : List ℕ) → Leaves cut after used (with_byte s b) bs → Leaves cut after (used + 1) s (b ∷ bs)
leaves-byte Whole after used s b bs one = one
leaves-byte More after used s b bs one =
    (one.0, (one.1.0, (omega (arith, one.1.1.0), omega (arith, one.1.1.1, length_push s.kept b))))
leaves-byte (Bad fault) after used s b bs one = tt

pub fed-leaves : (s : Cutting) (xs : List ℕ) → Leaves (result_of_feed s xs).cut (result_of_feed s xs).after (result_of_feed s xs).used s xs
fed-leaves s [] = (refl, (refl, (refl, omega arith)))
fed-leaves s (b ∷ bs) =
    elim (eqb_tells s.count last_number) [
      | inl number ↦ rw number.0 tt
      | inr number ↦ elim (cases_Bool (eqb b 10)) [
        | inl newline ↦ rw (number.0, newline) (refl, refl)
        | inr other ↦ elim (eqb_tells (length s.kept) line_limit) [
          | inl full ↦ rw (number.0, other, full.0) tt
          | inr room ↦ rw (number.0, other, room.0) (leaves-byte (result_of_feed (with_byte s b) bs).cut (result_of_feed (with_byte s b) bs).after (result_of_feed (with_byte s b) bs).used s b bs (fed-leaves (with_byte s b) bs))
        ]
      ]
    ]

module _ (s : Cutting) (xs : List ℕ) (next : Cutting) (cut : Cut) (used : ℕ) (e : result_of_feed s xs ≡ record { after = next; cut = cut; used = used }) where
  pub leaves : Leaves cut next used s xs
  leaves = subst (λ f. Leaves f.cut f.after f.used s xs) e (fed-leaves s xs)

  pub tells : IsCutting s → (behind : List ℕ) → Tells cut next used s xs behind
  tells is behind = subst (λ f. Tells f.cut f.after f.used s xs behind) e (fed-tells s xs behind is)

pub new-is : IsCutting new_cutting
new-is = record { short = omega arith; few = omega arith; no_more = λ e. refl }
