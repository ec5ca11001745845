-- The legal alignments, and the size of the segment that a block is asked for.
use Rattle.vc_base.proofs.Common.{◌≡◌, ℕ, ◌+◌, ◌%◌, ◌≤◌, List, [], ◌∷◌, refl, arith, All-contains, IsSegmentSize, round_up, span}
use Rattle.std.proofs.lemmas.List.Elements.{All-from_recursion}
use Rattle.vc_model.specs.Discipline.{IsRound}
use Rattle.vc_model.specs.Place.{IsAlign}
use Rattle.vc_seg.proofs.Rounding.{IsSegmentSize-asked, round_up-least, round_up-most}

-- what an alignment is
pub record IsAligned (align : ℕ) : Type 0 where
  pub least : 32 ≤ align
  pub most : align ≤ 4096
  pub multiple : align % 32 ≡ 0
  pub first : round_up 32 align ≡ align

pub IsAligned-from_IsAlign : (align : ℕ) → IsAlign align → IsAligned align
IsAligned-from_IsAlign align h =
    let one : (a : ℕ) → 32 ≤ a → a ≤ 4096 → a % 32 ≡ 0 → round_up 32 a ≡ a → IsAligned a = λ a p q r s. record { least = p; most = q; multiple = r; first = s } in
    let aligns : List ℕ = 32 ∷ 64 ∷ 128 ∷ 256 ∷ 512 ∷ 1024 ∷ 2048 ∷ 4096 ∷ [] in
    All-contains IsAligned aligns align
    (All-from_recursion IsAligned aligns (
      one 32 (omega arith) (omega arith) refl refl,
      (
        one 64 (omega arith) (omega arith) refl refl,
        (
          one 128 (omega arith) (omega arith) refl refl,
          (
            one 256 (omega arith) (omega arith) refl refl,
            (
              one 512 (omega arith) (omega arith) refl refl,
              (
                one 1024 (omega arith) (omega arith) refl refl,
                (
                  one 2048 (omega arith) (omega arith) refl refl,
                  (
                    one 4096 (omega arith) (omega arith) refl refl,
                    tt,
                  ),
                ),
              ),
            ),
          ),
        ),
      ),
    ))
    h

pub IsSegmentSize-need : (round size align : ℕ) → IsRound round → 1 ≤ size → size ≤ 16777264 → IsAligned align → IsSegmentSize (round_up (span size + align) round)
IsSegmentSize-need round size align r some most a =
    let low = round_up-least (size + 16) 32 (omega arith) in
    let high = round_up-most (size + 16) 32 (omega arith) in
    let first = a.least in
    let last = a.most in
    IsSegmentSize-asked round (span size + align) r (omega (arith, low, first, some)) (omega (arith, high, last, most))
