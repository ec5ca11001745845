-- What a discipline's terms don't allow of an image's segments, as number and size in order of lending.
use Rattle.std.specs.Prelude.{ℕ, ◌%◌, ◌&&◌, ◌==◌, List, Bool, true, false, Option, None, Some, find, length, nat_lt, not, option_map}
use Rattle.vc_model.specs.Discipline.{Terms}
use Rattle.vc_image.specs.declared.lends.fault.ImageLendFault.{ImageLendFault}
use Rattle.vc_image.specs.declared.lends.fault.ImageLendFault.TheVariants.{Round, Grows}

-- whether a round doesn't divide a segment's size
abbrev pub is_uneven : ℕ → ℕ × ℕ → Bool
is_uneven round pair = not (pair.1 % round == 0)

-- the number of the first of which that is so
abbrev pub first_uneven : ℕ → List (ℕ × ℕ) → Option ℕ
first_uneven round pairs = option_map (λ (p : ℕ × ℕ). p.0) (find (is_uneven round) pairs)

-- whether segments are made longer where there is more than one
abbrev pub has_too_many : Terms → List (ℕ × ℕ) → Bool
has_too_many terms pairs = nat_lt 1 (length pairs) && terms.grows

-- that one is told, or else that there are too many for a discipline that grows
abbrev pub lend_fault : Option ℕ → Bool → Option ImageLendFault
lend_fault (Some number) many = Some (Round number)
lend_fault None true = Some Grows
lend_fault None false = None

abbrev pub terms_fault : Terms → List (ℕ × ℕ) → Option ImageLendFault
terms_fault terms pairs = lend_fault (first_uneven terms.round pairs) (has_too_many terms pairs)
