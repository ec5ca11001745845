-- A name fits the buffer of a name.
use Rattle.vc_base.proofs.Common.{ℕ, ◌≤◌, ◌&&◌, leb, List, [], ◌∷◌, length, IsTrue, arith, leb-true, and_parts, list_all}
use Rattle.vc_script.specs.Words.{is_letter, is_name, is_name_byte}

-- a name has 1 to 32 bytes
pub length-name : (word : List ℕ) → IsTrue (is_name word) → (1 ≤ length word) × (length word ≤ 32)
length-name [] name = cc
length-name (b ∷ bs) name =
    let rest = and_parts (list_all is_name_byte bs) (leb (length bs) 31) ((and_parts (is_letter b) (list_all is_name_byte bs && leb (length bs) 31) name).1) in
    let few = leb-true (length bs) 31 rest.1 in
    (omega arith, omega arith)

pub ruleset name_bounds = (length-name)
