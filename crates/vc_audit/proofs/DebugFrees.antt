-- What freeing a block with guards leaves of the user's blocks.
use Rattle.vc_base.proofs.Common.{◌≡◌, ℕ, suc, ◌+◌, ◌<◌, List, ◌++◌, map, length, get_or, take, drop, HoldsAt, remove, sym, ap, ◌∙◌, arith, drop-map, get_or-map, length-map, map-append, Block, address_of}
use Rattle.std.proofs.lemmas.List.{take-map}
use Rattle.vc_audit.specs.Debug.{user_block}
use Rattle.vc_audit.proofs.DebugBlocks.{address-user}

remove-map : {A B : Type 0} (f : A → B) (xs : List A) (i : ℕ) → remove (map f xs) i ≡ map f (remove xs i)
remove-map f xs i =
    ap (λ ys. ys ++ drop (suc i) (map f xs)) (take-map f i xs)
    ∙ (ap (λ ys. map f (take i xs) ++ ys) (drop-map f (suc i) xs) ∙ sym (map-append f (take i xs) (drop (suc i) xs)))

-- the one user's block at an address goes
pub freed-user : (bs cs : List (Block ℕ)) (a x : ℕ) → a ≡ x + 1 → ((i : ℕ) → i < length bs → HoldsAt (λ b. address_of b ≡ x) bs i → cs ≡ remove bs i) →
    (i : ℕ) → i < length (map user_block bs) → HoldsAt (λ b. address_of b ≡ a) (map user_block bs) i → map user_block cs ≡ remove (map user_block bs) i
freed-user bs cs a x next freed i lt at =
    let within : i < length bs = omega (arith, lt, length-map bs (user_block {L = ℕ})) in
    let holds : HoldsAt (λ b. address_of b ≡ x) bs i = λ d.
    let here : address_of (get_or bs i d) + 1 ≡ a = sym (address-user (get_or bs i d)) ∙ (ap address_of (sym (get_or-map user_block bs i d (user_block d) within)) ∙ at (user_block d)) in
    omega (arith, here, next) in
    ap (map user_block) (freed i within holds) ∙ sym (remove-map user_block bs i)
