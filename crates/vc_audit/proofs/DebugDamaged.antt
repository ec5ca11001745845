-- A walk by the next damaged block behind an address passes the damaged blocks in order.
use Rattle.vc_base.proofs.Common.{◌≡◌, ℕ, ◌+◌, Bool, true, ltb, List, [], ◌∷◌, ℤ, IfSome, nat_lt, Some, None, filter, Option, option_map, filter_map, ap, ◌∙◌, arith, lt-ltb, nat_tests, AllByRecursion, cons_option, Block, address_of, HaveOwnPlaces, by_address}
use Rattle.vc_model.proofs.Sorting as sorting
use Rattle.vc_model.proofs.Walking.{IsRow, filter-all, filter-next, filter-none}
use Rattle.vc_audit.specs.Debug.{Debug, damage, damage_of, damaged_blocks, next_damaged, user_block}
use Rattle.vc_audit.proofs.DebugBlocks.{address-user}

both-next : (m n : ℕ) → ltb m n ≡ true → ltb (m + 1) (n + 1) ≡ true
both-next m n e = grind (arith, nat_tests)

-- where a damaged block is
abbrev pub address_in : Block ℕ × ℤ → ℕ
address_in f = address_of f.0

-- whether it is behind an address
abbrev pub behind : ℕ → Block ℕ × ℤ → Bool
behind after f = nat_lt after (address_in f)

cons-all : (P : Block ℕ × ℤ → Type 0) (o : Option (Block ℕ × ℤ)) (xs : List (Block ℕ × ℤ)) → IfSome o P → AllByRecursion P xs → AllByRecursion P (cons_option o xs)
cons-all P None xs one all = all
cons-all P (Some x) xs one all = (one, all)

some-behind : (b c : Block ℕ) → ltb (address_of b) (address_of c) ≡ true → (o : Option ℤ) → IfSome (option_map {U = Block ℕ × ℤ} (λ off. (user_block c, off)) o) (λ f. behind (address_of (user_block b)) f ≡ true)
some-behind b c e None = tt
some-behind b c e (Some off) =
    ap (λ n. ltb n (address_of (user_block c))) (address-user b) ∙ (ap (ltb (address_of b + 1)) (address-user c) ∙ both-next (address_of b) (address_of c) e)

all-behind : (b : Block ℕ) (bs : List (Block ℕ)) → AllByRecursion (λ c. sorting.is_above address_of (address_of b) c ≡ true) bs → AllByRecursion (λ f. behind (address_of (user_block b)) f ≡ true) (filter_map damage_of bs)
all-behind b [] all = tt
all-behind b (c ∷ cs) all = cons-all (λ f. behind (address_of (user_block b)) f ≡ true) (damage_of c) (filter_map damage_of cs) (some-behind b c all.0 (damage c)) (all-behind b cs all.1)

cons-row : (b : Block ℕ) (o : Option ℤ) (xs : List (Block ℕ × ℤ)) → AllByRecursion (λ f. behind (address_of (user_block b)) f ≡ true) xs → IsRow behind address_in xs → IsRow behind address_in (cons_option (option_map {U = Block ℕ × ℤ} (λ off. (user_block b, off)) o) xs)
cons-row b None xs all row = row
cons-row b (Some off) xs all row = (all, row)

row : (bs : List (Block ℕ)) → IsRow (sorting.is_above address_of) address_of bs → IsRow behind address_in (filter_map damage_of bs)
row [] r = tt
row (b ∷ bs) r = cons-row b (damage b) (filter_map damage_of bs) (all-behind b bs r.0) (row bs r.1)

-- each damaged block is behind those before it
pub damaged-row : (d : Debug ℕ) → HaveOwnPlaces d.best.blocks → IsRow behind address_in (damaged_blocks d)
damaged-row d places = row (by_address d.best.blocks) (sorting.row-sorted_by address_of d.best.blocks (sorting.distinct-pairs address_of d.best.blocks places.distinct))

-- those behind an address are the next one and those behind it
pub next-passes : (d : Debug ℕ) (after : ℕ) (x : Block ℕ × ℤ) → HaveOwnPlaces d.best.blocks → next_damaged after d ≡ Some x → filter (behind after) (damaged_blocks d) ≡ x ∷ filter (behind (address_in x)) (damaged_blocks d)
next-passes d after x places e =
    filter-next behind address_in (λ k a b p q. sorting.above-on k (address_in a) (address_in b) p q) (λ a. sorting.above-self (address_in a)) (λ k a b p q. sorting.above-back k (address_in a) (address_in b) p q)
    after (damaged_blocks d) x (damaged-row d places) e

-- where there is no next one, there are none
pub none-passes : (d : Debug ℕ) (after : ℕ) → next_damaged after d ≡ None → filter (behind after) (damaged_blocks d) ≡ []
none-passes d after e = filter-none (behind after) (damaged_blocks d) e

some-zero : (b : Block ℕ) (o : Option ℤ) → IfSome (option_map {U = Block ℕ × ℤ} (λ off. (user_block b, off)) o) (λ f. behind 0 f ≡ true)
some-zero b None = tt
some-zero b (Some off) = lt-ltb 0 (address_of (user_block b)) (omega (arith, address-user b))

all-zero : (bs : List (Block ℕ)) → AllByRecursion (λ f. behind 0 f ≡ true) (filter_map damage_of bs)
all-zero [] = tt
all-zero (b ∷ bs) = cons-all (λ f. behind 0 f ≡ true) (damage_of b) (filter_map damage_of bs) (some-zero b (damage b)) (all-zero bs)

-- a walk from 0 on passes all
pub all-pass : (d : Debug ℕ) → filter (behind 0) (damaged_blocks d) ≡ damaged_blocks d
all-pass d = filter-all (behind 0) (damaged_blocks d) (all-zero (by_address d.best.blocks))
