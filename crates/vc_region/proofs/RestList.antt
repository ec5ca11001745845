-- What is found in blocks that show zeros where they are unlabelled: the same places, labels and sizes.
use Rattle.vc_base.proofs.Common.{◌≡◌, ℕ, ◌+◌, ◌<◌, ◌≤◌, true, false, cond, List, [], ◌∷◌, map, length, IfSome, nat_lt, Some, None, fold, filter, Option, option_map, sym, refl, ap, ◌∙◌, subst, arith, All-map, get_or-map, length-map, place_of, zeros, Block, address_of, lesser_by, HaveOwnPlaces, HasRange, find_block, block_at, by_address, next_block}
use Rattle.vc_best.specs.Cells.{block_shown}
use Rattle.vc_best.proofs.RestBlocks.{block_at-zeroed, by_address-zeroed, find_block-zeroed, zeroed-zeros}

pub own-zeroed : (bs : List (Block ℕ)) → HaveOwnPlaces bs → HaveOwnPlaces (map block_shown bs)
own-zeroed bs own =
    record {
      distinct = λ i j d lt within same.
          let inside : j < length bs = omega (arith, within, length-map bs block_shown) in
          let before : i < length bs = omega (arith, lt, inside) in
          own.distinct i j d lt inside (sym (ap address_of (get_or-map block_shown bs i d d before)) ∙ (same ∙ ap address_of (get_or-map block_shown bs j d d inside)));
      first = All-map (λ (b : Block ℕ). 1 ≤ b.seg) block_shown bs own.first;
      exact = All-map (λ (b : Block ℕ). place_of (address_of b) ≡ (b.seg, b.off)) block_shown bs own.exact;
    }

-- what is looked at of a block is not its bytes
module _ {A : Type 0} (view : Block ℕ → A) (same : (b : Block ℕ) → view (block_shown b) ≡ view b) where
  pub view-option : (o : Option (Block ℕ)) → option_map view (option_map block_shown o) ≡ option_map view o
  view-option None = refl
  view-option (Some b) = ap (λ x. Some x) (same b)

  pub view-map : (bs : List (Block ℕ)) → map view (map block_shown bs) ≡ map view bs
  view-map [] = refl
  view-map (b ∷ bs) = ap (λ x. x ∷ map view (map block_shown bs)) (same b) ∙ ap (λ xs. view b ∷ xs) (view-map bs)

  pub view-found : (at : ℕ × ℕ) (bs : List (Block ℕ)) → option_map view (find_block at (map block_shown bs)) ≡ option_map view (find_block at bs)
  view-found at bs = ap (option_map view) (find_block-zeroed at bs) ∙ view-option (find_block at bs)

  pub view-by_address : (bs : List (Block ℕ)) → map view (by_address (map block_shown bs)) ≡ map view (by_address bs)
  view-by_address bs = ap (map view) (by_address-zeroed bs) ∙ view-map (by_address bs)

  pub view-block_at : (at : ℕ × ℕ) (bs : List (Block ℕ)) → option_map {U = A × ℕ} (λ f. (view f.0, f.1)) (block_at at (map block_shown bs)) ≡ option_map {U = A × ℕ} (λ f. (view f.0, f.1)) (block_at at bs)
  view-block_at at bs = ap (option_map {U = A × ℕ} (λ f. (view f.0, f.1))) (block_at-zeroed at bs) ∙ seen (block_at at bs)
    where
      seen : (o : Option (Block ℕ × ℕ)) → option_map {U = A × ℕ} (λ f. (view f.0, f.1)) (option_map {U = Block ℕ × ℕ} (λ g. (block_shown g.0, g.1)) o) ≡ option_map {U = A × ℕ} (λ f. (view f.0, f.1)) o
      seen None = refl
      seen (Some g) = let pair : A → Option (A × ℕ) = λ x. Some (x, g.1) in ap pair (same g.0)

-- the block behind an address
lesser-zeroed : (o : Option (Block ℕ)) (b : Block ℕ) → lesser_by address_of (option_map block_shown o) (block_shown b) ≡ option_map block_shown (lesser_by address_of o b)
lesser-zeroed None b = refl
lesser-zeroed (Some c) b =
    elim (nat_lt (address_of b) (address_of c)) as (λ v. cond v (Some (block_shown b)) (Some (block_shown c)) ≡ option_map block_shown (cond v (Some b) (Some c)))
    [ true ↦ refl | false ↦ refl ]

fold-zeroed : (o : Option (Block ℕ)) (bs : List (Block ℕ)) → fold (lesser_by address_of) (option_map block_shown o) (map block_shown bs) ≡ option_map block_shown (fold (lesser_by address_of) o bs)
fold-zeroed o [] = refl
fold-zeroed o (b ∷ bs) = ap (λ p. fold (lesser_by address_of) p (map block_shown bs)) (lesser-zeroed o b) ∙ fold-zeroed (lesser_by address_of o b) bs

behind-zeroed : (after : ℕ) (bs : List (Block ℕ)) → filter (λ b. nat_lt after (address_of b)) (map block_shown bs) ≡ map block_shown (filter (λ b. nat_lt after (address_of b)) bs)
behind-zeroed after [] = refl
behind-zeroed after (b ∷ bs) =
    let rest = filter (λ (c : Block ℕ). nat_lt after (address_of c)) in
    elim (nat_lt after (address_of b)) as (λ v. cond v (block_shown b ∷ rest (map block_shown bs)) (rest (map block_shown bs)) ≡ map block_shown (cond v (b ∷ rest bs) (rest bs)))
    [ true ↦ ap (λ cs. block_shown b ∷ cs) (behind-zeroed after bs) | false ↦ behind-zeroed after bs ]

pub next_block-zeroed : (after : ℕ) (bs : List (Block ℕ)) → next_block after (map block_shown bs) ≡ option_map block_shown (next_block after bs)
next_block-zeroed after bs =
    ap (fold (lesser_by address_of) None) (behind-zeroed after bs) ∙ fold-zeroed None (filter (λ b. nat_lt after (address_of b)) bs)

-- the range of a block
range-option : (n : ℕ) (o : Option (Block ℕ)) → IfSome o (λ b. n ≤ b.size) → IfSome (option_map block_shown o) (λ b. n ≤ b.size)
range-option n None h = h
range-option n (Some b) h = h

option-range : (n : ℕ) (o : Option (Block ℕ)) → IfSome (option_map block_shown o) (λ b. n ≤ b.size) → IfSome o (λ b. n ≤ b.size)
option-range n None h = h
option-range n (Some b) h = h

pub range-zeroed : (bs : List (Block ℕ)) (a off len : ℕ) → HasRange bs a off len → HasRange (map block_shown bs) a off len
range-zeroed bs a off len h =
    subst (λ (o : Option (Block ℕ)). IfSome o (λ b. off + len ≤ b.size)) (sym (find_block-zeroed (place_of a) bs)) (range-option (off + len) (find_block (place_of a) bs) h)

pub zeroed-range : (bs : List (Block ℕ)) (a off len : ℕ) → HasRange (map block_shown bs) a off len → HasRange bs a off len
zeroed-range bs a off len h =
    option-range (off + len) (find_block (place_of a) bs) (subst (λ (o : Option (Block ℕ)). IfSome o (λ b. off + len ≤ b.size)) (find_block-zeroed (place_of a) bs) h)

-- a block of zeros that is found
pub zeros-found : (at to : ℕ × ℕ) (label size : ℕ) (bs : List (Block ℕ)) → find_block at bs ≡ Some (zeros label size to) → find_block at (map block_shown bs) ≡ Some (zeros label size to)
zeros-found at to label size bs found =
    find_block-zeroed at bs ∙ (ap (option_map block_shown) found ∙ ap (λ b. Some b) (zeroed-zeros label size to))
