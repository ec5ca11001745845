-- Blocks that show zeros where they are unlabelled: their places, labels and sizes stay, and a labelled one stays whole.
use Rattle.vc_base.proofs.Common.{◌≡◌, ℕ, ◌-◌, Bool, true, false, cond, eqb, ◌≢◌, List, [], ◌∷◌, map, replicate, nat_lt, Some, None, Option, option_map, find, sym, refl, ap, ◌∙◌, ⊎_elim, ne_eqb, cases_Bool, same_Some, zeros, Block, address_of, footprint, footprints, is_at, lies_before, with_block, without_block, put_by, change_block, find_block, block_at, by_address, holds_byte}
use Rattle.vc_best.proofs.Common.{block_shown, is_unlabelled}

-- a block that shows zeros where a test says so
abbrev pub shown : Block ℕ → Bool → Block ℕ
shown b v = record b { bytes = cond v (replicate b.size 0) b.bytes }

pub zeroed-labelled : (b : Block ℕ) → is_unlabelled b ≡ false → block_shown b ≡ b
zeroed-labelled b h = ap (shown b) h

-- a block of zeros shows them anyway
pub zeroed-zeros : (label size : ℕ) (at : ℕ × ℕ) → block_shown (zeros label size at) ≡ zeros label size at
zeroed-zeros label size at =
    elim (is_unlabelled (zeros label size at)) as (λ v. shown (zeros label size at) v ≡ zeros label size at)
    [ true ↦ refl | false ↦ refl ]

pub footprints-zeroed : (bs : List (Block ℕ)) → footprints (map block_shown bs) ≡ footprints bs
footprints-zeroed [] = refl
footprints-zeroed (b ∷ bs) = ap (λ rs. footprint b ∷ rs) (footprints-zeroed bs)

pub addresses-zeroed : (bs : List (Block ℕ)) → map address_of (map block_shown bs) ≡ map address_of bs
addresses-zeroed [] = refl
addresses-zeroed (b ∷ bs) = ap (λ ns. address_of b ∷ ns) (addresses-zeroed bs)

pub sizes-zeroed : (bs : List (Block ℕ)) → map (λ b. b.size) (map block_shown bs) ≡ map (λ b. b.size) bs
sizes-zeroed [] = refl
sizes-zeroed (b ∷ bs) = ap (λ ns. b.size ∷ ns) (sizes-zeroed bs)

pub with_block-zeroed : (b : Block ℕ) (cs : List (Block ℕ)) → map block_shown (with_block b cs) ≡ with_block (block_shown b) (map block_shown cs)
with_block-zeroed b [] = refl
with_block-zeroed b (c ∷ cs) =
    elim (lies_before b c) as (λ v. map block_shown (cond v (b ∷ c ∷ cs) (c ∷ with_block b cs)) ≡ cond v (block_shown b ∷ block_shown c ∷ map block_shown cs) (block_shown c ∷ with_block (block_shown b) (map block_shown cs)))
    [ true ↦ refl | false ↦ ap (λ ds. block_shown c ∷ ds) (with_block-zeroed b cs) ]

pub without_block-zeroed : (at : ℕ × ℕ) (bs : List (Block ℕ)) → map block_shown (without_block at bs) ≡ without_block at (map block_shown bs)
without_block-zeroed at [] = refl
without_block-zeroed at (b ∷ bs) =
    elim (is_at at b) as (λ v. map block_shown (cond v bs (b ∷ without_block at bs)) ≡ cond v (map block_shown bs) (block_shown b ∷ without_block at (map block_shown bs)))
    [ true ↦ refl | false ↦ ap (λ cs. block_shown b ∷ cs) (without_block-zeroed at bs) ]

-- a find whose test looks at no byte
pub find-zeroed : (test : Block ℕ → Bool) (same : (b : Block ℕ) → test (block_shown b) ≡ test b) (bs : List (Block ℕ)) → find test (map block_shown bs) ≡ option_map block_shown (find test bs)
find-zeroed test same [] = refl
find-zeroed test same (b ∷ bs) =
    ap (λ v. cond v (Some (block_shown b)) (find test (map block_shown bs))) (same b)
    ∙ elim (test b) as (λ v. cond v (Some (block_shown b)) (find test (map block_shown bs)) ≡ option_map block_shown (cond v (Some b) (find test bs)))
    [ true ↦ refl | false ↦ find-zeroed test same bs ]

pub find_block-zeroed : (at : ℕ × ℕ) (bs : List (Block ℕ)) → find_block at (map block_shown bs) ≡ option_map block_shown (find_block at bs)
find_block-zeroed at bs = find-zeroed (is_at at) (λ b. refl) bs

-- a change of the block at a place that keeps the zeros that it shows
pub change_block-zeroed : (change change' : Block ℕ → Block ℕ) (at : ℕ × ℕ) (bs : List (Block ℕ)) → ((b : Block ℕ) → find_block at bs ≡ Some b → block_shown (change b) ≡ change' (block_shown b)) → map block_shown (change_block change at bs) ≡ change_block change' at (map block_shown bs)
change_block-zeroed change change' at [] same = refl
change_block-zeroed change change' at (b ∷ bs) same =
    ⊎_elim
    (λ (t : is_at at b ≡ true). rw t (ap (λ c. c ∷ map block_shown bs) (same b (ap (λ v. cond v (Some b) (find_block at bs)) t))))
    (λ (t : is_at at b ≡ false).
    rw t (ap (λ cs. block_shown b ∷ cs) (change_block-zeroed change change' at bs (λ c e. same c (ap (λ v. cond v (Some b) (find_block at bs)) t ∙ e)))))
    (cases_Bool (is_at at b))

put_by-zeroed : (b : Block ℕ) (cs : List (Block ℕ)) → map block_shown (put_by address_of b cs) ≡ put_by address_of (block_shown b) (map block_shown cs)
put_by-zeroed b [] = refl
put_by-zeroed b (c ∷ cs) =
    elim (nat_lt (address_of b) (address_of c)) as (λ v. map block_shown (cond v (b ∷ c ∷ cs) (c ∷ put_by address_of b cs)) ≡ cond v (block_shown b ∷ block_shown c ∷ map block_shown cs) (block_shown c ∷ put_by address_of (block_shown b) (map block_shown cs)))
    [ true ↦ refl | false ↦ ap (λ ds. block_shown c ∷ ds) (put_by-zeroed b cs) ]

pub by_address-zeroed : (bs : List (Block ℕ)) → by_address (map block_shown bs) ≡ map block_shown (by_address bs)
by_address-zeroed [] = refl
by_address-zeroed (b ∷ bs) = ap (put_by address_of (block_shown b)) (by_address-zeroed bs) ∙ sym (put_by-zeroed b (by_address bs))

pub block_at-zeroed : (at : ℕ × ℕ) (bs : List (Block ℕ)) → block_at at (map block_shown bs) ≡ option_map {U = Block ℕ × ℕ} (λ g. (block_shown g.0, g.1)) (block_at at bs)
block_at-zeroed at bs =
    ap (option_map {U = Block ℕ × ℕ} (λ b. (b, at.1 - b.off))) (find-zeroed (holds_byte at) (λ b. refl) bs)
    ∙ holds (find (holds_byte at) bs)
  where
    holds : (o : Option (Block ℕ)) → option_map {U = Block ℕ × ℕ} (λ b. (b, at.1 - b.off)) (option_map block_shown o) ≡ option_map {U = Block ℕ × ℕ} (λ g. (block_shown g.0, g.1)) (option_map {U = Block ℕ × ℕ} (λ b. (b, at.1 - b.off)) o)
    holds None = refl
    holds (Some b) = refl

-- a block of a label from 1 on
pub plain : (b : Block ℕ) → b.label ≢ 0 → is_unlabelled b ≡ false
plain b labelled = ne_eqb b.label 0 labelled

-- it stays as it is found
pub found-labelled : (at : ℕ × ℕ) (bs : List (Block ℕ)) (b : Block ℕ) → find_block at bs ≡ Some b → b.label ≢ 0 → find_block at (map block_shown bs) ≡ Some b
found-labelled at bs b found labelled =
    find_block-zeroed at bs ∙ (ap (option_map block_shown) found ∙ ap (λ c. Some c) (zeroed-labelled b (plain b labelled)))

-- a change that keeps the label of the block, which is labelled
pub change-labelled : (change : Block ℕ → Block ℕ) → ((b : Block ℕ) → (change b).label ≡ b.label) → (b : Block ℕ) → is_unlabelled b ≡ false → block_shown (change b) ≡ change (block_shown b)
change-labelled change keeps b h =
    zeroed-labelled (change b) (ap (λ n. eqb n 0) (keeps b) ∙ h) ∙ ap change (sym (zeroed-labelled b h))

pub change_block-labelled : (change : Block ℕ → Block ℕ) → ((b : Block ℕ) → (change b).label ≡ b.label) → (at : ℕ × ℕ) (bs : List (Block ℕ)) (b : Block ℕ) → find_block at bs ≡ Some b → b.label ≢ 0 → map block_shown (change_block change at bs) ≡ change_block change at (map block_shown bs)
change_block-labelled change keeps at bs b found labelled =
    change_block-zeroed change change at bs
    (λ c e. change-labelled change keeps c (ap is_unlabelled (same_Some c b (sym e ∙ found)) ∙ plain b labelled))
