-- The labelled blocks of a best region: a call on an unlabelled one leaves them, and so do zeros for the bytes of its cells.
use Rattle.vc_base.proofs.Common.{◌≡◌, ℕ, true, false, cond, List, [], ◌∷◌, map, nat_lt, Some, filter, Option, option_map, sym, refl, ap, ◌∙◌, ⊎_elim, eqb-true, cases_Bool, same_Some, place_of, without_block_at, zeros, Block, Layout, is_at, without_block, find_block}
use Rattle.vc_best.proofs.Common.{block_shown, is_unlabelled, labelled_blocks, zeroed_layout}
use Rattle.vc_best.proofs.RestBlocks.{zeroed-labelled}

-- those of some blocks
abbrev pub labelled_of : List (Block ℕ) → List (Block ℕ)
labelled_of bs = filter (λ b. nat_lt 0 b.label) bs

-- a block of label 0 goes
pub without-labelled : (at : ℕ × ℕ) (bs : List (Block ℕ)) → option_map (λ b. b.label) (find_block at bs) ≡ Some 0 → labelled_of (without_block at bs) ≡ labelled_of bs
without-labelled at [] is = refl
without-labelled at (b ∷ bs) is =
    let label : Option (Block ℕ) → Option ℕ = option_map (λ c. c.label) in
    ⊎_elim
    (λ (t : is_at at b ≡ true).
    let none : b.label ≡ 0 = same_Some b.label 0 (sym (ap (λ v. label (cond v (Some b) (find_block at bs))) t) ∙ is) in
    let skipped : nat_lt 0 b.label ≡ false = ap (nat_lt 0) none in
    rw t (rw skipped refl))
    (λ (t : is_at at b ≡ false).
    let rest = without-labelled at bs (sym (ap (λ v. label (cond v (Some b) (find_block at bs))) t) ∙ is) in
    rw t (ap (λ cs. cond (nat_lt 0 b.label) (b ∷ cs) cs) rest))
    (cases_Bool (is_at at b))

-- zeros for the bytes of the unlabelled ones
pub labelled-zeroed : (bs : List (Block ℕ)) → labelled_of (map block_shown bs) ≡ labelled_of bs
labelled-zeroed [] = refl
labelled-zeroed (b ∷ bs) =
    let rest = labelled_of (map block_shown bs) in
    ⊎_elim
    (λ (t : is_unlabelled b ≡ true).
    let skipped : nat_lt 0 b.label ≡ false = ap (nat_lt 0) (eqb-true b.label 0 t) in
    rw skipped (labelled-zeroed bs))
    (λ (t : is_unlabelled b ≡ false).
    ap (λ (c : Block ℕ). cond (nat_lt 0 b.label) (c ∷ rest) rest) (zeroed-labelled b t) ∙ ap (λ cs. cond (nat_lt 0 b.label) (b ∷ cs) cs) (labelled-zeroed bs))
    (cases_Bool (is_unlabelled b))

-- an unlabelled block was put
pub labelled-put : (r r' : Layout ℕ) (a size : ℕ) → find_block (place_of a) r'.blocks ≡ Some (zeros 0 size (place_of a)) → without_block (place_of a) r'.blocks ≡ r.blocks → labelled_blocks (zeroed_layout r') ≡ labelled_blocks (zeroed_layout r)
labelled-put r r' a size there others =
    labelled-zeroed r'.blocks
    ∙ (sym (without-labelled (place_of a) r'.blocks (ap (option_map (λ (b : Block ℕ). b.label)) there))
    ∙ (ap labelled_of others ∙ sym (labelled-zeroed r.blocks)))

-- an unlabelled block was freed
pub labelled-freed : (r : Layout ℕ) (a : ℕ) → option_map (λ b. b.label) (find_block (place_of a) r.blocks) ≡ Some 0 → labelled_blocks (zeroed_layout (without_block_at r (place_of a))) ≡ labelled_blocks (zeroed_layout r)
labelled-freed r a is = labelled-zeroed (without_block (place_of a) r.blocks) ∙ (without-labelled (place_of a) r.blocks is ∙ sym (labelled-zeroed r.blocks))
