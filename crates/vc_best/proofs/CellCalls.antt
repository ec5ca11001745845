-- What the calls of a best region do to its cells: one on an unlabelled block does it to the cell there, and one on a labelled block does nothing.
use Rattle.vc_base.proofs.Common.{◌≡◌, ℕ, true, false, cond, ◌≢◌, List, [], ◌∷◌, replicate, Some, None, All, Option, option_map, sym, refl, ap, ◌∙◌, subst, inl, inr, ⊎_elim, eq-eqb, ne_eqb, eqb_tells, cases_Bool, All-head, All-tail, none-some, place_of, without_block_at, zeros, Discipline, Block, Layout, address_of, is_at, without_block, HaveOwnPlaces, change_block, find_block, rewritten_block, with_bytes_at}
use Rattle.vc_best.proofs.Common.{StaysButCells, cell_bytes, cells_of, disc_in, is_unlabelled, segments_in, without_cell}
use Rattle.vc_base.specs.Cells.{put}
use Rattle.vc_base.proofs.CellsLemmas.{put_other, put_same}
use Rattle.vc_model.proofs.Owned.{left-elsewhere, not-there}
use Rattle.vc_seg.specs.Boxed.{disc_in_box}
use Rattle.vc_best.specs.declared.best.Best.{Best}
use Rattle.vc_best.proofs.CellBytes.{at-one, cell-shows, find-written-other, same-cells}

-- a labelled block is no cell
pub no-cell : (bs : List (Block ℕ)) (a label : ℕ) → option_map (λ b. b.label) (find_block (place_of a) bs) ≡ Some label → label ≢ 0 → cells_of bs a ≡ None
no-cell bs a label is labelled = none (find_block (place_of a) bs) is
  where
    none : (o : Option (Block ℕ)) → option_map (λ b. b.label) o ≡ Some label → cell_bytes o ≡ None
    none None e = absurd (none-some label e)
    none (Some b) e =
        let zero : is_unlabelled b ≡ false = ne_eqb b.label 0 (λ z. labelled (sym (label-of b e) ∙ z)) in
        ap (λ v. cond v (Some b.bytes) None) zero
      where
        label-of : (b : Block ℕ) → Some b.label ≡ Some label → b.label ≡ label
        label-of b e = cc

find-none : (a : ℕ) (bs : List (Block ℕ)) → All (λ b. address_of b ≢ a) bs → find_block (place_of a) bs ≡ None
find-none a [] h = refl
find-none a (b ∷ bs) h =
    let P : Block ℕ → Type 0 = λ c. address_of c ≢ a in
    rw (not-there a b (All-head P b bs h)) (find-none a bs (All-tail P b bs h))

find-gone-other : (x a : ℕ) → x ≢ a → (bs : List (Block ℕ)) → find_block (place_of x) (without_block (place_of a) bs) ≡ find_block (place_of x) bs
find-gone-other x a ne [] = refl
find-gone-other x a ne (c ∷ cs) =
    ⊎_elim
    (λ (t : is_at (place_of a) c ≡ true). rw t (rw (at-one x a ne c t) refl))
    (λ (t : is_at (place_of a) c ≡ false). rw t (ap (cond (is_at (place_of x) c) (Some c)) (find-gone-other x a ne cs)))
    (cases_Bool (is_at (place_of a) c))

-- the block at an address goes
gone-there : (a : ℕ) (bs : List (Block ℕ)) → HaveOwnPlaces bs → cells_of (without_block (place_of a) bs) a ≡ None
gone-there a bs own = ap cell_bytes (find-none a (without_block (place_of a) bs) (left-elsewhere a bs own.distinct own.exact))

gone-other : (x a : ℕ) → x ≢ a → (bs : List (Block ℕ)) → cells_of (without_block (place_of a) bs) x ≡ cells_of bs x
gone-other x a ne bs = ap cell_bytes (find-gone-other x a ne bs)

pub cells-without : (a : ℕ) (bs : List (Block ℕ)) → HaveOwnPlaces bs → cells_of (without_block (place_of a) bs) ≡ without_cell a (cells_of bs)
cells-without a bs own =
    let after = without_block (place_of a) bs in
    same-cells (cells_of after) (without_cell a (cells_of bs))
    (λ x. elim (eqb_tells x a) as (λ _. cells_of after x ≡ without_cell a (cells_of bs) x) [
      | inl same ↦ subst (λ (n : ℕ). cells_of after n ≡ without_cell a (cells_of bs) n) (sym same.1) (gone-there a bs own ∙ sym (ap (λ t. cond t None (cells_of bs a)) (eq-eqb a a refl)))
      | inr apart ↦ gone-other x a apart.1 bs ∙ sym (ap (λ t. cond t None (cells_of bs x)) (ne_eqb x a apart.1))
    ])

pub cells-kept : (a : ℕ) (bs : List (Block ℕ)) → HaveOwnPlaces bs → cells_of bs a ≡ None → cells_of (without_block (place_of a) bs) ≡ cells_of bs
cells-kept a bs own none =
    let after = without_block (place_of a) bs in
    same-cells (cells_of after) (cells_of bs)
    (λ x. elim (eqb_tells x a) as (λ _. cells_of after x ≡ cells_of bs x) [
      | inl same ↦ subst (λ (n : ℕ). cells_of after n ≡ cells_of bs n) (sym same.1) (gone-there a bs own ∙ sym none)
      | inr apart ↦ gone-other x a apart.1 bs
    ])

-- freeing, of an unlabelled block and of a labelled one
pub cells-freed : (r : Layout ℕ) (a : ℕ) → HaveOwnPlaces r.blocks → cells_of (without_block_at r (place_of a)).blocks ≡ without_cell a (cells_of r.blocks)
cells-freed r a own = cells-without a r.blocks own

pub cells-freed-labelled : (r : Layout ℕ) (a : ℕ) → HaveOwnPlaces r.blocks → cells_of r.blocks a ≡ None → cells_of (without_block_at r (place_of a)).blocks ≡ cells_of r.blocks
cells-freed-labelled r a own none = cells-kept a r.blocks own none

-- a block that stands there over the others, unlabelled and labelled
pub cells-more : (a size : ℕ) (old new : List (Block ℕ)) → find_block (place_of a) new ≡ Some (zeros 0 size (place_of a)) → without_block (place_of a) new ≡ old → cells_of new ≡ put a (replicate size 0) (cells_of old)
cells-more a size old new there others =
    let bytes : List ℕ = replicate size 0 in
    same-cells (cells_of new) (put a bytes (cells_of old))
    (λ x. elim (eqb_tells x a) as (λ _. cells_of new x ≡ put a bytes (cells_of old) x) [
      | inl same ↦ subst (λ (n : ℕ). cells_of new n ≡ put a bytes (cells_of old) n) (sym same.1)
          (cell-shows new a (zeros 0 size (place_of a)) (record { found = there; plain = refl }) ∙ sym (put_same a bytes (cells_of old)))
      | inr apart ↦ sym (gone-other x a apart.1 new) ∙ (ap (λ bs. cells_of bs x) others ∙ sym (put_other x a bytes (cells_of old) apart.1))
    ])

pub cells-more-labelled : (a label size : ℕ) (old new : List (Block ℕ)) → label ≢ 0 → HaveOwnPlaces new → find_block (place_of a) new ≡ Some (zeros label size (place_of a)) → without_block (place_of a) new ≡ old → cells_of new ≡ cells_of old
cells-more-labelled a label size old new labelled own there others =
    sym (cells-kept a new own (no-cell new a label (ap (option_map (λ (b : Block ℕ). b.label)) there) labelled)) ∙ ap cells_of others

-- a labelled block gets another size, and may move
pub cells-resized-labelled : (a to : ℕ) (old new : List (Block ℕ)) → HaveOwnPlaces old → HaveOwnPlaces new → cells_of old a ≡ None → cells_of new to ≡ None → without_block (place_of to) new ≡ without_block (place_of a) old → cells_of new ≡ cells_of old
cells-resized-labelled a to old new own own' none none' others = sym (cells-kept to new own' none') ∙ (ap cells_of others ∙ cells-kept a old own none)

-- bytes are written into a labelled block
pub find-written : (off : ℕ) (src : List ℕ) (at : ℕ × ℕ) (bs : List (Block ℕ)) → find_block at (change_block (rewritten_block off src) at bs) ≡ option_map (rewritten_block off src) (find_block at bs)
find-written off src at [] = refl
find-written off src at (b ∷ bs) =
    ⊎_elim
    (λ (t : is_at at b ≡ true). rw t (rw t refl))
    (λ (t : is_at at b ≡ false). rw t (rw t (find-written off src at bs)))
    (cases_Bool (is_at at b))

none-written : (off : ℕ) (src : List ℕ) (o : Option (Block ℕ)) → cell_bytes o ≡ None → cell_bytes (option_map (rewritten_block off src) o) ≡ None
none-written off src None none = refl
none-written off src (Some b) none =
    ⊎_elim
    (λ (t : is_unlabelled b ≡ true). absurd (none-some b.bytes (sym none ∙ ap (λ v. cond v (Some b.bytes) None) t)))
    (λ (t : is_unlabelled b ≡ false). rw t refl)
    (cases_Bool (is_unlabelled b))

pub cells-written-labelled : (r : Layout ℕ) (a off : ℕ) (src : List ℕ) → cells_of r.blocks a ≡ None → cells_of (with_bytes_at r (place_of a) off src).blocks ≡ cells_of r.blocks
cells-written-labelled r a off src none =
    let after = change_block (rewritten_block off src) (place_of a) r.blocks in
    same-cells (cells_of after) (cells_of r.blocks)
    (λ x. elim (eqb_tells x a) as (λ _. cells_of after x ≡ cells_of r.blocks x) [
      | inl same ↦ subst (λ (n : ℕ). cells_of after n ≡ cells_of r.blocks n) (sym same.1)
          (ap cell_bytes (find-written off src (place_of a) r.blocks) ∙ (none-written off src (find_block (place_of a) r.blocks) none ∙ sym none))
      | inr apart ↦ ap cell_bytes (find-written-other off src a x apart.1 r.blocks)
    ])

-- what stays over writes into cells: the meaning of the discipline, and the segments
pub stays-disc : {I : Type 0} {V : I → Type 0} (meaning : (x : I) × V x → Discipline) (old new : Best I V) → StaysButCells old new → disc_in meaning new ≡ disc_in meaning old
stays-disc meaning old new s = ap (disc_in_box meaning) s.disc

pub stays-segments : {I : Type 0} {V : I → Type 0} (old new : Best I V) → StaysButCells old new → segments_in new ≡ segments_in old
stays-segments old new s = ap (λ (r : Layout ℕ). r.segments) s.layout
