-- The cells of a best region: where they are, and what writing into one does.
use Rattle.vc_base.proofs.Common.{◌≡◌, ℕ, ◌+◌, ◌≤◌, true, false, cond, ◌≢◌, List, [], ◌∷◌, map, length, take, drop, IfSome, IsSome, Some, None, Option, option_map, unwrap_or, sym, refl, ap, ◌∙◌, subst, inl, inr, ⊎_elim, arith, le_prop, ∥∥₁_elim, ℕ_set, eqb_tells, cases_Bool, none-some, same_Some, Blocks, HasBytes, bytes_at, place_of, with_bytes, Block, Layout, is_at, HasWholeBlocks, HasBlock, change_block, find_block, rewritten_block, with_bytes_at}
use Rattle.vc_best.proofs.Common.{block_shown, cell_bytes, cells_of, is_unlabelled, zeroed_layout}
use Rattle.vc_base.specs.Cells.{put}
use Rattle.vc_base.proofs.CellsLemmas.{put_other, put_same}
use Rattle.vc_model.proofs.Owned.{at-address, found-has, found-is}
use Rattle.vc_seg.specs.OneBlock.{IsInBlock}
use Rattle.vc_best.specs.CellLaws.{cell-of}

-- cells that show the same bytes at each address are the same
pub same-cells : (f g : Blocks) → ((a : ℕ) → f a ≡ g a) → f ≡ g
same-cells f g h = λ i a. h a i

-- the block that a cell is
pub record IsCell (bs : List (Block ℕ)) (a : ℕ) (b : Block ℕ) : Type 0 where
  pub found : find_block (place_of a) bs ≡ Some b
  pub plain : is_unlabelled b ≡ true

pub the-cell : (bs : List (Block ℕ)) (a : ℕ) → IsSome (cells_of bs a) → (b : Block ℕ) × IsCell bs a b
the-cell bs a h = let c = cell-of (find_block (place_of a) bs) h in (c.0, record { found = c.1; plain = c.2 })

pub cell-shows : (bs : List (Block ℕ)) (a : ℕ) (b : Block ℕ) → IsCell bs a b → cells_of bs a ≡ Some b.bytes
cell-shows bs a b c = ap cell_bytes c.found ∙ ap (λ v. cond v (Some b.bytes) None) c.plain

pub cell-bytes : (bs : List (Block ℕ)) (a : ℕ) (b : Block ℕ) → IsCell bs a b → bytes_at (cells_of bs) a ≡ b.bytes
cell-bytes bs a b c = ap (λ o. unwrap_or o []) (cell-shows bs a b c)

-- a block at an address is at no other one
pub at-one : (x a : ℕ) → x ≢ a → (c : Block ℕ) → is_at (place_of a) c ≡ true → is_at (place_of x) c ≡ false
at-one x a ne c t = ⊎_elim (λ u. absurd (ne (sym (at-address x c u) ∙ at-address a c t))) (λ u. u) (cases_Bool (is_at (place_of x) c))

-- writing into the block at an address
module _ (off : ℕ) (src : List ℕ) (a : ℕ) where
  written : List (Block ℕ) → List (Block ℕ)
  written bs = change_block (rewritten_block off src) (place_of a) bs

  find-written-same : (bs : List (Block ℕ)) (b : Block ℕ) → find_block (place_of a) bs ≡ Some b → find_block (place_of a) (change_block (rewritten_block off src) (place_of a) bs) ≡ Some (rewritten_block off src b)
  find-written-same [] b e = absurd (none-some b e)
  find-written-same (c ∷ cs) b e =
      ⊎_elim
      (λ (t : is_at (place_of a) c ≡ true).
      let same : c ≡ b = same_Some c b (sym (ap (λ v. cond v (Some c) (find_block (place_of a) cs)) t) ∙ e) in
      rw t (rw t (ap (λ d. Some (rewritten_block off src d)) same)))
      (λ (t : is_at (place_of a) c ≡ false).
      rw t (rw t (find-written-same cs b (sym (ap (λ v. cond v (Some c) (find_block (place_of a) cs)) t) ∙ e))))
      (cases_Bool (is_at (place_of a) c))

  pub find-written-other : (x : ℕ) → x ≢ a → (bs : List (Block ℕ)) → find_block (place_of x) (change_block (rewritten_block off src) (place_of a) bs) ≡ find_block (place_of x) bs
  find-written-other x ne [] = refl
  find-written-other x ne (c ∷ cs) =
      ⊎_elim
      (λ (t : is_at (place_of a) c ≡ true). rw t (rw (at-one x a ne c t) refl))
      (λ (t : is_at (place_of a) c ≡ false). rw t (ap (cond (is_at (place_of x) c) (Some c)) (find-written-other x ne cs)))
      (cases_Bool (is_at (place_of a) c))

  -- it changes the one cell there
  pub cells-written : (bs : List (Block ℕ)) (b : Block ℕ) → IsCell bs a b → cells_of (change_block (rewritten_block off src) (place_of a) bs) ≡ put a (with_bytes off src (bytes_at (cells_of bs) a)) (cells_of bs)
  cells-written bs b c =
      let after = change_block (rewritten_block off src) (place_of a) bs in
      let bytes : List ℕ = with_bytes off src (bytes_at (cells_of bs) a) in
      let own : cells_of after a ≡ Some bytes =
      cell-shows after a (rewritten_block off src b) (record { found = find-written-same bs b c.found; plain = c.plain })
      ∙ ap (λ bytes. Some (with_bytes off src bytes)) (sym (cell-bytes bs a b c)) in
      same-cells (cells_of after) (put a bytes (cells_of bs))
      (λ x. elim (eqb_tells x a) as (λ _. cells_of after x ≡ put a bytes (cells_of bs) x) [
        | inl same ↦ subst (λ (n : ℕ). cells_of after n ≡ put a bytes (cells_of bs) n) (sym same.1) (own ∙ sym (put_same a bytes (cells_of bs)))
        | inr apart ↦ ap cell_bytes (find-written-other x apart.1 bs) ∙ sym (put_other x a bytes (cells_of bs) apart.1)
      ])

  -- and nothing else
  rest-written : (bs : List (Block ℕ)) (b : Block ℕ) → IsCell bs a b → map block_shown (change_block (rewritten_block off src) (place_of a) bs) ≡ map block_shown bs
  rest-written [] b c = refl
  rest-written (d ∷ ds) b c =
      ⊎_elim
      (λ (t : is_at (place_of a) d ≡ true).
      let same : d ≡ b = same_Some d b (sym (ap (λ v. cond v (Some d) (find_block (place_of a) ds)) t) ∙ c.found) in
      let plain : is_unlabelled d ≡ true = subst (λ (e : Block ℕ). is_unlabelled e ≡ true) (sym same) c.plain in
      rw t (rw plain refl))
      (λ (t : is_at (place_of a) d ≡ false).
      let rest : IsCell ds a b = record { found = sym (ap (λ v. cond v (Some d) (find_block (place_of a) ds)) t) ∙ c.found; plain = c.plain } in
      rw t (ap (λ es. block_shown d ∷ es) (rest-written ds b rest)))
      (cases_Bool (is_at (place_of a) d))

  pub layout-written : (r : Layout ℕ) (b : Block ℕ) → IsCell r.blocks a b → zeroed_layout (with_bytes_at r (place_of a) off src) ≡ zeroed_layout r
  layout-written r b c =
      let other : List (Block ℕ) → Layout ℕ = λ bs. record { segments = r.segments; blocks = bs } in
      ap other (rest-written r.blocks b c)

-- what a call on a cell may count on
module _ (r : Layout ℕ) (whole : ∥ HasWholeBlocks r ∥₁) (a n : ℕ) (has : HasBytes (cells_of r.blocks) a n) where
  abbrev pub cell : (b : Block ℕ) × IsCell r.blocks a b
  cell = the-cell r.blocks a has.there

  pub cell-length : length (bytes_at (cells_of r.blocks) a) ≡ cell.0.size
  cell-length =
      ap length (cell-bytes r.blocks a cell.0 cell.1)
      ∙ ∥∥₁_elim whole (hlevel (ℕ_set)) (λ s. (found-is (λ d. length d.bytes ≡ d.size) (place_of a) r.blocks cell.0 cell.1.found s.bytes).1)

  pub cell-most : n ≤ 16777264
  cell-most =
      let most : cell.0.size ≤ 16777264 = ∥∥₁_elim whole (le_prop) (λ s. (found-is (λ d. d.size ≤ 16777264) (place_of a) r.blocks cell.0 cell.1.found s.most).1) in
      let enough = has.enough in
      omega (arith, most, enough, cell-length)

  pub cell-block : HasBlock r.blocks a
  cell-block = found-has a r.blocks cell.0 cell.1.found

  pub cell-range : (off len : ℕ) → off + len ≤ length (bytes_at (cells_of r.blocks) a) → IsInBlock r.blocks a off len
  cell-range off len within = record { block = cell-block; range = subst (λ (o : Option (Block ℕ)). IfSome o (λ b. off + len ≤ b.size)) (sym cell.1.found) (omega (arith, within, cell-length)) }

  pub cell-read : (off len : ℕ) (out : List ℕ) → option_map (λ b. take len (drop off b.bytes)) (find_block (place_of a) r.blocks) ≡ Some out → out ≡ take len (drop off (bytes_at (cells_of r.blocks) a))
  cell-read off len out e =
      let bytes : Block ℕ → List ℕ = λ b. take len (drop off b.bytes) in
      same_Some out (bytes cell.0) (sym e ∙ ap (option_map bytes) cell.1.found)
      ∙ ap (λ bs. take len (drop off bs)) (sym (cell-bytes r.blocks a cell.0 cell.1))

  pub cell-size : (out : ℕ) → option_map (λ b. b.size) (find_block (place_of a) r.blocks) ≡ Some out → out ≡ length (bytes_at (cells_of r.blocks) a)
  cell-size out e =
      let size : Block ℕ → ℕ = λ b. b.size in
      same_Some out (size cell.0) (sym e ∙ ap (option_map size) cell.1.found) ∙ sym cell-length
