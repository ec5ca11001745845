-- What is found in a region, it finds too where it shows zeros for the bytes of its unlabelled blocks.
use Rattle.vc_base.proofs.Common.{◌≡◌, ℕ, Bool, true, false, cond, ◌≢◌, List, map, Some, Contains, option_map, sym, refl, ap, ◌∙◌, subst, zeros, Block, address_of, without_block, HaveOwnPlaces, HasBlock, HasRange, find_block, block_at, by_address, next_block}
use Rattle.vc_seg.specs.declared.method.Method.{Method}
use Rattle.vc_seg.specs.declared.method.Method.TheVariants.{VmBest, VmPool, VmLast, VmDebug, VmProfile}
use Rattle.vc_best.specs.Cells.{block_shown}
use Rattle.vc_region.specs.Cells.{rest_of}
use Rattle.vc_region.specs.Region.{OfBest, OfPool, OfLast, OfDebug, OfProfile, Region, blocks_of}
use Rattle.vc_region.specs.Stat.{method_of}
use Rattle.vc_best.proofs.RestBlocks.{addresses-zeroed, found-labelled, without_block-zeroed}
use Rattle.vc_region.proofs.RestList.{next_block-zeroed, own-zeroed, range-zeroed, view-block_at, view-by_address, view-found, view-option, zeroed-range, zeros-found}

-- the method whose unlabelled blocks are cells
abbrev pub has_cells : Method → Bool
has_cells VmBest = true
has_cells VmPool = false
has_cells VmLast = false
has_cells VmDebug = false
has_cells VmProfile = false

-- the blocks by whether the unlabelled ones are
abbrev pub blocks_by : Bool → List (Block ℕ) → List (Block ℕ)
blocks_by v bs = cond v (map block_shown bs) bs

pub rest-blocks : (r : Region ℕ) → blocks_of (rest_of r) ≡ blocks_by (has_cells (method_of r)) (blocks_of r)
rest-blocks (OfBest l) = refl
rest-blocks r = refl

-- what holds of blocks that show zeros and of blocks as they are holds of those of the rest
pub by-blocks : (P : List (Block ℕ) → List (Block ℕ) → Type 0) (r : Region ℕ) → ((bs : List (Block ℕ)) → P (map block_shown bs) bs) → ((bs : List (Block ℕ)) → P bs bs) → P (blocks_of (rest_of r)) (blocks_of r)
by-blocks P (OfBest l) zeroes same = zeroes l.blocks
by-blocks P (OfPool p) zeroes same = same (blocks_of (OfPool p))
by-blocks P (OfLast l) zeroes same = same (blocks_of (OfLast l))
by-blocks P (OfDebug d) zeroes same = same (blocks_of (OfDebug d))
by-blocks P (OfProfile p) zeroes same = same (blocks_of (OfProfile p))

module _ (r : Region ℕ) where
  pub rest-addresses : map address_of (blocks_of (rest_of r)) ≡ map address_of (blocks_of r)
  rest-addresses = by-blocks (λ bs cs. map address_of bs ≡ map address_of cs) r addresses-zeroed (λ bs. refl)

  pub rest-has : (a : ℕ) → HasBlock (blocks_of r) a → HasBlock (blocks_of (rest_of r)) a
  rest-has a h = subst (λ ns. Contains ns a) (sym rest-addresses) h

  pub has-rest : (a : ℕ) → HasBlock (blocks_of (rest_of r)) a → HasBlock (blocks_of r) a
  has-rest a h = subst (λ ns. Contains ns a) rest-addresses h

  pub rest-own : HaveOwnPlaces (blocks_of r) → HaveOwnPlaces (blocks_of (rest_of r))
  rest-own = by-blocks (λ bs cs. HaveOwnPlaces cs → HaveOwnPlaces bs) r own-zeroed (λ bs own. own)

  -- a labelled block is the same
  pub rest-found : (at : ℕ × ℕ) (b : Block ℕ) → find_block at (blocks_of r) ≡ Some b → b.label ≢ 0 → find_block at (blocks_of (rest_of r)) ≡ Some b
  rest-found at b =
      by-blocks (λ bs cs. find_block at cs ≡ Some b → b.label ≢ 0 → find_block at bs ≡ Some b) r (λ bs found labelled. found-labelled at bs b found labelled) (λ bs found labelled. found)

  -- and so is one of zeros
  pub rest-zeros : (at to : ℕ × ℕ) (label size : ℕ) → find_block at (blocks_of r) ≡ Some (zeros label size to) → find_block at (blocks_of (rest_of r)) ≡ Some (zeros label size to)
  rest-zeros at to label size =
      by-blocks (λ bs cs. find_block at cs ≡ Some (zeros label size to) → find_block at bs ≡ Some (zeros label size to)) r (λ bs found. zeros-found at to label size bs found) (λ bs found. found)

  -- what isn't the bytes of a block: its label, its size, its place
  module _ {A : Type 0} (view : Block ℕ → A) (same : (b : Block ℕ) → view (block_shown b) ≡ view b) where
    pub rest-view : (at : ℕ × ℕ) → option_map view (find_block at (blocks_of (rest_of r))) ≡ option_map view (find_block at (blocks_of r))
    rest-view at = by-blocks (λ bs cs. option_map view (find_block at bs) ≡ option_map view (find_block at cs)) r (λ bs. view-found view same at bs) (λ bs. refl)

    pub rest-by_address : map view (by_address (blocks_of (rest_of r))) ≡ map view (by_address (blocks_of r))
    rest-by_address = by-blocks (λ bs cs. map view (by_address bs) ≡ map view (by_address cs)) r (λ bs. view-by_address view same bs) (λ bs. refl)

    pub rest-block_at : (at : ℕ × ℕ) → option_map {U = A × ℕ} (λ f. (view f.0, f.1)) (block_at at (blocks_of (rest_of r))) ≡ option_map {U = A × ℕ} (λ f. (view f.0, f.1)) (block_at at (blocks_of r))
    rest-block_at at =
        by-blocks (λ bs cs. option_map {U = A × ℕ} (λ f. (view f.0, f.1)) (block_at at bs) ≡ option_map {U = A × ℕ} (λ f. (view f.0, f.1)) (block_at at cs)) r
        (λ bs. view-block_at view same at bs) (λ bs. refl)

    pub rest-next : (after : ℕ) → option_map view (next_block after (blocks_of (rest_of r))) ≡ option_map view (next_block after (blocks_of r))
    rest-next after =
        by-blocks (λ bs cs. option_map view (next_block after bs) ≡ option_map view (next_block after cs)) r
        (λ bs. ap (option_map view) (next_block-zeroed after bs) ∙ view-option view same (next_block after bs)) (λ bs. refl)

  pub rest-label : (at : ℕ × ℕ) → option_map (λ b. b.label) (find_block at (blocks_of (rest_of r))) ≡ option_map (λ b. b.label) (find_block at (blocks_of r))
  rest-label at = rest-view (λ b. b.label) (λ b. refl) at

  pub rest-size : (at : ℕ × ℕ) → option_map (λ b. b.size) (find_block at (blocks_of (rest_of r))) ≡ option_map (λ b. b.size) (find_block at (blocks_of r))
  rest-size at = rest-view (λ b. b.size) (λ b. refl) at

  pub rest-range : (a off len : ℕ) → HasRange (blocks_of r) a off len → HasRange (blocks_of (rest_of r)) a off len
  rest-range a off len = by-blocks (λ bs cs. HasRange cs a off len → HasRange bs a off len) r (λ bs h. range-zeroed bs a off len h) (λ bs h. h)

  pub range-rest : (a off len : ℕ) → HasRange (blocks_of (rest_of r)) a off len → HasRange (blocks_of r) a off len
  range-rest a off len = by-blocks (λ bs cs. HasRange bs a off len → HasRange cs a off len) r (λ bs h. zeroed-range bs a off len h) (λ bs h. h)

-- the others stay, in a region of the same method
without-by : (v : Bool) (at : ℕ × ℕ) (bs : List (Block ℕ)) → without_block at (blocks_by v bs) ≡ blocks_by v (without_block at bs)
without-by true at bs = sym (without_block-zeroed at bs)
without-by false at bs = refl

module _ (r r' : Region ℕ) (method : method_of r' ≡ method_of r) where
  rest-others : (bs cs : List (Block ℕ)) → bs ≡ cs → blocks_by (has_cells (method_of r')) bs ≡ blocks_by (has_cells (method_of r)) cs
  rest-others bs cs e = ap (blocks_by (has_cells (method_of r'))) e ∙ ap (λ m. blocks_by (has_cells m) cs) method

  pub rest-without : (at : ℕ × ℕ) → without_block at (blocks_of r') ≡ blocks_of r → without_block at (blocks_of (rest_of r')) ≡ blocks_of (rest_of r)
  rest-without at e =
      ap (without_block at) (rest-blocks r')
      ∙ (without-by (has_cells (method_of r')) at (blocks_of r')
      ∙ (rest-others (without_block at (blocks_of r')) (blocks_of r) e ∙ sym (rest-blocks r)))

  pub rest-without_both : (to at : ℕ × ℕ) → without_block to (blocks_of r') ≡ without_block at (blocks_of r) → without_block to (blocks_of (rest_of r')) ≡ without_block at (blocks_of (rest_of r))
  rest-without_both to at e =
      ap (without_block to) (rest-blocks r')
      ∙ (without-by (has_cells (method_of r')) to (blocks_of r')
      ∙ (rest-others (without_block to (blocks_of r')) (without_block at (blocks_of r)) e
      ∙ (sym (without-by (has_cells (method_of r)) at (blocks_of r)) ∙ sym (ap (without_block at) (rest-blocks r)))))
