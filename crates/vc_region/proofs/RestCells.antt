-- What the calls of a region do to its cells. A region of a method but the best one has none.
use Rattle.vc_base.proofs.Common.{◌≡◌, ℕ, Bool, true, false, cond, eqb, ◌≢◌, List, replicate, ℤ, Some, None, Option, option_map, sym, refl, ap, ◌∙◌, Blocks, place_of, zeros, Block, without_block, Done, HaveOwnPlaces, find_block}
use Rattle.vc_base.specs.Cells.{put}
use Rattle.vc_seg.specs.declared.method.Method.{Method}
use Rattle.vc_seg.specs.declared.method.Method.TheVariants.{VmBest}
use Rattle.vc_best.specs.Cells.{cells_of, without_cell}
use Rattle.vc_region.specs.Cells.{no_cells_at_all, region_cells}
use Rattle.vc_region.specs.Region.{OfBest, Region, blocks_of, region_clear, region_compact, region_free, region_poke, region_watch, region_write}
use Rattle.vc_region.specs.Stat.{method_of}
use Rattle.vc_best.proofs.CellBytes.{same-cells}
use Rattle.vc_best.proofs.CellCalls.{cells-freed, cells-freed-labelled, cells-more, cells-more-labelled, cells-resized-labelled, cells-written-labelled, no-cell}
use Rattle.vc_region.proofs.Freeing.{freed-region, without_block_in}
use Rattle.vc_region.proofs.RestFound.{has_cells}

-- the cells by whether the method has some
abbrev pub cells_by : Bool → List (Block ℕ) → Blocks
cells_by v bs = cond v (cells_of bs) no_cells_at_all

pub cells-by : (r : Region ℕ) → region_cells r ≡ cells_by (has_cells (method_of r)) (blocks_of r)
cells-by (OfBest l) = refl
cells-by r = refl

-- where the lists of the blocks show the same cells, two regions of the same method do
module _ (r r' : Region ℕ) (method : method_of r' ≡ method_of r) where
  cells-kept_by : cells_of (blocks_of r') ≡ cells_of (blocks_of r) → region_cells r' ≡ region_cells r
  cells-kept_by e =
      cells-by r'
      ∙ (ap (λ (m : Method). cells_by (has_cells m) (blocks_of r')) method
      ∙ (ap (λ (cells : Blocks). cond (has_cells (method_of r)) cells no_cells_at_all) e ∙ sym (cells-by r)))

  -- a labelled block was put: at its address the region has it, and the others are as before
  pub put-cells_kept : (a label size : ℕ) → label ≢ 0 → HaveOwnPlaces (blocks_of r') → find_block (place_of a) (blocks_of r') ≡ Some (zeros label size (place_of a)) → without_block (place_of a) (blocks_of r') ≡ blocks_of r → region_cells r' ≡ region_cells r
  put-cells_kept a label size labelled own there others = cells-kept_by (cells-more-labelled a label size (blocks_of r) (blocks_of r') labelled own there others)

  -- an unlabelled one was put, in a best region
  pub put-cell : method_of r ≡ VmBest → (a size : ℕ) → find_block (place_of a) (blocks_of r') ≡ Some (zeros 0 size (place_of a)) → without_block (place_of a) (blocks_of r') ≡ blocks_of r → region_cells r' ≡ put a (replicate size 0) (region_cells r)
  put-cell best a size there others =
      cells-by r'
      ∙ (ap (λ (m : Method). cells_by (has_cells m) (blocks_of r')) (method ∙ best)
      ∙ (cells-more a size (blocks_of r) (blocks_of r') there others
      ∙ ap (put a (replicate size 0)) (sym (cells-by r ∙ ap (λ (m : Method). cells_by (has_cells m) (blocks_of r)) best))))

  -- a labelled block got another size, and may have moved
  pub resize-cells_kept : (a to label : ℕ) → label ≢ 0 → HaveOwnPlaces (blocks_of r) → HaveOwnPlaces (blocks_of r') → option_map (λ b. b.label) (find_block (place_of a) (blocks_of r)) ≡ Some label → option_map (λ b. b.label) (find_block (place_of to) (blocks_of r')) ≡ option_map (λ b. b.label) (find_block (place_of a) (blocks_of r)) → without_block (place_of to) (blocks_of r') ≡ without_block (place_of a) (blocks_of r) → region_cells r' ≡ region_cells r
  resize-cells_kept a to label labelled own own' is there others =
      cells-kept_by (cells-resized-labelled a to (blocks_of r) (blocks_of r') own own' (no-cell (blocks_of r) a label is labelled) (no-cell (blocks_of r') to label (there ∙ is) labelled) others)

-- a labelled block is written
pub write-cells_kept : (r : Region ℕ) (a off : ℕ) (src : List ℕ) (label : ℕ) → label ≢ 0 → option_map (λ b. b.label) (find_block (place_of a) (blocks_of r)) ≡ Some label → region_cells (region_write r (place_of a) off src) ≡ region_cells r
write-cells_kept (OfBest l) a off src label labelled is = cells-written-labelled l a off src (no-cell l.blocks a label is labelled)
write-cells_kept r a off src label labelled is = refl

-- a labelled block goes, or any one
without-cells_kept : (r : Region ℕ) (a label : ℕ) → label ≢ 0 → HaveOwnPlaces (blocks_of r) → option_map (λ b. b.label) (find_block (place_of a) (blocks_of r)) ≡ Some label → region_cells (without_block_in r (place_of a)) ≡ region_cells r
without-cells_kept (OfBest l) a label labelled own is = cells-freed-labelled l a own (no-cell l.blocks a label is labelled)
without-cells_kept r a label labelled own is = refl

none-less : (a : ℕ) → no_cells_at_all ≡ without_cell a no_cells_at_all
none-less a =
    same-cells no_cells_at_all (without_cell a no_cells_at_all)
    (λ x. let none : Option (List ℕ) = None in elim (eqb x a) as (λ v. none ≡ cond v None none) [ true ↦ refl | false ↦ refl ])

without-cell : (r : Region ℕ) (a : ℕ) → HaveOwnPlaces (blocks_of r) → region_cells (without_block_in r (place_of a)) ≡ without_cell a (region_cells r)
without-cell (OfBest l) a own = cells-freed l a own
without-cell r a own = none-less a

pub free-cells_kept : (r r' : Region ℕ) (a label : ℕ) → label ≢ 0 → HaveOwnPlaces (blocks_of r) → option_map (λ b. b.label) (find_block (place_of a) (blocks_of r)) ≡ Some label → region_free r (place_of a) ≡ Done r' → region_cells r' ≡ region_cells r
free-cells_kept r r' a label labelled own is done = ap region_cells (freed-region r (place_of a) r' done) ∙ without-cells_kept r a label labelled own is

pub free-cell : (r r' : Region ℕ) (a : ℕ) → HaveOwnPlaces (blocks_of r) → region_free r (place_of a) ≡ Done r' → region_cells r' ≡ without_cell a (region_cells r)
free-cell r r' a own done = ap region_cells (freed-region r (place_of a) r' done) ∙ without-cell r a own

-- all blocks go
pub clear-cells : (r : Region ℕ) → region_cells (region_clear r) ≡ no_cells_at_all
clear-cells (OfBest l) = refl
clear-cells r = refl

-- no block changes that shows as a cell
pub compact-cells : (r : Region ℕ) → region_cells (region_compact r) ≡ region_cells r
compact-cells (OfBest l) = refl
compact-cells r = refl

pub poke-cells : (r : Region ℕ) (at : ℕ × ℕ) (off : ℤ) (byte : ℕ) → region_cells (region_poke r at off byte) ≡ region_cells r
poke-cells (OfBest l) at off byte = refl
poke-cells r at off byte = refl

pub watch-cells : (r : Region ℕ) (at : ℕ × ℕ) (line : ℕ) → region_cells (region_watch r at line) ≡ region_cells r
watch-cells (OfBest l) at line = refl
watch-cells r at line = refl
