-- Unlabelled blocks of a best region: what putting one does, and freeing one.
use Rattle.vc_base.proofs.Common.{◌≡◌, ℕ, ◌≢◌, List, replicate, is_some, IfOk, OnErr, IsSome, Some, None, Ok, Err, Option, Result, option_map, sym, refl, ap, ◌∙◌, inl, inr, eqb-true, eqb_tells, Blocks, place_of, best_alloc, without_block_at, Terms, Block, Layout, HasBlock, find_block}
use Rattle.vc_base.specs.Cells.{put}
use Rattle.vc_base.specs.declared.addr.Addr.{Addr}
use Rattle.vc_base.proofs.CellsLemmas.{put_same}
use Rattle.vc_model.proofs.Owned.{found-has}
use Rattle.vc_seg.specs.Answer.{Answers}
use Rattle.vc_seg.specs.OneBlock.{IsBlockPut}
use Rattle.vc_seg.specs.declared.fault.RegionFault.{RegionFault}
use Rattle.vc_best.specs.CellLaws.{cells-addresses}
use Rattle.vc_best.specs.Parts.{blocks_in}
use Rattle.vc_best.specs.declared.best.Best.{Best}
use Rattle.vc_best.specs.Cells.{cell_bytes, cells_in, cells_of, labelled_blocks, without_cell, zeroed_layout}
use Rattle.vc_best.proofs.CellBytes.{the-cell}
use Rattle.vc_best.proofs.CellCalls.{cells-more}
use Rattle.vc_best.proofs.Labelled.{labelled-put}
use Rattle.vc_best.proofs.RestBlocks.{without_block-zeroed}
use Rattle.vc_objects.specs.Insert.{layout_without}
use Rattle.vc_objects.specs.Unlabelled.{MakesCell}

-- where no block stands there is no cell
no-block : (bs : List (Block ℕ)) (a : ℕ) → ¬ HasBlock bs a → cells_of bs a ≡ None
no-block bs a fresh = none (find_block (place_of a) bs) refl
  where
    none : (o : Option (Block ℕ)) → find_block (place_of a) bs ≡ o → cell_bytes o ≡ None
    none None e = refl
    none (Some b) e = absurd (fresh (found-has a bs b e))

-- a cell is an unlabelled block
pub cell-has : (bs : List (Block ℕ)) (a : ℕ) → IsSome (cells_of bs a) → HasBlock bs a
cell-has bs a there = let c = the-cell bs a there in found-has a bs c.0 c.1.found

pub cell-label : (bs : List (Block ℕ)) (a : ℕ) → IsSome (cells_of bs a) → option_map (λ b. b.label) (find_block (place_of a) bs) ≡ Some 0
cell-label bs a there =
    let c = the-cell bs a there in
    ap (option_map (λ (b : Block ℕ). b.label)) c.1.found ∙ ap Some (eqb-true c.0.label 0 c.1.plain)

-- an unlabelled block is put, where one is, and is a new cell
pub alloc-made : {I : Type 0} {V : I → Type 0} (before after : Best I V) (size : ℕ) (result : Result Addr RegionFault)
    → IfOk result (λ a. IsBlockPut 0 size a.0 (blocks_in before) (blocks_in after)) → IfOk result (λ a. MakesCell (cells_in before) size a.0 (cells_in after))
alloc-made before after size (Ok a) is =
    let cells : cells_in after ≡ put a.0 (replicate size 0) (cells_in before) = cells-more a.0 size (blocks_in before) (blocks_in after) is.there is.others in
    let shows : cells_in after a.0 ≡ Some (replicate size 0) = ap (λ (f : Blocks). f a.0) cells ∙ put_same a.0 (replicate size 0) (cells_in before) in
    record {
      cells = cells;
      fresh = no-block (blocks_in before) a.0 is.fresh;
      address = cells-addresses after a.0 (ap is_some shows);
    }
alloc-made before after size (Err why) is = tt

module _ (terms : Terms) (r r' : Layout ℕ) (size : ℕ) where
  pub alloc-labelled : (result : Result Addr RegionFault) → Answers (best_alloc terms r 0 size 32) result r r'
      → IfOk result (λ a. IsBlockPut 0 size a.0 r.blocks r'.blocks)
      → labelled_blocks (zeroed_layout r') ≡ labelled_blocks (zeroed_layout r)
  alloc-labelled (Ok a) answer is = labelled-put r r' a.0 size is.there is.others
  alloc-labelled (Err why) answer is = ap (λ (q : Layout ℕ). labelled_blocks (zeroed_layout q)) answer.1

  pub alloc-same : (result : Result Addr RegionFault) → Answers (best_alloc terms r 0 size 32) result r r' → OnErr result (cells_of r'.blocks ≡ cells_of r.blocks)
  alloc-same (Ok a) answer = tt
  alloc-same (Err why) answer = ap (λ (q : Layout ℕ). cells_of q.blocks) answer.1

-- the other cells stay
pub left-cell : (c : Blocks) (x a : ℕ) → x ≢ a → without_cell x c a ≡ c a
left-cell c x a ne = elim (eqb_tells a x) as (λ _. without_cell x c a ≡ c a) [
  | inl same ↦ absurd (ne (sym same.1))
  | inr apart ↦ rw apart.0 refl
]

-- a block goes, of a layout that shows zeros for the bytes of its cells
pub freed-zeroed : (r : Layout ℕ) (a : ℕ) → zeroed_layout (without_block_at r (place_of a)) ≡ layout_without (zeroed_layout r) a
freed-zeroed r a =
    let with : List (Block ℕ) → Layout ℕ = λ bs. record { segments = r.segments; blocks = bs } in
    ap with (without_block-zeroed (place_of a) r.blocks)
