-- What allocating and freeing an unlabelled block, a cell, does to a best region.
use Rattle.std.specs.Prelude.{◌≡◌, ℕ, None, Result, IfOk, OnErr, replicate}
use Rattle.vc_base.specs.Cells.{Blocks, IsAddress, put}
use Rattle.vc_base.specs.declared.addr.Addr.{Addr}
use Rattle.vc_model.specs.Best.{best_need}
use Rattle.vc_model.specs.Discipline.{Discipline}
use Rattle.vc_seg.specs.Answer.{Answers, Asks}
use Rattle.vc_seg.specs.declared.fault.RegionFault.{RegionFault}
use Rattle.vc_best.specs.Cells.{cells_in, labelled_blocks, rest_in, without_cell}
use Rattle.vc_best.specs.Parts.{disc_in, segments_in}
use Rattle.vc_best.specs.declared.best.Best.{Best}
use Rattle.vc_objects.specs.Insert.{alloc_unlabelled, layout_without}

-- at an address that had none stands a cell of so many zeros, and all others stay
pub record MakesCell (before : Blocks) (size at : ℕ) (after : Blocks) : Type 0 where
  pub cells : after ≡ put at (replicate size 0) before
  pub fresh : before at ≡ None
  pub address : IsAddress at

-- an unlabelled block is put, and is a cell of its own, or it is refused and all cells stay
pub record PutsCell {I : Type 0} {V : I → Type 0} (meaning : (x : I) × V x → Discipline)
    (result : Result Addr RegionFault) (before : Best I V) (size : ℕ) (after : Best I V) : Type 0 where
  pub answer : Answers (alloc_unlabelled (disc_in meaning before).terms (rest_in before) 0 size)
      result (rest_in before) (rest_in after)
  pub asks : Asks result (disc_in meaning before) (disc_in meaning after)
      (segments_in before) (segments_in after) (best_need (disc_in meaning before).terms size 32)
  pub made : IfOk result (λ a. MakesCell (cells_in before) size a.0 (cells_in after))
  pub same : OnErr result (cells_in after ≡ cells_in before)
  pub labelled : labelled_blocks (rest_in after) ≡ labelled_blocks (rest_in before)

-- where cells alone go, its discipline, its segments and its labelled blocks stay
pub record StaysAround {I : Type 0} {V : I → Type 0} (meaning : (x : I) × V x → Discipline)
    (before after : Best I V) : Type 0 where
  pub disc : disc_in meaning after ≡ disc_in meaning before
  pub segments : segments_in after ≡ segments_in before
  pub labelled : labelled_blocks (rest_in after) ≡ labelled_blocks (rest_in before)

-- the cell at an address goes, and all else stays
pub record FreesCell {I : Type 0} {V : I → Type 0} (meaning : (x : I) × V x → Discipline)
    (before : Best I V) (at : ℕ) (after : Best I V) : Type 0 where
  pub rest : rest_in after ≡ layout_without (rest_in before) at
  pub cells : cells_in after ≡ without_cell at (cells_in before)
  pub around : StaysAround meaning before after
