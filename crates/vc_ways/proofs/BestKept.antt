-- What the calls of a best region leave of its discipline.
use Rattle.vc_base.proofs.Common.{ℕ, false, true, Discipline, Layout}
use Rattle.std.specs.Prelude.{is_ok}
use Rattle.std.specs.declared.result.Result.{Result}
use Rattle.vc_base.specs.declared.addr.Addr.{Addr}
use Rattle.vc_model.specs.Best.{best_alloc, best_need}
use Rattle.vc_model.specs.Resize.{best_resize}
use Rattle.vc_best.specs.Parts.{disc_in, layout_of, segments_in}
use Rattle.vc_best.specs.declared.best.Best.{Best}
use Rattle.vc_seg.specs.Answer.{Answers, Asks}
use Rattle.vc_seg.specs.declared.fault.RegionFault.{RegionFault}
use Rattle.vc_ways.specs.Answer.{KeepsWay}
use Rattle.vc_ways.specs.RegionsParts.{best_holding}
use Rattle.vc_ways.proofs.Growth.{alloc-grows, resize-grows}
use Rattle.vc_ways.proofs.Kept.{asked-keeps}

module _ {I : Type 0} {V : I → Type 0} (meaning : (x : I) × V x → Discipline) (b q : Best I V) (size : ℕ) (result : Result Addr RegionFault) (left : Asks result (disc_in meaning b) (disc_in meaning q) (segments_in b) (segments_in q) (best_need (disc_in meaning b).terms size 32)) where
  pub put-keeps : Answers (best_alloc (disc_in meaning b).terms (layout_of b) 0 size 32) result (layout_of b) (layout_of q) → KeepsWay (is_ok result) (best_holding meaning b) (best_holding meaning q)
  put-keeps answer =
      asked-keeps {R = Layout ℕ} (λ r. r.segments) (best_alloc (disc_in meaning b).terms (layout_of b) 0 size 32) result (layout_of b) (layout_of q) _ _ _ answer
      (alloc-grows (disc_in meaning b).terms (layout_of b) 0 size 32 false) left

  pub sized-keeps : (at : ℕ × ℕ) → Answers (best_resize (disc_in meaning b).terms (layout_of b) at size true) result (layout_of b) (layout_of q) → KeepsWay (is_ok result) (best_holding meaning b) (best_holding meaning q)
  sized-keeps at answer =
      asked-keeps {R = Layout ℕ} (λ r. r.segments) (best_resize (disc_in meaning b).terms (layout_of b) at size true) result (layout_of b) (layout_of q) _ _ _ answer
      (resize-grows (disc_in meaning b).terms (layout_of b) at size false) left
