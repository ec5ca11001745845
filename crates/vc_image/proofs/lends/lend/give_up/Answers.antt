use Rattle.vc_base.proofs.Common.{ℕ_set, le_prop, ∥∥₁_elim}
use Rattle.vc_seg.proofs.Backs.{AreNumbered-segments}
use Rattle.vc_image.proofs.lends.lend.give_up.Goals as goal

pub give_back_all-requires-clause-segments : goal.give_back_all-requires-clause-segments
give_back_all-requires-clause-segments g c = let e = c.args.extents in ∥∥₁_elim e.kept (hlevel (le_prop, ℕ_set)) (λ k. AreNumbered-segments e.segs.items k.segments)
