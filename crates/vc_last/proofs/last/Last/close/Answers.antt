use Rattle.vc_base.proofs.Common.{ℕ, [], ◌++◌, map, length, sym, refl, ap, ◌∙◌, Layout}
use Rattle.vc_seg.specs.Segment.{pair_of}
use Rattle.vc_seg.proofs.Backs.{AreNumbered-segments}
use Rattle.vc_last.proofs.Kept.{layout-from}
use Rattle.vc_last.proofs.Types.{have}
use Rattle.vc_last.proofs.last.Last.close.Goals as goal
use Rattle.vc_last.proofs.Marks.{took-by}

pub give_back_all-count-requires-clause-segments : goal.give_back_all-count-requires-clause-segments
give_back_all-count-requires-clause-segments g c = AreNumbered-segments c.args.self.segs.items (have c.args.self.segs.items c.args.self.latest.0 c.args.self.kept).segments

pub give_back_all-count-requires-clause-out : goal.give_back_all-count-requires-clause-out
give_back_all-count-requires-clause-out g c = (c.requires.0, c.requires.1 ∙ ap (λ ss. c.requires.0 ++ ss) (ap (λ (r : Layout ℕ). r.segments) (layout-from c.args.self.segs.items c.args.self.latest.0)))

pub returns-clause-disc : goal.returns-clause-disc
returns-clause-disc g c =
    took-by _ _ (map pair_of c.args.self.segs.items) _ [] [] (ap (λ (r : Layout ℕ). r.segments) (layout-from c.args.self.segs.items c.args.self.latest.0)) refl c.give_back_all-count.ensures.out

pub returns-clause-count : goal.returns-clause-count
returns-clause-count g c = c.give_back_all-count.ensures.count ∙ sym (ap length (ap (λ (r : Layout ℕ). r.segments) (layout-from c.args.self.segs.items c.args.self.latest.0)))
