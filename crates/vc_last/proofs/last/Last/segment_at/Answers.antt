use Rattle.vc_base.proofs.Common.{ℕ, List, map, sym, ap, ◌∙◌, Layout, segment_at}
use Rattle.vc_seg.specs.Segment.{Bytes, pair_of}
use Rattle.vc_last.proofs.Kept.{layout-from}
use Rattle.vc_last.proofs.last.Last.segment_at.Goals as goal

pub returns : goal.returns
returns g c = c.segment_at.ensures ∙ (ap (λ (xs : List Bytes). segment_at (c.args.seg, c.args.off) (map pair_of xs)) c.deref.ensures.value ∙ ap (segment_at (c.args.seg, c.args.off)) (sym (ap (λ (r : Layout ℕ). r.segments) (layout-from c.args.self.now.segs.items c.args.self.now.latest.0))))
