use Rattle.vc_base.proofs.Common.{ℕ, List, map, sym, ap, ◌∙◌, Layout, next_segment}
use Rattle.vc_seg.specs.Segment.{Bytes, pair_of}
use Rattle.vc_last.proofs.Kept.{layout-from}
use Rattle.vc_last.proofs.last.Last.next_segment.Goals as goal

pub returns : goal.returns
returns g c = c.next_segment.ensures ∙ (ap (λ (xs : List Bytes). next_segment c.args.after (map pair_of xs)) c.deref.ensures.value ∙ ap (next_segment c.args.after) (sym (ap (λ (r : Layout ℕ). r.segments) (layout-from c.args.self.now.segs.items c.args.self.now.latest.0))))
