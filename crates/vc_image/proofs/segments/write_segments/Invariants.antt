use Rattle.vc_base.proofs.Common.{◌≡◌, ◌*◌, ◌≤◌, ◌++◌, length, take, IfSome, Some}
use Rattle.vc_image.specs.Save.{image_body}
use Rattle.vc_image.proofs.segments.write_segments.Given as goal

-- the bytes of those so far are written and counted
abbrev pub invariant-loop-seg : goal.invariant-loop-seg
invariant-loop-seg g l =
    record {
      counted : l.total ≡ length (image_body (take l.seg-index l.segs));
      most : l.total ≤ 33554432 * l.seg-index;
      written : IfSome (g.O.Sink.written l.fn.out) (λ w. g.O.Sink.written l.out ≡ Some (w ++ image_body (take l.seg-index l.segs)));
      never_falls : g.O.Sink.failures l.fn.out ≤ g.O.Sink.failures l.out;
    }
