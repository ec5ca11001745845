use Rattle.vc_base.proofs.Common.{true≢false, sym, arith}
use Rattle.vc_image_check.specs.Bytes.Contents.{image_segment_count, segment_pair_at}
use Rattle.vc_image_check.specs.Bytes.Image.{pair_bytes}
use Rattle.vc_image_check.specs.Laws.Words.{length-items}
use Rattle.vc_image_check.proofs.bytes.header.is_header.Goals as goal

pub returns-then-segments-gt1023 : goal.returns-then-segments-gt1023
returns-then-segments-gt1023 c = (
  λ yes. absurd (true≢false (sym yes)),
  λ h.
      let few = h.segments.few in
      let long = length-items segment_pair_at pair_bytes 8 (image_segment_count c.args.image.now) 20 c.args.image.now in
      let same = c.word-segments.ensures in
      let big = c.if-segments-gt1023.true in
      absurd (omega (arith, few, long, same, big)),
)
