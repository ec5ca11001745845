use Rattle.vc_base.proofs.Common.{◌≡◌, true, false, length, map, nat_lt, refl, arith, le-ltb, lt-ltb}
use Rattle.vc_seg.specs.Segment.{pair_of}
use Rattle.vc_image_check.specs.Bytes.Contents.{contents_of_image}
use Rattle.vc_image.proofs.Uneven.{segments-many}
use Rattle.vc_image.proofs.lends.terms.has_too_many.Goals as goal

pub returns-then-word-gt1 : goal.returns-then-word-gt1
returns-then-word-gt1 g c =
    let m = segments-many c.args.image.now c.requires in
    let lt = c.if-word-gt1.true in
    let e = c.word.ensures in
    let yes : nat_lt 1 (length (map pair_of (contents_of_image c.args.image.now).segs)) ≡ true = lt-ltb 1 _ (omega (arith, m, lt, e)) in
    rw yes c.grows_of.ensures

pub returns-else-word-gt1 : goal.returns-else-word-gt1
returns-else-word-gt1 g c =
    let m = segments-many c.args.image.now c.requires in
    let few = c.if-word-gt1.false in
    let e = c.word.ensures in
    let none : nat_lt 1 c.word.result ≡ false = le-ltb 1 c.word.result few in
    let no : nat_lt 1 (length (map pair_of (contents_of_image c.args.image.now).segs)) ≡ false = le-ltb 1 _ (omega (arith, m, few, e)) in
    rw (none, no) refl
