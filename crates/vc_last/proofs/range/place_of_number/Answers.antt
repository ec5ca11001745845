use Rattle.vc_base.proofs.Common.{◌<◌, length, sym, ap, ◌∙◌, arith, length-take, get_or-take}
use Rattle.vc_seg.specs.Segment.{Bytes}
use Rattle.vc_seg.proofs.FirstByNumber.{bytes_of_number-none}
use Rattle.vc_last.proofs.range.place_of_number.Goals as goal

pub returns : goal.returns
returns c =
    let found = c.in-Some.ensures.found in
    record {
      within = found.0;
      number = found.1;
      first = λ k d lt e.
          let before : k < c.in-Some.place = omega (arith, lt, length-take c.in-Some.place c.args.segs.now) in
          let at = ap (λ (b : Bytes). b.number) (get_or-take c.in-Some.place c.args.segs.now k d before) in
          c.requires.segments.distinct k c.in-Some.place d before found.0 (sym at ∙ (e ∙ sym (found.1 d)));
    }

pub unreachable-requires : goal.unreachable-requires
unreachable-requires c = omega (arith, c.requires.there, ap length (bytes_of_number-none c.args.number c.args.segs.now c.in-None.ensures.none))
