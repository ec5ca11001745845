use Rattle.vc_base.proofs.Common.{false, get_or, sym, ap, ◌∙◌, arith}
use Rattle.vc_pool.specs.Cells.Place.{cells_in}
use Rattle.vc_pool.proofs.ChainSifting.{drop-less, keep-less, sift-drop, sift-keep, split-cells, split-listed, split-number, split-small}
use Rattle.vc_pool.proofs.compact.relink.sift.Goals as goal

pub link_of-next-requires-clause-kept : goal.link_of-next-requires-clause-kept
link_of-next-requires-clause-kept c = split-cells c.args.element (cells_in c.args.segs.now) c.args.freed.now.0 c.args.last.0 c.args.at.0 c.requires.split

pub link_of-next-requires-clause-listed : goal.link_of-next-requires-clause-listed
link_of-next-requires-clause-listed c = split-listed c.args.element (cells_in c.args.segs.now) c.args.freed.now.0 c.args.last.0 c.args.at.0 c.requires.split c.requires.some

pub link_of-next-requires-clause-fits : goal.link_of-next-requires-clause-fits
link_of-next-requires-clause-fits c = split-small c.args.element (cells_in c.args.segs.now) c.args.freed.now.0 c.args.last.0 c.args.at.0 c.requires.split c.requires.some

pub bounds-marks-seg : goal.bounds-marks-seg
bounds-marks-seg c =
    let last = split-number c.args.element (cells_in c.args.segs.now) c.args.freed.now.0 c.args.last.0 c.args.at.0 c.requires.split c.requires.some in
    omega (arith, last, c.seg.ensures, c.requires.marks)

pub returns-then-marks-seg-clause-sifted : goal.returns-then-marks-seg-clause-sifted
returns-then-marks-seg-clause-sifted c =
    λ all h.
    sift-keep c.args.element (λ n. get_or c.args.marks.now n false) all (cells_in c.args.segs.now) c.args.freed.now.0 c.args.last.0 c.args.at.0 c.requires.some c.link_of-next.result.0
    (ap (λ n. get_or c.args.marks.now n false) (sym c.seg.ensures) ∙ c.if-marks-seg.true) c.link_of-next.ensures h

pub returns-then-marks-seg-clause-less : goal.returns-then-marks-seg-clause-less
returns-then-marks-seg-clause-less c = keep-less c.args.element (cells_in c.args.segs.now) c.args.freed.now.0 c.args.last.0 c.args.at.0 c.requires.some c.link_of-next.result.0 c.link_of-next.ensures c.requires.split

pub returns-clause-sifted : goal.returns-clause-sifted
returns-clause-sifted c =
    λ all h.
    sift-drop c.args.element (λ n. get_or c.args.marks.now n false) all (cells_in c.args.segs.now) c.args.freed.now.0 c.args.last.0 c.args.at.0 c.requires.some (cells_in c.leave_out.new.segs) c.leave_out.new.freed.0 c.link_of-next.result.0 c.leave_out.ensures.split
    (ap (λ n. get_or c.args.marks.now n false) (sym c.seg.ensures) ∙ c.if-marks-seg.false) h

pub returns-clause-less : goal.returns-clause-less
returns-clause-less c = drop-less c.args.element (cells_in c.args.segs.now) c.args.freed.now.0 c.args.last.0 c.args.at.0 c.requires.some (cells_in c.leave_out.new.segs) c.leave_out.new.freed.0 c.link_of-next.result.0 c.leave_out.ensures.split c.requires.split
