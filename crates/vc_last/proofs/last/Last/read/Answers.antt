use Rattle.vc_base.proofs.Common.{arith}
use Rattle.vc_last.proofs.Ranges.{range-in, read-in}
use Rattle.vc_last.proofs.Types.{have}
use Rattle.vc_last.proofs.last.Last.read.Goals as goal

pub overflow_add-off : goal.overflow_add-off
overflow_add-off g c = let r = (range-in c.args.self.now.segs.items c.args.self.now.latest.0 c.args.a.0 c.args.off c.args.len (have c.args.self.now.segs.items c.args.self.now.latest.0 c.args.self.now.kept) c.requires.block c.requires.range).below in omega (arith, r, c.off.ensures)

pub bytes_in-requires-clause-segments : goal.bytes_in-requires-clause-segments
bytes_in-requires-clause-segments g c = rw c.deref.ensures.value (have c.args.self.now.segs.items c.args.self.now.latest.0 c.args.self.now.kept).segments

pub bytes_in-requires-clause-there : goal.bytes_in-requires-clause-there
bytes_in-requires-clause-there g c = rw (c.seg.ensures, c.deref.ensures.value) (range-in c.args.self.now.segs.items c.args.self.now.latest.0 c.args.a.0 c.args.off c.args.len (have c.args.self.now.segs.items c.args.self.now.latest.0 c.args.self.now.kept) c.requires.block c.requires.range).there

pub bytes_in-requires-clause-within : goal.bytes_in-requires-clause-within
bytes_in-requires-clause-within g c = rw (c.seg.ensures, c.off.ensures, c.deref.ensures.value) (range-in c.args.self.now.segs.items c.args.self.now.latest.0 c.args.a.0 c.args.off c.args.len (have c.args.self.now.segs.items c.args.self.now.latest.0 c.args.self.now.kept) c.requires.block c.requires.range).within

pub returns : goal.returns
returns g c = rw (c.bytes_in.ensures, c.seg.ensures, c.off.ensures, c.deref.ensures.value) (read-in c.args.self.now.segs.items c.args.self.now.latest.0 c.args.a.0 c.args.off c.args.len (have c.args.self.now.segs.items c.args.self.now.latest.0 c.args.self.now.kept) c.requires.block c.requires.range)
