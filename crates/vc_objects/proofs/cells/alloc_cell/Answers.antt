use Rattle.vc_base.proofs.Common.{arith}
use Rattle.vc_best.specs.Parts.{layout_of}
use Rattle.vc_best.proofs.RestAlloc.{answers-zeroed}
use Rattle.vc_objects.proofs.Unlabelled.{alloc-labelled, alloc-made, alloc-same}
use Rattle.vc_objects.proofs.cells.alloc_cell.Goals as goal

pub returns : goal.returns
returns g c =
    let old = layout_of c.args.best.now in
    let new = layout_of c.alloc.new.self in
    let e = c.alloc.ensures in
    record {
      puts = record {
        answer = answers-zeroed _ old new 0 c.args.size 32 c.alloc.result e.answer;
        asks = e.disc;
        made = alloc-made c.args.best.now c.alloc.new.self c.args.size c.alloc.result e.put;
        same = alloc-same _ old new c.args.size c.alloc.result e.answer;
        labelled = alloc-labelled _ old new c.args.size c.alloc.result e.answer e.put;
      };
    }

pub alloc-requires-clause-size : goal.alloc-requires-clause-size
alloc-requires-clause-size g c = record { some = c.requires.size.some; most = let most = c.requires.size.most in omega (arith, most) }
