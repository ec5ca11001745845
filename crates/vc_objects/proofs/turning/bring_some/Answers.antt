use Rattle.vc_base.proofs.Common.{ℕ, ◌≢◌, ap, arith, best_need, Layout}
use Rattle.vc_model.proofs.Keeping.{NoneRefused-served}
use Rattle.vc_best.specs.Cells.{cells_in, rest_in}
use Rattle.vc_best.specs.Parts.{disc_in, segments_in}
use Rattle.vc_objects.specs.Insert.{alloc_unlabelled}
use Rattle.vc_objects.specs.Objects.{table_size}
use Rattle.vc_objects.proofs.Answering.{asked-block}
use Rattle.vc_objects.proofs.Brought.{brought-refused, cell-brought, put-brought}
use Rattle.vc_objects.proofs.Doubling.{slots-most, table-sized}
use Rattle.vc_objects.proofs.Leaving.{asked-keeps, served-keeps}
use Rattle.vc_objects.proofs.turning.bring_some.Goals as goal

pub overflow_mul-slots : goal.overflow_mul-slots
overflow_mul-slots g c = let h = slots-most c.args.slots c.requires.allowed in omega (arith, h)

pub alloc_cell-requires-clause-size : goal.alloc_cell-requires-clause-size
alloc_cell-requires-clause-size g c = table-sized c.args.slots c.requires.allowed

pub returns-in-Ok : goal.returns-in-Ok
returns-in-Ok g c =
    let e = c.in-Ok.ensures.puts in
    let some : c.in-Ok.at.0 ≢ 0 = λ zero. let is = e.made.address.some in omega (arith, is, zero) in
    record {
      brings = record {
        answer = (
          put-brought c.args.slots _ c.in-Ok.at.0 (rest_in c.alloc_cell.new.best) some e.answer,
          cell-brought c.args.slots c.in-Ok.at.0 (cells_in c.args.best.now) (cells_in c.alloc_cell.new.best) some e.made,
        );
        disc = served-keeps _ _ (segments_in c.args.best.now) (segments_in c.alloc_cell.new.best) _ e.asks;
        labelled = e.labelled;
        asked = NoneRefused-served _ _ (segments_in c.args.best.now) (segments_in c.alloc_cell.new.best) _ e.asks;
      };
    }

pub returns-in-Err : goal.returns-in-Err
returns-in-Err g c =
    let old = c.args.best.now in
    let new = c.alloc_cell.new.best in
    let e = c.in-Err.ensures.puts in
    let before = disc_in (λ z. (goal.SegDisc-dyn g z).state z.1) old in
    record {
      brings = record {
        answer = (brought-refused (alloc_unlabelled before.terms (rest_in old) 0 (table_size c.args.slots)) c.args.slots c.in-Err.why e.answer.0, e.answer.1, e.same);
        disc = asked-keeps _ _ (segments_in old) (segments_in new) _ c.in-Err.why (ap (λ (r : Layout ℕ). r.segments) e.answer.1) e.asks;
        labelled = e.labelled;
        asked =
            asked-block before (disc_in (λ z. (goal.SegDisc-dyn g z).state z.1) new) (segments_in old) (segments_in new) (best_need before.terms (table_size c.args.slots) 32) c.in-Err.why e.asks;
      };
    }
