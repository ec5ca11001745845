use Rattle.vc_base.proofs.Common.{arith, refl, rules}
use Rattle.vc_compare.proofs.Fed.{new-is}
use Rattle.vc_compare.proofs.lines.LineReader.new.Goals as goal

pub returns-clause-can : goal.returns-clause-can
returns-clause-can c =
    rw c.in_ok-cutter.ensures
    (record {
      is_open = refl;
      cutting = new-is;
      ordered = omega arith;
      within = omega arith;
      room = search rules;
    })
