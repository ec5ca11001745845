use Rattle.vc_base.proofs.Common.{false}
use Rattle.vc_best.specs.Cells.{rest_in}
use Rattle.vc_objects.specs.Parts.{dictionary_in}
use Rattle.vc_objects.specs.Promises.{turn_in}
use Rattle.vc_commands.specs.DictRun.{seat_in}
use Rattle.vc_commands.proofs.Seats.{turn-told}
use Rattle.vc_commands.proofs.dict.turning.remethod.Goals as goal

pub returns-in-Ok-clause-runs : goal.returns-in-Ok-clause-runs
returns-in-Ok-clause-runs g c =
    let rules = g.D.DictDisc.rules c.args.kind.now in
    let r = c.args.best.now in
    let d = c.args.dict.now in
    record {
      step =
          turn-told (seat_in (λ z. (goal.SegDisc-dyn g z).state z.1) rules r d) c.args.name c.args.method (turn_in (λ z. (goal.SegDisc-dyn g z).state z.1) r rules d c.args.method false)
          (rest_in c.turn.new.best) (dictionary_in c.turn.new.dict c.turn.new.best)
          (g.D.DictDisc.gone c.args.kind.now) (g.D.DictDisc.gone c.turn.new.kind) c.in-Ok.ensures.turns.answer;
      leaves = c.turn.ensures.turns.leaves;
      asked = c.in-Ok.ensures.turns.asked;
    }
