use Rattle.vc_base.proofs.Common.{if◌then◌else◌, Some, None, sym, ap, ◌∙◌}
use Rattle.vc_best.specs.Cells.{rest_in}
use Rattle.vc_objects.specs.Parts.{dictionary_in}
use Rattle.vc_commands.specs.DictRun.{seat_in}
use Rattle.vc_script.specs.Needs.{need_shown}
use Rattle.vc_commands.proofs.Seats.{gone-needless, take-found}
use Rattle.vc_commands.proofs.dict.taking.take.Goals as goal

pub returns-clause-takes : goal.returns-clause-takes
returns-clause-takes g c =
    let own = g.D.DictDisc.rules c.args.kind.now in
    let taken = c.remove-is_gone.ensures.takes in
    record {
      step =
          take-found (seat_in (λ z. (goal.SegDisc-dyn g z).state z.1) own c.args.best.now c.args.dict.now) c.args.tells c.args.object.now c.key-key.result.now
          (if c.remove-is_gone.result then Some c.remove-is_gone.new.out.items else None) (rest_in c.remove-is_gone.new.best) (dictionary_in c.remove-is_gone.new.dict c.remove-is_gone.new.best)
          c.gone_reply.result (g.D.DictDisc.gone c.args.kind.now) (g.D.DictDisc.gone c.remove-is_gone.new.kind)
          (sym c.is_object.ensures ∙ c.if-not-is_object.false) c.key-key.ensures taken.given taken.gone c.gone_reply.ensures;
      need = ap need_shown c.gone_reply.ensures ∙ gone-needless c.args.tells (if c.remove-is_gone.result then Some c.remove-is_gone.new.out.items else None);
      leaves = taken.leaves;
      disc = taken.disc;
      err = tt;
    }
