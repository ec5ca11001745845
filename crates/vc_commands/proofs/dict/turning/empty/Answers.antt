use Rattle.vc_base.proofs.Common.{sym, refl, ap}
use Rattle.vc_script.specs.declared.reply.Reply.TheVariants.{Emptied}
use Rattle.vc_commands.proofs.dict.turning.empty.Goals as goal

pub returns : goal.returns
returns g c =
    let e = c.empty.ensures.empties in
    record {
      step = record { region = sym e.region; dict = sym e.dict; reply = ap (Emptied c.args.name) (sym c.empty.ensures.count); told = e.gone };
      need = refl;
      leaves = e.leaves;
      disc = e.disc;
      rules = e.kind;
    }
