use Rattle.vc_base.proofs.Common.{sym}
use Rattle.vc_base.specs.declared.fault.OutOfMemory.{OutOfMemory}
use Rattle.vc_best.specs.Cells.{rest_in}
use Rattle.vc_best.specs.Parts.{disc_in}
use Rattle.vc_objects.specs.Insert.{slots_wanted}
use Rattle.vc_objects.specs.Parts.{dictionary_in}
use Rattle.vc_commands.proofs.Seats.{put-asked, put-told}
use Rattle.vc_commands.proofs.dict.putting.put.Goals as goal

pub returns-clause-runs : goal.returns-clause-runs
returns-clause-runs g c =
    record {
      step =
          rw c.fate_reply.ensures
          (put-told (g.D.DictDisc.rules c.args.kind.now) _ (rest_in c.args.best.now) (dictionary_in c.args.dict.now c.args.best.now) c.args.append c.args.object.items c.in_ok-fate.fate (rest_in c.insert.new.best) (dictionary_in c.insert.new.dict c.insert.new.best)
          (g.D.DictDisc.gone c.args.kind.now) (rw (sym c.deref.ensures.value) c.in_ok-fate.ensures.inserts.ok));
      leaves = c.insert.ensures.inserts.leaves;
      asked =
          rw c.fate_reply.ensures
          (put-asked OutOfMemory c.args.object.items c.in_ok-fate.fate (slots_wanted (dictionary_in c.args.dict.now c.args.best.now)) (disc_in (λ z. (goal.SegDisc-dyn g z).state z.1) c.args.best.now) (disc_in (λ z. (goal.SegDisc-dyn g z).state z.1) c.insert.new.best) (rw (sym c.deref.ensures.value) c.in_ok-fate.ensures.inserts.asked));
    }
