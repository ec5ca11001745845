use Rattle.vc_base.proofs.Common.{[], None, sym, refl, ap}
use Rattle.vc_model.proofs.Keeping.{NoneRefused-equal, NoneRefused-same}
use Rattle.vc_best.specs.Cells.{cells_in, rest_in}
use Rattle.vc_best.specs.Parts.{disc_in}
use Rattle.vc_objects.specs.Parts.{dictionary_in}
use Rattle.vc_objects.proofs.Leaving.{leaves-self}
use Rattle.vc_objects.proofs.Remains.{counts-objects}
use Rattle.vc_script.specs.Needs.{NoNeed}
use Rattle.vc_script.specs.declared.reply.Reply.TheVariants.{Number}
use Rattle.vc_commands.specs.Answered.{answered}
use Rattle.vc_commands.specs.DictRun.{IsSpent, seat_in}
use Rattle.vc_commands.proofs.Answered.{err-answered}
use Rattle.vc_commands.proofs.Ran.{append-asked, asking, other-told, spent-put, spent-still, spent-told, unasked, unneeded}
use Rattle.vc_commands.proofs.dict.running.run.Goals as goal

pub returns-in-Insert-clause-runs : goal.returns-in-Insert-clause-runs
returns-in-Insert-clause-runs g c = record {
  step = rw c.in-Insert.is (rw (sym c.as_slice.ensures) c.insert.ensures.runs.step);
  leaves = c.insert.ensures.runs.leaves;
  asked = rw c.in-Insert.is (rw (sym c.as_slice.ensures) c.insert.ensures.runs.asked);
}

pub returns-in-Insert-clause-disc : goal.returns-in-Insert-clause-disc
returns-in-Insert-clause-disc g c =
    asking c.args.command.now (rw c.in-Insert.is refl)

pub returns-in-Insert-clause-err : goal.returns-in-Insert-clause-err
returns-in-Insert-clause-err g c =
    rw c.in-Insert.is (spent-put (answered c.insert.result c.insert.new.reply) (g.D.DictDisc.gone c.args.kind.now) (g.D.DictDisc.gone c.args.kind.now) (IsSpent (seat_in (λ z. (goal.SegDisc-dyn g z).state z.1) (g.D.DictDisc.rules c.args.kind.now) c.args.best.now c.args.dict.now) (rest_in c.insert.new.best) (dictionary_in c.insert.new.dict c.insert.new.best)) refl (err-answered c.insert.result c.insert.new.reply _ c.insert.ensures.err))

pub returns-in-Attach-clause-runs : goal.returns-in-Attach-clause-runs
returns-in-Attach-clause-runs g c = record {
  step = rw c.in-Attach.is (rw (sym c.as_slice-in-Attach.ensures) c.attach.ensures.runs.step);
  leaves = c.attach.ensures.runs.leaves;
  asked = rw c.in-Attach.is (rw (sym c.as_slice-in-Attach.ensures) c.attach.ensures.runs.asked);
}

pub returns-in-Attach-clause-disc : goal.returns-in-Attach-clause-disc
returns-in-Attach-clause-disc g c =
    asking c.args.command.now (rw c.in-Attach.is refl)

pub returns-in-Attach-clause-err : goal.returns-in-Attach-clause-err
returns-in-Attach-clause-err g c =
    rw c.in-Attach.is (spent-put (answered c.attach.result c.attach.new.reply) (g.D.DictDisc.gone c.args.kind.now) (g.D.DictDisc.gone c.args.kind.now) (IsSpent (seat_in (λ z. (goal.SegDisc-dyn g z).state z.1) (g.D.DictDisc.rules c.args.kind.now) c.args.best.now c.args.dict.now) (rest_in c.attach.new.best) (dictionary_in c.attach.new.dict c.attach.new.best)) refl (err-answered c.attach.result c.attach.new.reply _ c.attach.ensures.err))

pub returns-in-Append-clause-runs : goal.returns-in-Append-clause-runs
returns-in-Append-clause-runs g c = record {
  step = rw c.in-Append.is (rw (sym c.as_slice-in-Append.ensures) c.append.ensures.runs.step);
  leaves = c.append.ensures.runs.leaves;
  asked = rw c.in-Append.is (rw (sym c.as_slice-in-Append.ensures) (append-asked (answered c.append.result c.append.new.reply) (seat_in (λ z. (goal.SegDisc-dyn g z).state z.1) (g.D.DictDisc.rules c.args.kind.now) c.args.best.now c.args.dict.now) c.as_slice-in-Append.result.now ((g.D.DictDisc.rules c.args.kind.now).made c.as_slice-in-Append.result.now) (rest_in c.append.new.best) (dictionary_in c.append.new.dict c.append.new.best) (g.D.DictDisc.gone c.args.kind.now) (g.D.DictDisc.gone c.args.kind.now) (disc_in (λ z. (goal.SegDisc-dyn g z).state z.1) c.args.best.now) (disc_in (λ z. (goal.SegDisc-dyn g z).state z.1) c.append.new.best) c.append.ensures.runs.step c.append.ensures.runs.asked));
}

pub returns-in-Append-clause-disc : goal.returns-in-Append-clause-disc
returns-in-Append-clause-disc g c =
    asking c.args.command.now (rw c.in-Append.is refl)

pub returns-in-Append-clause-err : goal.returns-in-Append-clause-err
returns-in-Append-clause-err g c =
    rw c.in-Append.is (spent-still (answered c.append.result c.append.new.reply) c.args.best.now c.append.new.best c.args.dict.now c.append.new.dict (g.D.DictDisc.gone c.args.kind.now) (g.D.DictDisc.gone c.args.kind.now) refl (err-answered c.append.result c.append.new.reply _ c.append.ensures.err))

pub returns-in-Delete-clause-runs : goal.returns-in-Delete-clause-runs
returns-in-Delete-clause-runs g c = record {
  step = rw c.in-Delete.is c.delete.ensures.takes.step;
  leaves = c.delete.ensures.takes.leaves;
  asked = rw c.in-Delete.is (unasked (answered c.delete.result c.delete.new.reply) None [] (disc_in (λ z. (goal.SegDisc-dyn g z).state z.1) c.args.best.now) (disc_in (λ z. (goal.SegDisc-dyn g z).state z.1) c.delete.new.best) c.delete.ensures.takes.disc c.delete.ensures.takes.need);
}

pub returns-in-Delete-clause-err : goal.returns-in-Delete-clause-err
returns-in-Delete-clause-err g c =
    rw c.in-Delete.is (spent-told (answered c.delete.result c.delete.new.reply) c.args.best.now c.delete.new.best c.args.dict.now c.delete.new.dict (g.D.DictDisc.gone c.args.kind.now) (g.D.DictDisc.gone c.delete.new.kind) c.delete.ensures.takes.err)

pub returns-in-Detach-clause-runs : goal.returns-in-Detach-clause-runs
returns-in-Detach-clause-runs g c = record {
  step = rw c.in-Detach.is (rw (sym c.as_slice-in-Detach.ensures) c.take.ensures.takes.step);
  leaves = c.take.ensures.takes.leaves;
  asked = rw c.in-Detach.is (unasked (answered c.take.result c.take.new.reply) None [] (disc_in (λ z. (goal.SegDisc-dyn g z).state z.1) c.args.best.now) (disc_in (λ z. (goal.SegDisc-dyn g z).state z.1) c.take.new.best) c.take.ensures.takes.disc c.take.ensures.takes.need);
}

pub returns-in-Detach-clause-err : goal.returns-in-Detach-clause-err
returns-in-Detach-clause-err g c =
    rw c.in-Detach.is (spent-told (answered c.take.result c.take.new.reply) c.args.best.now c.take.new.best c.args.dict.now c.take.new.dict (g.D.DictDisc.gone c.args.kind.now) (g.D.DictDisc.gone c.take.new.kind) c.take.ensures.takes.err)

pub returns-in-Remethod-clause-runs : goal.returns-in-Remethod-clause-runs
returns-in-Remethod-clause-runs g c = record {
  step = rw c.in-Remethod.is c.remethod.ensures.runs.step;
  leaves = c.remethod.ensures.runs.leaves;
  asked = rw c.in-Remethod.is c.remethod.ensures.runs.asked;
}

pub returns-in-Remethod-clause-disc : goal.returns-in-Remethod-clause-disc
returns-in-Remethod-clause-disc g c =
    asking c.args.command.now (rw c.in-Remethod.is refl)

pub returns-in-Remethod-clause-err : goal.returns-in-Remethod-clause-err
returns-in-Remethod-clause-err g c =
    rw c.in-Remethod.is (spent-told (answered c.remethod.result c.remethod.new.reply) c.args.best.now c.remethod.new.best c.args.dict.now c.remethod.new.dict (g.D.DictDisc.gone c.args.kind.now) (g.D.DictDisc.gone c.remethod.new.kind) (err-answered c.remethod.result c.remethod.new.reply _ c.remethod.ensures.err))

pub returns-in-Count-clause-runs : goal.returns-in-Count-clause-runs
returns-in-Count-clause-runs g c = record {
  step = rw c.in-Count.is (record { region = refl; dict = refl; reply = ap Number (counts-objects (g.D.DictDisc.rules c.args.kind.now) c.args.dict.now (cells_in c.args.best.now) c.requires.ask.whole); told = refl });
  leaves = leaves-self (λ z. (goal.SegDisc-dyn g z).state z.1) (g.D.DictDisc.rules c.args.kind.now) c.args.best.now c.args.dict.now c.requires.ask.whole;
  asked = rw c.in-Count.is (NoneRefused-same _);
}

pub returns-in-Empty-clause-runs : goal.returns-in-Empty-clause-runs
returns-in-Empty-clause-runs g c = record {
  step = rw c.in-Empty.is c.empty.ensures.step;
  leaves = c.empty.ensures.leaves;
  asked = rw c.in-Empty.is (unneeded None [] c.empty.result (disc_in (λ z. (goal.SegDisc-dyn g z).state z.1) c.args.best.now) (disc_in (λ z. (goal.SegDisc-dyn g z).state z.1) c.empty.new.best) (NoneRefused-equal _ _ c.empty.ensures.disc) c.empty.ensures.need);
}

pub returns-in_default : goal.returns-in_default
returns-in_default g c =
    let told = other-told (seat_in (λ z. (goal.SegDisc-dyn g z).state z.1) (g.D.DictDisc.rules c.args.kind.now) c.args.best.now c.args.dict.now) c.args.command.now NoNeed
    c.in_default.not-Insert c.in_default.not-Append c.in_default.not-Attach c.in_default.not-Delete c.in_default.not-Detach c.in_default.not-Count c.in_default.not-Remethod c.in_default.not-Empty in
    record {
      runs = record {
        step = rw told (record { region = refl; dict = refl; reply = refl; told = refl });
        leaves = leaves-self (λ z. (goal.SegDisc-dyn g z).state z.1) (g.D.DictDisc.rules c.args.kind.now) c.args.best.now c.args.dict.now c.requires.ask.whole;
        asked = NoneRefused-same _;
      };
      rules = refl;
      disc = λ _. refl;
      err = tt;
    }

pub take-requires : goal.take-requires
take-requires g c = record { whole = c.requires.ask.whole }
