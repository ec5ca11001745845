use Rattle.vc_base.proofs.Common.{◌+◌, refl, arith, rules}
use Rattle.vc_steps.proofs.SettledShelf.{keeps-same}
use Rattle.vc_session.proofs.GeneratedCuts.{generating-front, generating-part}
use Rattle.vc_session.proofs.GeneratedRun.{generating-end, generating-start, generating-step, generating-write, next-none}
use Rattle.vc_session.proofs.SoFar.{on_err}
use Rattle.vc_session.proofs.SessionLasts.{lasts-same, lasts-trans}
use Rattle.vc_steps.specs.Moment.{moment}
use Rattle.vc_session.proofs.generated.run_commands.Given as given
use Rattle.vc_session.proofs.generated.run_commands.Goals as goal

pub loop-command-init : goal.loop-command-init
loop-command-init g c = record {
  lasts = lasts-same c.requires.begins.over.stands;
  can = c.requires.begins.can;
  generating = generating-start _ _ _ _ _ c.requires.begins.over.proper (c.requires.begins.zero refl) c.requires.none;
  writes = omega arith;
}

pub run_made-requires : goal.run_made-requires
run_made-requires g c =
    record {
      stands = c.loop-command.invariant.lasts.stands;
      can_count = λ is. c.loop-command.invariant.can is (c.loop-command.line + 1) (omega arith);
    }

pub loop-command-preserved : goal.loop-command-preserved
loop-command-preserved g c =
    let inv = c.loop-command.invariant in
    let next = rw c.in-Some.is at c.in_ok-command.ensures.next in
    let told = c.in_ok-write_full.ensures.told in
    record {
      lasts = lasts-trans inv.lasts c.run_made.ensures.lasts;
      can = c.in_ok-run_made.ensures.runs.can;
      generating = generating-write (generating-step inv.generating c.in-Some.command c.next.new.self next c.requires.proper c.in_ok-run_made.ensures.runs.ran) told.0 told.1 told.2;
      writes = omega (arith, inv.writes, c.write_full.ensures.never_falls);
    }

pub returns : goal.returns
returns g c =
    let inv = c.loop-command.invariant in
    let none = next-none _ _ _ c.in_ok-command.ensures.next c.in_default.not-Some in
    let written = rw c.as_slice.ensures.value at c.in_ok-write_all.ensures.ok in
    record {
      lasts = inv.lasts;
      runs = record {
        ran = generating-end inv.generating none written;
        far = tt;
        read = tt;
        write = tt;
        writes = omega (arith, inv.writes, c.write_all.ensures.never_falls);
      };
    }

pub returns-in_err-command : goal.returns-in_err-command
returns-in_err-command g c =
    let inv = c.loop-command.invariant in
    record {
      lasts = inv.lasts;
      runs = record { ran = search rules; far = on_err _ _ (generating-part inv.generating _ (keeps-same _) refl); read = search rules; write = search rules; writes = inv.writes };
    }

pub returns-in_err-run_made : goal.returns-in_err-run_made
returns-in_err-run_made g c =
    let inv = c.loop-command.invariant in
    record {
      lasts = lasts-trans inv.lasts c.run_made.ensures.lasts;
      runs = record { ran = search rules; far = on_err _ _ (generating-part inv.generating _ c.run_made.ensures.lasts.accounts refl); read = search rules; write = search rules; writes = inv.writes };
    }

pub returns-in_err-write_full : goal.returns-in_err-write_full
returns-in_err-write_full g c =
    let inv = c.loop-command.invariant in
    let next = rw c.in-Some.is at c.in_ok-command.ensures.next in
    let step = generating-step inv.generating {next = moment (λ z. (given.SegDisc-dyn g z).state z.1) g.D.DictDisc.rules g.D.DictDisc.gone c.run_made.new.shelf c.run_made.new.session c.run_made.new.kinds.items} c.in-Some.command c.next.new.self next c.requires.proper c.in_ok-run_made.ensures.runs.ran in
    record {
      lasts = lasts-trans inv.lasts c.run_made.ensures.lasts;
      runs = record {
        ran = search rules;
        far = on_err _ _ (generating-front step _ (keeps-same _) c.write_full.ensures.front);
        read = search rules;
        write = search rules;
        writes = omega (arith, inv.writes, c.write_full.ensures.never_falls);
      };
    }

pub returns-in_err-write_all : goal.returns-in_err-write_all
returns-in_err-write_all g c =
    let inv = c.loop-command.invariant in
    let front = rw c.as_slice.ensures.value at c.write_all.ensures.front in
    record {
      lasts = inv.lasts;
      runs = record {
        ran = search rules;
        far = on_err _ _ (generating-front inv.generating _ (keeps-same _) front);
        read = search rules;
        write = search rules;
        writes = omega (arith, inv.writes, c.write_all.ensures.never_falls);
      };
    }
