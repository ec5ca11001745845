use Rattle.vc_session.proofs.QuietCounts.{if_ok-map, on_ok-of}
use Rattle.vc_session.proofs.command.run_answer.Goals as goal

pub returns-in-Ok : goal.returns-in-Ok
returns-in-Ok g c =
    let ran = c.in-Ok.ensures.runs in
    record {
      runs = record {
        lasts = c.run_command.ensures.lasts;
        runs = record {
          ran =
              if_ok-map c.gather.result
              (λ told. record { reply = c.run_command.new.reply; steps = let s = ran.steps in record { gives = s.gives; settles = s.settles; armed = s.armed; lacks = s.lacks }; told = told; counted = ran.counts_on.ran })
              (rw (c.style_by-style.ensures, c.is_armed.ensures) at c.gather.ensures.told);
          can = on_ok-of c.gather.result ran.counts_on.can;
        };
      };
      same = c.gather.ensures.same;
    }
