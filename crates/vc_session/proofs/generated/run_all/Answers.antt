use Rattle.vc_base.proofs.Common.{ℕ, true, arith, refl, ◌∙◌, Discipline, rules}
use Rattle.vc_session.proofs.QuietCounts.{can-first, counts-first}
use Rattle.vc_steps.specs.Homes.{state_over}
use Rattle.vc_steps.specs.Told.{rules_in}
use Rattle.vc_session.proofs.generated.run_all.Given as given
use Rattle.vc_session.proofs.SoFar.{on_err}
use Rattle.vc_session.specs.declared.engine.Stop.TheVariants.{Memory, Write}
use Rattle.vc_generate.proofs.ProperGenerated.{proper_generated}
use Rattle.vc_session.proofs.GeneratedCuts.{generated-broken, generated-failed, generated-wanting}
use Rattle.vc_session.proofs.GeneratedRun.{generated-few, generating-told}
use Rattle.vc_session.proofs.generated.run_all.Goals as goal

abbrev meaning : (g : given.Over) → (x : g.dyn-1.0.I) × (g.dyn-1.0.entry x).0.Denot → Discipline
meaning g p = (g.dyn-1.0.entry p.0).1.state p.1

pub run_commands-requires-clause-begins : goal.run_commands-requires-clause-begins
run_commands-requires-clause-begins g c =
    let now = state_over (meaning g) (rules_in g.D.DictDisc.rules c.args.kinds.now.items) c.args.shelf.now c.args.session.now in
    record {
      over = c.requires.session;
      can = rw c.new-counts.ensures (can-first true now c.requires.counts);
      zero = λ quiet. c.new-counts.ensures ∙ counts-first now c.requires.counts;
    }

pub run_commands-requires-clause-few : goal.run_commands-requires-clause-few
run_commands-requires-clause-few g c =
    rw c.new-generator.ensures (generated-few c.args.tool c.args.n c.args.words.now.seed c.requires.most)

pub run_commands-requires-clause-proper : goal.run_commands-requires-clause-proper
run_commands-requires-clause-proper g c =
    rw c.new-generator.ensures (proper_generated c.args.tool c.args.n c.args.words.now.seed)

pub returns : goal.returns
returns g c =
    record {
      lasts = c.run_commands.ensures.lasts;
      runs =
          generating-told _ c.args.tool c.args.words.now c.args.n _ _ c.run_commands.new.counts c.in_ok-lines.lines _ _ _ _ _ _ _ c.new-tail.result.items _
          c.requires.asked c.requires.most (c.run_commands.ensures.lasts.armed ∙ c.requires.unarmed) c.new-generator.ensures c.new-tail.ensures.items c.in_ok-gather_tail.ensures
          (rw c.in_ok-lines.was at c.run_commands.ensures.runs) (rw c.as_slice.ensures.value at c.in_ok-write_all.ensures.ok) c.write_all.ensures.never_falls;
    }

pub returns-in_err-lines : goal.returns-in_err-lines
returns-in_err-lines g c =
    let r = rw (c.in_err-lines.was, c.new-generator.ensures) at c.run_commands.ensures.runs in
    record {
      lasts = c.run_commands.ensures.lasts;
      runs = record {
        run = search rules;
        cut = on_err _ _ (generated-failed c.args.tool c.args.words.now c.args.n c.requires.asked c.requires.most _ _ c.run_commands.new.counts _ _ _ _ ℕ _ r).cut;
        read = search rules;
        write = search rules;
        writes = search rules;
      };
    }

pub returns-in_err-gather_tail : goal.returns-in_err-gather_tail
returns-in_err-gather_tail g c =
    let r = rw (c.in_ok-lines.was, c.new-generator.ensures) at c.run_commands.ensures.runs in
    record {
      lasts = c.run_commands.ensures.lasts;
      runs = record {
        run = search rules;
        cut = on_err _ _ (generated-wanting c.args.tool c.args.words.now c.args.n c.requires.asked c.requires.most _ _ c.run_commands.new.counts _ _ _ _ ℕ Memory c.in_ok-lines.lines refl r).cut;
        read = search rules;
        write = search rules;
        writes = search rules;
      };
    }

pub returns-in_err-write_all : goal.returns-in_err-write_all
returns-in_err-write_all g c =
    let r = rw (c.in_ok-lines.was, c.new-generator.ensures) at c.run_commands.ensures.runs in
    record {
      lasts = c.run_commands.ensures.lasts;
      runs = record {
        run = search rules;
        cut = on_err _ _ (generated-broken c.args.tool c.args.words.now c.args.n c.requires.asked c.requires.most _ _ c.run_commands.new.counts _ _ _ _ ℕ Write c.in_ok-lines.lines _ _ c.new-tail.result.items _ refl (c.run_commands.ensures.lasts.armed ∙ c.requires.unarmed) c.new-tail.ensures.items c.in_ok-gather_tail.ensures r (rw c.as_slice.ensures.value at c.write_all.ensures.front) c.write_all.ensures.never_falls c.in_err-write_all.ensures.cause).cut;
        read = search rules;
        write = search rules;
        writes = omega (arith, r.writes, c.write_all.ensures.never_falls);
      };
    }
