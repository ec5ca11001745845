use Rattle.vc_base.proofs.Common.{◌≡◌, IsTrue, refl, ◌∙◌, subst, arith, Discipline, rules}
use Rattle.vc_counts.specs.Counts.{live_bytes}
use Rattle.vc_session.proofs.QuietCounts.{can-first, counts-first}
use Rattle.vc_steps.specs.Homes.{state_over}
use Rattle.vc_steps.specs.Told.{rules_in}
use Rattle.vc_session.proofs.script.run_script.Given as given
use Rattle.vc_session.proofs.Behind.{script-told}
use Rattle.vc_session.proofs.Broken.{script-failed, tail-cut, tail-not_ahead, tail-wanting}
use Rattle.vc_session.proofs.SoFar.{if_err, on_err}
use Rattle.vc_session.specs.declared.engine.Stop.TheVariants.{Memory}
use Rattle.vc_session.proofs.script.run_script.Goals as goal

abbrev meaning : (g : given.Over) → (x : g.dyn-1.0.I) × (g.dyn-1.0.entry x).0.Denot → Discipline
meaning g p = (g.dyn-1.0.entry p.0).1.state p.1

pub run_lines-ran-requires-clause-begins : goal.run_lines-ran-requires-clause-begins
run_lines-ran-requires-clause-begins g c =
    let now = state_over (meaning g) (rules_in g.D.DictDisc.rules c.args.kinds.now.items) c.args.shelf.now c.args.session.now in
    let none : IsTrue c.is_quiet.result → live_bytes now ≡ 0 = λ quiet. c.requires.counts (subst (λ b. IsTrue b) c.is_quiet.ensures quiet) in
    record {
      over = c.requires.session;
      can = rw c.new-scratch.ensures.zero (λ quiet. can-first c.is_quiet.result now (none quiet) quiet);
      zero = λ quiet. c.new-scratch.ensures.zero ∙ counts-first now (none quiet);
    }

pub returns : goal.returns
returns g c =
    record {
      lasts = c.run_lines-ran.ensures.lasts;
      runs =
          script-told c.args.tool c.args.words.now c.is_quiet.result _ _ c.run_lines-ran.new.scratch.counts _ c.number.result c.good_lines-lines.result c.in_ok-bad.bad _ _ _ c.new-tail.result.items _
          c.is_quiet.ensures c.number.ensures.value c.good_lines-lines.ensures c.new-tail.ensures.items c.in_ok-gather_tail.ensures
          (rw c.in_ok-bad.was at c.run_lines-ran.ensures.runs) (rw c.as_slice.ensures.value at c.in_ok-write_all.ensures.ok) refl (omega arith) c.write_all.ensures.never_falls;
    }

pub returns-in_err-bad : goal.returns-in_err-bad
returns-in_err-bad g c =
    let r = rw c.in_err-bad.was at c.run_lines-ran.ensures.runs in
    record {
      lasts = c.run_lines-ran.ensures.lasts;
      runs = record {
        script = record {
          replay = search rules;
          cut_short = search rules;
          cut = on_err _ _ (script-failed c.args.tool c.args.words.now c.is_quiet.result _ _ _ c.run_lines-ran.new.scratch.counts _ _ _ c.is_quiet.ensures r).cut;
          not_ahead = search rules;
          arms = r.arms;
          read = search rules;
          write = search rules;
          reads = search rules;
          writes = search rules;
        };
        leaves = search rules;
      };
    }

pub returns-in_err-gather_tail : goal.returns-in_err-gather_tail
returns-in_err-gather_tail g c =
    let r = rw c.in_ok-bad.was at c.run_lines-ran.ensures.runs in
    record {
      lasts = c.run_lines-ran.ensures.lasts;
      runs = record {
        script = record {
          replay = search rules;
          cut_short = search rules;
          cut = on_err _ _ (tail-wanting c.args.tool c.args.words.now c.is_quiet.result Memory _ _ c.run_lines-ran.new.scratch.counts _ c.in_ok-bad.bad _ _ c.is_quiet.ensures refl r).cut;
          not_ahead = search rules;
          arms = r.arms;
          read = search rules;
          write = search rules;
          reads = search rules;
          writes = search rules;
        };
        leaves = search rules;
      };
    }

pub returns-in_err-write_all : goal.returns-in_err-write_all
returns-in_err-write_all g c =
    let r = rw c.in_ok-bad.was at c.run_lines-ran.ensures.runs in
    let front = rw c.as_slice.ensures.value at c.write_all.ensures.front in
    record {
      lasts = c.run_lines-ran.ensures.lasts;
      runs = record {
        script = record {
          replay = search rules;
          cut_short = search rules;
          cut = on_err _ _ (tail-cut c.args.tool c.args.words.now c.is_quiet.result _ _ c.run_lines-ran.new.scratch.counts _ c.number.result c.good_lines-lines.result c.in_ok-bad.bad _ _ _ c.new-tail.result.items _ c.is_quiet.ensures c.number.ensures.value c.good_lines-lines.ensures c.new-tail.ensures.items c.in_ok-gather_tail.ensures r front);
          not_ahead = if_err _ _ _ (tail-not_ahead c.args.tool c.args.words.now c.is_quiet.result _ _ c.run_lines-ran.new.scratch.counts _ c.in_ok-bad.bad _ _ _ _ _ c.is_quiet.ensures r front);
          arms = r.arms;
          read = search rules;
          write = search rules;
          reads = search rules;
          writes = omega (arith, r.writes, c.write_all.ensures.never_falls);
        };
        leaves = search rules;
      };
    }
