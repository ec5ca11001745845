use Rattle.vc_base.proofs.Common.{◌≡◌, ◌==◌, ◌<◌, ℕ, Bool, IsTrue, sym, refl, ap, ◌∙◌, subst, eqb-true, Discipline, rules}
use Rattle.vc_counts.specs.CanCount.{CanCount}
use Rattle.vc_counts.specs.Counts.{live_bytes}
use Rattle.vc_script.specs.Proper.{IsProperAnswer}
use Rattle.vc_script.specs.declared.line_answer.LineAnswer.TheVariants.{Version}
use Rattle.vc_session.proofs.QuietCounts.{can-on}
use Rattle.vc_session.proofs.SessionLasts.{arming-of, arming-same, arming-told}
use Rattle.vc_steps.proofs.SettledShelf.{settles-same}
use Rattle.vc_session.proofs.RunMiddle.{first-version}
use Rattle.vc_steps.proofs.ArmedRegions.{arms-settled, arms-state}
use Rattle.vc_steps.specs.Homes.{state_over}
use Rattle.vc_steps.specs.Told.{rules_in}
use Rattle.vc_session.proofs.engine.run_line.Given as given
use Rattle.vc_session.proofs.engine.run_line.Goals as goal

abbrev meaning : (g : given.Over) → (x : g.dyn-1.0.I) × (g.dyn-1.0.entry x).0.Denot → Discipline
meaning g p = (g.dyn-1.0.entry p.0).1.state p.1

pub returns-in-Err : goal.returns-in-Err
returns-in-Err g c = record { runs = record { lasts = arming-same c.requires.can_run.stands; runs = search rules }; same = refl; armed = refl }

pub returns-in-Blank : goal.returns-in-Blank
returns-in-Blank g c =
    record {
      runs = record {
        lasts = arming-same c.requires.can_run.stands;
        runs = record {
          ran =
              rw (sym (rw c.in-Ok.is at c.read_into.ensures.value) ∙ c.in-Blank.is)
              (refl, record { state = refl; told = refl; settles = settles-same _; armed = refl; gone = refl; same_counts = refl });
          can = can-on _ _ _ _ c.requires.can_run.can_count;
        };
      };
      same = tt;
      armed = tt;
    }

pub returns-in-Bad : goal.returns-in-Bad
returns-in-Bad g c =
    record {
      runs = record {
        lasts = arming-same c.requires.can_run.stands;
        runs = record {
          ran =
              rw (sym (rw c.in-Ok.is at c.read_into.ensures.value) ∙ c.in-Bad.is)
              (refl, record { state = refl; told = refl; settles = settles-same _; armed = refl; gone = refl; same_counts = refl });
          can = can-on _ _ _ _ c.requires.can_run.can_count;
        };
      };
      same = tt;
      armed = tt;
    }

pub returns-in_ok-run_answer-in-Is : goal.returns-in_ok-run_answer-in-Is
returns-in_ok-run_answer-in-Is g c =
    record {
      runs = record {
        lasts = arming-of c.run_answer.ensures.runs.lasts;
        runs = record {
          ran = rw (sym (rw c.in-Ok.is at c.read_into.ensures.value) ∙ c.in-Is.is) (refl, c.in_ok-run_answer-in-Is.ensures.runs.runs.ran);
          can = c.in_ok-run_answer-in-Is.ensures.runs.runs.can;
        };
      };
      same = tt;
      armed = tt;
    }

pub returns-in-Version-clause-runs : goal.returns-in-Version-clause-runs
returns-in-Version-clause-runs g c =
    let M = meaning g in
    let kinds = rules_in g.D.DictDisc.rules c.args.kinds.now.items in
    let shelf = c.args.shelf.now in
    let version : ℕ = c.in-Version.version in
    let on : Bool = version == 2 in
    let proper : IsProperAnswer (c.args.n == 1) (Version version) = rw c.in-Version.is at (rw c.in-Ok.is at c.read_into.ensures.proper) in
    let first : c.args.n ≡ 1 = eqb-true c.args.n 1 (first-version (c.args.n == 1) version proper) in
    let unarmed = c.requires.unarmed first in
    let state : state_over M kinds shelf c.set_version.new.self ≡ state_over M kinds shelf c.args.session.now = arms-state c.set_version.ensures kinds shelf in
    record {
      lasts = arming-told c.set_version.new.self on c.set_version.ensures unarmed c.requires.can_run.stands;
      runs = record {
        ran =
            rw (sym (rw c.in-Ok.is at c.read_into.ensures.value) ∙ c.in-Version.is) (
              refl,
              record {
                first = first;
                armed = ap (λ s. s.is_armed) c.set_version.ensures.rest;
                state = state;
                told = refl;
                accounts = arms-settled c.set_version.ensures shelf;
                gone = refl;
                same_counts = refl;
              },
            );
        can = subst (λ busy. IsTrue c.args.quiet → (line : ℕ) → c.args.n < line → CanCount c.args.scratch.now.counts busy line) (ap live_bytes (sym state)) (can-on _ _ _ _ c.requires.can_run.can_count);
      };
    }
