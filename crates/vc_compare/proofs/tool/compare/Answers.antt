use Rattle.vc_base.proofs.Common.{◌≡◌, ◌<◌, length, refl, arith, rules, Discipline}
use Rattle.vc_ways.specs.Settled.{slots_on}
use Rattle.vc_ways.proofs.Loans.{all-back-same}
use Rattle.vc_compare.specs.Comparison.{IsRun}
use Rattle.vc_compare.proofs.Completing.{runs-whole}
use Rattle.vc_compare.proofs.tool.compare.Given as given
use Rattle.vc_compare.proofs.tool.compare.Goals as goal

abbrev meaning : (g : given.Over) → (x : g.dyn-1.0.I) × (g.dyn-1.0.entry x).0.Denot → Discipline
meaning g p = (g.dyn-1.0.entry p.0).1.state p.1

pub returns-in-Ok : goal.returns-in-Ok
returns-in-Ok g c =
    let other : length c.args.words.now ≡ 0 → ⊥ = search rules in
    record {
      refused = λ some. (c.in-Ok.ensures.told, (refl, refl));
      run = λ none. absurd (other none);
      complete = λ none. absurd (other none);
      keeps = all-back-same (slots_on (meaning g) c.args.shelf.now);
      reads = omega arith;
      writes = (omega arith, c.tell.ensures.never_falls);
    }

pub returns-in-Err : goal.returns-in-Err
returns-in-Err g c =
    let other : length c.args.words.now ≡ 0 → ⊥ = search rules in
    record {
      refused = λ some. (c.in-Err.ensures.broke, (refl, refl));
      run = λ none. absurd (other none);
      complete = λ none. absurd (other none);
      keeps = all-back-same (slots_on (meaning g) c.args.shelf.now);
      reads = omega arith;
      writes = (omega arith, c.tell.ensures.never_falls);
    }

pub returns : goal.returns
returns g c =
    let before = slots_on (meaning g) c.args.shelf.now in
    let after = slots_on (meaning g) c.run-ending.new.shelf in
    let one : 0 < length c.args.words.now → ⊥ = search rules in
    let run : IsRun c.end.result before after _ _ _ _ = record { how = c.run-ending.result; ends = c.run-ending.ensures.ends; read = c.run-ending.ensures.cause; told = c.end.ensures.ends } in
    record {
      refused = λ some. absurd (one some);
      run = λ none. run;
      complete = λ none unrefused calm. runs-whole before after _ _ _ _ unrefused calm c.end.result run;
      keeps = c.run-ending.ensures.keeps;
      reads = c.run-ending.ensures.never_falls;
      writes = (c.end.ensures.counts.writes, c.end.ensures.counts.errors);
    }
