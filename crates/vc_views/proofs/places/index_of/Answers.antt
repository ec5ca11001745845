use Rattle.vc_base.proofs.Common.{◌≡◌, true, false, ◌==◌, add-one, arith, nat_tests}
use Rattle.vc_views.proofs.Firsts.{number-here, number-passed}
use Rattle.vc_views.proofs.places.index_of.Goals as goal

pub returns-then-index-d-clause-entry : goal.returns-then-index-d-clause-entry
returns-then-index-d-clause-entry c =
    let own : (c.index.result.now.number == c.args.d) ≡ true = grind (arith, nat_tests, c.if-index-d.true) in
    number-here c.args.d c.args.dicts.now.entries c.loop-i.i c.index.result.now c.requires c.loop-i.invariant c.index.ensures own

pub loop-i-preserved : goal.loop-i-preserved
loop-i-preserved c =
    let other : (c.index.result.now.number == c.args.d) ≡ false = grind (arith, nat_tests, c.if-index-d.false) in
    rw add-one (number-passed c.args.d c.args.dicts.now.entries c.loop-i.i c.index.result.now c.requires c.loop-i.invariant c.index.ensures other)
