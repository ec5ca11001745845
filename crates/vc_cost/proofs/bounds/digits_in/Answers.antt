use Rattle.std.proofs.Common.{◌≡◌, arith}
use Rattle.std.proofs.lemmas.Nat.{leading_length}
use Rattle.vc_splay.specs.Rank.{binary_digits}
use Rattle.vc_cost.proofs.DigitsLemmas.{digits-power}
use Rattle.vc_cost.proofs.bounds.digits_in.Goals as goal

-- src/bounds.rt:18:1
pub returns : goal.returns
returns c =
    let top = leading_length 64 c.args.n c.ranges.n.fits in
    let digits : binary_digits c.args.n ≡ top.0 = digits-power top.0 c.args.n top.2 top.3 in
    let whole = top.1 in
    let value = c.from.ensures in
    omega arith
