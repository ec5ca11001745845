use Rattle.vc_base.proofs.Common.{◌≤◌, length, decimal, arith, rules}
use Rattle.std.proofs.lemmas.Fmt.{length-decimal-le}
use Rattle.vc_script.proofs.line_end.number_before.Goals as goal

pub write_digits-requires : goal.write_digits-requires
write_digits-requires c =
    let short : length (decimal c.args.n) ≤ 20 = search (rules, length-decimal-le 20) in
    (omega arith, omega arith)

pub returns-clause-least : goal.returns-clause-least
returns-clause-least c =
    let short : length (decimal c.args.n) ≤ 20 = search (rules, length-decimal-le 20) in
    omega arith
