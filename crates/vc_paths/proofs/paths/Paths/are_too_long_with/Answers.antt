use Rattle.vc_base.proofs.Common.{◌<◌, ◌≤◌, Some, sym, ◌∙◌, arith}
use Rattle.vc_paths.specs.Links.{is_too_long, links_with, numbers}
use Rattle.vc_paths.proofs.NewLinkLemmas.{none-any, some-any}
use Rattle.vc_paths.proofs.paths.Paths.are_too_long_with.Goals as goal

pub returns-then-is_too_long_with : goal.returns-then-is_too_long_with
returns-then-is_too_long_with c =
    let within : c.loop-from.from < 256 = omega arith in
    sym (some-any (is_too_long (links_with c.args.d (Some c.args.e) c.args.self.now)) 0 numbers c.loop-from.from
    (sym c.is_too_long_with.ensures ∙ c.if-is_too_long_with.true) (omega arith) within)

pub returns : goal.returns
returns c =
    let all : 256 ≤ c.loop-from.from = omega arith in
    sym (none-any (is_too_long (links_with c.args.d (Some c.args.e) c.args.self.now)) 0 numbers (λ k l m. c.loop-from.invariant k (omega (arith, m, all))))
