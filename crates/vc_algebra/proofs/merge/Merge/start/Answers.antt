use Rattle.vc_base.proofs.Common.{sym, ◌∙◌, and_parts, eqb-true, is_ordered}
use Rattle.vc_paths.proofs.StayLemmas.{same-over}
use Rattle.vc_algebra.proofs.ComeLemmas.{begin}
use Rattle.vc_algebra.proofs.merge.Merge.start.Goals as goal

pub returns-clause-begins : goal.returns-clause-begins
returns-clause-begins g c =
    let all = g.Y.Layers.layered c.args.layers.now in
    let ordered = and_parts (is_ordered (all.layer c.args.d).method) (is_ordered (all.layer c.args.e).method) (sym c.are_ordered.ensures ∙ c.if-not-are_ordered.false) in
    let kinds = eqb-true (all.layer c.args.d).kind (all.layer c.args.e).kind (sym c.are_of_kind.ensures ∙ c.if-not-are_of_kind.false) in
    begin c.args.d c.args.e c.args.op c.first-left.result c.first-right.result (record { path = c.requires.first; method = ordered.0 }) (record { path = c.requires.second; method = ordered.1 }) kinds
    c.first-left.ensures.unchanged.layers (same-over c.first-left.ensures.unchanged.layers c.first-right.ensures.unchanged.layers) c.first-left.ensures.found c.first-right.ensures.found
