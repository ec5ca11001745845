use Rattle.vc_base.proofs.Common.{length, ap, ◌∙◌, arith, with_bytes}
use Rattle.vc_cost.proofs.ManyLemmas.{at-place, held, many-bytes, many-written}
use Rattle.vc_cost.proofs.tests.many.ManyCellsCells.set_body.Goals as goal

pub with_bytes_of-requires : goal.with_bytes_of-requires
with_bytes_of-requires c =
    let xs = c.args.self.now.held.items in
    let h = held xs c.args.at.0 32 c.requires.place in
    let e = ap (λ z. length z) (many-bytes xs c.args.at.0 h.some h.within) in
    let k = ap (λ z. length z) (at-place xs c.args.at.0 c.index.result.now h.within c.index.ensures) in
    omega (arith, e, k, c.requires.length)

pub returns-clause-blocks : goal.returns-clause-blocks
returns-clause-blocks c =
    let xs = c.args.self.now.held.items in
    let h = held xs c.args.at.0 32 c.requires.place in
    many-written (λ z. with_bytes 32 c.args.bytes.now z) xs c.args.at.0 c.with_bytes_of.result h.some h.within
    (c.with_bytes_of.ensures ∙ ap (λ z. with_bytes 32 c.args.bytes.now z) (at-place xs c.args.at.0 c.index.result.now h.within c.index.ensures))
