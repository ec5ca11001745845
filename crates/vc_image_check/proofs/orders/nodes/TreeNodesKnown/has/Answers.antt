use Rattle.vc_base.proofs.Common.{◌∙◌, arith}
use Rattle.vc_image_check.proofs.NodeWords.{node-links, node-short, node-zero}
use Rattle.vc_image_check.proofs.orders.nodes.TreeNodesKnown.has.Goals as goal

pub returns-then-n-eq0 : goal.returns-then-n-eq0
returns-then-n-eq0 g c = node-zero (g.N.Holders.blocks c.args.self.now.holders.now) c.args.n c.if-n-eq0.true

pub returns-then-size-lt33 : goal.returns-then-size-lt33
returns-then-size-lt33 g c =
    let is = c.size.ensures in
    let lt = c.if-size-lt33.true in
    node-short (g.N.Holders.blocks c.args.self.now.holders.now) c.args.n (omega (arith, is, lt))

pub returns : goal.returns
returns g c =
    let is = c.size.ensures in
    let ge = c.if-size-lt33.false in
    let some = c.if-n-eq0.false in
    c.are_short.ensures ∙ node-links (g.N.Holders.blocks c.args.self.now.holders.now) c.args.n (omega (arith, some)) (omega (arith, c.ranges.n)) (omega (arith, is, ge))
