use Rattle.vc_base.proofs.Common.{nat_lt, ap, ◌∙◌}
use Rattle.vc_base.specs.Cells.{bytes_at}
use Rattle.vc_image_check.proofs.NodeWords.{short-is}
use Rattle.vc_image_check.proofs.orders.nodes.is_short.Goals as goal

pub returns : goal.returns
returns g c =
    let blocks = g.N.Holders.blocks c.args.holders.now in
    ap (λ z. nat_lt z 4294967296) c.word.ensures ∙ short-is c.args.k (bytes_at blocks c.args.n) c.requires.enough (λ i. g.met.N.Holders.small c.args.holders.now c.args.n i)
