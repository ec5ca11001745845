use Rattle.vc_image_check.proofs.Ordering.{Plain}
use Rattle.vc_image_check.proofs.orders.order.are_plain.Given as goal

abbrev pub invariant-loop-name : goal.invariant-loop-name
invariant-loop-name g l = Plain (g.N.Holders.blocks l.holders) l.names l.name-index
