use Rattle.vc_base.proofs.Common.{◌-◌, sym, subst, arith}
use Rattle.vc_image_check.proofs.Listing.{Listing, listing-next}
use Rattle.vc_image_check.proofs.dicts.holders.listed.Goals as goal

pub loop-left-preserved : goal.loop-left-preserved
loop-left-preserved g c =
    let some = c.loop-left-test.true in
    let b = g.N.Holders.blocks c.args.nodes.now in
    let left = c.loop-left.left - 1 in
    subst (λ z. Listing b c.args.count c.args.first.0 z c.word-at.result left) (sym c.in_ok-push.ensures.items)
    (listing-next b c.args.count c.args.first.0 c.loop-left.holders.items c.loop-left.at c.loop-left.left left (omega (arith, some)) c.loop-left.invariant c.word-at.result c.word-at.ensures)
