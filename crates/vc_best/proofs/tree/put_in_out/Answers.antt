use Rattle.vc_base.proofs.Common.{◌≡◌, place_of, round_up}
use Rattle.vc_best.proofs.Puts.{can_put, least-out, put-in_gap, put-most}
use Rattle.vc_best.proofs.tree.put_in_out.Given.{Over}
use Rattle.vc_best.proofs.tree.put_in_out.Goals as goal
use Rattle.vc_best.proofs.tree.put_in_out.Goals.{After-rounded_up-off}

low : (g : Over) (c : After-rounded_up-off g) → c.rounded_up-off.result ≡ round_up (place_of c.args.a.0).1 c.args.align
low g c = rw (← c.off.ensures) c.rounded_up-off.ensures

pub put_block-requires-clause-room : goal.put_block-requires-clause-room
put_block-requires-clause-room g c =
    can_put _ _ c.args.extents.now.kept c.args.size c.args.align c.args.tag c.args.a.0 _ (least-out c.requires) (low g (goal.at.put_block-requires-clause-room g c).After-rounded_up-off)

pub returns-clause-put : goal.returns-clause-put
returns-clause-put g c =
    put-in_gap _ _ c.args.extents.now.kept c.args.size c.args.align c.args.tag c.args.a.0 _ (least-out c.requires) (low g (goal.at.returns-clause-put g c).After-rounded_up-off) _ _ c.put_block.new.extents.kept _ c.put_block.ensures.value c.put_block.ensures.layout

pub returns-clause-whole : goal.returns-clause-whole
returns-clause-whole g c =
    record {
      kept = c.put_block.ensures.kept;
      sizes = put-most _ _ c.args.extents.now.kept c.args.size c.args.align c.args.tag c.args.a.0 _ (least-out c.requires) (low g (goal.at.returns-clause-whole g c).After-rounded_up-off) _ _ c.put_block.new.extents.kept _ c.put_block.ensures.value c.put_block.ensures.layout;
    }
