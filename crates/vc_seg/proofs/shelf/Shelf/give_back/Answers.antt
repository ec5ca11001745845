use Rattle.vc_base.proofs.Common.{Some, rules, map-set}
use Rattle.vc_seg.proofs.Slots.{place_at-set, number_within}
use Rattle.vc_seg.proofs.shelf.Shelf.give_back.Goals as goal

pub returns-clause-filled : goal.returns-clause-filled
returns-clause-filled g c = map-set _ _ _ _

pub returns-clause-place : goal.returns-clause-place
returns-clause-place g c =
    place_at-set _ c.args.self.now.slots.items c.args.n (Some c.args.disc) (search rules) (number_within _ c.args.self.now.slots.items c.args.n c.requires)
