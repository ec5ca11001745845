use Rattle.vc_base.proofs.Common.{◌+◌, ◌≤◌, length, sym, subst, arith}
use Rattle.vc_image_check.specs.Laws.Lying.{lies}
use Rattle.vc_image_check.proofs.gaps.free_extents.FreeExtents.start.Goals as goal

pub start-requires : goal.start-requires
start-requires c =
    let there = lies _ _ _ c.args.self.now.known c.args.a c.requires in
    record { number = there.number; most = omega (arith, there.within, there.small) }

pub returns-clause-low : goal.returns-clause-low
returns-clause-low c = subst (λ z. 16 ≤ z) (sym c.start.ensures) (lies _ _ _ c.args.self.now.known c.args.a c.requires).low

pub returns-clause-within : goal.returns-clause-within
returns-clause-within c = subst (λ z. z + 16 ≤ length c.args.self.now.image.now) (sym c.start.ensures) (lies _ _ _ c.args.self.now.known c.args.a c.requires).within
