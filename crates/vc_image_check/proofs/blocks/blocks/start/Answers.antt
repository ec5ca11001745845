use Rattle.vc_base.proofs.Common.{◌+◌, ◌-◌, ◌≤◌, length, take, drop, sym, ap, ◌∙◌, subst, arith}
use Rattle.vc_seg.specs.Field.{field_at}
use Rattle.vc_image_check.specs.Laws.BlockLaws.{marked-there}
use Rattle.vc_image_check.proofs.blocks.blocks.start.Goals as goal

pub start-requires : goal.start-requires
start-requires c =
    let lies = marked-there _ _ _ c.args.a c.args.blocks.now.known c.requires in
    record { number = lies.number; most = omega (arith, lies.within, lies.small) }

pub returns-clause-bytes : goal.returns-clause-bytes
returns-clause-bytes c =
    ap (λ z. take (field_at (z - 12) c.args.blocks.now.image.now) (drop z c.args.blocks.now.image.now)) c.start.ensures
    ∙ (marked-there _ _ _ c.args.a c.args.blocks.now.known c.requires).bytes

pub returns-clause-low : goal.returns-clause-low
returns-clause-low c = subst (λ z. 12 ≤ z) (sym c.start.ensures) (marked-there _ _ _ c.args.a c.args.blocks.now.known c.requires).low

pub returns-clause-within : goal.returns-clause-within
returns-clause-within c =
    subst (λ z. z + field_at (z - 12) c.args.blocks.now.image.now ≤ length c.args.blocks.now.image.now) (sym c.start.ensures) (marked-there _ _ _ c.args.a c.args.blocks.now.known c.requires).within

pub returns-clause-most : goal.returns-clause-most
returns-clause-most c =
    subst (λ z. field_at (z - 12) c.args.blocks.now.image.now ≤ 33554432) (sym c.start.ensures) (marked-there _ _ _ c.args.a c.args.blocks.now.known c.requires).most

pub returns-clause-all : goal.returns-clause-all
returns-clause-all c = (marked-there _ _ _ c.args.a c.args.blocks.now.known c.requires).small
