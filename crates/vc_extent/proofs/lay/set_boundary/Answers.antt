use Rattle.vc_base.proofs.Common.{◌≡◌, ◌+◌, ◌-◌, length, arith}
use Rattle.vc_extent.proofs.Tiled.{rebound, rebound-end}
use Rattle.vc_extent.proofs.lay.set_boundary.Goals as goal

pub returns-then-at-size-clause-tiles : goal.returns-then-at-size-clause-tiles
returns-then-at-size-clause-tiles c =
    λ p es h.
    let rest = c.set_field.ensures.rest in
    let end : c.args.at + 12 + 4 ≡ c.args.at + 16 = omega arith in
    rw rest.len (rebound c.args.seg.now.bytes c.set_field.new.self.bytes (length c.args.seg.now.bytes - 16) p c.args.before c.args.at es rest.below (rw end at rest.above) c.set_field.ensures.value h)

pub returns-else-at-size-clause-tiles : goal.returns-else-at-size-clause-tiles
returns-else-at-size-clause-tiles c =
    λ p es h. rebound-end c.args.seg.now.bytes (length c.args.seg.now.bytes - 16) p c.args.before c.args.at es (omega (arith, c.size.ensures.value, c.if-at-size.false)) h
