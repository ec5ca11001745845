use Rattle.vc_base.proofs.Common.{ap}
use Rattle.slab.specs.Slab.{slab_len}
use Rattle.vc_addrmap.specs.Entries.{entry_at}
use Rattle.vc_addrmap.proofs.Maps.{map-same, means-same, numbers-kept}
use Rattle.vc_addrmap.proofs.addr_map.AddrMap.reserve.Goals as goal

pub invariant_of-self : goal.invariant_of-self
invariant_of-self c =
    let e = c.reserve.ensures.rest_kept in
    record { kept = map-same _ _ c.args.self.now.kept c.reserve.new.self (λ m. ap (λ s. entry_at s m) e) (ap slab_len e) }

pub returns-in_err-reserve-clause-same : goal.returns-in_err-reserve-clause-same
returns-in_err-reserve-clause-same c = means-same _ c.args.self.now (numbers-kept _ _ c.args.self.now.kept c.reserve.new.self (λ m. ap (λ s. entry_at s m) c.reserve.ensures.rest_kept))

pub returns-clause-same : goal.returns-clause-same
returns-clause-same c = means-same _ c.args.self.now (numbers-kept _ _ c.args.self.now.kept c.reserve.new.self (λ m. ap (λ s. entry_at s m) c.reserve.ensures.rest_kept))
