use Rattle.vc_base.proofs.Common.{◌≡◌, ◌-◌, ◌*◌, ◌^◌}
use Rattle.vc_dthash.specs.Slots.{enough_slots, slots_for}
use Rattle.vc_dthash.proofs.dt_hash.slots_for.Given as goal

abbrev pub invariant-loop-doubled : goal.invariant-loop-doubled
invariant-loop-doubled l = (l.slots ≡ 16 * 2 ^ l._doubled) × (enough_slots (17 - l._doubled) l.slots l.objects ≡ slots_for l.objects)
