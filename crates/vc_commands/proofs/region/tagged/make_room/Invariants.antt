use Rattle.vc_base.proofs.Common.{◌≡◌, ℕ, ◌-◌, ◌≤◌, length, max}
use Rattle.vc_commands.specs.Tagged.{place_of_tag}
use Rattle.vc_commands.proofs.region.tagged.make_room.Given as goal

-- the list is at most as long as it has to be, and tells the same
abbrev pub invariant-loop-places : goal.invariant-loop-places
invariant-loop-places l =
    record {
      longer : length l.initial.places.items ≤ length l.places.items;
      most : length l.places.items ≤ max (length l.initial.places.items) l.tag;
      same : (other : ℕ) → place_of_tag l.places.items other ≡ place_of_tag l.initial.places.items other;
    }

abbrev pub decreases-loop-places : goal.decreases-loop-places
decreases-loop-places l = l.tag - length l.places.items
