-- A quiet run can count on.
use Rattle.vc_base.proofs.Common.{◌≡◌, ℕ, ◌<◌, Bool, List, [], map, IfOk, OnOk, IsTrue, Ok, Err, sum, Result, sym, ap, arith, Discipline}
use Rattle.vc_counts.specs.CanCount.{CanCount}
use Rattle.vc_counts.specs.Counts.{live_bytes, nothing_counted}
use Rattle.vc_counts.specs.declared.counts.Counts.{Counts}
use Rattle.vc_commands.specs.Held.{home_of}
use Rattle.vc_dtdisc.specs.Rules.{Rules}
use Rattle.vc_region.specs.Stat.{stat_of}
use Rattle.vc_seg.specs.declared.shelf.Shelf.{Shelf}
use Rattle.vc_session.specs.Progress.{CanCountOn}
use Rattle.vc_session.specs.Run.{nothing_ran}
use Rattle.vc_session.specs.Text.{counts_of}
use Rattle.vc_steps.specs.Homes.{held_all, state_over}
use Rattle.vc_steps.specs.State.{State}
use Rattle.vc_steps.specs.declared.session.Session.{Session}

pub if_ok-map : {T E P Q : Type 0} (r : Result T E) → (P → Q) → OnOk r P → IfOk r (λ _. Q)
if_ok-map (Ok x) f holds = f holds
if_ok-map (Err e) f holds = tt

pub on_ok-of : {T E P : Type 0} (r : Result T E) → P → OnOk r P
on_ok-of (Ok x) holds = holds
on_ok-of (Err e) holds = tt

can-later : (c : Counts) (busy n line : ℕ) → n < line → CanCount c busy n → CanCount c busy line
can-later c busy n line later can = record { range = can.range; now = can.now; before = omega (arith, later, can.before) }

-- from a line that can be counted, or from the number before another, on
pub can-on : (quiet : Bool) (c : Counts) (busy n : ℕ) → (IsTrue quiet → CanCount c busy n) → IsTrue quiet → (line : ℕ) → n < line → CanCount c busy line
can-on quiet c busy n can is_quiet line later = can-later c busy n line later (can is_quiet)

pub can-same : (quiet : Bool) (c : Counts) (busy n m : ℕ) → m ≡ n → (IsTrue quiet → (line : ℕ) → n < line → CanCount c busy line) → IsTrue quiet → (line : ℕ) → m < line → CanCount c busy line
can-same quiet c busy n m same can is_quiet line later = can is_quiet line (omega (arith, same, later))

-- no block stands where no region is open
pub busy-none : {I : Type 0} {V : I → Type 0} {D : Type 0} (meaning : (x : I) × V x → Discipline) (kinds : List Rules) (shelf : Shelf I V) (session : Session D I V) → session.homes.entries ≡ [] → live_bytes (state_over meaning kinds shelf session) ≡ 0
busy-none meaning kinds shelf session none =
    ap (λ es. sum (map (λ h. (stat_of h.region).sbusy) (map home_of (held_all meaning es session.labels.items)))) none

-- a quiet run counts from 0 on
pub can-first : (quiet : Bool) (s : State) → live_bytes s ≡ 0 → CanCountOn quiet nothing_counted s 0
can-first quiet s none = λ is_quiet line later. record {
  range = record { segments = omega arith; bytes = omega arith; busy = omega arith };
  now = sym none;
  before = later;
}

pub counts-first : (s : State) → live_bytes s ≡ 0 → nothing_counted ≡ counts_of (nothing_ran s)
counts-first s none = ap (λ busy. let c : Counts = record { done = 0; refused = 0; segments = 0; bytes = 0; busy = busy; peak = 0 } in c) (sym none)
