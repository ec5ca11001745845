-- What a call on a best region makes of it and of the list of its live blocks, and what it costs; and a list of them.
use Rattle.std.specs.Prelude.{◌≡◌, ℕ, ◌+◌, ◌*◌, ◌≤◌, List, [], Result, Ok, Err, map}
use Rattle.vc_base.specs.Address.{number_of}
use Rattle.vc_base.specs.declared.addr.Addr.{Addr}
use Rattle.vc_model.specs.Discipline.{Discipline}
use Rattle.vc_seg.specs.declared.fault.RegionFault.{RegionFault}
use Rattle.vc_splay.specs.Rank.{binary_digits}
use Rattle.vc_best.specs.Cost.{CallCosts}
use Rattle.vc_best.specs.Parts.{blocks_in, disc_in, layout_of, segments_in}
use Rattle.vc_best.specs.declared.best.Best.{Best}
use Rattle.vc_cost.specs.declared.best_call.BestCall.{BestCall}
use Rattle.vc_cost.specs.BestCalls.{AreLive, IsDiscLeft, IsDiscServed, IsFault, IsRefusedBy, IsStoppedAt, Live, after_best, after_bests, best_weight, bests_made, greatest_gaps}

-- a region and the addresses of its live blocks
abbrev pub live_in : {I : Type 0} {V : I → Type 0} → Best I V → List Addr → Live
live_in b live = record { layout = layout_of b; blocks = map number_of live }

-- the call was made
pub record IsBestMade {I : Type 0} {V : I → Type 0} (meaning : (x : I) × V x → Discipline) (call : BestCall) (old new : Best I V) (before after : List Addr) (start now : ℕ) : Type 0 where
  pub leaves : live_in new after ≡ after_best (disc_in meaning old).terms call (live_in old before)
  pub live : AreLive (blocks_in new) (map number_of after)
  pub disc : IsDiscServed (disc_in meaning old) (disc_in meaning new) (segments_in old) (segments_in new)
  pub cost : CallCosts old new (best_weight call (live_in old before)) start now

-- it was refused, and changes no block and no segment
pub record IsBestRefused {I : Type 0} {V : I → Type 0} (meaning : (x : I) × V x → Discipline) (call : BestCall) (old new : Best I V) (before : List Addr) (why : RegionFault) : Type 0 where
  pub same : layout_of new ≡ layout_of old
  pub fault : IsFault why (IsRefusedBy (disc_in meaning old).terms call (live_in old before))
  pub disc : IsDiscLeft why (disc_in meaning old) (disc_in meaning new) (segments_in old) (segments_in new)

-- one or the other, by the answer
abbrev pub MakesBest : {I : Type 0} {V : I → Type 0} → ((x : I) × V x → Discipline) → BestCall → Best I V → Best I V → List Addr → List Addr → ℕ → ℕ → Result Unit RegionFault → Type 0
MakesBest meaning call old new before after start now (Ok done) = IsBestMade meaning call old new before after start now
MakesBest meaning call old new before after start now (Err why) = IsBestRefused meaning call old new before why

-- all calls of a list were made: the segments and blocks are those after them, of the discipline as much is out besides as before, and
-- the steps are at most 240 for each binary digit of the greatest number of gaps after any of them, and 260, for each call
pub record IsRunMade {I : Type 0} {V : I → Type 0} (meaning : (x : I) × V x → Discipline) (calls : List BestCall) (old new : Best I V) (start now greatest : ℕ) : Type 0 where
  pub layout : layout_of new ≡ (after_bests (disc_in meaning old).terms calls (live_in old [])).layout
  pub most : greatest ≡ greatest_gaps (disc_in meaning old).terms calls (live_in old [])
  pub disc : IsDiscServed (disc_in meaning old) (disc_in meaning new) (segments_in old) (segments_in new)
  pub cost : now ≤ start + bests_made (disc_in meaning old).terms calls (live_in old []) * (240 * binary_digits greatest + 260)

-- the one at a place was refused, and those before it were made
pub record IsRunStopped {I : Type 0} {V : I → Type 0} (meaning : (x : I) × V x → Discipline) (calls : List BestCall) (old new : Best I V) (k : ℕ) (why : RegionFault) : Type 0 where
  pub stopped : IsStoppedAt (disc_in meaning old).terms calls (live_in old []) k why (layout_of new)
  pub disc : IsDiscLeft why (disc_in meaning old) (disc_in meaning new) (segments_in old) (segments_in new)
