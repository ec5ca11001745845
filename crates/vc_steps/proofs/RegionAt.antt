-- The open region of a name at its index, as a session stores it.
use Rattle.vc_base.proofs.Common.{◌≡◌, ℕ, ◌<◌, List, [], map, length, get_or, set, slice_get, Some, option_map, position, bytes_eq, sym, ap, ◌∙◌, arith, position-Some, length-map, same_Some, slice_get-map, keys_of, values_of, Discipline}
use Rattle.indexmap.specs.IndexMap.{set_value_at}
use Rattle.vc_commands.specs.Held.{Held, home_of}
use Rattle.vc_commands.specs.Home.{is_home}
use Rattle.vc_commands.specs.RegionRun.{held_of}
use Rattle.vc_commands.specs.declared.region.home.HomeEntry.{HomeEntry}
use Rattle.vc_commands.specs.declared.region.labels.Labels.{Labels}
use Rattle.vc_commands.proofs.Firsts.{IsFirst, find-first}
use Rattle.vc_views.proofs.Firsts.{key-at}
use Rattle.vc_steps.specs.Homes.{held_all}
use Rattle.vc_steps.specs.State.{home_named}
use Rattle.vc_steps.proofs.Cells.{set_same}
use Rattle.vc_steps.proofs.Helds.{first-named, held-read, held-set, length-set, slice-or}
use Rattle.vc_steps.proofs.HomePlaces.{home-at, labels-at}

-- it stands there, with the names of its blocks
pub record RegionAt {I : Type 0} {V : I → Type 0} (homes : List (List ℕ × HomeEntry I V)) (labels : List Labels) (r : List ℕ) (j : ℕ) (v : HomeEntry I V) : Type 0 where
  pub named : length labels ≡ length homes
  pub index : position (bytes_eq r) (keys_of homes) ≡ Some j
  pub value : slice_get (values_of homes) j ≡ Some v
  pub l : Labels
  pub own : slice_get labels j ≡ Some l

module _ {I : Type 0} {V : I → Type 0} (homes : List (List ℕ × HomeEntry I V)) (labels : List Labels) (r : List ℕ) (j : ℕ) (named : length labels ≡ length homes) (index : position (bytes_eq r) (keys_of homes) ≡ Some j) where
  abbrev within : j < length (keys_of homes)
  within = (position-Some (bytes_eq r) (keys_of homes) j [] index).0

  -- by what stands there
  abbrev pub stored_at : (v : HomeEntry I V) → slice_get (values_of homes) j ≡ Some v → RegionAt homes labels r j v
  stored_at v value =
      let own = labels-at homes j within labels named in
      record { named = named; index = index; value = value; l = own.0; own = own.1 }

  -- some entry does
  abbrev pub found_at : (v : HomeEntry I V) × RegionAt homes labels r j v
  found_at =
      let found = home-at homes j within in
      (found.0, stored_at found.0 found.1)

  -- by the names of its blocks too
  pub label-read : (l : Labels) → l ≡ get_or labels j l → slice_get labels j ≡ Some l
  label-read l is = slice-or labels j l (omega (arith, named, length-map homes (λ (x : List ℕ × HomeEntry I V). x.0), within)) is

module _ {I : Type 0} {V : I → Type 0} (meaning : (x : I) × V x → Discipline) {homes : List (List ℕ × HomeEntry I V)} {labels : List Labels} {r : List ℕ} {j : ℕ} {v : HomeEntry I V} (x : RegionAt homes labels r j v) where
  -- what it stands for
  abbrev pub region_at : Held
  region_at = held_of meaning r v x.l

  pub region-stands : slice_get (held_all meaning homes labels) j ≡ Some region_at
  region-stands = held-read meaning homes labels j r v x.l (key-at (keys_of homes) r j x.index) x.value x.own

  pub region-first : IsFirst (is_home r) (map home_of (held_all meaning homes labels)) j
  region-first = first-named meaning homes labels r j x.named x.index

  -- it is found by its name
  pub region-named : home_named r (map home_of (held_all meaning homes labels)) ≡ Some (home_of region_at)
  region-named =
      let hs : List Held = held_all meaning homes labels in
      let first = region-first in
      find-first (is_home r) (map home_of hs) j first
      ∙ ap (λ k. Some k) (same_Some first.item (home_of region_at) (sym first.at ∙ (slice_get-map home_of hs j ∙ ap (option_map home_of) region-stands)))

  -- with another one at its place
  module _ (entry : HomeEntry I V) (names : Labels) where
    pub helds-put : held_all meaning (set_value_at homes j entry) (set labels j names) ≡ set (held_all meaning homes labels) j (held_of meaning r entry names)
    helds-put = held-set meaning homes labels j r entry names x.named (key-at (keys_of homes) r j x.index)

    pub named-put : length (set labels j names) ≡ length (set_value_at homes j entry)
    named-put = length-set meaning homes labels j entry names x.named

  -- and the names that it has
  module _ (entry : HomeEntry I V) where
    pub helds-set : held_all meaning (set_value_at homes j entry) labels ≡ set (held_all meaning homes labels) j (held_of meaning r entry x.l)
    helds-set = ap (λ ls. held_all meaning (set_value_at homes j entry) ls) (sym (set_same labels j x.l x.own)) ∙ helds-put entry x.l

    pub named-set : length labels ≡ length (set_value_at homes j entry)
    named-set = sym (ap length (set_same labels j x.l x.own)) ∙ named-put entry x.l
