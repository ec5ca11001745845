-- What stands at a place of a session's regions.
use Rattle.vc_base.proofs.Common.{◌≡◌, ℕ, ◌<◌, List, length, slice_get, Some, arith, length-map, keys_of, values_of}
use Rattle.vc_commands.specs.declared.region.home.HomeEntry.{HomeEntry}
use Rattle.vc_commands.specs.declared.region.labels.Labels.{Labels}
use Rattle.vc_steps.proofs.Helds.{some-at}

module _ {I : Type 0} {V : I → Type 0} (homes : List (List ℕ × HomeEntry I V)) (j : ℕ) (within : j < length (keys_of homes)) where
  -- the names of the region there
  pub labels-at : (labels : List Labels) → length labels ≡ length homes → (l : Labels) × (slice_get labels j ≡ Some l)
  labels-at labels named =
      some-at labels j (omega (arith, named, length-map homes (λ (x : List ℕ × HomeEntry I V). x.0), within))

  -- the region there
  pub home-at : (h : HomeEntry I V) × (slice_get (values_of homes) j ≡ Some h)
  home-at =
      some-at (values_of homes) j (omega (arith, length-map homes (λ (x : List ℕ × HomeEntry I V). x.1), length-map homes (λ (x : List ℕ × HomeEntry I V). x.0), within))
