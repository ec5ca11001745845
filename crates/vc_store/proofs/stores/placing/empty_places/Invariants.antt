use Rattle.vc_base.proofs.Common.{◌≡◌, ℕ, length, slice_get, None}
use Rattle.vc_store.specs.Stores.Stores.{joined}
use Rattle.vc_store.proofs.stores.placing.empty_places.Given as goal

-- the places so far are empty
abbrev pub invariant-loop : goal.invariant-loop
invariant-loop l = record {
  count : length l.places.items ≡ l.counter;
  empty : (n : ℕ) → joined (slice_get l.places.items n) ≡ None;
}
