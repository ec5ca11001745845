-- Which dictionaries can stand among so many places.
use Rattle.std.specs.Prelude.{◌≡◌, ℕ, ◌≤◌}
use Rattle.vc_dict.specs.declared.dict.Dict.{Dict}
use Rattle.vc_store.specs.Stores.Copies.{of_kind}

-- its kind is that of one of so many places, counted from 1 on, and its numbers make it again
pub record CanStandAgain (count : ℕ) (d : Dict) : Type 0 where
  pub some : 1 ≤ d.kind
  pub within : d.kind ≤ count
  pub again : of_kind d.kind d ≡ d
