-- What the closing of one region does.
use Rattle.std.specs.Prelude.{◌≡◌, ℕ, ◌+◌, ◌-◌, Some, IfSome, length, remove, slice_get, slice_set}
use Rattle.vc_model.specs.Discipline.{Discipline}
use Rattle.vc_region.specs.Region.{segments_of}
use Rattle.vc_seg.specs.declared.shelf.Shelf.{Shelf}
use Rattle.vc_steps.specs.Account.{account_after}
use Rattle.vc_steps.specs.Homes.{accounts_on, held_in_session}
use Rattle.vc_steps.specs.declared.session.Session.{Session}

-- the region that was opened as the one of that index is closed, which gave so many segments back
pub record ClosesAt {I : Type 0} {V : I → Type 0} {D : Type 0} (meaning : (x : I) × V x → Discipline) (shelf : Shelf I V) (session : Session D I V) (shelf' : Shelf I V) (session' : Session D I V) (i count : ℕ) : Type 0 where
  pub count_is : IfSome (slice_get (held_in_session meaning session) i) (λ h. count ≡ length (segments_of h.region))
  -- its discipline is at its place again
  pub here : IfSome (slice_get (held_in_session meaning session) i) (λ h. accounts_on meaning shelf' ≡ slice_set (accounts_on meaning shelf) (h.place - 1) (Some (account_after h)))
  -- the other regions stay, and the dictionaries and their views do
  pub others : held_in_session meaning session' ≡ remove (held_in_session meaning session) i
  pub entries : session'.dicts.entries ≡ session.dicts.entries
  pub paths : session'.paths ≡ session.paths
  pub fewer : length session'.homes.entries + 1 ≡ length session.homes.entries
