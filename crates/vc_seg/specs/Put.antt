-- A block that is put into a layout.
use Rattle.std.specs.Prelude.{◌≡◌, ◌≢◌, ℕ, All, false}
use Rattle.vc_model.specs.Addr.{address, place_of}
use Rattle.vc_model.specs.Best.{zeros}
use Rattle.vc_model.specs.Discipline.{Terms}
use Rattle.vc_model.specs.Layout.{Layout, with_block, with_grant}
use Rattle.vc_model.specs.Segments.{Granted, ask, new_segment}
use Rattle.vc_model.specs.Sound.{HaveOwnNumbers}

-- the layout with a block of zeros, by address
abbrev pub with_zeros : Layout ℕ → ℕ → ℕ → ℕ × ℕ → Layout ℕ
with_zeros r tag size at = record { segments = r.segments; blocks = with_block (zeros tag size at) r.blocks }

-- an address is that of a place
abbrev pub IsAddressOf : ℕ → ℕ × ℕ → Type 0
IsAddressOf a at = (a ≡ address at) × (place_of a ≡ at)

-- a new segment of that many bytes was granted under a number that no other has, and a block of zeros put at that offset in it
pub record IsPutInNew (terms : Terms) (old new : Layout ℕ) (tag size bytes off a : ℕ) : Type 0 where
  pub granted : ask terms bytes old.segments false ≡ Granted (new_segment (place_of a).0 bytes)
  pub address : IsAddressOf a ((place_of a).0, off)
  pub layout : new ≡ with_zeros (with_grant old (new_segment (place_of a).0 bytes)) tag size ((place_of a).0, off)
  pub fresh : All (λ s. s.0 ≢ (place_of a).0) old.segments
  pub numbered : HaveOwnNumbers new.segments
