-- Profile regions over a discipline that rounds up to 4,096 bytes, for worked rows.
use Rattle.std.specs.Prelude.{ℕ, List, [], ◌∷◌, Option, Some, None, false, true}
use Rattle.vc_model.specs.Discipline.{Terms}
use Rattle.vc_model.specs.Outcome.{Outcome, Done, Put, Refused}
use Rattle.vc_seg.specs.declared.profile_row.ProfileRow.{ProfileRow}
use Rattle.vc_audit.specs.Profile.{Profile, empty_profile, profile_alloc, profile_free, profile_resize}

abbrev pub page_terms : Terms
page_terms = record { round = 4096; grows = false }

-- the sites `m` and `r`, and `-`, that of blocks without one
abbrev pub m : List ℕ
m = 109 ∷ []

abbrev pub r : List ℕ
r = 114 ∷ []

abbrev pub dash : List ℕ
dash = 45 ∷ []

-- where a call puts a block, and the profile after it, which is the one before where the call is refused
abbrev pub place_in_profile : Outcome (Put (Profile ℕ)) → Option (ℕ × ℕ)
place_in_profile (Done p) = Some p.at
place_in_profile (Refused why) = None

abbrev pub profile_put : Profile ℕ → Outcome (Put (Profile ℕ)) → Profile ℕ
profile_put before (Done p) = p.region
profile_put before (Refused why) = before

-- a block more, of that site and size
abbrev pub with_one : List ℕ → ℕ → Profile ℕ → Profile ℕ
with_one site size p = profile_put p (profile_alloc page_terms p 0 site size 32 false)

-- the block at a place gets another size, and may move
abbrev pub with_size : ℕ × ℕ → ℕ → Profile ℕ → Profile ℕ
with_size at size p = profile_put p (profile_resize page_terms p at size true false)

-- blocks of 10, 20 and 30 bytes at `m`, `r` and `m`
abbrev pub three_put : Profile ℕ
three_put = with_one m 30 (with_one r 20 (with_one m 10 empty_profile))

-- the first is freed, and one of 5 bytes without a site is put
abbrev pub first_freed : Profile ℕ
first_freed = with_one dash 5 (profile_free three_put (1, 32))

-- a row as a site and three numbers
abbrev pub example_row : List ℕ → ℕ → ℕ → ℕ → ProfileRow
example_row site blocks bytes peak = record { site = site; blocks = blocks; bytes = bytes; peak = peak }
