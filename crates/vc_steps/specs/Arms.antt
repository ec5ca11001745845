-- What arming the disciplines of a session does.
use Rattle.std.specs.Prelude.{◌≡◌, ℕ, List, Bool, length, map}
use Rattle.vc_model.specs.Discipline.{Discipline, armed_as}
use Rattle.vc_commands.specs.declared.region.home.HomeEntry.{HomeEntry}
use Rattle.vc_commands.specs.declared.region.labels.Labels.{Labels}
use Rattle.vc_commands.specs.Held.{Held}
use Rattle.vc_commands.specs.RegionRun.{held_of}
use Rattle.vc_steps.specs.Homes.{held_in_session}
use Rattle.vc_steps.specs.declared.session.Session.{Session}

-- an open region with its discipline armed so
abbrev pub armed_held : Bool → Held → Held
armed_held on h = record h { disc = armed_as on h.disc }

-- the discipline of a region was armed so, and nothing else of it changed
abbrev pub ArmsHome : {I : Type 0} {V : I → Type 0} → ((x : I) × V x → Discipline) → Bool → HomeEntry I V → HomeEntry I V → Type 0
ArmsHome meaning on old new =
    (name : List ℕ) (labels : Labels) → held_of meaning name new labels ≡ armed_held on (held_of meaning name old labels)

-- the disciplines of all regions of a session were armed so
pub record ArmsAll {I : Type 0} {V : I → Type 0} {D : Type 0} (meaning : (x : I) × V x → Discipline) (on : Bool) (session session' : Session D I V) : Type 0 where
  pub held : held_in_session meaning session' ≡ map (armed_held on) (held_in_session meaning session)
  pub count : length session'.homes.entries ≡ length session.homes.entries
  -- those of later ones are, and nothing else changed
  pub rest : session' ≡ record session { homes = session'.homes; is_armed = on }
