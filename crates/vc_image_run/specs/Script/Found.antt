-- The image of the first open region of a session, or why there is none.
use Rattle.std.specs.Prelude.{◌≡◌, ℕ, List, [], Some, None, IsSome, slice_get}
use Rattle.vc_commands.specs.declared.region.home.HomeEntry.{HomeEntry}
use Rattle.vc_dtdisc.specs.Rules.{Rules}
use Rattle.vc_image.specs.Save.{image_in}
use Rattle.vc_image_check.specs.Dicts.Whole.{IsFirstUnsoundPart}
use Rattle.vc_image_run.specs.Script.Copies.{KindsFit, copies_in}
use Rattle.vc_image_run.specs.declared.script.fault.ScriptFault.{ScriptFault}
use Rattle.vc_image_run.specs.declared.script.fault.ScriptFault.TheVariants.{Memory, NoRegion, WrongMethod, Unsound}
use Rattle.vc_region.specs.OfBest.{best_in}
use Rattle.vc_steps.specs.declared.session.Session.{Session}

-- bytes are the image of the first open region of a session, a best one, with copies of the dictionaries that lie in it
pub record IsFirstImage {I : Type 0} {V : I → Type 0} {D : Type 0} (session : Session D I V) (image : List ℕ) : Type 0 where
  pub entry : List ℕ × HomeEntry I V
  pub first : slice_get session.homes.entries 0 ≡ Some entry
  pub best : IsSome (best_in entry.1.region)
  pub kinds_fit : KindsFit (copies_in entry.0 session.dicts.entries)
  pub image_is : image ≡ image_in entry.1.region (copies_in entry.0 session.dicts.entries)

-- a part of an image isn't sound, or memory is wanting
abbrev pub IsUnsaved : List Rules → List ℕ → ScriptFault → Type 0
IsUnsaved kinds image (Unsound part) = IsFirstUnsoundPart kinds image part
IsUnsaved kinds image Memory = Unit {0}
IsUnsaved kinds image other = ⊥

-- the first open region of a session is of another method than best
pub record HasOtherFirst {I : Type 0} {V : I → Type 0} {D : Type 0} (session : Session D I V) : Type 0 where
  pub entry : List ℕ × HomeEntry I V
  pub first : slice_get session.homes.entries 0 ≡ Some entry
  pub other : best_in entry.1.region ≡ None

-- why there is no image
abbrev pub WhyNone : {I : Type 0} {V : I → Type 0} {D : Type 0} → List Rules → Session D I V → ScriptFault → Type 0
WhyNone kinds session NoRegion = session.homes.entries ≡ []
WhyNone kinds session WrongMethod = HasOtherFirst session
WhyNone kinds session (Unsound part) = (image : List ℕ) × (IsFirstImage session image × IsFirstUnsoundPart kinds image part)
WhyNone kinds session Memory = Unit {0}
WhyNone kinds session other = ⊥
