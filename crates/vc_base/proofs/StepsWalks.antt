-- What the walks of a counter's functions share: its fields as the machine keeps them, and the struct round them.
use mathlib.Core.Path.{◌≡◌, refl}
use Prim.Native.Nat.{ℕ}
use mathlib.Core.List.{[], ◌∷◌}
use seplogic.Ra.Ura.{Ura}
use mir.Val.{Val, vstruct, vcons, vnil}
use base.Logic.{ent, emp}
use types.Logic.{Logic, sem}
use denote.Param.{param}
use denote.RattleType.{RattleType}
use denote.Shadow.{makes_shadow}
use denote.Struct.Struct.{Struct}
use Rattle.std.specs.contracts.marker.PhantomData as marker
use Rattle.vc_base.specs.contracts.steps.Steps.{the_row}
use Rattle.vc_base.specs.contracts.steps.Steps.TheInside as inside

-- the one machine value of a counter
abbrev pub token : Val
token = vstruct (vcons (vstruct vnil) vnil)

module _ (L : RattleType) where
  abbrev pub Counter : RattleType
  Counter = the_row (param 0 L)

  abbrev pub Fields : RattleType
  Fields = inside.the_row (param 0 L)

  -- the fields but for what they own in the logic
  abbrev pub Bare : RattleType
  Bare = Struct (record { name = (inside.struct (param 0 L)).name; args = []; types = param 0 L ∷ []; fields = (marker.the_field (param 0 L)).row ∷ [] })

  pub bare_made : {M : Type 1} {𝓤 : Ura M} (𝓛 : Logic 𝓤) → ent 𝓤 (emp 𝓤) (sem 𝓛 (Bare.own_val (tt, tt) (token ∷ [])))
  bare_made 𝓛 = makes_shadow 𝓛 (Bare.own_val (tt, tt) (token ∷ [])) (λ vss. (tt, ((λ uss. (tt, tt)), tt))) ((vstruct vnil ∷ [], tt), (refl, ((tt, (refl, tt)), tt)))

  -- fields that show that count
  abbrev pub Shown : ℕ → Type 0
  Shown n = (s : Fields.Denot) × ((s.count ≡ n) × Unit {0})
