-- The machine values of the crate's structs: what is owned tells them, and is made of nothing.
use Rattle.vc_base.proofs.Common.{◌≡◌, ℕ, ◌^◌, ◌<◌, List, [], ◌∷◌, ◌++◌, refl, ◌∙◌, lit<, w64}
use seplogic.Ra.Ura.{Ura}
use mir.Syntax.{ty_int, ty_ptr, ty_struct, tcons, tnil}
use mir.Val.{Val, vint, vstruct, vcons, vnil, of_list}
use base.Logic.{ent, emp}
use base.Fml.{Fml}
use types.Logic.{Logic, sem}
use denote.RattleType.{RattleType}
use denote.Builtin.{usize}
use denote.RawPtr.{Ptr, RawPtr, block_ptr, null_ptr, ptr_val}
use denote.Shadow.{shadow, makes_shadow}
use denote.Struct.Struct.{Struct}
use Rattle.std.proofs.cell.Inside.{Good}

-- a struct by its fields alone: what it owns does not read its name
abbrev pub plainly : List RattleType → RattleType
plainly Rs = Struct (record { name = []; args = []; types = []; fields = Rs })

pub ptr_typed : (p : Ptr) → Good ty_ptr (ptr_val p)
ptr_typed (block_ptr b o) = (tt, tt)
ptr_typed null_ptr = (tt, record { fits = lit< tt })

abbrev pub sized_val : Ptr → ℕ → Val
sized_val p0 n1 = vstruct (vcons (ptr_val p0) (vcons (vint w64 n1) vnil))

abbrev pub sized_own : Ptr → ℕ → List Val → Fml
sized_own p0 n1 = (plainly (RawPtr ∷ usize ∷ [])).own_val (p0, (n1, tt))

pub sized_told : (p0 : Ptr) (n1 : ℕ) (vs : List Val) → shadow (sized_own p0 n1 vs) → (vs ≡ sized_val p0 n1 ∷ []) × (n1 < 2 ^ 64)
sized_told p0 n1 vs s = (s.1.0 ∙ (λ i. vstruct (of_list (s.1.1.0 i ++ (s.1.1.1.0.0 i ++ []))) ∷ []), s.1.1.1.0.1)

pub sized_made : {M : Type 1} {𝓤 : Ura M} (𝓛 : Logic 𝓤) (p0 : Ptr) (n1 : ℕ) → (n1 < 2 ^ 64) → ent 𝓤 (emp 𝓤) (sem 𝓛 (sized_own p0 n1 (sized_val p0 n1 ∷ [])))
sized_made 𝓛 p0 n1 f = makes_shadow 𝓛 (sized_own p0 n1 (sized_val p0 n1 ∷ [])) (λ _. (tt, (tt, ((tt, tt), tt)))) ((ptr_val p0 ∷ [], (vint w64 n1 ∷ [], tt)), (refl, (refl, ((refl, f), tt))))

pub sized_typed : (p0 : Ptr) (n1 : ℕ) → (n1 < 2 ^ 64) → Good (ty_struct [] (tcons ty_ptr (tcons (ty_int w64) tnil))) (sized_val p0 n1)
sized_typed (block_ptr bp0 op0) n1 f = (tt, (tt, (record { fits = f }, tt)))
sized_typed null_ptr n1 f = (tt, (record { fits = lit< tt }, (record { fits = f }, tt)))

abbrev pub lease_val : Val
lease_val = vstruct (vcons (vstruct vnil) vnil)

abbrev pub lease_own : List Val → Fml
lease_own = (plainly (plainly [] ∷ [])).own_val (tt, tt)

pub lease_told : (vs : List Val) → shadow (lease_own vs) → (vs ≡ lease_val ∷ []) × Unit {0}
lease_told vs s = (s.1.0 ∙ (λ i. vstruct (of_list (s.1.1.0.1.0 i ++ [])) ∷ []), tt)

pub lease_made : {M : Type 1} {𝓤 : Ura M} (𝓛 : Logic 𝓤) → Unit {0} → ent 𝓤 (emp 𝓤) (sem 𝓛 (lease_own (lease_val ∷ [])))
lease_made 𝓛 f = makes_shadow 𝓛 (lease_own (lease_val ∷ [])) (λ _. (tt, ((λ _. (tt, tt)), tt))) ((vstruct vnil ∷ [], tt), (refl, ((tt, (refl, tt)), tt)))

abbrev pub none : Val
none = vstruct vnil

abbrev pub none_own : List Val → Fml
none_own = (plainly []).own_val tt

pub none_told : (vs : List Val) → shadow (none_own vs) → vs ≡ none ∷ []
none_told vs s = s.1.0

pub none_made : {M : Type 1} {𝓤 : Ura M} (𝓛 : Logic 𝓤) → ent 𝓤 (emp 𝓤) (sem 𝓛 (none_own (none ∷ [])))
none_made 𝓛 = makes_shadow 𝓛 (none_own (none ∷ [])) (λ _. (tt, tt)) (tt, (refl, tt))
