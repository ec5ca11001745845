-- A new counter makes the ghost cell of its count, at 0.
use mathlib.Core.Path.{refl}
use mathlib.Core.List.{[], ◌∷◌}
use mir.Syntax.{a_type}
use mir.MapTy.{inst_fn}
use base.Fml.{ftrue, fsep, flft}
use base.Stored.{gnum}
use types.Kit.{‵, raw, ◌⊛◌, ◌$◌, ◌∵◌, !, qed, done, move, keep, split, fjoin, fpack, suffices, use0}
use types.Run.{no_more, and_then, returns, enter}
use types.ByLocal.{alloc_all, pass_all, free_all, look_at, get, sets}
use types.Part.{agg}
use types.Tokens.{name_new}
use denote.Param.{layouts}
use denote.RattleType.{RattleType}
use denote.Steps.{nothing}
use denote.Triple.Walked.{Stays, walk_of, says, ends_at}
use Rattle.std.proofs.raw_atomic.Walks.{proved}
use Rattle.vc_base.specs.Steps.{count_owns}
use Rattle.vc_base.specs.contracts.steps.Steps.start as f
use Rattle.vc_base.proofs.StepsWalks.{token, Fields, Bare, bare_made, Shown}
use Rattle.vc_base.proofs.steps.Steps.start.Statement.{statement}
use Rattle.vc_base.proofs.steps.Steps.start.Code as code

abbrev stayed : (L : RattleType) → Stays (f.ended L).signature.params (f.ended L).kept
stayed L = tt

pub start_spec : {M : Type 1} → statement M
unfolding count_owns
start_spec 𝓤 𝓛 𝓜 𝓡 wired L laws =
    let c = f.clauses L 𝓛 𝓜.mem 𝓡.returns in let W = walk_of 𝓛 (f.ended L) (stayed L) c in let Ts = layouts (a_type ∷ []) (L, tt) in
    proved 𝓛 (f.ended L) (stayed L) c 𝓜 𝓡 tt
    (f.Key.name Ts) (inst_fn Ts code.function) (code.unfolded 𝓤 𝓛.H 𝓜 𝓡 wired (L, tt))
    (λ κs. tt) (λ κs. tt) (λ κs qs bounds a _ are.
    let y : W.Ghost = ((κs, qs, bounds, a, tt), tt) in
    qed 𝓛 (((‵ (flft κs.0 qs.0) ⊛ ‵ ftrue) ⊛ ‵ ftrue) ∷ raw ((c κs a).requires tt) ∷ []) ∵
    split ! $ keep ! (0 ∷ []) $
    enter ! _ _ _ _ _ $ alloc_all ! (λ l. pass_all ! refl tt $
    name_new ! tt (gnum 0) (λ γ. fjoin ! $
    sets ! (agg ! (no_more !)) refl (tt, tt) $ sets ! (agg ! (and_then ! (get ! refl) (no_more !))) refl (tt, (tt, tt)) $
    returns ! (look_at ! 0 refl) $ free_all ! refl $
    -- [what the count owns; the token]
    suffices ! _ (ends_at 𝓛 (f.ended L) (stayed L) c y token 0 tt tt) $ says ! refl $
    let s : (Fields L).Denot = record { marker = record {}; name = γ; count = 0 } in
    use0 𝓛 (‵ ((Bare L).own_val (tt, tt) (token ∷ []))) (bare_made L 𝓛) $ fjoin ! $
    nothing ! $ move ! (1 ∷ 0 ∷ []) $ fjoin ! $
    fpack ! (Shown L 0) (λ x. fsep ((Fields L).own_val x.0 (token ∷ [])) ftrue) (s, (refl, tt)) $
    nothing ! $ move ! (2 ∷ 0 ∷ []) $ done !)))
