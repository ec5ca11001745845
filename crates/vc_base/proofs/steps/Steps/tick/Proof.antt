-- A tick sets the ghost cell of the count, of which the counter has both halves.
use mathlib.Core.Path.{refl}
use mathlib.Core.List.{[], ◌∷◌}
use Prim.Native.Nat.{ℕ, ◌+◌}
use mir.Syntax.{a_type, named}
use mir.Val.{vunit}
use mir.MapTy.{inst_fn}
use base.Fml.{ftrue, fsep, flft}
use base.Stored.{gnum}
use types.Kit.{‵, raw, ◌⊛◌, ◌$◌, ◌∵◌, !, qed, done, move, keep, split, join, fsplit, fsplit3, fjoin, fpick, fpack, feq_i, frame, group, suffices}
use types.Run.{of_opd, unit_lit, returns, enter}
use types.ByLocal.{alloc_all, pass_all, free_all, look_at, sets}
use types.Tokens.{name_set}
use denote.Param.{layouts}
use denote.RattleType.{RattleType}
use denote.Ref.{MutRef, mut_vals, mut_Tells}
use denote.Signature.{plain}
use denote.Steps.{nothing, opens, closes}
use denote.Triple.Walked.{Stays, walk_of, says, stay_ref, Goes-ref, ends_at}
use Rattle.std.proofs.raw_atomic.Walks.{proved}
use Rattle.vc_base.specs.Steps.{count_owns}
use Rattle.vc_base.specs.contracts.steps.Steps.tick as f
use Rattle.vc_base.proofs.StepsWalks.{Counter, Fields, Shown}
use Rattle.vc_base.proofs.steps.Steps.tick.Statement.{statement}
use Rattle.vc_base.proofs.steps.Steps.tick.Code as code

abbrev stayed : (L : RattleType) → Stays (f.ended L).signature.params (f.ended L).kept
stayed L = (stay_ref (0 ∷ []) tt (plain (λ _. Counter L)), tt)

pub tick_spec : {M : Type 1} → statement M
unfolding count_owns
tick_spec 𝓤 𝓛 𝓜 𝓡 wired L laws =
    let c = f.clauses L 𝓛 𝓜.mem 𝓡.returns in let W = walk_of 𝓛 (f.ended L) (stayed L) c in let Ts = layouts (a_type ∷ []) (L, tt) in
    proved 𝓛 (f.ended L) (stayed L) c 𝓜 𝓡 (Goes-ref 𝓛 2 0 tt (plain (λ _. Counter L)), tt)
    (f.Key.name Ts) (inst_fn Ts code.function) (code.unfolded 𝓤 𝓛.H 𝓜 𝓡 wired (L, tt))
    (λ κs. (mut_vals, tt)) (λ κs. (mut_Tells (named 0) κs.0 (Counter L), tt)) (λ κs qs bounds a _ are.
    let b = a.0.ref_ptr.0 in let o = a.0.ref_ptr.1 in let n : ℕ = a.0.now in let vs = mut_vals a.0 in
    let y : W.Ghost = ((κs, qs, bounds, a, (vs, tt)), tt) in
    qed 𝓛 (((‵ (flft κs.0 qs.0) ⊛ ‵ (flft κs.1.0 qs.1.0) ⊛ ‵ ftrue) ⊛ ‵ ((MutRef (named 0) κs.0 (Counter L)).own_val a.0 vs) ⊛ ‵ ftrue) ∷ raw ((c κs a).requires tt) ∷ []) ∵
    split ! $ split ! $ move ! (2 ∷ []) $ split ! $ keep ! (0 ∷ 2 ∷ 3 ∷ []) $
    enter ! _ _ _ _ _ $ alloc_all ! (λ l. pass_all ! refl ((tt, tt), tt) $
    fsplit3 ! $ move ! (1 ∷ 2 ∷ 3 ∷ []) $ opens ! tt (Counter L) b o (λ us.
    move ! (1 ∷ []) $ fpick ! (λ x. fsplit ! $ fsplit ! $ move ! (1 ∷ []) $ fsplit ! $
    -- [the count's two halves; the bare fields; nothing; the cell; the open borrow, in three entries]
    name_set ! tt (gnum (n + 1)) $ fjoin ! $ move ! (1 ∷ 0 ∷ []) $ fjoin ! $ fjoin ! $
    fpack ! (Shown L (n + 1)) (λ z. fsep ((Fields L).own_val z.0 us) ftrue) (record { marker = x.0.marker; name = x.0.name; count = n + 1 }, (refl, tt)) $
    move ! (1 ∷ []) $ closes ! tt (Counter L) (n + 1) us b o $
    sets ! (of_opd ! (unit_lit !)) refl (tt, tt) $
    returns ! (look_at ! 0 refl) $ free_all ! refl $ move ! (3 ∷ []) $
    -- [self, in three parts; the tokens, in two]
    suffices ! _ (ends_at 𝓛 (f.ended L) (stayed L) c y vunit tt (n + 1, tt) (tt, tt)) $ says ! refl $
    group ! 3 $ nothing ! $ move ! (1 ∷ 0 ∷ []) $ join ! $ move ! (1 ∷ 2 ∷ []) $ join ! $ frame ! $ frame ! $
    feq_i ! _ (vunit ∷ []) _ refl $ done !))))
