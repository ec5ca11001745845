-- `house` hands the room to `lodge`. Assumes `Logic`.
use Rattle.vc_base.proofs.Common.{◌≡◌, ℕ, List, [], ◌∷◌, ◌++◌, Vec, sym, refl, ap, ◌∙◌, subst, arith}
use mir.Val.{Val}
use base.Logic.{emp, never, id⊢}
use prog.Wp.{Env, WpFn}
use contract.Monad.{fact, fact_i}
use contract.Running.{tables}
use types.Kit.{‵, raw, some, given, later, prop, at_ret, ◌$◌, ◌∵◌, !, qed, by, move, drop, use0, use1, pick, learn, rewrite, regoal, fsplit, fjoin, await}
use types.Part.{whole, sub}
use types.Run.{stop, fld, lit, of_opd, no_more, and_then, first, blocks, exec, returns, enter}
use types.ByLocal.{alloc_all, pass_all, free_all, look_at, get, get_in, sets, lands_last, env}
use denote.RattleType.{owns}
use denote.Builtin.{u8}
use denote.RawPtr.{Ptr, room_for, in_a_block}
use denote.Signature.{types_at}
use denote.Steps.{nothing, only}
use denote.Triple.Call.{calls_at_last}
use denote.Triple.Table.{framed}
use Rattle.std.proofs.alloc.Shapes.{after}
use Rattle.std.proofs.raw_atomic.Walks.{leaves}
use Rattle.std_alloc.specs.declared.vec.lodged.Lodged.{Lodged}
use Rattle.std_alloc.proofs.vec.lodge.Met as callee
use Rattle.vc_seg.specs.Owned.{bytes_type}
use Rattle.vc_seg.proofs.Values.{sized_val, sized_told}
use Rattle.vc_seg.proofs.Walks.{Walk, calls, loops, tokens, dropped, ends, asks, Good, tells}
use Rattle.vc_seg.proofs.Lodging.{byte_laws, Housed, housed-laws, Lodges, at_lodge, IsLodged, lodge_goes, lodge_gives}
use Rattle.vc_seg.specs.contracts.block.house.{ended, clauses}
use Rattle.vc_seg.specs.contracts.block.house.Key.{name as #self}
use Rattle.vc_seg.proofs.block.house.Statement.{statement}
use Rattle.vc_seg.proofs.block.house.Code as compiled

pub house_spec : {M : Type 1} → statement M
house_spec 𝓤 𝓛 𝓜 𝓡 wired =
    let W : Walk 𝓤 𝓛 𝓜 𝓡 = record { En = ended; clauses = clauses 𝓛 𝓜.mem 𝓡.returns; fn = compiled.function } in
    asks W ((λ κs x f. tt), tt) #self (compiled.unfolded 𝓤 𝓛.H 𝓜 𝓡 wired) (λ z. Unit {0}) (λ z. fact_i 𝓤 (Unit {0}) _ tt) (λ z are asked.
    let x = z.0.3.0 in
    let n = x.size in
    let told = sized_told x.ptr n z.0.4.0 are.0.0 in
    let fits = told.1 in
    let least = x.fits.least in let most = x.fits.most in
    let Lodge = Lodges 𝓛 𝓜.mem 𝓡.returns in
    qed 𝓛 (‵ (owns (types_at ended.signature.params z.0.0) z.0.3 z.0.4) ∷ raw (tokens W z) ∷ []) ∵
    fsplit ! $ fsplit ! $ drop ! $ move ! (1 ∷ []) $ drop ! $
    in_a_block ! x.ptr (λ p. room_for (bytes_type n) p) (id⊢ 𝓤 (never 𝓤)) (λ b o at.
    let y = at_lodge 𝓛 𝓜.mem 𝓡.returns b o n in
    regoal ! (λ (us : List Val). prop (WpFn 𝓤 𝓛.H (calls W) (loops W) W.fn us (ends W z))) (λ i. (told.0 ∙ ap (λ (p : Ptr). sized_val p n ∷ []) at) i ++ []) refl $
    enter ! (calls W) (loops W) W.fn _ (ends W z) $
    alloc_all ! (λ l. pass_all ! refl ((tt, (tt, (record { fits = fits }, tt))), tt) $ let En : Env 𝓤 𝓛.H = env W.fn.locals l in
    sets ! (of_opd ! (get_in ! (fld ! refl (stop !)) (sub ! 0 refl (whole !)))) refl (tt, tt) $
    sets ! (of_opd ! (get_in ! (fld ! refl (stop !)) (sub ! 1 refl (whole !)))) refl (tt, record { fits = fits }) $
    first ! $ blocks ! $ use1 𝓛 (raw (Lodge.pre y)) (lodge_goes 𝓛 𝓜.mem 𝓡.returns b o n (omega arith) (omega arith)) $
    calls_at_last ! (framed 𝓤 𝓛.H 𝓜 (tables 𝓤 𝓛.H 𝓜 𝓡 𝓡.env)) Lodge (callee.met 𝓤 𝓛 𝓜 𝓡 (compiled.calls-std_alloc::vec::lodge 𝓡.env wired) u8 byte_laws) y (and_then ! (get ! refl) (and_then ! (lit ! tt) (and_then ! (get ! refl) (no_more !)))) (λ v.
    use1 𝓛 (later (some (λ (r : Vec ℕ Lodged). given (IsLodged 𝓛 𝓜.mem 𝓡.returns b o n r) (‵ (Housed.own_val r (v ∷ [])))))) (lodge_gives 𝓛 𝓜.mem 𝓡.returns b o n v) $
    await ! tt $ pick ! (λ r. learn ! (λ is. tells ! Housed housed-laws r (v ∷ []) (λ u same good.
    let fine : Good Housed v = subst (Good Housed) (sym (ap only same)) good in
    rewrite ! 0 (λ w. ‵ (Housed.own_val r (w ∷ []))) (sym (ap only same)) refl $ lands_last ! refl fine $
    exec ! (calls W) (loops W) En (after 3 W.fn.body) (at_ret En (ends W z)) $
    sets ! (of_opd ! (get ! refl)) refl fine $
    returns ! (look_at ! 0 refl) $ free_all ! refl $
    let Gives : Type 0 = (r.items ≡ []) × (r.len ≡ 0) × (r.cap ≡ n) × (r.ptr ≡ x.ptr) in
    use0 𝓛 (raw (fact 𝓤 Gives)) (fact_i 𝓤 Gives (emp 𝓤) (is.0, is.1, is.2, is.3 ∙ sym at)) $ nothing ! $ nothing ! $ fjoin ! $ move ! (3 ∷ 0 ∷ 2 ∷ 1 ∷ []) $
    by ! (leaves 𝓛 ended (dropped W) W.clauses z v r (tt, tt) (tt, tt)))))))))
