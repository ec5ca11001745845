-- `all` shows the bytes that a `&` to their owner reaches. Assumes `Logic`.
use Rattle.vc_base.proofs.Common.{◌≡◌, ◌*◌, ◌^◌, List, [], ◌∷◌, ◌++◌, length, refl, ap, ◌∙◌, arith, w64}
use mir.Val.{Val, vint, vptr}
use base.Logic.{emp, id⊢}
use base.Fml.{Lft}
use prog.Wp.{Env, WpFn}
use contract.Monad.{fact, fact_i}
use types.Kit.{‵, raw, prop, at_ret, ◌$◌, ◌∵◌, !, qed, by, move, drop, use0, use1, regoal, fsplit, fjoin, flt_l, flt_i, feq_i}
use types.Part.{agg}
use types.Run.{of_opd, no_more, and_then, first, blocks, exec, returns, enter}
use types.ByLocal.{alloc_all, pass_all, free_all, look_at, get, sets, sets_last, env}
use denote.RattleType.{owns}
use denote.Opens.{unhide, hide}
use denote.RawPtr.{Ptr, block_of, count_of, ptr_val, InBlock, at_block}
use denote.Signature.{types_at}
use denote.Slice.{slice_val}
use denote.Steps.{nothing, heard}
use denote.Struct.Lending.{in_block_says}
use Rattle.std.proofs.alloc.Shapes.{after}
use Rattle.std.proofs.raw_atomic.Walks.{leaves}
use Rattle.vc_seg.proofs.Walks.{Walk, calls, loops, tokens, dropped, ends, asks}
use Rattle.vc_seg.specs.contracts.block.Block.all.{ended, clauses}
use Rattle.vc_seg.specs.contracts.block.Block.all.Key.{name as #self}
use Rattle.vc_seg.proofs.block.Block.all.Statement.{statement}
use Rattle.vc_seg.proofs.block.Block.all.Code as compiled

pub all_spec : {M : Type 1} → statement M
all_spec 𝓤 𝓛 𝓜 𝓡 wired =
    let W : Walk 𝓤 𝓛 𝓜 𝓡 = record { En = ended; clauses = clauses 𝓛 𝓜.mem 𝓡.returns; fn = compiled.function } in
    asks W ((λ κs x f. tt), ((λ κs x f. tt), ((λ κs x f. tt), tt))) #self (compiled.unfolded 𝓤 𝓛.H 𝓜 𝓡 wired)
    (λ z. (z.0.3.1.0 ≡ z.0.3.0.now.at) × (z.0.3.1.1.0 ≡ length z.0.3.0.now.bytes)) (λ z. id⊢ 𝓤 _) (λ z are asked.
    let a = z.0.3 in
    let κ : Lft = z.0.0.0 in
    let d = a.0.now in
    let from = a.0.ref_ptr in
    let n = a.1.1.0 in
    let fits = are.1.1.0.1 in
    let xs = d.bytes in
    let b = block_of d.at in
    let o = count_of d.at in
    qed 𝓛 (‵ (owns (types_at ended.signature.params z.0.0) z.0.3 z.0.4) ∷ raw (tokens W z) ∷ []) ∵
    fsplit ! $ fsplit ! $ drop ! $ move ! (1 ∷ []) $ drop ! $ unhide ! $ fsplit ! $ drop ! $ fsplit ! $ flt_l ! (λ small.
    fsplit ! $ use1 𝓛 (raw (fact 𝓤 (InBlock d.at))) (in_block_says 𝓛 d.at) $ heard ! (InBlock d.at) (λ inb. fsplit ! $ drop ! $ hide ! $
    let place : a.1.0 ≡ _ = asked.0 ∙ at_block d.at inb in
    regoal ! (λ (us : List Val). prop (WpFn 𝓤 𝓛.H (calls W) (loops W) W.fn us (ends W z))) (λ i. are.0.0 i ++ ((are.1.0 ∙ ap (λ (q : Ptr). ptr_val q ∷ []) place) i ++ (are.1.1.0.0 i ++ []))) refl $
    enter ! (calls W) (loops W) W.fn (vptr from.0 from.1 ∷ vptr b o ∷ vint w64 n ∷ []) (ends W z) $
    alloc_all ! (λ l. pass_all ! refl ((tt, tt), ((tt, tt), ((tt, record { fits = fits }), tt))) $ let En : Env 𝓤 𝓛.H = env W.fn.locals l in
    first ! $ blocks ! $
    sets_last ! (agg ! (and_then ! (get ! refl) (and_then ! (get ! refl) (no_more !)))) refl (tt, (tt, (record { fits = fits }, tt))) $
    exec ! (calls W) (loops W) En (after 1 W.fn.body) (at_ret En (ends W z)) $
    sets ! (of_opd ! (get ! refl)) refl (tt, (tt, (record { fits = fits }, tt))) $
    flt_i ! (length xs * 1) (2 ^ 63) (omega arith) $ flt_i ! (length xs) (2 ^ 64) (omega arith) $ fjoin ! $
    feq_i ! (List Val) (slice_val (b, o) n ∷ []) (slice_val (b, o) (length xs) ∷ []) (ap (λ k. slice_val (b, o) k ∷ []) asked.1) $ fjoin ! $ fjoin ! $
    returns ! (look_at ! 0 refl) $ free_all ! refl $
    let Gives : Type 0 = xs ≡ xs in
    use0 𝓛 (raw (fact 𝓤 Gives)) (fact_i 𝓤 Gives (emp 𝓤) refl) $ nothing ! $ nothing ! $ fjoin ! $ nothing ! $ fjoin ! $ nothing ! $ fjoin ! $ move ! (3 ∷ 0 ∷ 2 ∷ 1 ∷ []) $
    by ! (leaves 𝓛 ended (dropped W) W.clauses z (slice_val (b, o) n) (record { ref_ptr = (b, o); now = xs }) (tt, (tt, (tt, tt))) (tt, (tt, (tt, tt))))))))
