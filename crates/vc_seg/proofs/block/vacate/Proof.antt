-- `vacate` takes the bytes from `dislodge`, and the right from the lease. Assumes `Logic`.
use Rattle.vc_base.proofs.Common.{◌≡◌, ℕ, ◌^◌, ◌<◌, List, [], ◌∷◌, ◌++◌, length, sym, refl, ◌∙◌, arith, w64, IsSegmentSize}
use mir.Val.{Val, vint}
use base.Fraction.{full_share}
use base.Logic.{emp, never, id⊢}
use base.Fml.{fsep}
use prog.Wp.{WpFn}
use contract.Monad.{fact, fact_i}
use contract.Running.{tables}
use types.Kit.{‵, raw, given, later, prop, ◌$◌, ◌∵◌, !, qed, by, move, drop, use0, use1, learn, rewrite, regoal, fsplit, fjoin, flt_i, await}
use types.Part.{agg}
use types.Run.{of_opd, no_more, and_then, returns, enter}
use types.ByLocal.{alloc_all, pass_all, free_all, look_at, get, sets, lands_as}
use denote.RattleType.{owns}
use denote.Array.{Array}
use denote.Builtin.{u8}
use denote.RawPtr.{Ptr, lies_at, in_block, in_a_block}
use denote.Signature.{types_at}
use denote.Steps.{nothing}
use denote.Triple.Call.{calls_at}
use denote.Triple.Table.{framed}
use Rattle.std.specs.contracts.impls.GlobalAllocator.TheImpl.{ghosts}
use Rattle.std.proofs.raw_atomic.Walks.{leaves}
use Rattle.std_alloc.proofs.vec.lodged.Vec+T+Lodged.dislodge.Met as callee
use Rattle.vc_seg.specs.Owned.{right}
use Rattle.vc_seg.proofs.Walks.{Walk, calls, loops, tokens, dropped, ends, asks}
use Rattle.vc_seg.specs.contracts.block.Block as block
use Rattle.vc_seg.proofs.Values.{lease_val, lease_told, none, none_own, none_made}
use Rattle.vc_seg.proofs.Walks.{tells}
use Rattle.vc_seg.proofs.Lodging.{byte_laws, Housed, housed-laws, Dislodges, at_dislodge, dislodge_goes, dislodge_gives}
use Rattle.vc_seg.specs.contracts.block.vacate.{ended, clauses}
use Rattle.vc_seg.specs.contracts.block.vacate.Key.{name as #self}
use Rattle.vc_seg.proofs.block.vacate.Statement.{statement}
use Rattle.vc_seg.proofs.block.vacate.Code as compiled

pub vacate_spec : {M : Type 1} → statement M
vacate_spec 𝓤 𝓛 𝓜 𝓡 wired =
    let W : Walk 𝓤 𝓛 𝓜 𝓡 = record { En = ended; clauses = clauses 𝓛 𝓜.mem 𝓡.returns; fn = compiled.function } in
    asks W ((λ κs x f. tt), ((λ κs x f. tt), tt)) #self (compiled.unfolded 𝓤 𝓛.H 𝓜 𝓡 wired)
    (λ z. (z.0.3.0.ptr ≡ z.0.3.1.0.ptr) × (z.0.3.0.len ≡ z.0.3.1.0.size) × (z.0.3.0.cap ≡ z.0.3.1.0.size) × IsSegmentSize z.0.3.1.0.size) (λ z. id⊢ 𝓤 _) (λ z are asked.
    let a = z.0.3 in
    let v = a.0 in
    let k = a.1.0 in
    let xs = v.items in
    let m = length xs in
    let token = ghosts.dealloc_token k.alloc in
    let Dislodge = Dislodges 𝓛 𝓜.mem 𝓡.returns in
    qed 𝓛 (‵ (owns (types_at ended.signature.params z.0.0) z.0.3 z.0.4) ∷ raw (tokens W z) ∷ []) ∵
    let least = asked.3.least in let most = asked.3.most in
    let long : k.size ≡ m = sym asked.1 ∙ v.ok.0 in
    fsplit ! $ tells ! Housed housed-laws v z.0.4.0 (λ u is good. move ! (1 ∷ []) $ fsplit ! $ fsplit ! $ drop ! $ move ! (1 ∷ []) $ drop ! $ move ! (1 ∷ []) $
    let y = at_dislodge 𝓛 𝓜.mem 𝓡.returns v u in
    regoal ! (λ (us : List Val). prop (WpFn 𝓤 𝓛.H (calls W) (loops W) W.fn us (ends W z))) (λ i. is i ++ ((lease_told z.0.4.1.0 are.1.0.0).0 i ++ [])) refl $
    enter ! (calls W) (loops W) W.fn (u ∷ lease_val ∷ []) (ends W z) $
    alloc_all ! (λ l. pass_all ! refl (good, ((tt, (tt, tt)), tt)) $
    sets ! (of_opd ! (get ! refl)) refl good $ use1 𝓛 (raw (Dislodge.pre y)) (dislodge_goes 𝓛 𝓜.mem 𝓡.returns v u) $
    calls_at ! (framed 𝓤 𝓛.H 𝓜 (tables 𝓤 𝓛.H 𝓜 𝓡 𝓡.env)) Dislodge (callee.met 𝓤 𝓛 𝓜 𝓡 (compiled.calls-std_alloc::vec::lodged::Vec+T+Lodged::dislodge 𝓡.env wired) u8 byte_laws) y (and_then ! (get ! refl) (no_more !)) (λ w.
    use1 𝓛 (later (given ((w ≡ vint w64 v.len) × (v.len < 2 ^ 64)) (‵ (lies_at (Array u8 m) full_share v.ptr xs)))) (dislodge_gives 𝓛 𝓜.mem 𝓡.returns v u (omega (arith, asked.1)) w) $ await ! tt $ learn ! (λ got.
    lands_as ! got.0 refl (tt, record { fits = got.1 }) $
    sets ! (agg ! (no_more !)) refl (tt, tt) $
    returns ! (look_at ! 0 refl) $ free_all ! refl $
    rewrite ! 0 (λ (p : Ptr). ‵ (lies_at (Array u8 m) full_share p xs)) asked.0 refl $
    in_a_block ! k.ptr (λ p. lies_at (Array u8 m) full_share p xs) (id⊢ 𝓤 (never 𝓤)) (λ b o at.
    rewrite ! 0 (λ (p : Ptr). ‵ (lies_at (Array u8 m) full_share p xs)) (sym at) refl $ move ! (1 ∷ []) $
    rewrite ! 0 (λ (n : ℕ). ‵ (right token n k.ptr)) long refl $ move ! (1 ∷ 0 ∷ []) $ fjoin ! $
    rewrite ! 0 (λ (p : Ptr). ‵ (in_block p (fsep (lies_at (Array u8 m) full_share k.ptr xs) (right token m k.ptr)))) (sym at) refl $
    flt_i ! m (2 ^ 63) (omega (arith, long)) $ fjoin ! $
    use0 𝓛 (‵ (none_own (none ∷ []))) (none_made 𝓛) $ fjoin ! $
    let r : block.the_row.Denot = record { at = k.ptr; alloc = k.alloc; bytes = xs } in
    let Gives : Type 0 = (k.ptr ≡ k.ptr) × (k.alloc ≡ k.alloc) × (xs ≡ xs) in
    use0 𝓛 (raw (fact 𝓤 Gives)) (fact_i 𝓤 Gives (emp 𝓤) (refl, refl, refl)) $ nothing ! $ nothing ! $ fjoin ! $ nothing ! $ fjoin ! $ move ! (3 ∷ 0 ∷ 2 ∷ 1 ∷ []) $
    by ! (leaves 𝓛 ended (dropped W) W.clauses z none r (tt, (tt, tt)) (tt, (tt, tt)))))))))
