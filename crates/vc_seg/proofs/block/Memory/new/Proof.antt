-- `new` asks for words, and has their room as bytes. Assumes `Logic`.
use Rattle.vc_base.proofs.Common.{◌≡◌, ◌*◌, ◌/◌, List, [], ◌∷◌, ◌++◌, Some, None, refl, ◌∙◌, arith, lit<, w64, IsSegmentSize}
use mir.Syntax.{Ty, Args, a_type, dcons, dnil}
use mir.Val.{Val, vint, vptr, vcons, vnil}
use mir.MapTy.{inst_fn}
use base.Logic.{emp, id⊢}
use base.Fml.{Lft, Share, ftrue, flft, froom, fwand}
use prog.Capped.{capped_is}
use prog.Wp.{Env, WpFn}
use contract.BorrowLft.{◌⊑◌, ⊑_trans}
use contract.Monad.{fact, fact_i}
use contract.Running.{tables}
use types.Kit.{‵, raw, ◌⊛◌, later, prop, at_ret, ◌$◌, ◌∵◌, !, qed, by, move, drop, use0, use1, use2, split, join, regoal, fsplit, fjoin, await}
use types.Part.{whole, agg}
use types.Match.{live, vrt, in_variant}
use types.Run.{stop, fld, lit, of_opd, no_more, and_then, first, switches_on, exec, returns, enter}
use types.ByLocal.{alloc_all, pass_all, free_all, look_at, get, get_in, get_tag, sets, sets_last, lands_as, env}
use denote.RattleType.{RattleType, owns}
use denote.RawPtr.{Ptr, block_ptr}
use denote.Param.{param, bounded}
use denote.Signature.{types_at, type_at}
use denote.Steps.{nothing, heard}
use denote.Struct.Tuple.{Tuple}
use denote.Triple.Call.{calls_at}
use Rattle.std.proofs.alloc.Calls.{Al, seen, Takes, at_takes, Answered, Takes-goes, Takes-gives, answers}
use Rattle.std.proofs.alloc.Shapes.{after, head, arm_body}
use denote.Triple.Table.{framed}
use Rattle.std.proofs.option.Made.{Some-of, none_of}
use Rattle.std_alloc.proofs.Pairs.{pair_of, pair_val}
use Rattle.std.proofs.raw_atomic.Walks.{proved_at, leaves}
use Rattle.vc_seg.proofs.Walks.{Walk, calls, loops, tokens, all_go, dropped, ends, then_runs}
use Rattle.vc_seg.proofs.Values.{sized_val, sized_own, sized_made, lease_val, lease_own, lease_made}
use Rattle.vc_seg.specs.Owned.{bytes_type, words_type}
use Rattle.vc_seg.specs.contracts.block.Memory as memory
use Rattle.vc_seg.specs.contracts.block.Lease as lease
use Rattle.vc_seg.specs.contracts.block.Memory.new.{ended, clauses}
use Rattle.vc_seg.specs.contracts.block.Memory.new.Key.{name as #self}
use Rattle.vc_seg.proofs.block.Memory.new.Statement.{statement}
use Rattle.vc_seg.proofs.block.Memory.new.Code as compiled

pub new_spec : {M : Type 1} → statement M
new_spec 𝓤 𝓛 𝓜 𝓡 wired A L g d dd met md =
    let args : Args = bounded (a_type ∷ []) (A, tt) (dcons d (dcons dd dnil)) in
    let W : Walk 𝓤 𝓛 𝓜 𝓡 = record { En = ended A g d dd; clauses = clauses A g d dd 𝓛 𝓜.mem 𝓡.returns; fn = inst_fn args compiled.function } in
    proved_at 𝓛 W.En (dropped W) W.clauses 𝓜 𝓡 (all_go 𝓛 2 W.En.signature.params W.En.kept ((λ κs x f. tt), ((λ κs x f. tt), tt))) (#self args) W.fn (compiled.unfolded 𝓤 𝓛.H 𝓜 𝓡 wired (A, tt) d dd) (λ z are.
    let a = z.0.3 in
    let vss = z.0.4 in
    let Y : Al = record { row = A; laws = L; g = g; d = d; drops = dd } in
    let κ : Lft = z.0.0.0 in
    let q : Share = z.0.1.0 in
    let Z : RattleType = param 0 A in
    let h = a.0.now in
    let at = a.0.ref_ptr in
    let n = a.1.0 in
    let τ : Ty = words_type n in
    let y = at_takes Y 𝓛 𝓜.mem 𝓡.returns κ q at h n 8 τ in
    let Out : RattleType = type_at W.En.signature.result z.0.0 in
    let Pair : RattleType = Tuple (memory.the_row ∷ lease.the_row Z g ∷ []) in
    let Asked : Type 0 = IsSegmentSize n in
    qed 𝓛 ((raw (tokens W z) ⊛ ‵ (owns (types_at W.En.signature.params z.0.0) a vss)) ∷ (raw (fact 𝓤 (z.0.0.1.0 ⊑ A.lives)) ⊛ raw (fact 𝓤 Asked)) ∷ []) ∵
    move ! (1 ∷ []) $ split ! $ heard ! (z.0.0.1.0 ⊑ A.lives) (λ le. heard ! Asked (λ asked. split ! $ move ! (1 ∷ []) $
    fsplit ! $ fsplit ! $ drop ! $ move ! (1 ∷ []) $ drop ! $ use1 𝓛 (‵ (seen Y κ at h)) (id⊢ 𝓤 _) $ move ! (1 ∷ []) $ use1 𝓛 (‵ (flft κ q) ⊛ ‵ (flft z.0.0.1.0 z.0.1.1.0) ⊛ ‵ ftrue) (id⊢ 𝓤 _) $ split ! $ move ! (2 ∷ 0 ∷ []) $ let even = asked.multiple in let small = asked.most in
    regoal ! (λ (us : List Val). prop (WpFn 𝓤 𝓛.H (calls W) (loops W) W.fn us (ends W z))) (λ i. are.0.0 i ++ (are.1.0.0 i ++ [])) refl $
    enter ! (calls W) (loops W) W.fn (vptr at.0 at.1 ∷ vint w64 n ∷ []) (ends W z) $
    alloc_all ! (λ l. pass_all ! refl ((tt, tt), ((tt, record { fits = are.1.0.1 }), tt)) $ let En : Env 𝓤 𝓛.H = env W.fn.locals l in
    use2 𝓛 (raw ((Takes Y 𝓛 𝓜.mem 𝓡.returns).pre y)) (Takes-goes Y 𝓛 𝓜.mem 𝓡.returns κ q at h (⊑_trans κ z.0.0.1.0 A.lives z.0.2.0 le) n 8 τ (capped_is (n / 8 * 8) (omega arith) ∙ omega arith) refl are.1.0.1 (lit< tt)) $
    calls_at ! (framed 𝓤 𝓛.H 𝓜 (tables 𝓤 𝓛.H 𝓜 𝓡 𝓡.env)) (Takes Y 𝓛 𝓜.mem 𝓡.returns) (met.allocate dd) y (and_then ! (get ! refl) (and_then ! (get ! refl) (and_then ! (lit ! tt) (no_more !)))) (λ v.
    use1 𝓛 (later (raw (Answered Y 𝓛 𝓜.mem 𝓡.returns h τ v) ⊛ ‵ (flft κ q))) (Takes-gives Y 𝓛 𝓜.mem 𝓡.returns κ q at h n 8 τ v) $ await ! tt $ split ! $
    answers Y ! 𝓜.mem 𝓡.returns h τ v
    (λ b o e. use1 𝓛 (‵ (froom (bytes_type n) b o) ⊛ ‵ (fwand (froom (bytes_type n) b o) (froom τ b o))) (𝓛.laws.room_as τ (bytes_type n) b o (omega arith) tt) $ split ! $ move ! (1 ∷ 2 ∷ []) $ fjoin ! $ move ! (1 ∷ 0 ∷ []) $ move ! (2 ∷ 3 ∷ []) $ join ! $ move ! (1 ∷ 2 ∷ []) $ lands_as ! (e) refl (tt, (record { fits = lit< tt }, (tt, tt))) $
    first ! $ switches_on ! (get_tag ! (vrt ! refl (fld ! refl (stop !))) (whole !)) $ exec ! (calls W) (loops W) En (arm_body 0 (head (after 1 W.fn.body))) (then_runs 𝓛 (calls W) (loops W) En (after 2 W.fn.body) (at_ret En (ends W z))) $
    sets ! (of_opd ! (get_in ! (vrt ! refl (fld ! refl (stop !))) (in_variant ! 0 0 refl refl (whole !)))) refl (tt, tt) $
    sets ! (agg ! (no_more !)) refl (tt, tt) $
    sets ! (agg ! (and_then ! (get ! refl) (and_then ! (get ! refl) (no_more !)))) refl (tt, (tt, (record { fits = are.1.0.1 }, tt))) $
    sets ! (agg ! (and_then ! (get ! refl) (no_more !))) refl (tt, (tt, tt)) $
    sets ! (agg ! (and_then ! (get ! refl) (and_then ! (get ! refl) (no_more !)))) refl (tt, ((tt, (record { fits = are.1.0.1 }, tt)), ((tt, tt), tt))) $
    sets_last ! (agg ! (and_then ! (lit ! tt) (and_then ! (get ! refl) (no_more !)))) refl (tt, (record { fits = lit< tt }, (((tt, (record { fits = are.1.0.1 }, tt)), ((tt, tt), tt)), tt))) $
    exec ! (calls W) (loops W) En (after 2 W.fn.body) (at_ret En (ends W z)) $
    sets ! (of_opd ! (get ! refl)) refl (tt, (record { fits = lit< tt }, (((tt, (record { fits = are.1.0.1 }, tt)), ((tt, tt), tt)), tt))) $
    returns ! (look_at ! 0 refl) $ free_all ! refl $
    let p : Ptr = block_ptr b o in let x : (memory.the_row).Denot = record { ptr = p; size = n; fits = asked } in let k : (lease.the_row Z g).Denot = record { marker = record {}; alloc = h; ptr = p; size = n } in
    let v : Val = pair_val (sized_val p n) lease_val in
    use0 𝓛 (‵ (sized_own p n (sized_val p n ∷ []))) (sized_made 𝓛 p n are.1.0.1) $ fjoin ! $ move ! (1 ∷ []) $ use0 𝓛 (‵ (lease_own (lease_val ∷ []))) (lease_made 𝓛 tt) $ fjoin ! $ move ! (1 ∷ 0 ∷ []) $ use2 𝓛 (‵ ((Tuple (memory.the_row ∷ lease.the_row Z g ∷ [])).own_val (x, k) (pair_val (sized_val p n) (lease_val) ∷ []))) (pair_of 𝓛 (memory.the_row) (lease.the_row Z g) (x) (k) (sized_val p n) (lease_val)) $
    use1 𝓛 (‵ (Out.own_val (Some (x, k)) (live 1 (vcons v vnil) ∷ []))) (Some-of 𝓛 Pair (x, k) v) $ use0 𝓛 (raw (fact 𝓤 ((n ≡ n) × (h ≡ h) × (p ≡ p) × (n ≡ n)))) (fact_i 𝓤 ((n ≡ n) × (h ≡ h) × (p ≡ p) × (n ≡ n)) (emp 𝓤) (refl, refl, refl, refl)) $ nothing ! $ nothing ! $ fjoin ! $ nothing ! $ fjoin ! $ move ! (3 ∷ 0 ∷ 2 ∷ 1 ∷ []) $
    by ! (leaves 𝓛 W.En (dropped W) W.clauses z (live 1 (vcons v vnil)) (Some (x, k)) (tt, (tt, tt)) (tt, (tt, tt))))
    (λ e. join ! $ lands_as ! (e) refl (tt, (record { fits = lit< tt }, (tt, tt))) $
    first ! $ switches_on ! (get_tag ! (vrt ! refl (fld ! refl (stop !))) (whole !)) $ exec ! (calls W) (loops W) En (arm_body 1 (head (after 1 W.fn.body))) (then_runs 𝓛 (calls W) (loops W) En (after 2 W.fn.body) (at_ret En (ends W z))) $
    sets_last ! (agg ! (and_then ! (lit ! tt) (no_more !))) refl (tt, (record { fits = lit< tt }, tt)) $
    exec ! (calls W) (loops W) En (after 2 W.fn.body) (at_ret En (ends W z)) $
    sets ! (of_opd ! (get ! refl)) refl (tt, (record { fits = lit< tt }, tt)) $
    returns ! (look_at ! 0 refl) $ free_all ! refl $
    use0 𝓛 (‵ (Out.own_val None (live 0 vnil ∷ []))) (none_of 𝓛 Pair) $ use0 𝓛 (raw (fact 𝓤 (Unit {0}))) (fact_i 𝓤 (Unit {0}) (emp 𝓤) (tt)) $ nothing ! $ nothing ! $ fjoin ! $ nothing ! $ fjoin ! $ move ! (3 ∷ 0 ∷ 2 ∷ 1 ∷ []) $
    by ! (leaves 𝓛 W.En (dropped W) W.clauses z (live 0 vnil) (None) (tt, (tt, tt)) (tt, (tt, tt)))))))))
