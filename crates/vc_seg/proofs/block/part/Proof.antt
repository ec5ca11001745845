-- `part` lets the bytes go: what is left is room. Assumes `Logic`.
use Rattle.vc_base.proofs.Common.{◌≡◌, ℕ, List, [], ◌∷◌, ◌++◌, length, sym, refl, ap, ◌∙◌, w64, IsSegmentSize}
use seplogic.Ra.Ura.{Ura}
use mir.Val.{Val, vint}
use base.Fraction.{full_share}
use base.Logic.{ent, emp, never, id⊢}
use base.Fml.{fsep, fat, froom}
use prog.Wp.{WpFn}
use contract.Monad.{fact, fact_i}
use types.Logic.{Logic, sem}
use types.Kit.{‵, raw, ◌⊛◌, some, prop, ◌$◌, ◌∵◌, !, qed, by, move, keep, drop, use0, use1, use2, split, pick, rewrite, regoal, fsplit, fjoin, flt_l}
use types.Part.{agg}
use types.Run.{of_opd, no_more, and_then, returns, enter}
use types.ByLocal.{alloc_all, pass_all, free_all, look_at, get, sets}
use denote.RattleType.{owns}
use denote.Array.{Array}
use denote.Builtin.{u8}
use denote.Memory.{part_at}
use denote.RawPtr.{Ptr, block_ptr, ptr_val, lies_at, in_block, in_a_block}
use denote.Signature.{types_at}
use denote.Steps.{nothing}
use denote.Struct.Tuple.{Tuple}
use borrow.Table.OneValue.{part_out}
use Rattle.std.specs.contracts.impls.GlobalAllocator.TheImpl.{ghosts}
use Rattle.std.specs.contracts.alloc.Global as global
use Rattle.std_alloc.proofs.Pairs.{pair_of, pair_val}
use Rattle.std.proofs.raw_atomic.Walks.{leaves}
use Rattle.vc_seg.specs.Owned.{bytes_type, right}
use Rattle.vc_seg.proofs.Walks.{Walk, calls, loops, tokens, dropped, ends, asks}
use Rattle.vc_seg.specs.contracts.block.Memory as memory
use Rattle.vc_seg.specs.contracts.block.Lease as lease
use Rattle.vc_seg.proofs.Values.{sized_val, sized_own, sized_made, lease_val, lease_own, lease_made, none, none_told}
use Rattle.vc_seg.specs.contracts.block.part.{ended, clauses}
use Rattle.vc_seg.specs.contracts.block.part.Key.{name as #self}
use Rattle.vc_seg.proofs.block.part.Statement.{statement}
use Rattle.vc_seg.proofs.block.part.Code as compiled

-- where bytes lie there is room for them
bytes_room : {M : Type 1} {𝓤 : Ura M} (𝓛 : Logic 𝓤) (n : ℕ) (xs : List ℕ) (b o : ℕ) → ent 𝓤 (sem 𝓛 (part_at (Array u8 n) full_share xs b o)) (𝓛.H.room (bytes_type n) b o)
bytes_room 𝓛 n xs b o = qed 𝓛 (‵ (part_at (Array u8 n) full_share xs b o) ∷ []) ∵
    use1 𝓛 (some (λ (v : Val). ‵ (fat full_share (bytes_type n) b o v) ⊛ ‵ ((Array u8 n).own_val xs (v ∷ [])))) (part_out 𝓛 (Array u8 n) refl full_share xs b o) $ pick ! (λ v. split ! $ keep ! (0 ∷ []) $ by ! (𝓛.laws.at_room (bytes_type n) b o v))

pub part_spec : {M : Type 1} → statement M
part_spec 𝓤 𝓛 𝓜 𝓡 wired =
    let W : Walk 𝓤 𝓛 𝓜 𝓡 = record { En = ended; clauses = clauses 𝓛 𝓜.mem 𝓡.returns; fn = compiled.function } in
    asks W ((λ κs x f. tt), ((λ κs x f. tt), ((λ κs x f. tt), tt))) #self (compiled.unfolded 𝓤 𝓛.H 𝓜 𝓡 wired)
    (λ z. (z.0.3.1.0 ≡ z.0.3.0.at) × (z.0.3.1.1.0 ≡ length z.0.3.0.bytes) × IsSegmentSize z.0.3.1.1.0) (λ z. id⊢ 𝓤 _) (λ z are asked.
    let a = z.0.3 in
    let d = a.0 in
    let n = a.1.1.0 in
    let fits = are.1.1.0.1 in
    let xs = d.bytes in
    let m = length xs in
    let token = ghosts.dealloc_token d.alloc in
    let Lz = lease.the_row global.the_row ghosts in
    qed 𝓛 (‵ (owns (types_at ended.signature.params z.0.0) z.0.3 z.0.4) ∷ raw (tokens W z) ∷ []) ∵
    fsplit ! $ fsplit ! $ drop ! $ move ! (1 ∷ []) $ drop ! $ fsplit ! $ flt_l ! (λ small.
    in_a_block ! d.at (λ p. in_block p (fsep (lies_at (Array u8 m) full_share p xs) (right token m p))) (id⊢ 𝓤 (never 𝓤)) (λ b o at. fsplit ! $
    use1 𝓛 (‵ (froom (bytes_type m) b o)) (bytes_room 𝓛 m xs b o) $ rewrite ! 0 (λ (k : ℕ). ‵ (froom (bytes_type k) b o)) (sym asked.1) refl $ move ! (1 ∷ []) $
    rewrite ! 0 (λ (k : ℕ). ‵ (right token k (block_ptr b o))) (sym asked.1) refl $
    let p : Ptr = block_ptr b o in
    let place : a.1.0 ≡ p = asked.0 ∙ at in
    regoal ! (λ (us : List Val). prop (WpFn 𝓤 𝓛.H (calls W) (loops W) W.fn us (ends W z))) (λ i. none_told z.0.4.0 are.0.0 i ++ ((are.1.0 ∙ ap (λ (q : Ptr). ptr_val q ∷ []) place) i ++ (are.1.1.0.0 i ++ []))) refl $
    enter ! (calls W) (loops W) W.fn (none ∷ ptr_val p ∷ vint w64 n ∷ []) (ends W z) $
    alloc_all ! (λ l. pass_all ! refl ((tt, tt), ((tt, tt), ((tt, record { fits = fits }), tt))) $
    sets ! (agg ! (no_more !)) refl (tt, tt) $
    sets ! (of_opd ! (get ! refl)) refl (tt, tt) $
    sets ! (agg ! (and_then ! (get ! refl) (and_then ! (get ! refl) (no_more !)))) refl (tt, (tt, (record { fits = fits }, tt))) $
    sets ! (agg ! (and_then ! (get ! refl) (no_more !))) refl (tt, (tt, tt)) $
    sets ! (agg ! (and_then ! (get ! refl) (and_then ! (get ! refl) (no_more !)))) refl (tt, ((tt, (record { fits = fits }, tt)), ((tt, tt), tt))) $
    returns ! (look_at ! 0 refl) $ free_all ! refl $
    let x : memory.the_row.Denot = record { ptr = p; size = n; fits = asked.2 } in
    let k : Lz.Denot = record { marker = record {}; alloc = d.alloc; ptr = p; size = n } in
    let v : Val = pair_val (sized_val p n) lease_val in
    use0 𝓛 (‵ (lease_own (lease_val ∷ []))) (lease_made 𝓛 tt) $ fjoin ! $ move ! (1 ∷ []) $ use0 𝓛 (‵ (sized_own p n (sized_val p n ∷ []))) (sized_made 𝓛 p n fits) $ fjoin ! $
    use2 𝓛 (‵ ((Tuple (memory.the_row ∷ Lz ∷ [])).own_val (x, k) (v ∷ []))) (pair_of 𝓛 memory.the_row Lz x k (sized_val p n) lease_val) $
    let Gives : Type 0 = (p ≡ a.1.0) × (n ≡ n) × (d.alloc ≡ d.alloc) × (p ≡ a.1.0) × (n ≡ n) in
    use0 𝓛 (raw (fact 𝓤 Gives)) (fact_i 𝓤 Gives (emp 𝓤) (sym place, refl, refl, sym place, refl)) $ nothing ! $ nothing ! $ fjoin ! $ nothing ! $ fjoin ! $ nothing ! $ fjoin ! $ move ! (3 ∷ 0 ∷ 2 ∷ 1 ∷ []) $
    by ! (leaves 𝓛 ended (dropped W) W.clauses z v (x, k) (tt, (tt, (tt, tt))) (tt, (tt, (tt, tt))))))))
