-- `all_mut` lends the bytes, and their owner follows them. Assumes `Logic`.
use Rattle.vc_base.proofs.Common.{◌≡◌, ℕ, ◌*◌, ◌^◌, ◌<◌, List, [], ◌∷◌, ◌++◌, length, sym, refl, ◌∙◌, arith, w64}
use seplogic.Ra.Ura.{Ura}
use base.Fraction.{full_share}
use base.Logic.{ent, sep, emp, never, id⊢}
use base.Fml.{Lft, GName, Share, Fml, ftrue, fsep, fat, flft}
use mir.Syntax.{named, ty_ptr}
use mir.Val.{Val, vint, vptr}
use prog.Wp.{Env, WpFn}
use contract.Monad.{fact, fact_i}
use lib.ListN.{drop as drop_l}
use lib.Seq.{take_at as take_front}
use types.Logic.{Logic, sem}
use types.Kit.{‵, raw, ◌⊛◌, some, later, prop, at_ret, ◌$◌, ◌∵◌, !, qed, by, move, drop, use0, use1, split, join, pick, group, rewrite, regoal, fsplit, fsplit3, fjoin, fjoin3, flt_l, flt_i, feq_i, feq_l, fpack, await, done}
use types.Part.{agg}
use types.Run.{of_opd, no_more, and_then, first, blocks, exec, returns, enter}
use types.ByLocal.{alloc_all, pass_all, free_all, look_at, get, take_at, give_at, sets, sets_last, env}
use types.SemTy.{cells}
use denote.RattleType.{owns}
use denote.Array.{Array}
use denote.ArrayMemory.{Array-apart, Array-whole}
use denote.Builtin.{u8}
use denote.Follow.{follows}
use denote.FollowSlice.{Elements, lends_Elements}
use denote.Index.{row, whole_in, whole_out}
use denote.Memory.{mem, part_at, part_of, cell_at}
use denote.RawPtr.{Ptr, block_ptr, ptr_val, lies_at, in_block, in_a_block}
use denote.Ref.{MutBor}
use denote.Signature.{types_at}
use denote.Slice.{MutSlice, slice_val}
use denote.Steps.{nothing, opens}
use Rattle.std.specs.List.{refill}
use Rattle.std.specs.contracts.impls.GlobalAllocator.TheImpl.{ghosts}
use Rattle.std.proofs.alloc.Shapes.{after}
use Rattle.std.proofs.raw_atomic.Walks.{leaves}
use Rattle.vc_seg.specs.Owned.{right, block_owns}
use Rattle.vc_seg.specs.Lends.{block_with_bytes}
use Rattle.vc_seg.proofs.Values.{ptr_typed, none_own}
use Rattle.vc_seg.proofs.Walks.{Walk, calls, loops, tokens, dropped, ends, asks}
use Rattle.vc_seg.specs.contracts.block.Block as block
use Rattle.vc_seg.specs.contracts.block.Block.all_mut.{ended, clauses}
use Rattle.vc_seg.specs.contracts.block.Block.all_mut.Key.{name as #self}
use Rattle.vc_seg.proofs.block.Block.all_mut.Statement.{statement}
use Rattle.vc_seg.proofs.block.Block.all_mut.Code as compiled

module _ {M : Type 1} {𝓤 : Ura M} (𝓛 : Logic 𝓤) (d : block.the_row.Denot) (b o rb ro : ℕ) (vs : List Val) where
  abbrev n : ℕ
  n = length d.bytes

  -- all but the bytes
  abbrev Rest : Fml
  Rest = fsep (right (ghosts.dealloc_token d.alloc) n (block_ptr b o)) (fsep (none_own vs) (cell_at full_share block.the_row.mir vs rb ro))

  bytes_out : (xs : List ℕ) (k : ℕ) → ent 𝓤 (sem 𝓛 (part_at (Array u8 k) full_share xs b o)) (sem 𝓛 (cells (mem u8) xs b o))
  bytes_out xs k = qed 𝓛 (‵ (part_at (Array u8 k) full_share xs b o) ∷ []) ∵
      use1 𝓛 (‵ (fsep _ (row u8 full_share xs b o))) (Array-apart 𝓛 u8 full_share tt k xs b o) $ fsplit ! $ feq_l ! (λ e. by ! (whole_in 𝓛 u8 xs b o))

  bytes_in : (xs : List ℕ) → ent 𝓤 (sem 𝓛 (cells (mem u8) xs b o)) (sem 𝓛 (part_at (Array u8 (length xs)) full_share xs b o))
  bytes_in xs = qed 𝓛 (‵ (cells (mem u8) xs b o) ∷ []) ∵
      use1 𝓛 (‵ (row u8 full_share xs b o)) (whole_out 𝓛 u8 xs b o) $ feq_i ! ℕ (length xs) (length xs) refl $ fjoin ! $ by ! (Array-whole 𝓛 u8 full_share (length xs) xs b o)

  back : d.at ≡ block_ptr b o → n < 2 ^ 63 → (ws : List ℕ) → length ws ≡ n → ent 𝓤 (sep 𝓤 (sem 𝓛 (cells (mem u8) ws b o)) (sem 𝓛 Rest)) (sem 𝓛 ((mem block.the_row).own_at (block_with_bytes d ws) rb ro))
  unfolding part_of
  back at small ws same =
      let all : refill n d.bytes ws ≡ ws = take_front ws (drop_l (length ws) d.bytes) n same in
      let token = ghosts.dealloc_token d.alloc in
      let Held = λ (p : Ptr) (ys : List ℕ). fsep (lies_at (Array u8 (length ys)) full_share p ys) (right token (length ys) p) in
      qed 𝓛 (‵ (cells (mem u8) ws b o) ∷ ‵ Rest ∷ []) ∵
      use1 𝓛 (‵ (part_at (Array u8 (length ws)) full_share ws b o)) (bytes_in ws) $ move ! (1 ∷ []) $ fsplit3 ! $
      rewrite ! 0 (λ (k : ℕ). ‵ (right token k (block_ptr b o))) (sym same) refl $ move ! (3 ∷ 0 ∷ []) $ fjoin ! $
      rewrite ! 0 (λ (p : Ptr). ‵ (in_block p (Held p ws))) (sym at) refl $
      flt_i ! (length ws) (2 ^ 63) (omega (arith, same)) $ fjoin ! $
      rewrite ! 0 (λ (ys : List ℕ). ‵ (block_owns token d.at ys)) (sym all) refl $
      move ! (1 ∷ 0 ∷ []) $ fjoin ! $ move ! (1 ∷ 0 ∷ []) $ fjoin ! $
      fpack ! (List Val) (λ us. fsep (cell_at full_share block.the_row.mir us rb ro) (block.the_row.own_val (block_with_bytes d ws) us)) vs $ done !

pub all_mut_spec : {M : Type 1} → statement M
all_mut_spec 𝓤 𝓛 𝓜 𝓡 wired =
    let W : Walk 𝓤 𝓛 𝓜 𝓡 = record { En = ended; clauses = clauses 𝓛 𝓜.mem 𝓡.returns; fn = compiled.function } in
    asks W ((λ κs x f. tt), ((λ κs x f. tt), ((λ κs x f. tt), tt))) #self (compiled.unfolded 𝓤 𝓛.H 𝓜 𝓡 wired)
    (λ z. (z.0.3.1.0 ≡ z.0.3.0.now.at) × (z.0.3.1.1.0 ≡ length z.0.3.0.now.bytes)) (λ z. id⊢ 𝓤 _) (λ z are asked.
    let a = z.0.3 in
    let κ : Lft = z.0.0.0 in
    let q : Share = z.0.1.0 in
    let d = a.0.now in
    let rb = a.0.ref_ptr.0 in
    let ro = a.0.ref_ptr.1 in
    let γ = a.0.ghost_name in
    let n = a.1.1.0 in
    let fits = are.1.1.0.1 in
    let xs = d.bytes in
    let m = length xs in
    let token = ghosts.dealloc_token d.alloc in
    let R = block.the_row in
    let F = block_with_bytes d in
    qed 𝓛 (‵ (owns (types_at ended.signature.params z.0.0) z.0.3 z.0.4) ∷ raw (tokens W z) ∷ []) ∵
    fsplit ! $ fsplit3 ! $ drop ! $ move ! (2 ∷ []) $ drop ! $ move ! (2 ∷ []) $ use1 𝓛 (‵ (flft κ q) ⊛ ‵ ftrue) (id⊢ 𝓤 _) $ split ! $ move ! (1 ∷ []) $ drop ! $ move ! (1 ∷ 2 ∷ 0 ∷ []) $
    regoal ! (λ (us : List Val). prop (WpFn 𝓤 𝓛.H (calls W) (loops W) W.fn us (ends W z))) (λ i. are.0.0 i ++ (are.1.0 i ++ (are.1.1.0.0 i ++ []))) refl $
    enter ! (calls W) (loops W) W.fn (vptr rb ro ∷ ptr_val a.1.0 ∷ vint w64 n ∷ []) (ends W z) $
    alloc_all ! (λ l. pass_all ! refl ((tt, tt), (ptr_typed a.1.0, ((tt, record { fits = fits }), tt))) $ let En : Env 𝓤 𝓛.H = env W.fn.locals l in
    opens ! tt R {h = d} rb ro (λ vs. move ! (1 ∷ []) $ fsplit ! $ move ! (1 ∷ []) $ fsplit ! $ flt_l ! (λ small.
    in_a_block ! d.at (λ p. in_block p (fsep (lies_at (Array u8 m) full_share p xs) (right token m p))) (id⊢ 𝓤 (never 𝓤)) (λ b o at. fsplit ! $
    use1 𝓛 (‵ (cells (mem u8) xs b o)) (bytes_out 𝓛 d b o rb ro vs xs m) $
    let place : a.1.0 ≡ block_ptr b o = asked.0 ∙ at in
    let way = back 𝓛 d b o rb ro vs at small in
    let roomy : m < 2 ^ 64 = omega arith in let fitting : m * 1 < 2 ^ 63 = omega arith in
    move ! (1 ∷ 2 ∷ 3 ∷ []) $ fjoin3 ! $ move ! (2 ∷ 3 ∷ 4 ∷ 1 ∷ 0 ∷ []) $ group ! 5 $
    use1 𝓛 (later (some (λ (δ : GName). raw (Elements 𝓛 R u8 F (named 0) κ q rb ro b o γ xs (roomy, fitting) (sem 𝓛 (Rest 𝓛 d b o rb ro vs)) way δ))))
    (lends_Elements 𝓛 R u8 F (named 0) κ q rb ro b o γ xs (roomy, fitting) (sem 𝓛 (Rest 𝓛 d b o rb ro vs)) way (R.coded.code d) (R.coded.code d)) $ await ! tt $ pick ! (λ δ.
    let r : MutBor (List ℕ) = record { ref_ptr = (b, o); ghost_name = δ; now = xs } in
    use1 𝓛 (‵ ((MutSlice (named 0) κ u8).own_val r (slice_val (b, o) m ∷ [])) ⊛ ‵ (flft κ q) ⊛ ‵ (follows R (Array u8 0) γ δ F)) (id⊢ 𝓤 _) $
    rewrite ! 0 (λ (k : ℕ). ‵ ((MutSlice (named 0) κ u8).own_val r (slice_val (b, o) k ∷ [])) ⊛ ‵ (flft κ q) ⊛ ‵ (follows R (Array u8 0) γ δ F)) (sym asked.1) refl $
    take_at ! 2 $ rewrite ! 0 (λ (p : Ptr). ‵ (fat full_share ty_ptr (l 2) 0 (ptr_val p))) place refl $ give_at ! 2 $
    first ! $ blocks ! $
    sets_last ! (agg ! (and_then ! (get ! refl) (and_then ! (get ! refl) (no_more !)))) refl (tt, (tt, (record { fits = fits }, tt))) $
    exec ! (calls W) (loops W) En (after 1 W.fn.body) (at_ret En (ends W z)) $
    sets ! (of_opd ! (get ! refl)) refl (tt, (tt, (record { fits = fits }, tt))) $
    returns ! (look_at ! 0 refl) $ free_all ! refl $
    split ! $ move ! (1 ∷ []) $ split ! $ nothing ! $ move ! (1 ∷ 0 ∷ []) $ join ! $ move ! (1 ∷ 2 ∷ 0 ∷ []) $
    -- [follows; the slice; the tokens]
    let Gives : Type 0 = xs ≡ xs in
    use0 𝓛 (raw (fact 𝓤 Gives)) (fact_i 𝓤 Gives (emp 𝓤) refl) $ move ! (1 ∷ 0 ∷ []) $ join ! $ nothing ! $ nothing ! $ fjoin ! $ nothing ! $ fjoin ! $ nothing ! $ fjoin ! $ move ! (3 ∷ 0 ∷ 2 ∷ 1 ∷ []) $
    by ! (leaves 𝓛 ended (dropped W) W.clauses z (slice_val (b, o) n) r (tt, (tt, (tt, tt))) (tt, (tt, (tt, tt))))))))))
