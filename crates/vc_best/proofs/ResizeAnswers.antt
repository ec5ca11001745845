-- What a resize answers, by what its parts do.
use Rattle.vc_base.proofs.Common.{◌≡◌, ℕ, zero, suc, ◌<◌, ◌≤◌, Bool, true, false, cond, List, [], ◌∷◌, map, length, get_or, take, IfSome, Some, None, All, Option, option_map, sym, refl, ap, ◌∙◌, subst, ⊎_elim, arith, cases_Bool, get_or-map, length-map, same_Some, address, place_of, best_alloc, best_need, place_in, put_at, put_in_new, put_or_ask, without_block_at, zeros, Terms, Block, Layout, address_of, is_at, lies_before, with_block, with_grant, Done, Fault, Fixed, Outcome, Put, Refused, best_resize, can_stay, outcome_of_move, resize_found, resize_there, Asked, Grant, Granted, NotLent, TooMany, ask, HasBlock, find_block, with_bytes_at}
use Rattle.vc_model.specs.Best.{put}
use Rattle.vc_base.proofs.Lists.{find-passes}
use Rattle.vc_base.proofs.Places.{at-place}
use Rattle.vc_model.proofs.Owned.{address-place_of}
use Rattle.vc_seg.specs.declared.fault.RegionFault.{RegionFault}
use Rattle.vc_seg.specs.declared.fault.RegionFault.TheVariants as code
use Rattle.vc_seg.specs.Answer.{IsPut, IsRefusal}
use Rattle.vc_seg.proofs.InOrder.{find-with, own-place}
use Rattle.vc_seg.proofs.Resizes.{moved-put}

-- one block more
find_with-other : (at : ℕ × ℕ) (b : Block ℕ) (bs : List (Block ℕ)) → is_at at b ≡ false → find_block at (with_block b bs) ≡ find_block at bs
find_with-other at b [] other = rw other refl
find_with-other at b (c ∷ cs) other =
    ⊎_elim
    (λ e. rw e (rw other refl))
    (λ e. rw e (ap (cond (is_at at c) (Some c)) (find_with-other at b cs other)))
    (cases_Bool (lies_before b c))

abbrev IsAmong : List (Block ℕ) → ℕ → Type 0
IsAmong blocks a = HasBlock blocks a

among-cons : (b : Block ℕ) (bs : List (Block ℕ)) (a : ℕ) → IsAmong bs a → IsAmong (b ∷ bs) a
among-cons b bs a h = (suc h.0, omega (arith, h.1), h.2)

among-own : (b : Block ℕ) (bs : List (Block ℕ)) → IsAmong (with_block b bs) (address (b.seg, b.off))
among-own b [] = (0, omega arith, refl)
among-own b (c ∷ cs) =
    ⊎_elim
    (λ e. rw e (0, omega arith, refl))
    (λ e. rw e (among-cons c (with_block b cs) (address (b.seg, b.off)) (among-own b cs)))
    (cases_Bool (lies_before b c))

among-kept : (b : Block ℕ) (bs : List (Block ℕ)) (a : ℕ) → IsAmong bs a → IsAmong (with_block b bs) a
among-kept b [] a h = among-cons b [] a h
among-kept b (c ∷ cs) a h =
    ⊎_elim
    (λ e. rw e (among-cons b (c ∷ cs) a h))
    (λ e.
    rw e (elim h.0 as (λ k. k < length (map address_of (c ∷ cs)) → get_or (map address_of (c ∷ cs)) k a ≡ a → IsAmong (c ∷ with_block b cs) a) [
      | zero ↦ λ lt at. (0, omega arith, at)
      | suc k ↦ λ lt at. among-cons c (with_block b cs) a (among-kept b cs a (k, omega (arith, lt), at))
    ] h.1 h.2))
    (cases_Bool (lies_before b c))

-- no block stands at a place whose address no block has
pub none-at : (at : ℕ) (blocks : List (Block ℕ)) → (IsAmong blocks at → ⊥) → All (λ c. is_at (place_of at) c ≡ false) blocks
none-at at blocks fresh =
    λ k d lt.
    let c : Block ℕ = get_or blocks k d in
    ⊎_elim
    (λ e.
    let own : address (c.seg, c.off) ≡ at = ap address (at-place (place_of at) c e) ∙ address-place_of at in
    absurd (fresh (k, omega (arith, length-map blocks address_of), get_or-map address_of blocks k d at lt ∙ own)))
    (λ e. e)
    (cases_Bool (is_at (place_of at) c))

-- what a block that was placed makes of the region
pub record IsNew (r : Layout ℕ) (label size to : ℕ) (region : Layout ℕ) : Type 0 where
  pub blocks : region.blocks ≡ with_block (zeros label size (place_of to)) r.blocks
  pub at : to ≡ address (place_of to)

pub put_at-new : (r s : Layout ℕ) (label size to : ℕ) (granted : Option Grant) (at : ℕ × ℕ) (region : Layout ℕ) → s.blocks ≡ r.blocks → IsPut (put_at s label size granted at) to region → IsNew r label size to region
put_at-new r s label size to granted at region same h =
    record {
      blocks = ap (λ (q : Layout ℕ). q.blocks) h.2 ∙ (ap (with_block (zeros label size at)) same ∙ ap (λ p. with_block (zeros label size p) r.blocks) h.1);
      at = h.0 ∙ ap address h.1;
    }

put-new : (r s : Layout ℕ) (label size to : ℕ) (granted : Option Grant) (o : Option (ℕ × ℕ)) (region : Layout ℕ) → s.blocks ≡ r.blocks → IsPut (put s label size granted o) to region → IsNew r label size to region
put-new r s label size to granted None region same h = absurd h
put-new r s label size to granted (Some at) region same h = put_at-new r s label size to granted at region same h

asked-new : (r : Layout ℕ) (label size align to : ℕ) (asked : Asked) (region : Layout ℕ) → IsPut (put_in_new r label size align asked) to region → IsNew r label size to region
asked-new r label size align to (Granted g) region h = put-new r (with_grant r g) label size to (Some g) (place_in (with_grant r g) size align) region refl h
asked-new r label size align to TooMany region h = absurd h
asked-new r label size align to NotLent region h = absurd h

pub place-new : (terms : Terms) (r : Layout ℕ) (label size align : ℕ) (refused : Bool) (to : ℕ) (o : Option (ℕ × ℕ)) (region : Layout ℕ) → IsPut (put_or_ask terms r label size align refused o) to region → IsNew r label size to region
place-new terms r label size align refused to None region h = asked-new r label size align to (ask terms (best_need terms size align) r.segments refused) region h
place-new terms r label size align refused to (Some at) region h = put_at-new r r label size to None at region refl h

module _ (terms : Terms) (r : Layout ℕ) (label size align to : ℕ) (refused : Bool) (mid : Layout ℕ) (placed : IsPut (best_alloc terms r label size align refused) to mid) (fresh : IsAmong r.blocks to → ⊥) where
  is_new : IsNew r label size to mid
  is_new = place-new terms r label size align refused to (place_in r size align) mid placed

  -- the new block stands there
  pub new-among : IsAmong mid.blocks to
  new-among = subst (λ bs. IsAmong bs to) (sym is_new.blocks) (subst (λ n. IsAmong (with_block (zeros label size (place_of to)) r.blocks) n) (sym is_new.at) (among-own (zeros label size (place_of to)) r.blocks))

  pub new-found : find_block (place_of to) mid.blocks ≡ Some (zeros label size (place_of to))
  new-found =
      let z : Block ℕ = zeros label size (place_of to) in
      ap (find_block (place_of to)) is_new.blocks ∙ find-with (place_of to) z (own-place z) r.blocks (none-at to r.blocks fresh)

  pub new-room : IfSome (find_block (place_of to) mid.blocks) (λ b. size ≤ b.size)
  new-room = subst (λ (o : Option (Block ℕ)). IfSome o (λ b. size ≤ b.size)) (sym new-found) (omega arith)

  -- and the others where they stood
  module _ (a : ℕ) (live : IsAmong r.blocks a) where
    pub old-among : IsAmong mid.blocks a
    old-among = subst (λ bs. IsAmong bs a) (sym is_new.blocks) (among-kept (zeros label size (place_of to)) r.blocks a live)

    pub old-found : find_block (place_of a) mid.blocks ≡ find_block (place_of a) r.blocks
    old-found =
        let z : Block ℕ = zeros label size (place_of to) in
        let other : is_at (place_of a) z ≡ false =
        ⊎_elim
        (λ e.
        let same : to ≡ a = sym (address-place_of to) ∙ (ap address (at-place (place_of a) z e) ∙ address-place_of a) in
        absurd (fresh (subst (IsAmong r.blocks) (sym same) live)))
        (λ e. e)
        (cases_Bool (is_at (place_of a) z)) in
        ap (find_block (place_of a)) is_new.blocks ∙ find_with-other (place_of a) z r.blocks other

-- the block stays where it can
module _ (terms : Terms) (r : Layout ℕ) (a size : ℕ) (may_move refused : Bool) where
  -- what that gives
  abbrev kept : Outcome (Put (Layout ℕ))
  kept = Done (record { at = place_of a; region = resize_there r (place_of a) size; granted = None })

  stays-found : (o : Option (Block ℕ)) → find_block (place_of a) r.blocks ≡ o → option_map (can_stay r size) o ≡ Some true → resize_found terms r size may_move refused o ≡ kept
  stays-found None found e = absurd (cc)
  stays-found (Some b) found e =
      let can : can_stay r size b ≡ true = cc in
      let there : ℕ × ℕ → Outcome (Put (Layout ℕ)) = λ p. Done (record { at = p; region = resize_there r p size; granted = None }) in
      rw can (ap there (at-place (place_of a) b (find-passes (is_at (place_of a)) r.blocks b found)))

  pub resize-stays : (new : Layout ℕ) → option_map (can_stay r size) (find_block (place_of a) r.blocks) ≡ Some true → new ≡ resize_there r (place_of a) size → IsPut (best_resize terms r (place_of a) size may_move refused) a new
  resize-stays new e is =
      subst (λ (o : Outcome (Put (Layout ℕ))). IsPut o a new) (sym (stays-found (find_block (place_of a) r.blocks) refl e)) (sym (address-place_of a), refl, is)

-- where it can't stay and may not move, it is refused
fixed-found : (terms : Terms) (r : Layout ℕ) (size : ℕ) (may_move refused : Bool) (o : Option (Block ℕ)) → option_map (can_stay r size) o ≡ Some false → may_move ≡ false → resize_found terms r size may_move refused o ≡ Refused Fixed
fixed-found terms r size may_move refused None e may = absurd (cc)
fixed-found terms r size may_move refused (Some b) e may = rw (same_Some (can_stay r size b) false e, may) refl

pub resize-fixed : (terms : Terms) (r : Layout ℕ) (at : ℕ × ℕ) (size : ℕ) (may_move refused : Bool) → option_map (can_stay r size) (find_block at r.blocks) ≡ Some false → may_move ≡ false →
    best_resize terms r at size may_move refused ≡ Refused Fixed
resize-fixed terms r at size may_move refused e may = fixed-found terms r size may_move refused (find_block at r.blocks) e may

-- and else it moves, where it may
module _ (terms : Terms) (r : Layout ℕ) (a size tag : ℕ) (may_move : Bool) (may : may_move ≡ true) where
  moves-found : (to : ℕ) (mid new : Layout ℕ) (o : Option (Block ℕ)) → find_block (place_of a) r.blocks ≡ o → option_map (can_stay r size) o ≡ Some false →
      option_map (λ b. b.label) o ≡ Some tag → IsPut (best_alloc terms r tag size 32 false) to mid → IfSome o (λ b. new ≡ without_block_at (with_bytes_at mid (place_of to) 0 (take size b.bytes)) (place_of a)) →
      IsPut (resize_found terms r size may_move false o) to new
  moves-found to mid new None found e l h own = absurd (cc)
  moves-found to mid new (Some b) found e l h own =
      let label : tag ≡ b.label = cc in
      let at : (b.seg, b.off) ≡ place_of a = at-place (place_of a) b (find-passes (is_at (place_of a)) r.blocks b found) in
      let placed : IsPut (best_alloc terms r b.label size 32 false) to mid = subst (λ k. IsPut (best_alloc terms r k size 32 false) to mid) label h in
      rw (same_Some (can_stay r size b) false e, may) (moved-put size to b (best_alloc terms r b.label size 32 false) mid new placed (own ∙ ap (without_block_at (with_bytes_at mid (place_of to) 0 (take size b.bytes))) (sym at)))

  pub resize-moves : (to : ℕ) (mid new : Layout ℕ) → find_block (place_of a) mid.blocks ≡ find_block (place_of a) r.blocks →
      option_map (can_stay r size) (find_block (place_of a) r.blocks) ≡ Some false → option_map (λ b. b.label) (find_block (place_of a) r.blocks) ≡ Some tag → IsPut (best_alloc terms r tag size 32 false) to mid →
      IfSome (find_block (place_of a) mid.blocks) (λ b. new ≡ without_block_at (with_bytes_at mid (place_of to) 0 (take size b.bytes)) (place_of a)) → IsPut (best_resize terms r (place_of a) size may_move false) to new
  resize-moves to mid new kept can label placed own =
      let found = find_block (place_of a) r.blocks in
      let there : IfSome found (λ b. new ≡ without_block_at (with_bytes_at mid (place_of to) 0 (take size b.bytes)) (place_of a)) = subst (λ (o : Option (Block ℕ)). IfSome o (λ b. new ≡ without_block_at (with_bytes_at mid (place_of to) 0 (take size b.bytes)) (place_of a))) kept own in
      moves-found to mid new found refl can label placed there

  -- where it is refused a place, the resize is refused
  refused-found : (refused : Bool) (why : Fault) (o : Option (Block ℕ)) → option_map (can_stay r size) o ≡ Some false → option_map (λ b. b.label) o ≡ Some tag → best_alloc terms r tag size 32 refused ≡ Refused why → resize_found terms r size may_move refused o ≡ Refused why
  refused-found refused why None e l h = absurd (cc)
  refused-found refused why (Some b) e l h =
      let label : b.label ≡ tag = cc in
      rw (same_Some (can_stay r size b) false e, may) (ap (outcome_of_move size b) (ap (λ k. best_alloc terms r k size 32 refused) label ∙ h))

  pub resize-refused : (e : RegionFault) → option_map (can_stay r size) (find_block (place_of a) r.blocks) ≡ Some false → option_map (λ b. b.label) (find_block (place_of a) r.blocks) ≡ Some tag →
      IsRefusal (best_alloc terms r tag size 32) e → IsRefusal (best_resize terms r (place_of a) size may_move) e
  resize-refused code.TooManySegments can label h = refused-found false _ (find_block (place_of a) r.blocks) can label h
  resize-refused code.NoSegment can label h = refused-found true _ (find_block (place_of a) r.blocks) can label h
  resize-refused code.OutOfMemory can label h = tt
  resize-refused code.Fixed can label h = refused-found false _ (find_block (place_of a) r.blocks) can label h
  resize-refused code.PoolSize can label h = refused-found false _ (find_block (place_of a) r.blocks) can label h
  resize-refused code.NotLast can label h = refused-found false _ (find_block (place_of a) r.blocks) can label h
  resize-refused code.WrongMethod can label h = refused-found false _ (find_block (place_of a) r.blocks) can label h

-- what does not stay where it is
pub none-stays : (r : Layout ℕ) (size : ℕ) (o : Option (Block ℕ)) → option_map (can_stay r size) o ≡ Some false → IfSome o (λ b. can_stay r size b ≡ false)
none-stays r size None e = tt
none-stays r size (Some b) e = cc
