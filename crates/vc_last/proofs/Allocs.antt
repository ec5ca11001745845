-- What putting a block behind the others answers, and makes of them.
use Rattle.vc_base.proofs.Common.{◌≡◌, ℕ, ◌<◌, true, false, List, [], ◌∷◌, ◌++◌, length, IfOk, Some, None, Ok, Err, Option, Result, sym, refl, ap, ◌∙◌, subst, arith, get_or-map, get_or_append_left, length-map, length_push, address, place_of, zeros, Terms, last_alloc, last_need, last_place, put_behind_latest, put_in_newest, put_or_lend, Block, Layout, address_of, is_at, with_grant, without_block, Asked, Grant, Granted, NotLent, TooMany, ask, HasBlock, find_block}
use Rattle.vc_model.specs.Last.{put_latest}
use Rattle.vc_base.specs.declared.addr.Addr.{Addr}
use Rattle.vc_seg.specs.declared.fault.RegionFault.{RegionFault}
use Rattle.vc_seg.specs.Answer.{Answers, IsPut}
use Rattle.vc_seg.specs.OneBlock.{IsBlockPut}
use Rattle.vc_last.proofs.Lists.{get_or-last}
use Rattle.vc_last.proofs.Latest.{AreElsewhere, at-own, find-last, none-at, without-latest}

-- what a block that was put makes of the region
pub record IsNew (r : Layout ℕ) (tag size to : ℕ) (mid : Layout ℕ) : Type 0 where
  pub blocks : mid.blocks ≡ r.blocks ++ zeros tag size (place_of to) ∷ []
  pub at : to ≡ address (place_of to)

latest-new : (r s : Layout ℕ) (tag size to : ℕ) (granted : Option Grant) (at : ℕ × ℕ) (mid : Layout ℕ) → s.blocks ≡ r.blocks → IsPut (put_latest s tag size granted at) to mid → IsNew r tag size to mid
latest-new r s tag size to granted at mid same h =
    record {
      blocks = ap (λ (q : Layout ℕ). q.blocks) h.2 ∙ (ap (λ (bs : List (Block ℕ)). bs ++ zeros tag size at ∷ []) same ∙ ap (λ p. r.blocks ++ zeros tag size p ∷ []) h.1);
      at = h.0 ∙ ap address h.1;
    }

behind-new : (r s : Layout ℕ) (tag size to : ℕ) (granted : Option Grant) (o : Option (ℕ × ℕ)) (mid : Layout ℕ) → s.blocks ≡ r.blocks → IsPut (put_behind_latest s tag size granted o) to mid → IsNew r tag size to mid
behind-new r s tag size to granted None mid same h = absurd h
behind-new r s tag size to granted (Some at) mid same h = latest-new r s tag size to granted at mid same h

asked-new : (r : Layout ℕ) (tag size to : ℕ) (asked : Asked) (mid : Layout ℕ) → IsPut (put_in_newest r tag size asked) to mid → IsNew r tag size to mid
asked-new r tag size to (Granted g) mid h = behind-new r (with_grant r g) tag size to (Some g) (last_place (with_grant r g) size) mid refl h
asked-new r tag size to TooMany mid h = absurd h
asked-new r tag size to NotLent mid h = absurd h

place-new : (terms : Terms) (r : Layout ℕ) (tag size to : ℕ) (o : Option (ℕ × ℕ)) (mid : Layout ℕ) → IsPut (put_or_lend terms r tag size false o) to mid → IsNew r tag size to mid
place-new terms r tag size to None mid h = asked-new r tag size to (ask terms (last_need terms size) r.segments false) mid h
place-new terms r tag size to (Some at) mid h = latest-new r r tag size to None at mid refl h

pub alloc-new : (terms : Terms) (r : Layout ℕ) (tag size to : ℕ) (mid : Layout ℕ) → IsPut (last_alloc terms r tag size false) to mid → IsNew r tag size to mid
alloc-new terms r tag size to mid h = place-new terms r tag size to (last_place r size) mid h

module _ (r : Layout ℕ) (tag size to : ℕ) (mid : Layout ℕ) (n : IsNew r tag size to mid) (fresh : ¬ HasBlock r.blocks to) where
  own : is_at (place_of to) (zeros tag size (place_of to)) ≡ true
  own = at-own (place_of to) (zeros tag size (place_of to)) refl

  pub new-elsewhere : AreElsewhere (place_of to) r.blocks
  new-elsewhere = none-at to r.blocks fresh

  pub new-found : find_block (place_of to) mid.blocks ≡ Some (zeros tag size (place_of to))
  new-found = ap (find_block (place_of to)) n.blocks ∙ find-last (place_of to) (zeros tag size (place_of to)) own r.blocks new-elsewhere

  pub new-others : without_block (place_of to) mid.blocks ≡ r.blocks
  new-others = ap (without_block (place_of to)) n.blocks ∙ without-latest (place_of to) (zeros tag size (place_of to)) own r.blocks new-elsewhere

  pub new-among : HasBlock mid.blocks to
  new-among =
      let z : Block ℕ = zeros tag size (place_of to) in
      let all : List (Block ℕ) = r.blocks ++ z ∷ [] in
      let within : length r.blocks < length all = omega (arith, length_push r.blocks z) in
      subst (λ (bs : List (Block ℕ)). HasBlock bs to) (sym n.blocks)
      (length r.blocks, omega (arith, within, length-map all address_of), get_or-map address_of all (length r.blocks) z to within ∙ (ap address_of (get_or-last r.blocks z z) ∙ sym n.at))

  pub old-among : (a : ℕ) → HasBlock r.blocks a → HasBlock mid.blocks a
  old-among a live =
      let z : Block ℕ = zeros tag size (place_of to) in
      let all : List (Block ℕ) = r.blocks ++ z ∷ [] in
      let k : ℕ = live.0 in
      let within : k < length r.blocks = omega (arith, live.1, length-map r.blocks address_of) in
      let later : k < length all = omega (arith, within, length_push r.blocks z) in
      subst (λ (bs : List (Block ℕ)). HasBlock bs a) (sym n.blocks)
      (k, omega (arith, later, length-map all address_of), get_or-map address_of all k z a later ∙ (ap address_of (get_or_append_left r.blocks (z ∷ []) z k within) ∙ (sym (get_or-map address_of r.blocks k z a within) ∙ live.2)))

-- the block that was put, by the answer
module _ (terms : Terms) (r mid : Layout ℕ) (tag size : ℕ) where
  pub put-alloc : (result : Result Addr RegionFault) → Answers (last_alloc terms r tag size) result r mid → IfOk result (λ a. ¬ HasBlock r.blocks a.0) → IfOk result (λ a. IsBlockPut tag size a.0 r.blocks mid.blocks)
  put-alloc (Ok a) answer fresh =
      let new = alloc-new terms r tag size a.0 mid answer in
      record { there = new-found r tag size a.0 mid new fresh; fresh = fresh; others = new-others r tag size a.0 mid new fresh }
  put-alloc (Err e) answer fresh = tt
