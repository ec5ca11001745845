-- What a call that puts a block in a cell leaves of the blocks.
use Rattle.vc_base.proofs.Common.{◌≡◌, ℕ, Bool, true, false, cond, List, [], ◌∷◌, IfOk, nat_lt, Some, None, Ok, Err, Option, Result, option_map, refl, ap, ◌∙◌, subst, ⊎_elim, cases_Bool, place_of, zeros, Terms, Layout, with_block, with_grant, without_block, PoolSize, Refused, IsPoolSound, Pool, carved_in, cell_for, cell_offset, element_with, pool_alloc, pool_need, put_asked, put_carving, put_free, uncarved, resize_there, Asked, Grant, Granted, NotLent, TooMany, ask, find_block}
use Rattle.vc_base.specs.declared.addr.Addr.{Addr}
use Rattle.vc_model.specs.Pool.{put_cell}
use Rattle.vc_model.proofs.Owned.{put-fresh, put-others, put-there, sized-others, sized-there}
use Rattle.vc_seg.specs.Answer.{Answers, IsPut}
use Rattle.vc_seg.specs.OneBlock.{IsBlockKept, IsBlockPut}
use Rattle.vc_seg.specs.declared.fault.RegionFault.{RegionFault}

-- one block more, at the address that is answered
abbrev HasMore : Pool ℕ → Pool ℕ → ℕ → ℕ → ℕ → Type 0
HasMore old new tag size a = new.layout.blocks ≡ with_block (zeros tag size (place_of a)) old.layout.blocks

module _ (p new : Pool ℕ) (tag size a : ℕ) where
  put_cell-more : (granted : Option Grant) (at : ℕ × ℕ) (r : Layout ℕ) (freed carved : List (ℕ × ℕ)) → r.blocks ≡ p.layout.blocks → IsPut (put_cell p tag size granted at r freed carved) a new → HasMore p new tag size a
  put_cell-more granted at r freed carved same placed =
      ap (λ (q : Pool ℕ). q.layout.blocks) placed.2
      ∙ (ap (λ q. with_block (zeros tag size q) r.blocks) placed.1 ∙ ap (with_block (zeros tag size (place_of a))) same)

  put_asked-more : (asked : Asked) → IsPut (put_asked p tag size asked) a new → HasMore p new tag size a
  put_asked-more (Granted g) placed = put_cell-more (Some g) (g.number, cell_offset (cell_for (element_with p size)) (carved_in g.number p.carved)) (with_grant p.layout g) p.freed _ refl placed
  put_asked-more TooMany placed = absurd placed
  put_asked-more NotLent placed = absurd placed

  put_carving-more : (terms : Terms) (refused : Bool) (at : Option (ℕ × ℕ)) → IsPut (put_carving terms p tag size refused at) a new → HasMore p new tag size a
  put_carving-more terms refused (Some at) placed = put_cell-more None at p.layout p.freed _ refl placed
  put_carving-more terms refused None placed = put_asked-more (ask terms (pool_need terms p size) p.layout.segments refused) placed

  put_free-more : (terms : Terms) (refused : Bool) (freed : List (ℕ × ℕ)) → IsPut (put_free terms p tag size refused freed) a new → HasMore p new tag size a
  put_free-more terms refused (at ∷ freed) placed = put_cell-more None at p.layout freed p.carved refl placed
  put_free-more terms refused [] placed = put_carving-more terms refused (uncarved (cell_for (element_with p size)) p.carved p.layout.segments) placed

  pool_alloc-more : (terms : Terms) (refused : Bool) → IsPut (pool_alloc terms p tag size refused) a new → HasMore p new tag size a
  pool_alloc-more terms refused placed =
      ⊎_elim
      (λ (t : nat_lt (element_with p size) size ≡ true). let no : ⊥ = subst (λ v. IsPut (cond v (Refused PoolSize) (put_free terms p tag size refused p.freed)) a new) t placed in absurd no)
      (λ (t : nat_lt (element_with p size) size ≡ false). put_free-more terms refused p.freed (subst (λ v. IsPut (cond v (Refused PoolSize) (put_free terms p tag size refused p.freed)) a new) t placed))
      (cases_Bool (nat_lt (element_with p size) size))

-- where a block was put
pub alloc-put : (result : Result Addr RegionFault) (p new : Pool ℕ) (terms : Terms) (tag size : ℕ) → Answers (pool_alloc terms p tag size) result p new → IsPoolSound new →
    IfOk result (λ a. IsBlockPut tag size a.0 p.layout.blocks new.layout.blocks)
alloc-put (Ok a) p new terms tag size answer sound =
    let more = pool_alloc-more p new tag size a.0 terms false answer in
    record {
      there = put-there a.0 tag size p.layout.blocks new.layout.blocks more sound.places;
      fresh = put-fresh a.0 tag size p.layout.blocks new.layout.blocks more sound.places;
      others = put-others a.0 tag size p.layout.blocks new.layout.blocks more sound.places;
    }
alloc-put (Err e) p new terms tag size answer sound = tt

-- where a block got another size
pub resize-kept : (a size : ℕ) (old new : Layout ℕ) → new ≡ resize_there old (place_of a) size → IsBlockKept a a old.blocks new.blocks
resize-kept a size old new is =
    record {
      label = ap (λ (r : Layout ℕ). option_map (λ b. b.label) (find_block (place_of a) r.blocks)) is ∙ sized-there size (place_of a) old.blocks;
      others = ap (λ (r : Layout ℕ). without_block (place_of a) r.blocks) is ∙ sized-others size (place_of a) old.blocks;
    }
