-- The blocks but for one stay.
use Rattle.vc_base.proofs.Common.{◌≡◌, ℕ, Bool, true, false, List, [], ◌∷◌, take, IfSome, IfOk, Some, None, Ok, Err, Option, Result, option_map, sym, refl, ap, ◌∙◌, ⊎_elim, cases_Bool, place_of, best_alloc, place_in, without_block_at, zeros, Terms, Block, Layout, is_at, without_block, HasBlock, change_block, find_block, rewritten_block, with_bytes_at}
use Rattle.vc_best.proofs.Common.{Addr, IsPutByAsking, IsPutInGap}
use Rattle.vc_seg.specs.Answer.{IsPut}
use Rattle.vc_base.proofs.Places.{at-place}
use Rattle.vc_seg.specs.declared.fault.RegionFault.{RegionFault}
use Rattle.vc_seg.proofs.InOrder.{own-place, without-with}
use Rattle.vc_seg.proofs.Resizes.{others-written}
use Rattle.vc_best.proofs.Asking.{Answers-in_gap}
use Rattle.vc_best.proofs.ResizeAnswers.{IsNew, none-at, place-new}

-- in whichever order two blocks go
pub others-twice : (p q : ℕ × ℕ) (bs : List (Block ℕ)) → without_block p (without_block q bs) ≡ without_block q (without_block p bs)
others-twice p q [] = refl
others-twice p q (b ∷ bs) =
    ⊎_elim
    (λ (e : is_at p b ≡ true).
    ⊎_elim
    (λ (u : is_at q b ≡ true). rw e (rw u (ap (λ at. without_block at bs) (sym (at-place p b e) ∙ at-place q b u))))
    (λ (u : is_at q b ≡ false). rw u (rw e refl))
    (cases_Bool (is_at q b)))
    (λ (e : is_at p b ≡ false).
    ⊎_elim
    (λ (u : is_at q b ≡ true). rw u (rw e (rw u refl)))
    (λ (u : is_at q b ≡ false). rw u (rw e (rw u (ap (λ cs. b ∷ cs) (others-twice p q bs)))))
    (cases_Bool (is_at q b)))
    (cases_Bool (is_at p b))

moved-found : (mid new : Layout ℕ) (a to : ℕ × ℕ) (size tag : ℕ) (o : Option (Block ℕ)) → option_map (λ b. b.label) o ≡ Some tag → IfSome o (λ b. new ≡ without_block_at (with_bytes_at mid to 0 (take size b.bytes)) a) → without_block to new.blocks ≡ without_block a (without_block to mid.blocks)
moved-found mid new a to size tag None label own = absurd (cc)
moved-found mid new a to size tag (Some b) label own =
    ap (λ (r : Layout ℕ). without_block to r.blocks) own
    ∙ (others-twice to a (change_block (rewritten_block 0 (take size b.bytes)) to mid.blocks)
    ∙ ap (without_block a) (others-written 0 (take size b.bytes) to mid.blocks))

-- one block moves over another
pub others-moved : (mid new old : Layout ℕ) (a to : ℕ × ℕ) (size tag : ℕ) → find_block a mid.blocks ≡ find_block a old.blocks → option_map (λ b. b.label) (find_block a old.blocks) ≡ Some tag →
    IfSome (find_block a mid.blocks) (λ b. new ≡ without_block_at (with_bytes_at mid to 0 (take size b.bytes)) a) → without_block to mid.blocks ≡ old.blocks → without_block to new.blocks ≡ without_block a old.blocks
others-moved mid new old a to size tag same label own others =
    moved-found mid new a to size tag (find_block a mid.blocks) (ap (option_map (λ b. b.label)) same ∙ label) own ∙ ap (without_block a) others

-- the block that was placed is one more
module _ (r : Layout ℕ) (label size to : ℕ) (mid : Layout ℕ) (fresh : ¬ HasBlock r.blocks to) where
  others-new : IsNew r label size to mid → without_block (place_of to) mid.blocks ≡ r.blocks
  others-new is_new =
      ap (without_block (place_of to)) is_new.blocks
      ∙ without-with (place_of to) (zeros label size (place_of to)) (own-place (zeros label size (place_of to))) r.blocks (none-at to r.blocks fresh)

  pub others-alloc : (terms : Terms) (align : ℕ) (refused : Bool) → IsPut (best_alloc terms r label size align refused) to mid → without_block (place_of to) mid.blocks ≡ r.blocks
  others-alloc terms align refused placed = others-new (place-new terms r label size align refused to (place_in r size align) mid placed)

-- where a block was placed
pub others-asked : (terms : Terms) (result : Result Addr RegionFault) (r new : Layout ℕ) (label size align : ℕ) → IsPutByAsking terms result r new label size align →
    IfOk result (λ a. without_block (place_of a.0) new.blocks ≡ r.blocks)
others-asked terms (Ok a) r new label size align p = others-alloc r label size a.0 new p.fresh terms align false p.answer
others-asked terms (Err e) r new label size align p = tt

pub others-in_gap : (r new : Layout ℕ) (label size align : ℕ) (a : Addr) → IsPutInGap r new label size align a.0 → without_block (place_of a.0) new.blocks ≡ r.blocks
others-in_gap r new label size align a p =
    let terms : Terms = record { round = 32; grows = false } in
    others-alloc r label size a.0 new p.fresh terms align false (Answers-in_gap r new label size align a p terms)
