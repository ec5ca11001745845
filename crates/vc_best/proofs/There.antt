-- The block that is put, or that gets another size, stands at the address that is answered.
use Rattle.vc_base.proofs.Common.{◌≡◌, ℕ, true, false, cond, ◌≢◌, List, [], ◌∷◌, take, IfSome, IfOk, Some, None, Ok, Err, Option, Result, option_map, sym, refl, ap, ◌∙◌, subst, ⊎_elim, cases_Bool, address, place_of, without_block_at, zeros, Terms, Block, Layout, is_at, without_block, sized_block, HasBlock, change_block, find_block, rewritten_block, with_bytes_at}
use Rattle.vc_best.proofs.Common.{Addr, IsPutByAsking, IsPutInGap}
use Rattle.vc_base.proofs.Places.{at-place}
use Rattle.vc_model.proofs.Owned.{address-place_of}
use Rattle.vc_seg.specs.declared.fault.RegionFault.{RegionFault}
use Rattle.vc_best.proofs.Asking.{Answers-in_gap}
use Rattle.vc_best.proofs.ResizeAnswers.{new-found}

abbrev label_of : Option (Block ℕ) → Option ℕ
label_of o = option_map (λ b. b.label) o

-- a block that was put
pub there-asked : (terms : Terms) (result : Result Addr RegionFault) (r new : Layout ℕ) (label size align : ℕ) → IsPutByAsking terms result r new label size align →
    IfOk result (λ a. find_block (place_of a.0) new.blocks ≡ Some (zeros label size (place_of a.0)))
there-asked terms (Ok a) r new label size align p = new-found terms r label size align a.0 false new p.answer p.fresh
there-asked terms (Err e) r new label size align p = tt

pub there-in_gap : (r new : Layout ℕ) (label size align : ℕ) (a : Addr) → IsPutInGap r new label size align a.0 → find_block (place_of a.0) new.blocks ≡ Some (zeros label size (place_of a.0))
there-in_gap r new label size align a p =
    let terms : Terms = record { round = 32; grows = false } in
    new-found terms r label size align a.0 false new (Answers-in_gap r new label size align a p terms) p.fresh

-- a change that keeps the place and the label
changed : (f : Block ℕ → Block ℕ) → ((at : ℕ × ℕ) (b : Block ℕ) → is_at at (f b) ≡ is_at at b) → ((b : Block ℕ) → (f b).label ≡ b.label) → (at : ℕ × ℕ) (bs : List (Block ℕ)) →
    label_of (find_block at (change_block f at bs)) ≡ label_of (find_block at bs)
changed f same label at [] = refl
changed f same label at (b ∷ bs) =
    ⊎_elim
    (λ e. rw e (rw (same at b ∙ e) (ap Some (label b))))
    (λ e. rw e (rw e (changed f same label at bs)))
    (cases_Bool (is_at at b))

pub there-sized : (size : ℕ) (at : ℕ × ℕ) (bs : List (Block ℕ)) → label_of (find_block at (change_block (sized_block size) at bs)) ≡ label_of (find_block at bs)
there-sized size at bs = changed (sized_block size) (λ p b. refl) (λ b. refl) at bs

-- a block goes that stands elsewhere
find-without : (p q : ℕ × ℕ) → p ≢ q → (bs : List (Block ℕ)) → find_block q (without_block p bs) ≡ find_block q bs
find-without p q differ [] = refl
find-without p q differ (b ∷ bs) =
    ⊎_elim
    (λ (e : is_at p b ≡ true).
    ⊎_elim
    (λ (u : is_at q b ≡ true). absurd (differ (sym (at-place p b e) ∙ at-place q b u)))
    (λ (u : is_at q b ≡ false). rw e (rw u refl))
    (cases_Bool (is_at q b)))
    (λ (e : is_at p b ≡ false). rw e (ap (cond (is_at q b) (Some b)) (find-without p q differ bs)))
    (cases_Bool (is_at p b))

own-moved : (mid new : Layout ℕ) (a to : ℕ × ℕ) (size tag : ℕ) → a ≢ to → (o : Option (Block ℕ)) → label_of o ≡ Some tag → IfSome o (λ b. new ≡ without_block_at (with_bytes_at mid to 0 (take size b.bytes)) a) →
    label_of (find_block to mid.blocks) ≡ Some tag → label_of (find_block to new.blocks) ≡ Some tag
own-moved mid new a to size tag differ None label own there = absurd (cc)
own-moved mid new a to size tag differ (Some b) label own there =
    let src = take size b.bytes in
    ap (λ (r : Layout ℕ). label_of (find_block to r.blocks)) own
    ∙ (ap label_of (find-without a to differ (change_block (rewritten_block 0 src) to mid.blocks))
    ∙ (changed (rewritten_block 0 src) (λ p c. refl) (λ c. refl) to mid.blocks ∙ there))

-- a block that moved to where one was put
pub there-moved : (mid new old : Layout ℕ) (a to size tag : ℕ) → HasBlock old.blocks a → ¬ HasBlock old.blocks to → find_block (place_of a) mid.blocks ≡ find_block (place_of a) old.blocks → label_of (find_block (place_of a) old.blocks) ≡ Some tag →
    IfSome (find_block (place_of a) mid.blocks) (λ b. new ≡ without_block_at (with_bytes_at mid (place_of to) 0 (take size b.bytes)) (place_of a)) → find_block (place_of to) mid.blocks ≡ Some (zeros tag size (place_of to)) →
    label_of (find_block (place_of to) new.blocks) ≡ label_of (find_block (place_of a) old.blocks)
there-moved mid new old a to size tag live fresh same label own there =
    let differ : place_of a ≢ place_of to = λ e. fresh (subst (HasBlock old.blocks) (sym (address-place_of a) ∙ (ap address e ∙ address-place_of to)) live) in
    own-moved mid new (place_of a) (place_of to) size tag differ (find_block (place_of a) mid.blocks) (ap label_of same ∙ label) own (ap label_of there) ∙ sym label

-- a block that got another size where it is
pub size-sized : {X : Type 0} (f : Block ℕ → X) (x : X) (size : ℕ) (at : ℕ × ℕ) (bs : List (Block ℕ)) → option_map f (find_block at bs) ≡ Some x → option_map (λ b. b.size) (find_block at (change_block (sized_block size) at bs)) ≡ Some size
size-sized f x size at [] some = absurd (cc)
size-sized f x size at (b ∷ bs) some =
    ⊎_elim
    (λ (e : is_at at b ≡ true). rw e (rw e refl))
    (λ (e : is_at at b ≡ false). let rest : option_map f (find_block at bs) ≡ Some x = rw e at some in rw e (rw e (size-sized f x size at bs rest)))
    (cases_Bool (is_at at b))

-- other bytes leave the sizes
size-rewritten : (src : List ℕ) (at : ℕ × ℕ) (bs : List (Block ℕ)) → option_map (λ b. b.size) (find_block at (change_block (rewritten_block 0 src) at bs)) ≡ option_map (λ b. b.size) (find_block at bs)
size-rewritten src at [] = refl
size-rewritten src at (b ∷ bs) =
    ⊎_elim
    (λ (e : is_at at b ≡ true). rw e (rw e refl))
    (λ (e : is_at at b ≡ false). rw e (rw e (size-rewritten src at bs)))
    (cases_Bool (is_at at b))

size-gone : (mid new : Layout ℕ) (a to : ℕ × ℕ) (size tag : ℕ) → a ≢ to → (o : Option (Block ℕ)) → label_of o ≡ Some tag → IfSome o (λ b. new ≡ without_block_at (with_bytes_at mid to 0 (take size b.bytes)) a) →
    find_block to mid.blocks ≡ Some (zeros tag size to) → option_map (λ b. b.size) (find_block to new.blocks) ≡ Some size
size-gone mid new a to size tag differ None label own there = absurd (cc)
size-gone mid new a to size tag differ (Some b) label own there =
    let src = take size b.bytes in
    let sizes : Option (Block ℕ) → Option ℕ = λ o. option_map (λ c. c.size) o in
    ap (λ (r : Layout ℕ). sizes (find_block to r.blocks)) own
    ∙ (ap sizes (find-without a to differ (change_block (rewritten_block 0 src) to mid.blocks))
    ∙ (size-rewritten src to mid.blocks ∙ ap sizes there))

-- a block that moved to where one was put has the size of that one
pub size-moved : (mid new old : Layout ℕ) (a to size tag : ℕ) → HasBlock old.blocks a → ¬ HasBlock old.blocks to → find_block (place_of a) mid.blocks ≡ find_block (place_of a) old.blocks → label_of (find_block (place_of a) old.blocks) ≡ Some tag →
    IfSome (find_block (place_of a) mid.blocks) (λ b. new ≡ without_block_at (with_bytes_at mid (place_of to) 0 (take size b.bytes)) (place_of a)) → find_block (place_of to) mid.blocks ≡ Some (zeros tag size (place_of to)) →
    option_map (λ b. b.size) (find_block (place_of to) new.blocks) ≡ Some size
size-moved mid new old a to size tag live fresh same label own there =
    let differ : place_of a ≢ place_of to = λ e. fresh (subst (HasBlock old.blocks) (sym (address-place_of a) ∙ (ap address e ∙ address-place_of to)) live) in
    size-gone mid new (place_of a) (place_of to) size tag differ (find_block (place_of a) mid.blocks) (ap label_of same ∙ label) own there
