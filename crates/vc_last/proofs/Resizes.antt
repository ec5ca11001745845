-- What resizing the latest block answers, and makes of the others.
use Rattle.vc_base.proofs.Common.{◌≡◌, ℕ, Bool, true, false, List, [], ◌∷◌, ◌++◌, take, IfSome, Some, Option, option_map, sym, refl, ap, ◌∙◌, subst, same_Some, place_of, without_block_at, zeros, Terms, can_end, last_alloc, last_resize, latest, resize_latest, Block, Layout, is_at, without_block, Outcome, Put, outcome_of_move, HasBlock, change_block, find_block, rewritten_block, with_bytes_at}
use Rattle.vc_base.proofs.Places.{at-place}
use Rattle.vc_seg.specs.Answer.{IsPut}
use Rattle.vc_seg.proofs.Resizes.{moved-put}
use Rattle.vc_last.proofs.Allocs.{IsNew, new-elsewhere}
use Rattle.vc_last.proofs.Latest.{AreElsewhere, IsLatestAt, at-own, call-latest, change-last, find-before, find-last, without-last, without-latest}
use Rattle.vc_last.proofs.Lists.{All-front}

module _ (r : Layout ℕ) (at : ℕ × ℕ) (l : IsLatestAt r at) where
  pub found-latest : find_block at r.blocks ≡ Some l.block
  found-latest = ap (find_block at) l.split ∙ find-last at l.block l.here l.front l.elsewhere

  pub can_end-latest : (size : ℕ) (can : Bool) → option_map (can_end r size) (latest r) ≡ Some can → can_end r size l.block ≡ can
  can_end-latest size can e = same_Some (can_end r size l.block) can (sym (ap (option_map (can_end r size)) l.is) ∙ e)

  pub there-latest : (size : ℕ) (can : Bool) → option_map (can_end r size) (latest r) ≡ Some can → IfSome (find_block at r.blocks) (λ b. (latest r ≡ Some b) × (can_end r size b ≡ can))
  there-latest size can e = subst (λ (o : Option (Block ℕ)). IfSome o (λ b. (latest r ≡ Some b) × (can_end r size b ≡ can))) (sym found-latest) (l.is, can_end-latest size can e)

-- it moves to where a block was put
module _ (r mid new : Layout ℕ) (a to tag size : ℕ) (l : IsLatestAt r (place_of a)) (n : IsNew r tag size to mid) (fresh : ¬ HasBlock r.blocks to) where
  both : mid.blocks ≡ (l.front ++ l.block ∷ []) ++ zeros tag size (place_of to) ∷ []
  both = n.blocks ∙ ap (λ (bs : List (Block ℕ)). bs ++ zeros tag size (place_of to) ∷ []) l.split

  pub found-before : find_block (place_of a) mid.blocks ≡ Some l.block
  found-before = ap (find_block (place_of a)) both ∙ find-before (place_of a) l.block l.here l.front (zeros tag size (place_of to) ∷ []) l.elsewhere

  -- the block that was put, and what is written into it
  abbrev z : Block ℕ
  z = zeros tag size (place_of to)

  abbrev f : Block ℕ → Block ℕ
  f = rewritten_block 0 (take size l.block.bytes)

  module _ (own : IfSome (find_block (place_of a) mid.blocks) (λ b. new ≡ without_block_at (with_bytes_at mid (place_of to) 0 (take size b.bytes)) (place_of a))) where
    pub moved-is : new ≡ without_block_at (with_bytes_at mid (place_of to) 0 (take size l.block.bytes)) (place_of a)
    moved-is = subst (λ (o : Option (Block ℕ)). IfSome o (λ b. new ≡ without_block_at (with_bytes_at mid (place_of to) 0 (take size b.bytes)) (place_of a))) found-before own

    moved-blocks : new.blocks ≡ l.front ++ rewritten_block 0 (take size l.block.bytes) (zeros tag size (place_of to)) ∷ []
    moved-blocks =
        let written : change_block f (place_of to) mid.blocks ≡ r.blocks ++ f z ∷ [] = ap (change_block f (place_of to)) n.blocks ∙ change-last (place_of to) z (at-own (place_of to) z refl) f r.blocks (new-elsewhere r tag size to mid n fresh) in
        ap (λ (q : Layout ℕ). q.blocks) moved-is
        ∙ (ap (without_block (place_of a)) (written ∙ ap (λ (bs : List (Block ℕ)). bs ++ f z ∷ []) l.split)
        ∙ without-last (place_of a) l.block l.here l.front (f z ∷ []) l.elsewhere)

    front-elsewhere : AreElsewhere (place_of to) l.front
    front-elsewhere = All-front (λ (c : Block ℕ). is_at (place_of to) c ≡ false) l.front l.block (subst (AreElsewhere (place_of to)) l.split (new-elsewhere r tag size to mid n fresh))

    pub moved-others : without_block (place_of to) new.blocks ≡ without_block (place_of a) r.blocks
    moved-others =
        ap (without_block (place_of to)) moved-blocks
        ∙ (without-latest (place_of to) (f z) (at-own (place_of to) z refl) l.front front-elsewhere
        ∙ sym (ap (without_block (place_of a)) l.split ∙ without-latest (place_of a) l.block l.here l.front l.elsewhere))

    pub moved-there : option_map (λ b. b.label) (find_block (place_of a) r.blocks) ≡ Some tag → option_map (λ b. b.label) (find_block (place_of to) new.blocks) ≡ option_map (λ b. b.label) (find_block (place_of a) r.blocks)
    moved-there label =
        ap (λ (bs : List (Block ℕ)). option_map (λ b. b.label) (find_block (place_of to) bs)) moved-blocks
        ∙ (ap (option_map (λ (b : Block ℕ). b.label)) (find-last (place_of to) (f z) (at-own (place_of to) z refl) l.front front-elsewhere)
        ∙ sym label)

pub resize-moves : (terms : Terms) (r mid new : Layout ℕ) (a to tag size : ℕ) (l : IsLatestAt r (place_of a)) → can_end r size l.block ≡ false → option_map (λ b. b.label) (find_block (place_of a) r.blocks) ≡ Some tag → IsPut (last_alloc terms r tag size false) to mid →
    new ≡ without_block_at (with_bytes_at mid (place_of to) 0 (take size l.block.bytes)) (place_of a) → IsPut (last_resize terms r (place_of a) size true false) to new
resize-moves terms r mid new a to tag size l can label placed is =
    let own : Some l.block.label ≡ Some tag = sym (ap (option_map (λ (b : Block ℕ). b.label)) (found-latest r (place_of a) l)) ∙ label in
    let same : tag ≡ l.block.label = sym (same_Some l.block.label tag own) in
    let put : IsPut (last_alloc terms r l.block.label size false) to mid = subst (λ (k : ℕ). IsPut (last_alloc terms r k size false) to mid) same placed in
    let to_new = moved-put size to l.block (last_alloc terms r l.block.label size false) mid new put (is ∙ ap (without_block_at (with_bytes_at mid (place_of to) 0 (take size l.block.bytes))) (sym (at-place (place_of a) l.block l.here))) in
    let call : resize_latest terms r size true false l.block ≡ outcome_of_move size l.block (last_alloc terms r l.block.label size false) = rw can refl in
    subst (λ (o : Outcome (Put (Layout ℕ))). IsPut o to new) (sym (call-latest r (place_of a) (resize_latest terms r size true false) l ∙ call)) to_new
