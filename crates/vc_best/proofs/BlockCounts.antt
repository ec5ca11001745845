-- How many blocks there are after a call.
use Rattle.vc_base.proofs.Common.{◌≡◌, ℕ, ◌+◌, true, false, List, [], ◌∷◌, length, refl, ap, ◌∙◌, ⊎_elim, arith, ∥∥₁_elim, ℕ_set, cases_Bool, place_of, without_block_at, zeros, Block, Layout, is_at, resize_there, sized_block, HasBlock, change_block, rewritten_block, with_bytes_at}
use Rattle.vc_best.proofs.Common.{AreExtents, Bytes, layout_by}
use Rattle.vc_seg.specs.Put.{with_zeros}
use Rattle.vc_best.proofs.Counting.{with-length}
use Rattle.vc_best.proofs.Held.{AreMost}
use Rattle.vc_best.proofs.Stands.{one-less}
use Rattle.vc_best.proofs.Tilings.{heads-of}

-- one more where one is put
pub put-count : (r s : Layout ℕ) (tag size : ℕ) (at : ℕ × ℕ) → s ≡ with_zeros r tag size at → length s.blocks ≡ length r.blocks + 1
put-count r s tag size at e = let one = with-length (zeros tag size at) r.blocks in ap (λ (l : Layout ℕ). length l.blocks) e ∙ omega (arith, one)

-- as many where one is changed
changed : (f : Block ℕ → Block ℕ) (at : ℕ × ℕ) (bs : List (Block ℕ)) → length (change_block f at bs) ≡ length bs
changed f at [] = refl
changed f at (b ∷ bs) =
    ⊎_elim
    (λ (t : is_at at b ≡ true). rw t refl)
    (λ (t : is_at at b ≡ false). rw t (let rest = changed f at bs in omega (arith, rest)))
    (cases_Bool (is_at at b))

pub written-count : (r s : Layout ℕ) (at : ℕ × ℕ) (off : ℕ) (src : List ℕ) → s ≡ with_bytes_at r at off src → length s.blocks ≡ length r.blocks
written-count r s at off src e = ap (λ (l : Layout ℕ). length l.blocks) e ∙ changed (rewritten_block off src) at r.blocks

pub sized-count : (r s : Layout ℕ) (at : ℕ × ℕ) (size : ℕ) → s ≡ resize_there r at size → length s.blocks ≡ length r.blocks
sized-count r s at size e = ap (λ (l : Layout ℕ). length l.blocks) e ∙ changed (sized_block size) at r.blocks

-- one less where one is freed
pub freed-count : (segs : List Bytes) (index : List ℕ) → ∥ AreExtents segs index ∥₁ → (a : ℕ) (s : Layout ℕ) → HasBlock (layout_by segs).blocks a → AreMost (layout_by segs).blocks → s ≡ without_block_at (layout_by segs) (place_of a)
    → length s.blocks + 1 ≡ length (layout_by segs).blocks
freed-count segs index k a s live most e =
    ap (λ (l : Layout ℕ). length l.blocks + 1) e ∙ ∥∥₁_elim k (hlevel (ℕ_set)) (λ h. one-less (layout_by segs) a (heads-of segs index h most) live)
