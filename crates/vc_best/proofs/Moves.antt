-- A block whose bytes go to another, and that is freed then.
use Rattle.vc_base.proofs.Common.{◌≡◌, ℕ, ◌≤◌, true, false, ◌⊎◌, List, [], ◌∷◌, map, length, take, IfSome, Contains, Option, sym, refl, ap, ◌∙◌, subst, ⊎_elim, arith, take_all, ∥∥₁_elim, ℕ_set, cases_Bool, place_of, without_block_at, with_bytes, Block, Layout, address_of, is_at, HasBlock, change_block, find_block, rewritten_block, with_bytes_at}
use Rattle.vc_best.proofs.Common.{AreExtents, Bytes, IsBusy, IsMerged, busy_extent, change_extent, extent_of, layout_by, pair_of, tiling, write}
use Rattle.vc_best.proofs.Found.{busy-of, found-of, has-of}
use Rattle.vc_best.proofs.Held.{layout-written}
use Rattle.vc_best.proofs.Known.{cut-of}
use Rattle.vc_best.proofs.Merges.{merged-one}
use Rattle.vc_best.proofs.Sets.{merged-prop}

addresses-written : (off : ℕ) (src : List ℕ) (at : ℕ × ℕ) (bs : List (Block ℕ)) → map address_of (change_block (rewritten_block off src) at bs) ≡ map address_of bs
addresses-written off src at [] = refl
addresses-written off src at (b ∷ bs) =
    ⊎_elim
    (λ (t : is_at at b ≡ true). rw t refl)
    (λ (t : is_at at b ≡ false). rw t (ap (λ ns. address_of b ∷ ns) (addresses-written off src at bs)))
    (cases_Bool (is_at at b))

-- blocks stand where they stood when bytes are put into one
has-written : (r s : Layout ℕ) (at : ℕ × ℕ) (off : ℕ) (src : List ℕ) (a : ℕ) → s ≡ with_bytes_at r at off src → HasBlock r.blocks a → HasBlock s.blocks a
has-written r s at off src a e h =
    subst (λ (l : Layout ℕ). HasBlock l.blocks a) (sym e) (subst (λ (ns : List ℕ). Contains ns a) (sym (addresses-written off src at r.blocks)) h)

pub body-long : (segs : List Bytes) (index : List ℕ) (a : ℕ) → ∥ AreExtents segs index ∥₁ → IsBusy (tiling segs) a → length (extent_of (tiling segs) a).body ≡ (extent_of (tiling segs) a).size
body-long segs index a k busy = ∥∥₁_elim k (hlevel (ℕ_set)) (λ h. (cut-of segs index a h busy.named).cut.here.0.bytes)

-- as many bytes as both have
pub take-both : (len own size : ℕ) (xs : List ℕ) → length xs ≡ own → ((len ≡ own) × (own ≤ size)) ⊎ (len ≡ size) → take len xs ≡ take size xs
take-both len own size xs long h =
    ⊎_elim
    (λ u. let le = u.1 in take_all len xs (omega (arith, long, u.0)) ∙ sym (take_all size xs (omega (arith, long, le))))
    (λ u. ap (λ (n : ℕ). take n xs) u)
    h

module _ (old mid : List Bytes) (i j : List ℕ) (a to : ℕ) (src : List ℕ) (k : ∥ AreExtents old i ∥₁) (l : ∥ AreExtents mid j ∥₁) (busy : IsBusy (tiling old) a) (other : IsBusy (tiling old) to)
    (is : tiling mid ≡ change_extent to (write 0 src) (tiling old)) (pairs : map pair_of mid ≡ map pair_of old) where
  pub copied-layout : layout_by mid ≡ with_bytes_at (layout_by old) (place_of to) 0 src
  copied-layout = layout-written old mid i j to 0 src k l other is pairs

  pub copied-busy : IsBusy (tiling mid) a
  copied-busy = busy-of mid j a l (has-written (layout_by old) (layout_by mid) (place_of to) 0 src a copied-layout (has-of old i a k busy))

  pub copied-merged : IsMerged (tiling old) → IsMerged (tiling mid)
  copied-merged m =
      let x = extent_of (tiling old) to in
      subst IsMerged (sym is)
      (∥∥₁_elim k (merged-prop _)
      (λ h. merged-one (tiling old) to (write 0 src) (busy_extent x.off x.span x.size x.tag (with_bytes 0 src x.body)) (cut-of old i to h other.named) refl refl m))

  pub taken-over : (new : Layout ℕ) (size : ℕ) → new ≡ without_block_at (layout_by mid) (place_of a) → src ≡ take size (extent_of (tiling old) a).body →
      IfSome (find_block (place_of a) (layout_by old).blocks) (λ b. new ≡ without_block_at (with_bytes_at (layout_by old) (place_of to) 0 (take size b.bytes)) (place_of a))
  taken-over new size e same =
      subst (λ (o : Option (Block ℕ)). IfSome o (λ b. new ≡ without_block_at (with_bytes_at (layout_by old) (place_of to) 0 (take size b.bytes)) (place_of a)))
      (sym (found-of old i a k busy))
      (e ∙ ap (λ (r : Layout ℕ). without_block_at r (place_of a)) (copied-layout ∙ ap (λ (bs : List ℕ). with_bytes_at (layout_by old) (place_of to) 0 bs) same))
