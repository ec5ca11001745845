-- The tree of gaps where a block is freed and becomes one with the free extents beside it.
use Rattle.vc_base.proofs.Common.{◌≡◌, ℕ, ◌+◌, ◌-◌, ◌<◌, List, [], ◌∷◌, ◌++◌, Some, sym, refl, ap, ◌∙◌, subst, arith, le_prop, ∥∥₁_elim, ℕ_set, address, place_of}
use Rattle.vc_best.proofs.Common.{AreExtents, Bytes, Extent, GapsChange, HasGapsBy, IsBusy, IsFree, Tiling, behind_of, change_extent, extent_of, free_extent, free_name, free_next, join, mark_free, next_of, no_links, tiling}
use Rattle.vc_splay.specs.Tree.{Tree}
use Rattle.vc_gaps.proofs.Joined.{first-cons, gaps-joined}
use Rattle.vc_gaps.proofs.Marked.{gaps-freed}
use Rattle.vc_gaps.proofs.Named.{extent_of-here, own-off}
use Rattle.vc_best.proofs.Known.{cut-of}
use Rattle.vc_best.proofs.Lies.{Lies}
use Rattle.vc_best.proofs.Nexts.{next-off}
use Rattle.vc_best.proofs.Outs.{inside-not}
use Rattle.vc_best.proofs.FreeBlocks.{busy-free}

-- nothing free is behind it
pub gaps-unjoined : (t : Tiling) (a : ℕ) → free_next t a ≡ [] → GapsChange t t (a ∷ free_next t a) (a ∷ [])
gaps-unjoined t a none u root out h = subst (λ ns. HasGapsBy u t root (a ∷ (ns ++ out))) none h

-- two free extents become one
module _ (old new : List Bytes) (i j : List ℕ) (k : ∥ AreExtents old i ∥₁) (l : ∥ AreExtents new j ∥₁) (a : ℕ) (y : Extent) (free : IsFree (tiling old) a) (is : tiling new ≡ change_extent a join (tiling old))
    (next : next_of (tiling old) a ≡ Some y) where
  abbrev whole : Extent
  whole = free_extent (extent_of (tiling old) a).off ((extent_of (tiling old) a).span + y.span) no_links

  joined-extent : extent_of (tiling new) a ≡ whole
  joined-extent =
      let c = first-cons (behind_of (tiling old) a) y next in
      extent_of-here (tiling old) (tiling new) a join is whole c.0 free.named (own-off (tiling old) (tiling new) a join is) (ap (join (extent_of (tiling old) a)) c.1)

  joined-span : (extent_of (tiling new) a).span ≡ (extent_of (tiling old) a).span + y.span
  joined-span = ap (λ (x : Extent). x.span) joined-extent

  pub joined-free : IsFree (tiling new) a
  joined-free =
      record { named = omega (arith, joined-span, free.named); free = ap (λ (x : Extent). x.size) joined-extent }

  wide : 0 < y.span
  wide =
      ∥∥₁_elim k le_prop
      (λ h.
      let c = cut-of old i a h free.named in
      let f = first-cons (behind_of (tiling old) a) y next in
      let ls : Lies (c.size - 16) ((place_of a).1 - 16) (extent_of (tiling old) a ∷ y ∷ f.0) = subst (λ (ys : List Extent). Lies (c.size - 16) ((place_of a).1 - 16) (extent_of (tiling old) a ∷ ys)) f.1 c.cut.here in
      let least = ls.1.0.legal.least in
      omega arith)

  second-off : y.off ≡ (place_of a).1 + (extent_of (tiling old) a).span
  second-off = ∥∥₁_elim k (hlevel (ℕ_set)) (λ h. next-off (tiling old) a (address ((place_of a).0, y.off)) y (cut-of old i a h free.named) next refl)

  pub gaps-joined_next : y.size ≡ 0 → GapsChange (tiling old) (tiling new) (a ∷ free_next (tiling old) a) (a ∷ [])
  gaps-joined_next none u root out h =
      let b : ℕ = address ((place_of a).0, y.off) in
      let o = second-off in
      let s = joined-span in
      let w = wide in
      let name : free_next (tiling old) a ≡ b ∷ [] = ap (free_name (place_of a).0) next ∙ rw (busy-free y none) refl in
      let multiple = ∥∥₁_elim k (hlevel (ℕ_set)) (λ h. (cut-of old i a h free.named).cut.here.0.legal.multiple) in
      gaps-joined (tiling old) (tiling new) root a b y out is next refl
      (inside-not new j l a joined-free.named b y.off refl (omega (arith, free.named)) (omega (arith, free.named)) (omega (arith, free.named)))
      (subst (λ ns. HasGapsBy u (tiling old) root (a ∷ (ns ++ out))) name h)

-- a block becomes free, and takes the free extent behind it
module _ (t t1 t2 : Tiling) (a : ℕ) (is1 : t1 ≡ change_extent a mark_free t) (busy : IsBusy t a) (same : free_next t1 a ≡ free_next t a) (g2 : GapsChange t1 t2 (a ∷ free_next t1 a) (a ∷ [])) where
  pub marked : {u : Tree} (root : ℕ) (out : List ℕ) → HasGapsBy u t root (free_next t a ++ out) → HasGapsBy u t1 root (a ∷ (free_next t1 a ++ out))
  marked {u = u} root out h = subst (λ ns. HasGapsBy u t1 root (a ∷ (ns ++ out))) (sym same) (gaps-freed t t1 root a (free_next t a ++ out) is1 busy h)
