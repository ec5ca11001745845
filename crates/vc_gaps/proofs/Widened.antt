-- A tree of gaps where a segment gets a free extent more behind the others.
use Rattle.vc_base.proofs.Common.{◌≡◌, ℕ, ◌+◌, ◌-◌, ◌*◌, ◌/◌, ◌%◌, ◌<◌, ◌≤◌, false, cond, ◌&&◌, eq-eqb, eqb, ltb, ◌≢◌, List, [], ◌∷◌, map, length, get_or, sym, refl, ap, ◌∙◌, subst, arith, ne_eqb, ∥∥₁_elim, ℕ_set, address, place_of}
use Rattle.vc_base.proofs.Members.{within-head}
use Rattle.vc_splay.specs.Tree.{Tree}
use Rattle.vc_extent.specs.Change.{widen}
use Rattle.vc_extent.specs.Tiles.{IsTiled, Tiles}
use Rattle.vc_extent.specs.Tiling.{size_in}
use Rattle.vc_extent.proofs.Places.{Found, found}
use Rattle.vc_extent.proofs.Tiled.{off-at, tiles-lt}
use Rattle.vc_extent.proofs.Widens.{size-in}
use Rattle.vc_gaps.proofs.Added.{gaps-one}
use Rattle.vc_gaps.proofs.Common.{AreExtents, Bytes, Extent, HasGaps, HasGapsBy, IsFree, IsThere, Tiling, change_in, extent_in, extent_of, extents_of, extents, free_extent, is_free, no_links, pair_of, tiling}
use Rattle.vc_gaps.proofs.GapTrees.{gaps-own}
use Rattle.vc_gaps.proofs.Marked.{contains-there, none-of, out-of}
use Rattle.vc_gaps.proofs.Named.{extents_of-other, extents_of-there}

-- what another offset names stays
extent_in-widened : (to off more : ℕ) (es : List Extent) → to ≢ off → extent_in to (widen off more es) ≡ extent_in to es
extent_in-widened to off more [] ne = ap (λ z. cond z (free_extent off more no_links) (free_extent to 0 no_links)) (ne_eqb off to (λ z. ne (sym z)))
extent_in-widened to off more (e ∷ es) ne = ap (cond (eqb e.off to) e) (extent_in-widened to off more es ne)

-- the size of a segment names none of its extents, and then the one that it gets
record IsEnd (off more : ℕ) (es : List Extent) : Type 0 where
  none : (extent_in off es).span ≡ 0
  span : (extent_in off (widen off more es)).span ≡ more
  free : (extent_in off (widen off more es)).size ≡ 0

end-of : (b : List ℕ) (stop p at off more : ℕ) (es : List Extent) → Tiles b stop p at es → stop + 16 ≤ off → IsEnd off more es
end-of b stop p at off more [] h le = let here : extent_in off (widen off more []) ≡ free_extent off more no_links = rw (eq-eqb off off refl) refl in record { none = refl; span = ap (λ (x : Extent). x.span) here; free = ap (λ (x : Extent). x.size) here }
end-of b stop p at off more (e ∷ es) h le =
    let o : e.off ≡ at + 16 = ap (λ (x : Extent). x.off) h.0.extent ∙ off-at at b in
    let least = h.0.legal.least in
    let within = tiles-lt b stop p at e es h in
    let other : eqb e.off off ≡ false = ne_eqb e.off off (λ q. omega arith) in
    let rest : IsEnd off more es = end-of b stop e.span (at + e.span) off more es h.1 le in
    record { none = rw other rest.none; span = rw other rest.span; free = rw other rest.free }

-- what is so of the size of a segment that is there
record IsSizeOf (segs : List Bytes) (n more : ℕ) : Type 0 where
  multiple : size_in n (map pair_of segs) % 32 ≡ 0
  end : IsEnd (size_in n (map pair_of segs)) more (extents_of n (tiling segs))

size-of : (segs : List Bytes) (index : List ℕ) (n more : ℕ) → AreExtents segs index → IsThere n segs → IsSizeOf segs n more
size-of segs index n more k there =
    let f : Found 0 n segs = found 0 n segs there in
    let none : Bytes = record { number = 0; bytes = [] } in
    let s : Bytes = get_or segs f.i none in
    let t : IsTiled s.bytes = k.tiled f.i none f.place.within in
    let size : size_in n (map pair_of segs) ≡ length s.bytes = size-in n f.i segs none f.place in
    let least = t.size.least in
    record {
      multiple = subst (λ (b : ℕ). b % 32 ≡ 0) (sym size) t.size.multiple;
      end = subst (IsEnd (size_in n (map pair_of segs)) more) (f.place.extents none) (end-of s.bytes (length s.bytes - 16) 0 16 (size_in n (map pair_of segs)) more (extents s.bytes) t.tiles (omega arith));
    }

module _ (segs : List Bytes) (index : List ℕ) (new : Tiling) (n more : ℕ) (kept : ∥ AreExtents segs index ∥₁) (there : IsThere n segs) (below : size_in n (map pair_of segs) < 33554432)
    (is : new ≡ change_in n (widen (size_in n (map pair_of segs)) more) (tiling segs)) where
  abbrev size : ℕ
  size = size_in n (map pair_of segs)

  multiple : size % 32 ≡ 0
  multiple = ∥∥₁_elim kept (hlevel (ℕ_set)) (λ k. (size-of segs index n more k there).multiple)

  pub place-widened : place_of (address (n, size)) ≡ (n, size)
  place-widened =
      let seg : (n * 1048576 + size / 32) / 1048576 ≡ n = omega (arith, below) in
      let off : (n * 1048576 + size / 32) % 1048576 * 32 ≡ size = omega (arith, below, multiple) in
      λ i. (seg i, off i)

  -- its extents then, of which none was named by its size before
  pub own-widened : extents_of n new ≡ widen size more (extents_of n (tiling segs))
  own-widened = ap (extents_of n) is ∙ extents_of-there n (widen size more) segs there

  pub none-widened : (extent_in (size_in n (map pair_of segs)) (extents_of n (tiling segs))).span ≡ 0
  none-widened = ∥∥₁_elim kept (hlevel (ℕ_set)) (λ k. (size-of segs index n more k there).end.none)

  named : (t : Tiling) → extent_of t (address (n, size)) ≡ extent_in size (extents_of n t)
  named t = ap (λ (q : ℕ × ℕ). extent_in q.1 (extents_of q.0 t)) place-widened

  not-free : is_free (tiling segs) (address (n, size)) ≡ false
  not-free = ap (λ k. ltb 0 k && eqb (extent_of (tiling segs) (address (n, size))).size 0) (ap (λ (x : Extent). x.span) (named (tiling segs)) ∙ none-widened)

  -- it is out of the tree
  pub gaps-widened_by : {u : Tree} (root : ℕ) (out : List ℕ) → HasGapsBy u (tiling segs) root out → HasGapsBy u new root (address (n, size) ∷ out)
  gaps-widened_by root out h =
      let a : ℕ = address (n, size) in
      gaps-one (tiling segs) new n size multiple
      (λ m ne. ap (extents_of m) is ∙ extents_of-other n m (widen size more) (tiling segs) ne)
      (λ to ne. ap (extent_in to) own-widened ∙ extent_in-widened to size more (extents_of n (tiling segs)) ne)
      root out (a ∷ out)
      (λ b ne. contains-there a b out ne)
      (none-of (tiling segs) a out not-free)
      (out-of new a (a ∷ out) (within-head a out))
      h

  pub gaps-widened : (root : ℕ) (out : List ℕ) → HasGaps (tiling segs) root out → HasGaps new root (address (n, size) ∷ out)
  gaps-widened root out h = (gaps-widened_by root out (gaps-own (tiling segs) root out h)).gaps

  -- and free, with its bytes
  pub span-widened : (extent_of new (address (n, size))).span ≡ more
  span-widened =
      ap (λ (x : Extent). x.span) (named new ∙ ap (extent_in size) own-widened) ∙ ∥∥₁_elim kept (hlevel (ℕ_set)) (λ k. (size-of segs index n more k there).end.span)

  pub free-widened : 0 < more → IsFree new (address (n, size))
  free-widened some =
      record {
        named = subst (λ (k : ℕ). 0 < k) (sym span-widened) some;
        free = ap (λ (x : Extent). x.size) (named new ∙ ap (extent_in size) own-widened) ∙ ∥∥₁_elim kept (hlevel (ℕ_set)) (λ k. (size-of segs index n more k there).end.free);
      }
