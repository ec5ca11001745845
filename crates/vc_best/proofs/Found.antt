-- The block at an address is that of the busy extent that it names.
use Rattle.vc_base.proofs.Common.{◌≡◌, ℕ, suc, ◌+◌, ◌-◌, ◌%◌, ◌<◌, ◌≤◌, Bool, true, false, ◌≢◌, List, [], ◌∷◌, map, length, get_or, Some, All, Option, AllPairs, find, sym, refl, ap, ◌∙◌, subst, ⊎_elim, arith, eq-eqb, ne_eqb, le_prop, ∥∥₁_elim, cases_Bool, All-append, All-cons, All-contains, All-head, All-map, All-nil, All-tail, get_or-map, length-map, none-some, same_Some, place_of, Block, address_of, is_at, HasBlock, find_block}
use Rattle.vc_best.proofs.Common.{AreExtents, Bytes, Extent, IsBusy, IsTiled, all_busy, block_of, busy_in, extent_in, extent_of, extents, extents_of, in_order, layout_by, tiling}
use Rattle.vc_gaps.proofs.Named.{extent_in-off}
use Rattle.vc_model.proofs.Pairs.{AllPairs-head, AllPairs-tail}
use Rattle.vc_seg.proofs.Blocks.{place_of-address}
use Rattle.vc_seg.proofs.InOrder.{All-in_order, find-with}
use Rattle.vc_best.proofs.Layouts.{blocks-busy, none-other, other_blocks, own-at}
use Rattle.vc_best.proofs.Lies.{Lies, lies-behind, lies-tiled, lies-within}
use Rattle.vc_best.proofs.Sets.{found-set}
use Rattle.vc_best.proofs.Tilings.{All-busy_in, all-lodged, other-seg}

-- of extents that lie so each is found by its offset
pub found-in : (stop at : ℕ) (es : List Extent) → (at + 16) % 32 ≡ 0 → Lies stop at es → All (λ e. extent_in e.off es ≡ e) es
found-in stop at [] m h = All-nil (λ (e : Extent). extent_in e.off [] ≡ e)
found-in stop at (e ∷ es) m h =
    let span = h.0.legal.multiple in
    let wide = h.0.legal.least in
    let ends = lies-behind stop at e es m h in
    let rest = found-in stop (at + e.span) es (omega (arith, m, span)) h.1 in
    All-cons (λ (x : Extent). extent_in x.off (e ∷ es) ≡ x) e es
    (rw (eq-eqb e.off e.off refl) refl)
    (λ k d lt.
    let x : Extent = get_or es k d in
    let low : e.off + e.span ≤ x.off = ends k d lt in
    rw (ne_eqb e.off x.off (λ same. omega (arith, same, low, wide))) (rest k d lt))

-- a block's address names a busy extent
pub record Shows (t : List (ℕ × List Extent)) (b : Block ℕ) : Type 0 where
  pub named : 0 < (extent_in b.off (extents_of b.seg t)).span
  pub busy : 0 < (extent_in b.off (extents_of b.seg t)).size

shows-there : (s : Bytes) (ss : List Bytes) (b : Block ℕ) → s.number ≢ b.seg → Shows (tiling ss) b → Shows (tiling (s ∷ ss)) b
shows-there s ss b other h = let e = ne_eqb s.number b.seg other in record { named = rw e h.named; busy = rw e h.busy }

shows-here : (s : Bytes) (ss : List Bytes) → IsTiled s.bytes → All (Shows (tiling (s ∷ ss))) (busy_in (s.number, extents s.bytes))
shows-here s ss tiled =
    let lies = lies-tiled s.bytes tiled in
    let own = eq-eqb s.number s.number refl in
    let stop : ℕ = length s.bytes - 16 in
    let found = found-in stop 16 (extents s.bytes) refl lies in
    let within = lies-within stop 16 (extents s.bytes) refl lies in
    All-busy_in (Shows (tiling (s ∷ ss))) s.number (extents s.bytes)
    (λ i d lt some.
    let least = (within i d lt).legal.least in
    record { named = rw (own, found i d lt) (omega arith); busy = rw (own, found i d lt) some })

all-shows : (segs : List Bytes) → AllPairs (λ (a b : Bytes). a.number ≢ b.number) segs → All (λ s. IsTiled s.bytes) segs → All (Shows (tiling segs)) (all_busy (tiling segs))
all-shows [] distinct tiled = All-nil (Shows [])
all-shows (s ∷ ss) distinct tiled =
    let R : Bytes → Bytes → Type 0 = λ a b. a.number ≢ b.number in
    let T : Bytes → Type 0 = λ x. IsTiled x.bytes in
    let others = other-seg s ss (AllPairs-head R s ss distinct) in
    let rest = all-shows ss (AllPairs-tail R s ss distinct) (All-tail T s ss tiled) in
    All-append (Shows (tiling (s ∷ ss))) (busy_in (s.number, extents s.bytes)) (all_busy (tiling ss))
    (shows-here s ss (All-head T s ss tiled))
    (λ i d lt. shows-there s ss (get_or (all_busy (tiling ss)) i d) (others i d lt) (rest i d lt))

-- what is found among these is one of them
contains-found : {A : Type 0} (p : A → Bool) (xs : List A) (x : A) → find p xs ≡ Some x → (k : ℕ) × (k < length xs) × (get_or xs k x ≡ x)
contains-found p [] x e = absurd (none-some x e)
contains-found {A = A} p (y ∷ ys) x e =
    ⊎_elim
    (λ (t : p y ≡ true). let s : Option A = Some y in let e' : s ≡ Some x = rw t at e in (0, omega arith, same_Some y x e'))
    (λ (t : p y ≡ false). let e' : find p ys ≡ Some x = rw t at e in let r = contains-found p ys x e' in (suc r.0, omega (arith, r.1), r.2))
    (cases_Bool (p y))

module _ (segs : List Bytes) (index : List ℕ) (a : ℕ) (k : ∥ AreExtents segs index ∥₁) where
  pub found-of : IsBusy (tiling segs) a → find_block (place_of a) (layout_by segs).blocks ≡ Some (block_of (place_of a).0 (extent_of (tiling segs) a))
  unfolding layout_by
  found-of h =
      ∥∥₁_elim k (hlevel (found-set)) (λ (j : AreExtents segs index).
      ap (find_block (place_of a)) (blocks-busy segs index j a h.named h.busy)
      ∙ find-with (place_of a) (block_of (place_of a).0 (extent_of (tiling segs) a)) (own-at segs index j a h.named) (other_blocks segs index j a h.named) (none-other segs index j a h.named))

  pub busy-of : HasBlock (layout_by segs).blocks a → IsBusy (tiling segs) a
  unfolding layout_by
  busy-of h =
      ∥∥₁_elim k (hlevel (le_prop)) (λ (j : AreExtents segs index).
      let bs : List (Block ℕ) = all_busy (tiling segs) in
      let lodged = all-lodged segs j.segments.legal j.tiled in
      let shows = all-shows segs j.segments.distinct j.tiled in
      let each : All (λ b. IsBusy (tiling segs) (address_of b)) bs =
      λ i d lt.
      let b : Block ℕ = get_or bs i d in
      let l = lodged i d lt in
      let s = shows i d lt in
      let N : ℕ × ℕ → Type 0 = λ p. 0 < (extent_in p.1 (extents_of p.0 (tiling segs))).span in
      let B : ℕ × ℕ → Type 0 = λ p. 0 < (extent_in p.1 (extents_of p.0 (tiling segs))).size in
      let place = sym (place_of-address b.seg b.off l.below l.multiple) in
      record { named = subst N place s.named; busy = subst B place s.busy } in
      All-contains (IsBusy (tiling segs)) (map address_of (in_order bs)) a
      (All-map (IsBusy (tiling segs)) address_of (in_order bs) (All-in_order (λ b. IsBusy (tiling segs) (address_of b)) bs each)) h)

  pub has-of : IsBusy (tiling segs) a → HasBlock (layout_by segs).blocks a
  has-of h =
      let e : Extent = extent_of (tiling segs) a in
      let b : Block ℕ = block_of (place_of a).0 e in
      let bs : List (Block ℕ) = (layout_by segs).blocks in
      let r = contains-found (is_at (place_of a)) bs b (found-of h) in
      let off : e.off ≡ (place_of a).1 = extent_in-off (place_of a).1 (extents_of (place_of a).0 (tiling segs)) in
      let own : address_of b ≡ a = rw off (omega arith) in
      (r.0, omega (arith, r.1, length-map bs address_of), get_or-map address_of bs r.0 b a r.1 ∙ (ap address_of r.2 ∙ own))
