-- The first block from an address on, and the block that holds a byte.
use Rattle.vc_base.proofs.Common.{◌≡◌, ℕ, zero, suc, ◌+◌, ◌-◌, ◌%◌, ◌<◌, ◌≤◌, Bool, true, false, ◌&&◌, eqb, ltb, leb, ◌≢◌, List, [], ◌∷◌, ◌++◌, length, get_or, IfSome, Some, None, All, filter, Option, option_map, AllPairs, find, sym, refl, ap, ◌∙◌, subst, ⊎_elim, arith, ltb-true, le-ltb, lt-ltb, le_prop, ∥∥₁_elim, ℕ_set, and_left, cases_Bool, cases_lt, All-append, All-cons, All-head, All-nil, All-tail, All-weaker, get_or-map, length-map, address, place_of, Block, address_of, HasBlock, holds_byte, next_block}
use Rattle.vc_best.proofs.Common.{Addr, AreExtents, Bytes, Extent, IsBusy, IsFirst, IsNamed, all_busy, behind_of, block_of, busy_in, extent_of, extents_of, in_order, layout_by, next_of, tiling}
use Rattle.vc_gaps.proofs.Joined.{first-cons}
use mathlib.Core.Sum.{⊎_set}
use Rattle.vc_base.proofs.Places.{span-least}
use Rattle.vc_model.proofs.Pairs.{AllPairs-head, AllPairs-tail}
use Rattle.vc_seg.proofs.InOrder.{All-in_order}
use Rattle.vc_best.proofs.Apart.{Before, order-before}
use Rattle.vc_best.proofs.Found.{has-of}
use Rattle.vc_best.proofs.Frees.{own-blocks}
use Rattle.vc_best.proofs.Known.{IsCut, cut-of, off-of}
use Rattle.vc_best.proofs.Lies.{Ends, Lies, lies-behind}
use Rattle.vc_best.proofs.Nexts.{next-above, next-seg, no-address, none-first, some-address}
use Rattle.vc_best.proofs.Ordered.{Less, least_above-first}
use Rattle.vc_best.proofs.Parts.{busy-append, busy-none}
use Rattle.vc_best.proofs.Sets.{found-set}
use Rattle.vc_best.proofs.Tilings.{All-busy_in, all-apart, all-lodged}

-- what is found by a test that only blocks of one segment pass
find-own : (p : Block ℕ → Bool) (n : ℕ) → ((b : Block ℕ) → eqb b.seg n ≡ false → p b ≡ false) → (bs : List (Block ℕ)) → find p bs ≡ find p (filter (λ b. eqb b.seg n) bs)
find-own p n only [] = refl
find-own p n only (b ∷ bs) =
    ⊎_elim
    (λ (t : eqb b.seg n ≡ true).
    ⊎_elim
    (λ (u : p b ≡ true). rw (t, u) refl)
    (λ (u : p b ≡ false). rw (t, u) (find-own p n only bs))
    (cases_Bool (p b)))
    (λ (t : eqb b.seg n ≡ false). rw (only b t) (rw t (find-own p n only bs)))
    (cases_Bool (eqb b.seg n))

-- the first of ascending keys above a number is the least
module _ {A : Type 0} (key : A → ℕ) (after a : ℕ) where
  find-least : (xs : List A) → AllPairs (Less key) xs → (k : ℕ) → k < length xs → ((d : A) → key (get_or xs k d) ≡ a) → after < a → All (λ x. after < key x → a ≤ key x) xs → option_map key (find (λ x. ltb after (key x)) xs) ≡ Some a
  find-least [] h k lt at above least = absurd (omega (arith, lt))
  find-least (x ∷ xs) h zero lt at above least = rw (at x) (rw (lt-ltb after a above) (ap Some (at x)))
  find-least (x ∷ xs) h (suc k) lt at above least =
      let Q : A → Type 0 = λ y. after < key y → a ≤ key y in
      let within : k < length xs = omega (arith, lt) in
      ⊎_elim
      (λ (t : ltb after (key x) ≡ true).
      let le = All-head Q x xs least (ltb-true after (key x) t) in
      let low : key x < key (get_or xs k x) = AllPairs-head (Less key) x xs h k x within in
      let same = at x in
      absurd (omega (arith, le, low, same)))
      (λ (t : ltb after (key x) ≡ false). rw t (find-least xs (AllPairs-tail (Less key) x xs h) k within at above (All-tail Q x xs least)))
      (cases_Bool (ltb after (key x)))

  find-none : (xs : List A) → All (λ x. key x < after + 1) xs → find (λ x. ltb after (key x)) xs ≡ None
  find-none [] h = refl
  find-none (x ∷ xs) h =
      let Q : A → Type 0 = λ y. key y < after + 1 in
      let low = All-head Q x xs h in
      rw (le-ltb after (key x) (omega (arith, low))) (find-none xs (All-tail Q x xs h))

-- blocks in order have ascending addresses
ascending : (bs : List (Block ℕ)) → All (λ b. (b.off < 33554432) × (b.off % 32 ≡ 0) × (32 ≤ b.off)) bs → AllPairs Before bs → AllPairs (Less address_of) bs
ascending bs h pairs = λ i j d lt within.
    let b : Block ℕ = get_or bs i d in
    let c : Block ℕ = get_or bs j d in
    let one = h i d (omega (arith, lt, within)) in
    let two = h j d within in
    let some = span-least b.size in
    ⊎_elim (λ u. omega (arith, u, one.0, two.0)) (λ u. omega (arith, u.0, u.1, some, one.0, one.1, one.2, two.0, two.1, two.2)) (pairs i j d lt within)

-- the blocks of a segment against an extent of it
module _ (t : List (ℕ × List Extent)) (a : ℕ) (c : IsCut t a) where
  abbrev n : ℕ
  n = (place_of a).0

  abbrev e : Extent
  e = extent_of t a

  own : e.off ≡ (place_of a).1
  own = off-of t a c

  parts : busy_in (n, extents_of n t) ≡ busy_in (n, c.cut.before) ++ busy_in (n, e ∷ behind_of t a)
  parts = ap (λ (es : List Extent). busy_in (n, es)) c.cut.is ∙ busy-append n c.cut.before (e ∷ behind_of t a)

  before : All (λ b. address_of b < a) (busy_in (n, c.cut.before))
  before =
      All-busy_in (λ b. address_of b < a) n c.cut.before
      (λ i d lt some.
      let x : Extent = get_or c.cut.before i d in
      let low : x.off < (place_of a).1 = c.cut.lower i d lt in
      omega arith)

  -- none of it where it is free
  pub not-own : e.size ≡ 0 → All (λ b. address_of b ≢ a) (busy_in (n, extents_of n t))
  not-own free =
      let multiple = c.cut.here.0.legal.multiple in
      let least = c.cut.here.0.legal.least in
      subst (λ (bs : List (Block ℕ)). All (λ b. address_of b ≢ a) bs) (sym (parts ∙ ap (λ bs. busy_in (n, c.cut.before) ++ bs) (busy-none n e (behind_of t a) free)))
      (All-append (λ (b : Block ℕ). address_of b ≢ a) (busy_in (n, c.cut.before)) (busy_in (n, behind_of t a))
      (All-weaker (λ b. address_of b < a) (λ b. address_of b ≢ a) (λ b low same. omega (arith, low, same)) (busy_in (n, c.cut.before)) before)
      (All-busy_in (λ b. address_of b ≢ a) n (behind_of t a)
      (λ i d lt some same.
      let x : Extent = get_or (behind_of t a) i d in
      let end : e.off + e.span ≤ x.off = lies-behind (c.size - 16) ((place_of a).1 - 16) e (behind_of t a) (omega (arith, c.cut.low)) c.cut.here i d lt in
      omega (arith, same, end, own, least))))

  -- behind it comes the next one, or the end
  later : (b : ℕ) → All (λ x. address_of (block_of n x) ≢ a → b ≤ address_of (block_of n x)) (e ∷ behind_of t a) → All (λ d. a + 1 ≤ address_of d → b ≤ address_of d) (busy_in (n, extents_of n t))
  later b h =
      subst (λ (bs : List (Block ℕ)). All (λ d. a + 1 ≤ address_of d → b ≤ address_of d) bs) (sym parts)
      (All-append (λ (d : Block ℕ). a + 1 ≤ address_of d → b ≤ address_of d) (busy_in (n, c.cut.before)) (busy_in (n, e ∷ behind_of t a))
      (All-weaker (λ d. address_of d < a) (λ d. a + 1 ≤ address_of d → b ≤ address_of d) (λ d low le. absurd (omega (arith, low, le))) (busy_in (n, c.cut.before)) before)
      (All-busy_in (λ d. a + 1 ≤ address_of d → b ≤ address_of d) n (e ∷ behind_of t a)
      (All-weaker (λ x. address_of (block_of n x) ≢ a → b ≤ address_of (block_of n x)) (λ x. 0 < x.size → a + 1 ≤ address_of (block_of n x) → b ≤ address_of (block_of n x))
      (λ x f some le. f (λ same. omega (arith, same, le))) (e ∷ behind_of t a) h)))

  self : address_of (block_of n e) ≡ a
  self = omega (arith, own)

  pub next-least : (y : Extent) (b : ℕ) → next_of t a ≡ Some y → b ≡ address (n, y.off) → All (λ d. a + 1 ≤ address_of d → b ≤ address_of d) (busy_in (n, extents_of n t))
  next-least y b next value =
      let tail = first-cons (behind_of t a) y next in
      let zs : List Extent = tail.0 in
      let lies = subst (λ (es : List Extent). Lies (c.size - 16) ((place_of a).1 - 16) (e ∷ es)) tail.1 c.cut.here in
      let m = c.cut.here.0.legal.multiple in
      let wide = lies.1.0.legal.least in
      let low = c.cut.low in
      let ends : All (Ends y) zs = lies-behind (c.size - 16) ((place_of a).1 - 16 + e.span) y zs (omega arith) lies.1 in
      later b
      (All-cons (λ (x : Extent). address_of (block_of n x) ≢ a → b ≤ address_of (block_of n x)) e (behind_of t a) (λ other. absurd (other self))
      (subst (λ (es : List Extent). All (λ x. address_of (block_of n x) ≢ a → b ≤ address_of (block_of n x)) es) (sym tail.1)
      (All-cons (λ (x : Extent). address_of (block_of n x) ≢ a → b ≤ address_of (block_of n x)) y zs (λ other. omega (arith, value))
      (All-weaker (Ends y) (λ x. address_of (block_of n x) ≢ a → b ≤ address_of (block_of n x)) (λ x end other. omega (arith, value, end)) zs ends))))

  pub end-least : next_of t a ≡ None → All (λ d. address_of d < a + 1) (busy_in (n, extents_of n t))
  end-least none =
      let ys : behind_of t a ≡ [] = none-first (behind_of t a) none in
      subst (λ (bs : List (Block ℕ)). All (λ d. address_of d < a + 1) bs) (sym parts)
      (All-append (λ (d : Block ℕ). address_of d < a + 1) (busy_in (n, c.cut.before)) (busy_in (n, e ∷ behind_of t a))
      (All-weaker (λ d. address_of d < a) (λ d. address_of d < a + 1) (λ d low. omega (arith, low)) (busy_in (n, c.cut.before)) before)
      (All-busy_in (λ d. address_of d < a + 1) n (e ∷ behind_of t a)
      (All-cons (λ (x : Extent). 0 < x.size → address_of (block_of n x) < a + 1) e (behind_of t a) (λ some. omega (arith, self))
      (subst (λ (es : List Extent). All (λ x. 0 < x.size → address_of (block_of n x) < a + 1) es) (sym ys) (All-nil (λ (x : Extent). 0 < x.size → address_of (block_of n x) < a + 1))))))

-- the first block of a segment from an address on, where a walk is at an extent
first-prop : (bs : List (Block ℕ)) (low : ℕ) (r : Option ℕ) → IsProp (IsFirst bs low r)
first-prop bs low None = hlevel (le_prop)
first-prop bs low (Some a) = hlevel (le_prop)

module _ (t : List (ℕ × List Extent)) (a : Addr) (c : IsCut t a.0) where
  abbrev of_seg : List (Block ℕ)
  of_seg = busy_in ((place_of a.0).0, extents_of (place_of a.0).0 t)

  -- behind an extent, whatever comes next
  pub from-next : (next : Option Addr) → option_map (λ r. r.0) next ≡ option_map (λ e. address ((place_of a.0).0, e.off)) (next_of t a.0) → IsFirst of_seg (a.0 + 1) (option_map (λ r. r.0) next)
  from-next None value = end-least t a.0 c (no-address (place_of a.0).0 (next_of t a.0) value)
  from-next (Some b) value =
      let f = some-address (place_of a.0).0 b.0 (next_of t a.0) value in
      let above = next-above t a.0 b.0 f.0 c f.1 f.2 in
      let seg = next-seg t a.0 b.0 f.0 c f.1 f.2 in
      (omega (arith, above, seg), next-least t a.0 c f.0 b.0 f.1 f.2)

  -- so a walk goes on where this one is free
  pub walk-on : (low : ℕ) (next : Option Addr) → (extent_of t a.0).size ≡ 0 → IsFirst of_seg low (Some a.0) → IsFirst of_seg (a.0 + 1) (option_map (λ r. r.0) next) → IsFirst of_seg low (option_map (λ r. r.0) next)
  walk-on low None free first behind =
      λ i d lt.
      let b : Block ℕ = get_or of_seg i d in
      let other = not-own t a.0 c free i d lt in
      let end : address_of b < a.0 + 1 = behind i d lt in
      ⊎_elim (λ u. u) (λ u. let le : a.0 ≤ address_of b = first.1 i d lt u in absurd (other (omega (arith, le, end)))) (cases_lt (address_of b) low)
  walk-on low (Some r) free first behind =
      let least = first.0 in
      let up = behind.0 in (
        omega (arith, least, up),
        λ i d lt le.
            let b : Block ℕ = get_or of_seg i d in
            let other = not-own t a.0 c free i d lt in
            let from : a.0 ≤ address_of b = first.1 i d lt le in
            behind.1 i d lt (omega (arith, from, other)),
      )

module _ (segs : List Bytes) (index : List ℕ) (k : ∥ AreExtents segs index ∥₁) (a : Addr) (named : IsNamed (tiling segs) a.0) (next : Option Addr)
    (value : option_map (λ r. r.0) next ≡ option_map (λ e. address ((place_of a.0).0, e.off)) (next_of (tiling segs) a.0)) where
  pub first-behind : IsFirst (busy_in ((place_of a.0).0, extents_of (place_of a.0).0 (tiling segs))) (a.0 + 1) (option_map (λ r. r.0) next)
  first-behind = ∥∥₁_elim k (first-prop (busy_in ((place_of a.0).0, extents_of (place_of a.0).0 (tiling segs))) (a.0 + 1) (option_map (λ r. r.0) next)) (λ j. from-next (tiling segs) a (cut-of segs index a.0 j named) next value)

  pub first-on : (n low : ℕ) → (place_of a.0).0 ≡ n → (extent_of (tiling segs) a.0).size ≡ 0 → IsFirst (busy_in (n, extents_of n (tiling segs))) low (Some a.0) → IsFirst (busy_in (n, extents_of n (tiling segs))) low (option_map (λ r. r.0) next)
  first-on n low own free first =
      let here : IsFirst (busy_in ((place_of a.0).0, extents_of (place_of a.0).0 (tiling segs))) low (Some a.0) = subst (λ (m : ℕ). IsFirst (busy_in (m, extents_of m (tiling segs))) low (Some a.0)) (sym own) first in
      let on : IsFirst (busy_in ((place_of a.0).0, extents_of (place_of a.0).0 (tiling segs))) low (option_map (λ r. r.0) next) =
      ∥∥₁_elim k (first-prop (busy_in ((place_of a.0).0, extents_of (place_of a.0).0 (tiling segs))) low (option_map (λ r. r.0) next)) (λ j. walk-on (tiling segs) a (cut-of segs index a.0 j named) low next free here first-behind) in
      subst (λ (m : ℕ). IsFirst (busy_in (m, extents_of m (tiling segs))) low (option_map (λ r. r.0) next)) own on

module _ (segs : List Bytes) (index : List ℕ) (k : ∥ AreExtents segs index ∥₁) where
  pub block_at-there : (seg off : ℕ) → find (holds_byte (seg, off)) (layout_by segs).blocks ≡ find (holds_byte (seg, off)) (busy_in (seg, extents_of seg (tiling segs)))
  unfolding layout_by
  block_at-there seg off =
      ∥∥₁_elim k (hlevel (found-set)) (λ j.
      find-own (holds_byte (seg, off)) seg (λ b other. and_left (eqb b.seg seg) (leb b.off off && ltb off (b.off + b.size)) other) (in_order (all_busy (tiling segs)))
      ∙ ap (find (holds_byte (seg, off))) (own-blocks segs index j seg))

  in-ascent : AreExtents segs index → AllPairs (Less address_of) (in_order (all_busy (tiling segs)))
  in-ascent j =
      let bs : List (Block ℕ) = all_busy (tiling segs) in
      let lodged = all-lodged segs j.segments.legal j.tiled in
      ascending (in_order bs)
      (All-in_order (λ b. (b.off < 33554432) × (b.off % 32 ≡ 0) × (32 ≤ b.off)) bs (λ i d lt. let l = lodged i d lt in (l.below, l.multiple, l.off)))
      (order-before bs (λ i d lt. (lodged i d lt).off) (all-apart segs j.segments.distinct j.tiled))

  pub next_block-first : (after : ℕ) (r : Option ℕ) → IsFirst (all_busy (tiling segs)) (after + 1) r → IfSome r (λ a. IsBusy (tiling segs) a) → option_map address_of (next_block after (layout_by segs).blocks) ≡ r
  unfolding layout_by
  next_block-first after None low busy =
      ∥∥₁_elim k (hlevel (ℕ_set, ⊎_set)) (λ j.
      let bs : List (Block ℕ) = in_order (all_busy (tiling segs)) in
      ap (option_map address_of) (least_above-first address_of after bs (in-ascent j) ∙ find-none address_of after 0 bs (All-in_order (λ b. address_of b < after + 1) (all_busy (tiling segs)) low)))
  next_block-first after (Some a) first busy =
      ∥∥₁_elim k (hlevel (ℕ_set, ⊎_set)) (λ j.
      let bs : List (Block ℕ) = in_order (all_busy (tiling segs)) in
      let has : HasBlock bs a = has-of segs index a k busy in
      let i : ℕ = has.0 in
      let within : i < length bs = omega (arith, has.1, length-map bs address_of) in
      let least : All (λ b. after < address_of b → a ≤ address_of b) bs = All-in_order (λ b. after < address_of b → a ≤ address_of b) (all_busy (tiling segs)) (λ q d lt above. first.1 q d lt (omega (arith, above))) in
      let low = first.0 in
      ap (option_map address_of) (least_above-first address_of after bs (in-ascent j))
      ∙ find-least address_of after a bs (in-ascent j) i within (λ d. sym (get_or-map address_of bs i d a within) ∙ has.2) (omega (arith, low)) least)
