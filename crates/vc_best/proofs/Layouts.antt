-- What the segments and the blocks become where one extent changes.
use Rattle.vc_base.proofs.Common.{◌≡◌, ℕ, ◌+◌, ◌-◌, ◌%◌, ◌<◌, ◌≤◌, true, false, eqb, ◌≢◌, List, [], ◌∷◌, ◌++◌, map, length, get_or, All, filter, AllPairs, sym, refl, ap, ◌∙◌, subst, ⊎_elim, arith, ne_eqb, eqb-true, ∥∥₁_elim, and_right, cases_Bool, All-append, All-cons, All-filter, All-head, All-map, All-nil, All-tail, All-weaker, place_of, without_block_at, Block, is_at, place_of_block, with_block, without_block, change_block}
use Rattle.vc_best.proofs.Common.{AreExtents, Bytes, Extent, IsNamed, IsTiled, all_busy, behind_of, block_of, busy_in, change_at, change_extent, extent_in, extent_of, extents, extents_of, in_order, is_busy, layout_by, pair_of, tiling}
use Rattle.vc_gaps.proofs.Named.{extent_in-off, extents_of-here}
use Rattle.vc_model.proofs.Pairs.{AllPairs-head, AllPairs-tail}
use Rattle.vc_seg.proofs.InOrder.{All-in_order, NoneAt, change-with, order-middle, own-place, without-with}
use Rattle.vc_best.proofs.Lies.{Differ, Ends, IsWithin, Lies, Tiled, lies-behind, lies-tiled, lies-within}
use Rattle.vc_best.proofs.Sets.{layout-set}
use Rattle.vc_best.proofs.Parts.{above, below, busy-are, busy-changed, busy-none, busy-one, front, front-changed, front-is, lead, none-above, none-lead, none-others, rear}

-- what lies behind the front of what lies so
lies-split : (stop at : ℕ) (xs : List Extent) (e : Extent) (es : List Extent) → (at + 16) % 32 ≡ 0 → Lies stop at (xs ++ e ∷ es) → All (Ends e) es
lies-split stop at [] e es m h = lies-behind stop at e es m h
lies-split stop at (x ∷ xs) e es m h = let span = h.0.legal.multiple in lies-split stop (at + x.span) xs e es (omega (arith, m, span)) h.1

-- extents in a front end before those behind it
pub lies-front : (stop at : ℕ) (xs ys : List Extent) → (at + 16) % 32 ≡ 0 → Lies stop at (xs ++ ys) → All (λ x. All (Ends x) ys) xs
lies-front stop at [] ys m h = All-nil (λ (x : Extent). All (Ends x) ys)
lies-front stop at (x ∷ xs) ys m h =
    let span = h.0.legal.multiple in
    All-cons (λ (z : Extent). All (Ends z) ys) x xs
    (λ k d lt. ends-right x xs ys (lies-behind stop at x (xs ++ ys) m h) k d lt)
    (lies-front stop (at + x.span) xs ys (omega (arith, m, span)) h.1)
  where
    ends-right : (x : Extent) (xs ys : List Extent) → All (Ends x) (xs ++ ys) → All (Ends x) ys
    ends-right x [] ys all = all
    ends-right x (z ∷ zs) ys all = ends-right x zs ys (All-tail (Ends x) z (zs ++ ys) all)

-- the segment of a number among tiled ones
pub tiled-at : (n : ℕ) (segs : List Bytes) → All Tiled segs → (extents_of n (tiling segs) ≡ [] → ⊥) → (b : List ℕ) × IsTiled b × (extents_of n (tiling segs) ≡ extents b)
tiled-at n [] tiled some = absurd (some refl)
tiled-at n (s ∷ ss) tiled some =
    let P : Bytes → Type 0 = λ x. IsTiled x.bytes in
    ⊎_elim
    (λ (t : eqb s.number n ≡ true). (s.bytes, All-head P s ss tiled, rw t refl))
    (λ (t : eqb s.number n ≡ false).
    let some' : extents_of n (tiling ss) ≡ [] → ⊥ = rw t at some in
    let r = tiled-at n ss (All-tail P s ss tiled) some' in
    (r.0, r.1, rw t r.2))
    (cases_Bool (eqb s.number n))

named-some : (off : ℕ) (es : List Extent) → 0 < (extent_in off es).span → es ≡ [] → ⊥
named-some off es named none = let lt : 0 < 0 = subst (λ (xs : List Extent). 0 < (extent_in off xs).span) none named in omega (arith, lt)

-- segments behind the first of a number have others
pub below-others : (n : ℕ) (segs : List Bytes) → AllPairs Differ segs → All (λ s. eqb s.0 n ≡ false) (below n (tiling segs))
below-others n [] h = All-nil (λ (s : ℕ × List Extent). eqb s.0 n ≡ false)
below-others n (s ∷ ss) h =
    ⊎_elim
    (λ (t : eqb s.number n ≡ true).
    rw t
    (All-map (λ (x : ℕ × List Extent). eqb x.0 n ≡ false) (λ (x : Bytes). (x.number, extents x.bytes)) ss
    (All-weaker (Differ s) (λ (x : Bytes). eqb x.number n ≡ false) (λ x other. ne_eqb x.number n (λ e. other (eqb-true s.number n t ∙ sym e))) ss (AllPairs-head Differ s ss h))))
    (λ (t : eqb s.number n ≡ false). rw t (below-others n ss (AllPairs-tail Differ s ss h)))
    (cases_Bool (eqb s.number n))

-- blocks of one segment that begin elsewhere
none-elsewhere : (n off : ℕ) (es : List Extent) → All (λ e. e.off ≢ off) es → NoneAt (n, off) (busy_in (n, es))
none-elsewhere n off es h =
    let Q : Block ℕ → Type 0 = λ c. is_at (n, off) c ≡ false in
    All-map Q (block_of n) (filter is_busy es)
    (All-weaker (λ e. e.off ≢ off) (λ e. Q (block_of n e)) (λ e other. and_right (eqb n n) (eqb e.off off) (ne_eqb e.off off other)) (filter is_busy es)
    (All-filter is_busy (λ e. e.off ≢ off) es h))

-- of numbered and tiled segments
module _ (segs : List Bytes) (index : List ℕ) (k : AreExtents segs index) (a : ℕ) (named : IsNamed (tiling segs) a) where
  abbrev n : ℕ
  n = (place_of a).0

  abbrev off : ℕ
  off = (place_of a).1

  abbrev e : Extent
  e = extent_of (tiling segs) a

  abbrev ys : List Extent
  ys = behind_of (tiling segs) a

  -- how the extents of its segment lie
  pub own-lies : (b : List ℕ) × Lies (length b - 16) 16 (front (place_of a).1 (extents_of (place_of a).0 (tiling segs)) ++ extent_of (tiling segs) a ∷ behind_of (tiling segs) a)
  own-lies =
      let r = tiled-at n segs k.tiled (named-some off (extents_of n (tiling segs)) named) in
      (r.0, subst (λ (es : List Extent). Lies (length r.0 - 16) 16 es) (sym r.2 ∙ front-is off (extents_of n (tiling segs)) named) (lies-tiled r.0 r.1))

  -- no other block stands where the extent is
  pub none-rest : NoneAt (place_of a) (busy_in ((place_of a).0, behind_of (tiling segs) a) ++ rear (tiling segs) a)
  none-rest =
      let own = own-lies in
      let at : e.off ≡ off = extent_in-off off (extents_of n (tiling segs)) in
      let ends : All (Ends e) ys = lies-split (length own.0 - 16) 16 (front off (extents_of n (tiling segs))) e ys refl own.1 in
      All-append (λ (c : Block ℕ). is_at (place_of a) c ≡ false) (busy_in (n, ys)) (rear (tiling segs) a)
      (none-elsewhere n off ys (All-weaker (Ends e) (λ x. x.off ≢ off) (λ x h same. omega (arith, h, same, at, named)) ys ends))
      (none-others n off (below n (tiling segs)) (below-others n segs k.segments.distinct))

  pub none-others-at : NoneAt (place_of a) (lead (tiling segs) a ++ (busy_in ((place_of a).0, behind_of (tiling segs) a) ++ rear (tiling segs) a))
  none-others-at = All-append (λ (c : Block ℕ). is_at (place_of a) c ≡ false) (lead (tiling segs) a) (busy_in ((place_of a).0, behind_of (tiling segs) a) ++ rear (tiling segs) a) (none-lead (tiling segs) a) none-rest

  -- all blocks but the one of the extent
  abbrev pub other_blocks : List (Block ℕ)
  other_blocks = in_order (lead (tiling segs) a ++ (busy_in ((place_of a).0, behind_of (tiling segs) a) ++ rear (tiling segs) a))

  pub none-other : NoneAt (place_of a) other_blocks
  none-other = All-in_order (λ (c : Block ℕ). is_at (place_of a) c ≡ false) (lead (tiling segs) a ++ (busy_in ((place_of a).0, behind_of (tiling segs) a) ++ rear (tiling segs) a)) none-others-at

  own-off : (extent_of (tiling segs) a).off ≡ (place_of a).1
  own-off = extent_in-off (place_of a).1 (extents_of (place_of a).0 (tiling segs))

  pub own-at : is_at (place_of a) (block_of (place_of a).0 (extent_of (tiling segs) a)) ≡ true
  own-at = rw own-off (own-place (block_of (place_of a).0 (record (extent_of (tiling segs) a) { off = (place_of a).1 })))

  -- the blocks are the others with its own, where it has one
  pub blocks-busy : 0 < (extent_of (tiling segs) a).size → in_order (all_busy (tiling segs)) ≡ with_block (block_of (place_of a).0 (extent_of (tiling segs) a)) other_blocks
  blocks-busy busy =
      ap in_order (busy-are (tiling segs) a named ∙ ap (λ bs. lead (tiling segs) a ++ (bs ++ rear (tiling segs) a)) (busy-one n e ys busy))
      ∙ order-middle (lead (tiling segs) a) (block_of n e) (busy_in (n, ys) ++ rear (tiling segs) a)
      (subst (λ (o : ℕ). NoneAt (n, o) (lead (tiling segs) a)) (sym own-off) (none-lead (tiling segs) a))

  pub blocks-free : (extent_of (tiling segs) a).size ≡ 0 → in_order (all_busy (tiling segs)) ≡ other_blocks
  blocks-free free =
      ap in_order (busy-are (tiling segs) a named ∙ ap (λ bs. lead (tiling segs) a ++ (bs ++ rear (tiling segs) a)) (busy-none (place_of a).0 (extent_of (tiling segs) a) (behind_of (tiling segs) a) free))

-- each block of a segment has its number
pub busy-seg : (n : ℕ) (es : List Extent) → All (λ c. c.seg ≡ n) (busy_in (n, es))
busy-seg n es = All-map (λ (c : Block ℕ). c.seg ≡ n) (block_of n) (filter is_busy es) (λ k d lt. refl)

-- blocks of extents behind one begin behind it
busy-behind : (n : ℕ) (x : Extent) (es : List Extent) → All (Ends x) es → All (λ c. x.off + x.span ≤ c.off) (busy_in (n, es))
busy-behind n x es h = All-map (λ (c : Block ℕ). x.off + x.span ≤ c.off) (block_of n) (filter is_busy es) (All-filter is_busy (Ends x) es h)

nil-right : (xs ys : List Extent) → xs ++ ys ≡ [] → ys ≡ []
nil-right [] ys e = e
nil-right (x ∷ xs) ys e = absurd (cc)

-- a block that is new among those of an extent and of what is behind it isn't where one before it is
new-apart : (segs : List Bytes) (index : List ℕ) (k : AreExtents segs index) (n : ℕ) (xs zs : List Extent) (b : Block ℕ) (bs : List (Block ℕ)) → extents_of n (tiling segs) ≡ xs ++ zs → busy_in (n, zs) ≡ b ∷ bs → (b.seg ≡ n) × NoneAt (n, b.off) (busy_in (n, xs))
new-apart segs index k n xs zs b bs is e =
    let some : extents_of n (tiling segs) ≡ [] → ⊥ = λ none. let z : zs ≡ [] = nil-right xs zs (sym is ∙ none) in let lt : b ∷ bs ≡ [] = sym e ∙ ap (λ (ys : List Extent). busy_in (n, ys)) z in cc in
    let r = tiled-at n segs k.tiled some in
    let lies : Lies (length r.0 - 16) 16 (xs ++ zs) = subst (λ (es : List Extent). Lies (length r.0 - 16) 16 es) (sym r.2 ∙ is) (lies-tiled r.0 r.1) in
    let ends : All (λ x. All (Ends x) zs) xs = lies-front (length r.0 - 16) 16 xs zs refl lies in
    let within : All (IsWithin (length r.0 - 16) 16) (xs ++ zs) = lies-within (length r.0 - 16) 16 (xs ++ zs) refl lies in (
      All-head (λ (c : Block ℕ). c.seg ≡ n) b bs (subst (λ (cs : List (Block ℕ)). All (λ c. c.seg ≡ n) cs) e (busy-seg n zs)),
      none-elsewhere n b.off xs (λ i d lt.
          let x : Extent = get_or xs i d in
          let w = (within-left (length r.0 - 16) xs zs within) i d lt in
          let least = w.legal.least in
          let low : x.off + x.span ≤ b.off = All-head (λ (c : Block ℕ). x.off + x.span ≤ c.off) b bs (subst (λ (cs : List (Block ℕ)). All (λ c. x.off + x.span ≤ c.off) cs) e (busy-behind n x zs (ends i d lt))) in
          λ same. omega (arith, low, same, least)),
    )
  where
    within-left : (stop : ℕ) (xs zs : List Extent) → All (IsWithin stop 16) (xs ++ zs) → All (IsWithin stop 16) xs
    within-left stop [] zs h = All-nil (IsWithin stop 16)
    within-left stop (x ∷ xs) zs h = All-cons (IsWithin stop 16) x xs (All-head (IsWithin stop 16) x (xs ++ zs) h) (within-left stop xs zs (All-tail (IsWithin stop 16) x (xs ++ zs) h))

module _ (old new : List Bytes) (io jn : List ℕ) (ko : ∥ AreExtents old io ∥₁) (kn : ∥ AreExtents new jn ∥₁) (a : ℕ) (f : Extent → List Extent → List Extent)
    (named : IsNamed (tiling old) a) (t : tiling new ≡ change_extent a f (tiling old)) (p : map pair_of new ≡ map pair_of old) where
  same_layout : (blocks : List (Block ℕ)) → in_order (all_busy (tiling new)) ≡ blocks → layout_by new ≡ record { segments = map pair_of old; blocks = blocks }
  unfolding layout_by
  same_layout blocks e = λ i. record { segments = p i; blocks = e i }

  changed-blocks : (bs : List (Block ℕ)) → busy_in ((place_of a).0, f (extent_of (tiling old) a) (behind_of (tiling old) a)) ≡ bs → in_order (all_busy (tiling new)) ≡ in_order (lead (tiling old) a ++ (bs ++ rear (tiling old) a))
  changed-blocks bs e = ap in_order (ap all_busy t ∙ (busy-changed (tiling old) a named f ∙ ap (λ cs. lead (tiling old) a ++ (cs ++ rear (tiling old) a)) e))

  pub layout-same : busy_in ((place_of a).0, f (extent_of (tiling old) a) (behind_of (tiling old) a)) ≡ busy_in ((place_of a).0, extent_of (tiling old) a ∷ behind_of (tiling old) a) → layout_by new ≡ layout_by old
  unfolding layout_by
  layout-same e =
      same_layout (in_order (all_busy (tiling old)))
      (changed-blocks (busy_in ((place_of a).0, extent_of (tiling old) a ∷ behind_of (tiling old) a)) e ∙ sym (ap in_order (busy-are (tiling old) a named)))

  pub layout-freed : 0 < (extent_of (tiling old) a).size → busy_in ((place_of a).0, f (extent_of (tiling old) a) (behind_of (tiling old) a)) ≡ busy_in ((place_of a).0, behind_of (tiling old) a) →
      layout_by new ≡ without_block_at (layout_by old) (place_of a)
  unfolding layout_by
  layout-freed busy e =
      ∥∥₁_elim ko (hlevel (layout-set)) (λ (k : AreExtents old io).
      let own : Block ℕ = block_of (place_of a).0 (extent_of (tiling old) a) in
      same_layout (without_block (place_of a) (in_order (all_busy (tiling old))))
      (changed-blocks (busy_in ((place_of a).0, behind_of (tiling old) a)) e
      ∙ (sym (without-with (place_of a) own (own-at old io k a named) (other_blocks old io k a named) (none-other old io k a named))
      ∙ ap (without_block (place_of a)) (sym (blocks-busy old io k a named busy)))))

  pub layout-put : (b : Block ℕ) → (extent_of (tiling old) a).size ≡ 0 → busy_in ((place_of a).0, f (extent_of (tiling old) a) (behind_of (tiling old) a)) ≡ b ∷ busy_in ((place_of a).0, behind_of (tiling old) a) →
      layout_by new ≡ record { segments = (layout_by old).segments; blocks = with_block b (layout_by old).blocks }
  unfolding layout_by
  layout-put b free e =
      ∥∥₁_elim ko (hlevel (layout-set)) (λ (k : AreExtents old io). ∥∥₁_elim kn (hlevel (layout-set)) (λ (j : AreExtents new jn).
      let n : ℕ = (place_of a).0 in
      let off : ℕ = (place_of a).1 in
      let ys : List Extent = behind_of (tiling old) a in
      let fr : List Extent = front off (extents_of n (tiling old)) in
      let zs : List Extent = f (extent_of (tiling old) a) ys in
      let is : extents_of n (tiling new) ≡ fr ++ zs = ap (extents_of n) t ∙ (extents_of-here n (change_at off f) (tiling old) refl ∙ front-changed off f (extents_of n (tiling old)) named) in
      let apart = new-apart new jn j n fr zs b (busy_in (n, ys)) is e in
      let none : NoneAt (place_of_block b) (lead (tiling old) a) =
      subst (λ (m : ℕ). NoneAt (m, b.off) (lead (tiling old) a)) (sym apart.0)
      (All-append (λ (c : Block ℕ). is_at (n, b.off) c ≡ false) (all_busy (above n (tiling old))) (busy_in (n, fr)) (none-above n b.off (tiling old)) apart.1) in
      same_layout (with_block b (in_order (all_busy (tiling old))))
      (changed-blocks (b ∷ busy_in (n, ys)) e
      ∙ (order-middle (lead (tiling old) a) b (busy_in (n, ys) ++ rear (tiling old) a) none
      ∙ ap (with_block b) (sym (blocks-free old io k a named free))))))

  pub layout-changed : (g : Block ℕ → Block ℕ) → ((b : Block ℕ) → (g b).seg ≡ b.seg) → ((b : Block ℕ) → (g b).off ≡ b.off) → 0 < (extent_of (tiling old) a).size →
      busy_in ((place_of a).0, f (extent_of (tiling old) a) (behind_of (tiling old) a)) ≡ g (block_of (place_of a).0 (extent_of (tiling old) a)) ∷ busy_in ((place_of a).0, behind_of (tiling old) a) →
      layout_by new ≡ record { segments = (layout_by old).segments; blocks = change_block g (place_of a) (layout_by old).blocks }
  unfolding layout_by
  layout-changed g seg off busy e =
      ∥∥₁_elim ko (hlevel (layout-set)) (λ (k : AreExtents old io).
      let own : Block ℕ = block_of (place_of a).0 (extent_of (tiling old) a) in
      let bs : List (Block ℕ) = busy_in ((place_of a).0, behind_of (tiling old) a) in
      let none : NoneAt (place_of_block (g own)) (lead (tiling old) a) =
      subst (λ (q : ℕ × ℕ). NoneAt q (lead (tiling old) a)) (λ i. (sym (seg own) i, sym (off own ∙ own-off old io k a named) i)) (none-lead (tiling old) a) in
      same_layout (change_block g (place_of a) (in_order (all_busy (tiling old))))
      (changed-blocks (g own ∷ bs) e
      ∙ (order-middle (lead (tiling old) a) (g own) (bs ++ rear (tiling old) a) none
      ∙ (sym (change-with (place_of a) own (own-at old io k a named) g (seg own) (off own) (other_blocks old io k a named) (none-other old io k a named))
      ∙ ap (change_block g (place_of a)) (sym (blocks-busy old io k a named busy))))))
