-- The blocks of a tiling before an extent and behind it.
use Rattle.vc_base.proofs.Common.{◌≡◌, ℕ, ◌<◌, true, false, eqb, List, [], ◌∷◌, ◌++◌, map, get_or, if◌then◌else◌, All, filter, sym, refl, ap, ◌∙◌, ⊎_elim, append_assoc, arith, le-ltb, lt-ltb, eqb-true, and_left, and_right, cases_Bool, All-append, All-cons, All-filter, All-head, All-map, All-nil, All-tail, All-weaker, filter-append, map-append, place_of, Block, is_at}
use Rattle.vc_best.proofs.Common.{Extent, IsNamed, all_busy, behind, block_of, busy_in, change_at, change_extent, change_in, extent_in, extent_of, extents_of, is_busy}
use Rattle.std.proofs.lemmas.Grind.{flat_map-append}
use Rattle.vc_seg.proofs.InOrder.{NoneAt}

-- the extents before the one that an offset names
abbrev pub front : ℕ → List Extent → List Extent
front off [] = []
front off (e ∷ es) = if eqb e.off off then [] else e ∷ front off es

-- the segments before the first of a number, and those behind it
abbrev pub above : ℕ → List (ℕ × List Extent) → List (ℕ × List Extent)
above n [] = []
above n (s ∷ ss) = if eqb s.0 n then [] else s ∷ above n ss

abbrev pub below : ℕ → List (ℕ × List Extent) → List (ℕ × List Extent)
below n [] = []
below n (s ∷ ss) = if eqb s.0 n then ss else below n ss

module _ (off : ℕ) where
  pub front-is : (es : List Extent) → 0 < (extent_in off es).span → es ≡ front off es ++ extent_in off es ∷ behind off es
  front-is [] named = absurd (omega (arith, named))
  front-is (e ∷ es) named =
      ⊎_elim
      (λ (t : eqb e.off off ≡ true). rw t refl)
      (λ (t : eqb e.off off ≡ false). let named' : 0 < (extent_in off es).span = rw t at named in rw t (ap (λ xs. e ∷ xs) (front-is es named')))
      (cases_Bool (eqb e.off off))

  pub front-changed : (f : Extent → List Extent → List Extent) (es : List Extent) → 0 < (extent_in off es).span → change_at off f es ≡ front off es ++ f (extent_in off es) (behind off es)
  front-changed f [] named = absurd (omega (arith, named))
  front-changed f (e ∷ es) named =
      ⊎_elim
      (λ (t : eqb e.off off ≡ true). rw t refl)
      (λ (t : eqb e.off off ≡ false). let named' : 0 < (extent_in off es).span = rw t at named in rw t (ap (λ xs. e ∷ xs) (front-changed f es named')))
      (cases_Bool (eqb e.off off))

  front-others : (es : List Extent) → All (λ e. eqb e.off off ≡ false) (front off es)
  front-others [] = All-nil (λ (e : Extent). eqb e.off off ≡ false)
  front-others (e ∷ es) =
      let P : Extent → Type 0 = λ x. eqb x.off off ≡ false in
      ⊎_elim
      (λ (t : eqb e.off off ≡ true). rw t (All-nil P))
      (λ (t : eqb e.off off ≡ false). rw t (All-cons P e (front off es) t (front-others es)))
      (cases_Bool (eqb e.off off))

  pub none-front : (n : ℕ) (es : List Extent) → NoneAt (n, off) (busy_in (n, front off es))
  none-front n es =
      let P : Extent → Type 0 = λ x. eqb x.off off ≡ false in
      let Q : Block ℕ → Type 0 = λ c. is_at (n, off) c ≡ false in
      All-map Q (block_of n) (filter is_busy (front off es))
      (All-weaker P (λ e. Q (block_of n e)) (λ e h. and_right (eqb n n) (eqb e.off off) h) (filter is_busy (front off es))
      (All-filter is_busy P (front off es) (front-others es)))

module _ (n : ℕ) where
  -- a segment of that number is there where an extent of it is named
  pub above-is : (off : ℕ) (t : List (ℕ × List Extent)) → 0 < (extent_in off (extents_of n t)).span → t ≡ above n t ++ (n, extents_of n t) ∷ below n t
  above-is off [] named = absurd (omega (arith, named))
  above-is off (s ∷ ss) named =
      ⊎_elim
      (λ (t : eqb s.0 n ≡ true). rw t (ap (λ (k : ℕ). (k, s.1) ∷ ss) (eqb-true s.0 n t)))
      (λ (t : eqb s.0 n ≡ false). let named' : 0 < (extent_in off (extents_of n ss)).span = rw t at named in rw t (ap (λ xs. s ∷ xs) (above-is off ss named')))
      (cases_Bool (eqb s.0 n))

  pub above-changed : (off : ℕ) (g : List Extent → List Extent) (t : List (ℕ × List Extent)) → 0 < (extent_in off (extents_of n t)).span → change_in n g t ≡ above n t ++ (n, g (extents_of n t)) ∷ below n t
  above-changed off g [] named = absurd (omega (arith, named))
  above-changed off g (s ∷ ss) named =
      ⊎_elim
      (λ (t : eqb s.0 n ≡ true). rw t (ap (λ (k : ℕ). (k, g s.1) ∷ ss) (eqb-true s.0 n t)))
      (λ (t : eqb s.0 n ≡ false). let named' : 0 < (extent_in off (extents_of n ss)).span = rw t at named in rw t (ap (λ xs. s ∷ xs) (above-changed off g ss named')))
      (cases_Bool (eqb s.0 n))

  pub above-others : (t : List (ℕ × List Extent)) → All (λ s. eqb s.0 n ≡ false) (above n t)
  above-others [] = All-nil (λ (s : ℕ × List Extent). eqb s.0 n ≡ false)
  above-others (s ∷ ss) =
      let P : ℕ × List Extent → Type 0 = λ x. eqb x.0 n ≡ false in
      ⊎_elim
      (λ (t : eqb s.0 n ≡ true). rw t (All-nil P))
      (λ (t : eqb s.0 n ≡ false). rw t (All-cons P s (above n ss) t (above-others ss)))
      (cases_Bool (eqb s.0 n))

  -- segments of other numbers have no block there
  pub none-others : (off : ℕ) (t : List (ℕ × List Extent)) → All (λ s. eqb s.0 n ≡ false) t → NoneAt (n, off) (all_busy t)
  none-others off [] h = All-nil (λ (c : Block ℕ). is_at (n, off) c ≡ false)
  none-others off (s ∷ ss) h =
      let P : ℕ × List Extent → Type 0 = λ x. eqb x.0 n ≡ false in
      let Q : Block ℕ → Type 0 = λ c. is_at (n, off) c ≡ false in
      All-append Q (busy_in s) (all_busy ss)
      (All-map Q (block_of s.0) (filter is_busy s.1)
      (λ k d lt. and_left (eqb s.0 n) (eqb (get_or (filter is_busy s.1) k d).off off) (All-head P s ss h)))
      (none-others off ss (All-tail P s ss h))

  pub none-above : (off : ℕ) (t : List (ℕ × List Extent)) → NoneAt (n, off) (all_busy (above n t))
  none-above off t = none-others off (above n t) (above-others t)

-- the blocks of a segment in two parts
pub busy-append : (n : ℕ) (es ys : List Extent) → busy_in (n, es ++ ys) ≡ busy_in (n, es) ++ busy_in (n, ys)
busy-append n es ys = ap (map (block_of n)) (filter-append is_busy es ys) ∙ map-append (block_of n) (filter is_busy es) (filter is_busy ys)

pub busy-one : (n : ℕ) (e : Extent) (es : List Extent) → 0 < e.size → busy_in (n, e ∷ es) ≡ block_of n e ∷ busy_in (n, es)
busy-one n e es busy = rw (lt-ltb 0 e.size busy) refl

pub busy-none : (n : ℕ) (e : Extent) (es : List Extent) → e.size ≡ 0 → busy_in (n, e ∷ es) ≡ busy_in (n, es)
busy-none n e es free = rw (le-ltb 0 e.size (omega (arith, free))) refl

-- the blocks before the extent that an address names, and those of the segments behind its own
module _ (t : List (ℕ × List Extent)) (a : ℕ) where
  abbrev n : ℕ
  n = (place_of a).0

  abbrev pub lead : List (Block ℕ)
  lead = all_busy (above (place_of a).0 t) ++ busy_in ((place_of a).0, front (place_of a).1 (extents_of (place_of a).0 t))

  abbrev pub rear : List (Block ℕ)
  rear = all_busy (below (place_of a).0 t)

  pub none-lead : NoneAt (place_of a) lead
  none-lead =
      All-append (λ (c : Block ℕ). is_at (place_of a) c ≡ false) (all_busy (above (place_of a).0 t)) (busy_in ((place_of a).0, front (place_of a).1 (extents_of (place_of a).0 t)))
      (none-above (place_of a).0 (place_of a).1 t) (none-front (place_of a).1 (place_of a).0 (extents_of (place_of a).0 t))

  -- in the middle stand these extents
  parted : (xs : List Extent) → all_busy (above (place_of a).0 t ++ ((place_of a).0, front (place_of a).1 (extents_of (place_of a).0 t) ++ xs) ∷ below (place_of a).0 t) ≡ lead ++ (busy_in ((place_of a).0, xs) ++ rear)
  parted xs =
      let es : List Extent = front (place_of a).1 (extents_of n t) in
      flat_map-append busy_in (above n t) ((n, es ++ xs) ∷ below n t)
      ∙ (ap (λ bs. all_busy (above n t) ++ (bs ++ rear)) (busy-append n es xs)
      ∙ (ap (λ bs. all_busy (above n t) ++ bs) (append_assoc (busy_in (n, es)) (busy_in (n, xs)) rear)
      ∙ sym (append_assoc (all_busy (above n t)) (busy_in (n, es)) (busy_in (n, xs) ++ rear))))

  module _ (named : IsNamed t a) where
    abbrev es : List Extent
    es = extents_of n t

    pub busy-are : all_busy t ≡ lead ++ (busy_in ((place_of a).0, extent_of t a ∷ behind (place_of a).1 (extents_of (place_of a).0 t)) ++ rear)
    busy-are =
        ap all_busy (above-is n (place_of a).1 t named)
        ∙ (ap (λ (xs : List Extent). all_busy (above n t ++ (n, xs) ∷ below n t)) (front-is (place_of a).1 es named)
        ∙ parted (extent_of t a ∷ behind (place_of a).1 es))

    pub busy-changed : (f : Extent → List Extent → List Extent) → all_busy (change_extent a f t) ≡ lead ++ (busy_in ((place_of a).0, f (extent_of t a) (behind (place_of a).1 (extents_of (place_of a).0 t))) ++ rear)
    busy-changed f =
        ap all_busy (above-changed n (place_of a).1 (change_at (place_of a).1 f) t named)
        ∙ (ap (λ (xs : List Extent). all_busy (above n t ++ (n, xs) ∷ below n t)) (front-changed (place_of a).1 f es named)
        ∙ parted (f (extent_of t a) (behind (place_of a).1 es)))
