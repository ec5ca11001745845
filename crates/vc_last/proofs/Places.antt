-- The place behind the blocks of the newest segment.
use Rattle.vc_base.proofs.Common.{◌≡◌, ℕ, ◌+◌, ◌-◌, ◌%◌, ◌<◌, ◌≤◌, max, true, false, eqb, leb, ◌≢◌, List, [], ◌∷◌, ◌++◌, map, length, get_or, Some, None, fold, All, filter, Option, Any, sym, refl, ap, ◌∙◌, subst, ⊎_elim, arith, ne_eqb, le-leb, leb-true, eqb-true, cases_Bool, eqb-false, lt-leb, All-cons, All-head, All-nil, All-tail, length_push, none-some, same_Some, address, place_of, zeros, last_place, newest, Block, Layout, is_at, with_grant, new_segment, span, HasBlock}
use Rattle.vc_model.specs.Last.{last_of, next_offset, place_behind_latest}
use Rattle.vc_model.specs.Segments.{Grant, with_more}
use Rattle.vc_base.proofs.Places.{some-span, at-place}
use Rattle.vc_seg.proofs.Segments.{only-one, with_more-push}
use Rattle.vc_last.specs.Allocation.{EndsFirst, AreAllocated}
use Rattle.vc_last.specs.Place.{EndBefore, IsBlockPlace}
use Rattle.vc_last.proofs.Lists.{get_or-last, last_of-push, last_of-split}
use Rattle.vc_last.proofs.Latest.{AreElsewhere, none-there}
use Rattle.vc_last.proofs.Allocations.{IsExact}

pub span-multiple : (size : ℕ) → span size % 32 ≡ 0
span-multiple size = omega arith

-- where the blocks of a segment end
abbrev pub ends : ℕ → List (Block ℕ) → List ℕ
ends number blocks = map (λ b. b.off + span b.size) (filter (λ b. eqb b.seg number) blocks)

fold-least : (m : ℕ) (ns : List ℕ) → m ≤ fold max m ns
fold-least m [] = omega arith
fold-least m (n ∷ ns) = let rest = fold-least (max m n) ns in omega (arith, rest)

fold-multiple : (m : ℕ) (ns : List ℕ) → m % 32 ≡ 0 → All (λ n. n % 32 ≡ 0) ns → fold max m ns % 32 ≡ 0
fold-multiple m [] low h = low
fold-multiple m (n ∷ ns) low h =
    let P : ℕ → Type 0 = λ k. k % 32 ≡ 0 in
    let here : n % 32 ≡ 0 = All-head P n ns h in
    fold-multiple (max m n) ns (omega (arith, low, here)) (All-tail P n ns h)

ends-multiple : (number : ℕ) (bs : List (Block ℕ)) → All IsExact bs → All (λ n. n % 32 ≡ 0) (ends number bs)
ends-multiple number [] h = All-nil (λ (n : ℕ). n % 32 ≡ 0)
ends-multiple number (b ∷ bs) h =
    let rest = ends-multiple number bs (All-tail IsExact b bs h) in
    let off : place_of (address (b.seg, b.off)) ≡ (b.seg, b.off) = All-head IsExact b bs h in
    let is : (place_of (address (b.seg, b.off))).1 ≡ b.off = ap (λ (p : ℕ × ℕ). p.1) off in
    ⊎_elim
    (λ (t : eqb b.seg number ≡ true). rw t (All-cons (λ (n : ℕ). n % 32 ≡ 0) (b.off + span b.size) (ends number bs) (omega (arith, is, span-multiple b.size)) rest))
    (λ (t : eqb b.seg number ≡ false). rw t rest)
    (cases_Bool (eqb b.seg number))

ends-before : (number m to : ℕ) (bs : List (Block ℕ)) → fold max m (ends number bs) ≤ to → All (EndBefore (number, to)) bs
ends-before number m to [] le = All-nil (EndBefore (number, to))
ends-before number m to (b ∷ bs) le =
    ⊎_elim
    (λ (t : eqb b.seg number ≡ true).
    let own : fold max (max m (b.off + span b.size)) (ends number bs) ≤ to = rw t at le in
    let low = fold-least (max m (b.off + span b.size)) (ends number bs) in
    All-cons (EndBefore (number, to)) b bs (λ e. omega (arith, low, own)) (ends-before number (max m (b.off + span b.size)) to bs own))
    (λ (t : eqb b.seg number ≡ false).
    let own : fold max m (ends number bs) ≤ to = rw t at le in
    All-cons (EndBefore (number, to)) b bs (λ e. absurd (eqb-false b.seg number t e)) (ends-before number m to bs own))
    (cases_Bool (eqb b.seg number))

ends-most : (number m to : ℕ) (bs : List (Block ℕ)) → m ≤ to → All (EndBefore (number, to)) bs → fold max m (ends number bs) ≤ to
ends-most number m to [] le h = le
ends-most number m to (b ∷ bs) le h =
    let P : Block ℕ → Type 0 = EndBefore (number, to) in
    let rest = All-tail P b bs h in
    ⊎_elim
    (λ (t : eqb b.seg number ≡ true). rw t (ends-most number (max m (b.off + span b.size)) to bs (omega (arith, le, All-head P b bs h (eqb-true b.seg number t))) rest))
    (λ (t : eqb b.seg number ≡ false). rw t (ends-most number m to bs le rest))
    (cases_Bool (eqb b.seg number))

any-last : (P : ℕ × ℕ → Type 0) (front : List (ℕ × ℕ)) (s : ℕ × ℕ) → P s → Any P (front ++ s ∷ [])
any-last P front s p = (length front, s, omega (arith, length_push front s), get_or-last front s s, p)

place-newest : (r : Layout ℕ) (size : ℕ) (at : ℕ × ℕ) (o : Option (ℕ × ℕ)) → AreAllocated r → newest r ≡ o → place_behind_latest r.blocks size o ≡ Some at → IsBlockPlace r size at
place-newest r size at None h is e = absurd (none-some at e)
place-newest r size at (Some s) h is e =
    let off : ℕ = next_offset s.0 r.blocks in
    ⊎_elim
    (λ (t : leb (off + span size) s.1 ≡ true).
    let found : Some (s.0, off) ≡ Some at = rw t at e in
    let same : (s.0, off) ≡ at = same_Some (s.0, off) at found in
    let cut = last_of-split r.segments s is in
    let P : ℕ × ℕ → Type 0 = λ q. (s.0 ≡ q.0) × (off + span size ≤ q.1) in
    subst (IsBlockPlace r size) same
    (record {
      behind = ends-before s.0 32 off r.blocks (omega arith);
      first = fold-least 32 (ends s.0 r.blocks);
      multiple = fold-multiple 32 (ends s.0 r.blocks) refl (ends-multiple s.0 r.blocks h.exact);
      inside = subst (λ (ss : List (ℕ × ℕ)). Any P ss) (sym cut.1) (any-last P cut.0 s (refl, leb-true (off + span size) s.1 t));
    }))
    (λ (t : leb (off + span size) s.1 ≡ false). let none : None ≡ Some at = rw t at e in absurd (none-some at none))
    (cases_Bool (leb (off + span size) s.1))

pub place-last : (r : Layout ℕ) (size : ℕ) (at : ℕ × ℕ) → AreAllocated r → last_place r size ≡ Some at → IsBlockPlace r size at
place-last r size at h e = place-newest r size at (newest r) h refl e

pub ends-none : (number m : ℕ) (bs : List (Block ℕ)) → All (λ c. c.seg ≢ number) bs → fold max m (ends number bs) ≡ m
ends-none number m [] h = refl
ends-none number m (b ∷ bs) h =
    let P : Block ℕ → Type 0 = λ c. c.seg ≢ number in
    rw (ne_eqb b.seg number (All-head P b bs h)) (ends-none number m bs (All-tail P b bs h))

-- no block is in a segment that isn't there
none-in : (r : Layout ℕ) (n : ℕ) → AreAllocated r → All (λ s. s.0 ≢ n) r.segments → All (λ c. c.seg ≢ n) r.blocks
none-in r n h fresh =
    λ k d lt e.
    let u = h.usable k d lt in
    let s : ℕ × ℕ = u.1 in
    let at : get_or r.segments u.0 s ≡ s = u.3 in
    fresh u.0 s u.2 (ap (λ (q : ℕ × ℕ). q.0) at ∙ (sym u.4.0 ∙ e))

-- a new segment has no block
pub place-new : (r : Layout ℕ) (n bytes size : ℕ) → AreAllocated r → All (λ s. s.0 ≢ n) r.segments → 32 + span size ≤ bytes → IsBlockPlace (with_grant r (new_segment n bytes)) size (n, 32)
place-new r n bytes size h fresh room =
    let P : ℕ × ℕ → Type 0 = λ q. (n ≡ q.0) × (32 + span size ≤ q.1) in
    record {
      behind = λ k d lt e. absurd (none-in r n h fresh k d lt e);
      first = omega arith;
      multiple = refl;
      inside = any-last P r.segments (n, bytes) (refl, room);
    }

module _ (r : Layout ℕ) (size : ℕ) (at : ℕ × ℕ) (some : 1 ≤ size) (p : IsBlockPlace r size at) where
  pub place-elsewhere : AreElsewhere at r.blocks
  place-elsewhere =
      λ k d lt.
      let c : Block ℕ = get_or r.blocks k d in
      ⊎_elim
      (λ (t : is_at at c ≡ true).
      let same = at-place at c t in
      let end = p.behind k d lt (ap (λ (q : ℕ × ℕ). q.0) same) in
      absurd (omega (arith, end, ap (λ (q : ℕ × ℕ). q.1) same, some-span c.size)))
      (λ (t : is_at at c ≡ false). t)
      (cases_Bool (is_at at c))

  module _ (h : AreAllocated r) where
    -- each block there ends before it
    pub place-behind : All (λ c. EndsFirst c (zeros {L = ℕ} 0 size at)) r.blocks
    place-behind = λ k d lt e.
        omega (arith, p.behind k d lt e, p.first, (h.usable k d lt).4.1)

    pub place-fresh : (a : ℕ) → place_of a ≡ at → ¬ HasBlock r.blocks a
    place-fresh a e = none-there r.blocks a h.exact (subst (λ (q : ℕ × ℕ). AreElsewhere q r.blocks) (sym e) place-elsewhere)

-- the place by the newest segment
pub place-some : (r : Layout ℕ) (size off : ℕ) (s : ℕ × ℕ) → newest r ≡ Some s → off ≡ next_offset s.0 r.blocks → off + span size ≤ s.1 → Some (s.0, off) ≡ last_place r size
place-some r size off s is at fits =
    sym (ap (place_behind_latest r.blocks size) is ∙ (rw (← at) (rw (le-leb (off + span size) s.1 fits) refl)))

pub place-none : (r : Layout ℕ) (size off : ℕ) (s : ℕ × ℕ) → newest r ≡ Some s → off ≡ next_offset s.0 r.blocks → s.1 < off + span size → None ≡ last_place r size
place-none r size off s is at over =
    sym (ap (place_behind_latest r.blocks size) is ∙ (rw (← at) (rw (lt-leb (off + span size) s.1 over) refl)))

-- the place in a segment that was granted
pub place-granted : (r : Layout ℕ) (n bytes size : ℕ) → AreAllocated r → All (λ s. s.0 ≢ n) r.segments → 32 + span size ≤ bytes → last_place (with_grant r (new_segment n bytes)) size ≡ Some (n, 32)
place-granted r n bytes size h fresh room =
    sym (place-some (with_grant r (new_segment n bytes)) size 32 (n, bytes) (last_of-push r.segments (n, bytes)) (sym (ends-none n 32 r.blocks (none-in r n h fresh))) room)

-- all blocks of the segment lent latest end in it
all-before : (r : Layout ℕ) (front : List (ℕ × ℕ)) (n size : ℕ) → AreAllocated r → r.segments ≡ front ++ (n, size) ∷ [] → All (EndBefore (n, size)) r.blocks
all-before r front n size h split = λ k d lt own.
    let b : Block ℕ = get_or r.blocks k d in
    let u = h.usable k d lt in
    let P : ℕ × ℕ → Type 0 = λ s. b.off - 16 + span b.size + 16 ≤ s.1 in
    let one = only-one r.segments n P h.numbered.distinct (u.0, u.1, u.2, u.3, (sym u.4.0 ∙ own, omega (arith, u.4.2))) in
    let at : get_or r.segments (length front) (n, size) ≡ (n, size) = ap (λ (ss : List (ℕ × ℕ)). get_or ss (length front) (n, size)) split ∙ get_or-last front (n, size) (n, size) in
    let within : length front < length r.segments = omega (arith, ap length split, length_push front (n, size)) in
    let end : b.off - 16 + span b.size + 16 ≤ size = subst P at (one (length front) (n, size) within (ap (λ (s : ℕ × ℕ). s.0) at)) in
    omega (arith, end)

-- where it gets more bytes, a block of these fits behind them
pub place-longer : (r : Layout ℕ) (front : List (ℕ × ℕ)) (n had more size : ℕ) → AreAllocated r → r.segments ≡ front ++ (n, had) ∷ [] → 32 ≤ had → span size ≤ more → last_place (with_grant r (record { number = n; bytes = more; fresh = false })) size ≡ Some (n, next_offset n r.blocks)
place-longer r front n had more size h split least room =
    let g : Grant = record { number = n; bytes = more; fresh = false } in
    let new : newest (with_grant r g) ≡ Some (n, had + more) = ap (λ (ss : List (ℕ × ℕ)). last_of (with_more more ss)) split ∙ (ap last_of (with_more-push more front (n, had)) ∙ last_of-push front (n, had + more)) in
    let end : next_offset n r.blocks ≤ had = ends-most n 32 had r.blocks least (all-before r front n had h split) in
    sym (place-some (with_grant r g) size (next_offset n r.blocks) (n, had + more) new refl (omega (arith, end, room)))
