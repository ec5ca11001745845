-- The latest block is the last, and no other is at its place.
use Rattle.vc_base.proofs.Common.{◌≡◌, ℕ, ◌<◌, true, false, eqb, ltb, List, [], ◌∷◌, ◌++◌, length, get_or, Some, None, All, Option, HoldsAt, remove, sym, refl, ap, ◌∙◌, subst, ⊎_elim, arith, ltb-false, ltb-true, eq-eqb, and_from, cases_Bool, All-head, All-tail, get_or-map, get_or_append_left, length-map, length_push, address, place_of, if_latest, latest, Block, Layout, address_of, is_at, without_block, NotLast, Outcome, Refused, HasBlock, change_block, find_block}
use Rattle.vc_base.proofs.Places.{some-span, at-place}
use Rattle.vc_last.specs.Allocation.{EndsFirst, AreAllocated, is_latest, is_one_at}
use Rattle.vc_last.proofs.Lists.{All-front, AllPairs-last, last_of-split, remove-last}
use Rattle.vc_last.proofs.Allocations.{IsExact}

pub at-own : (at : ℕ × ℕ) (b : Block ℕ) → (b.seg, b.off) ≡ at → is_at at b ≡ true
at-own at b e = and_from (eqb b.seg at.0) (eqb b.off at.1) (eq-eqb b.seg at.0 (ap (λ (p : ℕ × ℕ). p.0) e)) (eq-eqb b.off at.1 (ap (λ (p : ℕ × ℕ). p.1) e))

-- none of these blocks is at a place
abbrev pub AreElsewhere : ℕ × ℕ → List (Block ℕ) → Type 0
AreElsewhere at blocks = All (λ c. is_at at c ≡ false) blocks

-- so none has its address
pub none-there : (blocks : List (Block ℕ)) (a : ℕ) → All IsExact blocks → AreElsewhere (place_of a) blocks → ¬ HasBlock blocks a
none-there blocks a exact elsewhere among =
    let none : Block ℕ = record { label = 0; seg = 0; off = 0; size = 0; bytes = [] } in
    let k : ℕ = among.0 in
    let within : k < length blocks = omega (arith, among.1, length-map blocks address_of) in
    let b : Block ℕ = get_or blocks k none in
    let own : address_of b ≡ a = sym (get_or-map address_of blocks k none a within) ∙ among.2 in
    let place : (b.seg, b.off) ≡ place_of a = sym (exact k none within) ∙ ap place_of own in
    let yes = at-own (place_of a) b place in
    let no = elsewhere k none within in
    let both : true ≡ false = sym yes ∙ no in
    cc

-- and where none has its address, none is there
pub none-at : (a : ℕ) (blocks : List (Block ℕ)) → ¬ HasBlock blocks a → AreElsewhere (place_of a) blocks
none-at a blocks fresh =
    λ k d lt.
    let c : Block ℕ = get_or blocks k d in
    ⊎_elim
    (λ e.
    let own : address (c.seg, c.off) ≡ a = ap address (at-place (place_of a) c e) ∙ (omega arith) in
    absurd (fresh (k, omega (arith, lt, length-map blocks address_of), get_or-map address_of blocks k d a lt ∙ own)))
    (λ e. e)
    (cases_Bool (is_at (place_of a) c))

module _ (at : ℕ × ℕ) where
  -- a block ends before another begins, so it is elsewhere
  pub ends-elsewhere : (c b : Block ℕ) → EndsFirst c b → is_at at b ≡ true → is_at at c ≡ false
  ends-elsewhere c b first here =
      ⊎_elim
      (λ (t : is_at at c ≡ true).
      let same : (c.seg, c.off) ≡ (b.seg, b.off) = at-place at c t ∙ sym (at-place at b here) in
      let le = first (ap (λ (p : ℕ × ℕ). p.0) same) in
      absurd (omega (arith, le, ap (λ (p : ℕ × ℕ). p.1) same, some-span c.size)))
      (λ (t : is_at at c ≡ false). t)
      (cases_Bool (is_at at c))

  module _ (b : Block ℕ) (here : is_at at b ≡ true) where
    pub find-last : (front : List (Block ℕ)) → AreElsewhere at front → find_block at (front ++ b ∷ []) ≡ Some b
    find-last [] h = rw here refl
    find-last (c ∷ cs) h = let P : Block ℕ → Type 0 = λ d. is_at at d ≡ false in rw (All-head P c cs h) (find-last cs (All-tail P c cs h))

    pub find-before : (front back : List (Block ℕ)) → AreElsewhere at front → find_block at ((front ++ b ∷ []) ++ back) ≡ Some b
    find-before [] back h = rw here refl
    find-before (c ∷ cs) back h = let P : Block ℕ → Type 0 = λ d. is_at at d ≡ false in rw (All-head P c cs h) (find-before cs back (All-tail P c cs h))

    pub without-last : (front back : List (Block ℕ)) → AreElsewhere at front → without_block at ((front ++ b ∷ []) ++ back) ≡ front ++ back
    without-last [] back h = rw here refl
    without-last (c ∷ cs) back h = let P : Block ℕ → Type 0 = λ d. is_at at d ≡ false in rw (All-head P c cs h) (ap (λ ds. c ∷ ds) (without-last cs back (All-tail P c cs h)))

    pub without-latest : (front : List (Block ℕ)) → AreElsewhere at front → without_block at (front ++ b ∷ []) ≡ front
    without-latest [] h = rw here refl
    without-latest (c ∷ cs) h = let P : Block ℕ → Type 0 = λ d. is_at at d ≡ false in rw (All-head P c cs h) (ap (λ ds. c ∷ ds) (without-latest cs (All-tail P c cs h)))

    pub change-last : (f : Block ℕ → Block ℕ) (front : List (Block ℕ)) → AreElsewhere at front → change_block f at (front ++ b ∷ []) ≡ front ++ f b ∷ []
    change-last f [] h = rw here refl
    change-last f (c ∷ cs) h = let P : Block ℕ → Type 0 = λ d. is_at at d ≡ false in rw (All-head P c cs h) (ap (λ ds. c ∷ ds) (change-last f cs (All-tail P c cs h)))

-- the latest block is at that place, behind these
pub record IsLatestAt (r : Layout ℕ) (at : ℕ × ℕ) : Type 0 where
  pub front : List (Block ℕ)
  pub block : Block ℕ
  pub split : r.blocks ≡ front ++ block ∷ []
  pub here : is_at at block ≡ true
  pub elsewhere : AreElsewhere at front
  pub behind : All (λ c. EndsFirst c block) front
  pub is : latest r ≡ Some block

latest-found : (r : Layout ℕ) (at : ℕ × ℕ) (o : Option (Block ℕ)) → AreAllocated r → latest r ≡ o → is_one_at at o ≡ true → IsLatestAt r at
latest-found r at None h is e = absurd (cc)
latest-found r at (Some b) h is e =
    let cut = last_of-split r.blocks b is in
    let front : List (Block ℕ) = cut.0 in
    let behind = AllPairs-last EndsFirst front b (subst (λ (bs : List (Block ℕ)). (i j : ℕ) (d : Block ℕ) → i < j → j < length bs → EndsFirst (get_or bs i d) (get_or bs j d)) cut.1 h.ordered) in
    record {
      front = front;
      block = b;
      split = cut.1;
      here = e;
      elsewhere = λ k d lt. ends-elsewhere at (get_or front k d) b (behind k d lt) e;
      behind = behind;
      is = is;
    }

pub latest-at : (r : Layout ℕ) (at : ℕ × ℕ) → AreAllocated r → is_latest r at ≡ true → IsLatestAt r at
latest-at r at h e = latest-found r at (latest r) h refl e

pub IsExact-front : (r : Layout ℕ) (at : ℕ × ℕ) (l : IsLatestAt r at) → AreAllocated r → All IsExact l.front
IsExact-front r at l h = All-front IsExact l.front l.block (subst (All IsExact) l.split h.exact)

-- a call on the latest block, and on another
pub call-latest : {A : Type 0} (r : Layout ℕ) (at : ℕ × ℕ) (call : Block ℕ → Outcome A) (l : IsLatestAt r at) → if_latest at call (latest r) ≡ call l.block
call-latest r at call l = ap (if_latest at call) l.is ∙ rw l.here refl

not-found : {A : Type 0} (at : ℕ × ℕ) (call : Block ℕ → Outcome A) (o : Option (Block ℕ)) → is_one_at at o ≡ false → if_latest at call o ≡ Refused NotLast
not-found at call None e = refl
not-found at call (Some b) e = rw e refl

pub call-other : {A : Type 0} (r : Layout ℕ) (at : ℕ × ℕ) (call : Block ℕ → Outcome A) → is_latest r at ≡ false → if_latest at call (latest r) ≡ Refused NotLast
call-other r at call e = not-found at call (latest r) e

-- the block at an address is the one that goes
freed-split : (front : List (Block ℕ)) (b : Block ℕ) (a i : ℕ) → All IsExact front → AreElsewhere (place_of a) front → i < length (front ++ b ∷ []) → HoldsAt (λ (c : Block ℕ). address_of c ≡ a) (front ++ b ∷ []) i → front ≡ remove (front ++ b ∷ []) i
freed-split front b a i exact elsewhere lt here =
    ⊎_elim
    (λ (t : ltb i (length front) ≡ true).
    let within : i < length front = ltb-true i (length front) t in
    let own : address_of (get_or front i b) ≡ a = ap address_of (sym (get_or_append_left front (b ∷ []) b i within)) ∙ here b in
    let place : ((get_or front i b).seg, (get_or front i b).off) ≡ place_of a = sym (exact i b within) ∙ ap place_of own in
    let both : true ≡ false = sym (at-own (place_of a) (get_or front i b) place) ∙ elsewhere i b within in
    absurd (cc))
    (λ (t : ltb i (length front) ≡ false).
    let last : i ≡ length front = omega (arith, ltb-false i (length front) t, lt, length_push front b) in
    sym (ap (remove (front ++ b ∷ [])) last ∙ remove-last front b))
    (cases_Bool (ltb i (length front)))

pub freed-latest : (r : Layout ℕ) (a i : ℕ) (l : IsLatestAt r (place_of a)) → All IsExact l.front → i < length r.blocks → HoldsAt (λ (c : Block ℕ). address_of c ≡ a) r.blocks i → without_block (place_of a) r.blocks ≡ remove r.blocks i
freed-latest r a i l exact lt here =
    let at = place_of a in
    let lt' : i < length (l.front ++ l.block ∷ []) = omega (arith, lt, ap length l.split) in
    let here' : HoldsAt (λ (c : Block ℕ). address_of c ≡ a) (l.front ++ l.block ∷ []) i = λ d. subst (λ (bs : List (Block ℕ)). address_of (get_or bs i d) ≡ a) l.split (here d) in
    ap (without_block at) l.split
    ∙ (without-latest at l.block l.here l.front l.elsewhere
    ∙ (freed-split l.front l.block a i exact l.elsewhere lt' here' ∙ sym (ap (λ (bs : List (Block ℕ)). remove bs i) l.split)))
