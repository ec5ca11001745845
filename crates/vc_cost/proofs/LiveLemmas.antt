-- Live blocks of a best region where one is put, freed or moved.
use Rattle.std.proofs.lemmas.List.Elements.{Contains-append_right}
use Rattle.std.proofs.lemmas.Map.Made.{Contains-tail}
use Rattle.vc_base.proofs.Common.{◌≡◌, ◌≢◌, ℕ, zero, suc, ◌<◌, true, false, All, All-cons, All-head, All-nil, All-tail, All-weaker, List, [], ◌∷◌, ◌++◌, append-nil, map, length, drop, get_or, remove, set, take, is_some, refl, sym, ap, ◌∙◌, subst, inl, inr, ⊎_elim, cases_Bool, eqb_tells, true≢false, arith, AreDistinct, contains, place_of, Block, HasBlock, HaveOwnPlaces, address_of, find_block, is_at, without_block}
use Rattle.vc_base.proofs.Members.{apart-cons, apart-head, apart-removed, apart-tail}
use Rattle.vc_dtlist.proofs.HolderLemmas.{distinct-insert, distinct-remove}
use Rattle.vc_model.proofs.Owned.{at-address, is-there, left-elsewhere, none-has}
use Rattle.vc_cost.specs.BestCalls.{AreLive}

has-first : (b : Block ℕ) (bs : List (Block ℕ)) (x : ℕ) → address_of b ≡ x → HasBlock (b ∷ bs) x
has-first b bs x e = (0, omega arith, e)

has-more : (b : Block ℕ) (bs : List (Block ℕ)) (x : ℕ) → HasBlock bs x → HasBlock (b ∷ bs) x
has-more b bs x h = Contains-append_right (address_of b ∷ []) (map address_of bs) x h

has-tail : (b : Block ℕ) (bs : List (Block ℕ)) (x : ℕ) → address_of b ≢ x → HasBlock (b ∷ bs) x → HasBlock bs x
has-tail b bs x ne h = Contains-tail (address_of b) (map address_of bs) x ne h

-- where one block goes, the others stay
pub stays-without : (a : ℕ) (bs : List (Block ℕ)) (x : ℕ) → x ≢ a → HasBlock bs x → HasBlock (without_block (place_of a) bs) x
stays-without a [] x ne h = h
stays-without a (b ∷ bs) x ne h =
    ⊎_elim
    (λ (t : is_at (place_of a) b ≡ true). rw t (has-tail b bs x (λ e. ne (sym e ∙ at-address a b t)) h))
    (λ (t : is_at (place_of a) b ≡ false).
    rw t
    (elim (eqb_tells (address_of b) x) as (λ _. HasBlock (b ∷ without_block (place_of a) bs) x) [
      | inl same ↦ has-first b (without_block (place_of a) bs) x same.1
      | inr other ↦ has-more b (without_block (place_of a) bs) x (stays-without a bs x ne (has-tail b bs x other.1 h))
    ]))
    (cases_Bool (is_at (place_of a) b))

-- and what stands among the others stands among all
pub stays-with : (at : ℕ × ℕ) (bs : List (Block ℕ)) (x : ℕ) → HasBlock (without_block at bs) x → HasBlock bs x
stays-with at [] x h = h
stays-with at (b ∷ bs) x h =
    ⊎_elim
    (λ (t : is_at at b ≡ true). has-more b bs x (rw t at h))
    (λ (t : is_at at b ≡ false).
    let k : HasBlock (b ∷ without_block at bs) x = rw t at h in
    elim (eqb_tells (address_of b) x) as (λ _. HasBlock (b ∷ bs) x) [
      | inl same ↦ has-first b bs x same.1
      | inr other ↦ has-more b bs x (stays-with at bs x (has-tail b (without_block at bs) x other.1 k))
    ])
    (cases_Bool (is_at at b))

-- a block that is found stands there, and one that stands there is found
pub found-has : (a : ℕ) (bs : List (Block ℕ)) → is_some (find_block (place_of a) bs) ≡ true → HasBlock bs a
found-has a [] e = absurd (true≢false (sym e))
found-has a (b ∷ bs) e =
    ⊎_elim
    (λ (t : is_at (place_of a) b ≡ true). has-first b bs a (at-address a b t))
    (λ (t : is_at (place_of a) b ≡ false). has-more b bs a (found-has a bs (rw t at e)))
    (cases_Bool (is_at (place_of a) b))

pub has-found : (a : ℕ) (bs : List (Block ℕ)) → All (λ b. place_of (address_of b) ≡ (b.seg, b.off)) bs → HasBlock bs a → is_some (find_block (place_of a) bs) ≡ true
has-found a [] exact h = absurd (let within : h.0 < 0 = h.1 in omega (arith, within))
has-found a (b ∷ bs) exact h =
    ⊎_elim
    (λ (t : is_at (place_of a) b ≡ true). rw t refl)
    (λ (t : is_at (place_of a) b ≡ false).
    let ne : address_of b ≢ a = λ e. true≢false (sym (is-there a b (All-head (λ b. place_of (address_of b) ≡ (b.seg, b.off)) b bs exact) e) ∙ t) in
    rw t (has-found a bs (All-tail (λ b. place_of (address_of b) ≡ (b.seg, b.off)) b bs exact) (has-tail b bs a ne h)))
    (cases_Bool (is_at (place_of a) b))

-- lists of addresses
split : (xs : List ℕ) (i d : ℕ) → i < length xs → xs ≡ take i xs ++ get_or xs i d ∷ drop (suc i) xs
split [] i d h = absurd (omega (arith, h))
split (x ∷ xs) zero d h = refl
split (x ∷ xs) (suc i) d h = ap (λ z. x ∷ z) (split xs i d (omega (arith, h)))

set-split : (xs : List ℕ) (i y : ℕ) → i < length xs → set xs i y ≡ take i xs ++ y ∷ drop (suc i) xs
set-split [] i y h = absurd (omega (arith, h))
set-split (x ∷ xs) zero y h = refl
set-split (x ∷ xs) (suc i) y h = ap (λ z. x ∷ z) (set-split xs i y (omega (arith, h)))

all-less : (P : ℕ → Type 0) (xs : List ℕ) (a : ℕ) (ys : List ℕ) → All P (xs ++ a ∷ ys) → All P (xs ++ ys)
all-less P [] a ys h = All-tail P a ys h
all-less P (x ∷ xs) a ys h = All-cons P x (xs ++ ys) (All-head P x (xs ++ a ∷ ys) h) (all-less P xs a ys (All-tail P x (xs ++ a ∷ ys) h))

all-more : (P : ℕ → Type 0) (xs : List ℕ) (a : ℕ) (ys : List ℕ) → P a → All P (xs ++ ys) → All P (xs ++ a ∷ ys)
all-more P [] a ys p h = All-cons P a ys p h
all-more P (x ∷ xs) a ys p h = All-cons P x (xs ++ a ∷ ys) (All-head P x (xs ++ ys) h) (all-more P xs a ys p (All-tail P x (xs ++ ys) h))

all-apart : (P Q : ℕ → Type 0) (xs : List ℕ) (a : ℕ) → contains xs a ≡ false → ((x : ℕ) → x ≢ a → P x → Q x) → All P xs → All Q xs
all-apart P Q [] a n k h = All-nil Q
all-apart P Q (x ∷ xs) a n k h = All-cons Q x xs (k x (apart-head x xs a n) (All-head P x xs h)) (all-apart P Q xs a (apart-tail x xs a n) k (All-tail P x xs h))

apart-all : (xs : List ℕ) (a : ℕ) → All (λ x. x ≢ a) xs → contains xs a ≡ false
apart-all [] a h = refl
apart-all (x ∷ xs) a h = apart-cons x xs a (All-head (λ x. x ≢ a) x xs h) (apart-all xs a (All-tail (λ x. x ≢ a) x xs h))

-- one more that stands at an address where none stood
pub live-put : (old new : List (Block ℕ)) (live : List ℕ) (a : ℕ) → ¬ HasBlock old a → is_some (find_block (place_of a) new) ≡ true → without_block (place_of a) new ≡ old → AreLive old live → AreLive new (live ++ a ∷ [])
live-put old new live a fresh there others h =
    let apart = apart-all live a (All-weaker (HasBlock old) (λ x. x ≢ a) (λ x k e. fresh (subst (HasBlock old) e k)) live h.there) in
    record {
      distinct = distinct-insert live [] a (subst AreDistinct (sym (append-nil live)) h.distinct) (ap (λ z. contains z a) (append-nil live) ∙ apart);
      there =
          all-more (HasBlock new) live a [] (found-has a new there)
          (subst (All (HasBlock new)) (sym (append-nil live))
          (All-weaker (HasBlock old) (HasBlock new) (λ x k. stays-with (place_of a) new x (subst (λ (bs : List (Block ℕ)). HasBlock bs x) (sym others) k)) live h.there));
    }

module _ (old new : List (Block ℕ)) (live : List ℕ) (n : ℕ) (within : n < length live) (h : AreLive old live) where
  abbrev nth : ℕ
  nth = get_or live n 0

  pub nth-there : HasBlock old nth
  nth-there = h.there n 0 within

  whole : AreDistinct (take n live ++ nth ∷ drop (suc n) live)
  whole = subst AreDistinct (split live n 0 within) h.distinct

  apart : contains (remove live n) nth ≡ false
  apart = apart-removed (take n live) (drop (suc n) live) nth whole

  rest : All (HasBlock old) (remove live n)
  rest = all-less (HasBlock old) (take n live) nth (drop (suc n) live) (subst (All (HasBlock old)) (split live n 0 within) h.there)

  -- the n-th one goes
  pub live-freed : new ≡ without_block (place_of nth) old → AreLive new (remove live n)
  live-freed gone = record {
    distinct = distinct-remove (take n live) (drop (suc n) live) nth whole;
    there = all-apart (HasBlock old) (HasBlock new) (remove live n) nth apart (λ x ne k. subst (λ (bs : List (Block ℕ)). HasBlock bs x) (sym gone) (stays-without nth old x ne k)) rest;
  }

  -- the n-th one moves
  pub live-moved : (to : ℕ) → is_some (find_block (place_of to) new) ≡ true → HaveOwnPlaces new → without_block (place_of to) new ≡ without_block (place_of nth) old → AreLive new (set live n to)
  live-moved to there own others =
      let none : ¬ HasBlock (without_block (place_of to) new) to = none-has to (without_block (place_of to) new) (left-elsewhere to new own.distinct own.exact) in
      let stay : (x : ℕ) → x ≢ nth → HasBlock old x → HasBlock (without_block (place_of to) new) x = λ x ne k. subst (λ (bs : List (Block ℕ)). HasBlock bs x) (sym others) (stays-without nth old x ne k) in
      let off = apart-all (remove live n) to (all-apart (HasBlock old) (λ x. x ≢ to) (remove live n) nth apart (λ x ne k e. none (subst (HasBlock (without_block (place_of to) new)) e (stay x ne k))) rest) in
      let all = all-apart (HasBlock old) (HasBlock new) (remove live n) nth apart (λ x ne k. stays-with (place_of to) new x (stay x ne k)) rest in
      record {
        distinct = subst AreDistinct (sym (set-split live n to within)) (distinct-insert (take n live) (drop (suc n) live) to (distinct-remove (take n live) (drop (suc n) live) nth whole) off);
        there = subst (All (HasBlock new)) (sym (set-split live n to within)) (all-more (HasBlock new) (take n live) to (drop (suc n) live) (found-has to new there) all);
      }

-- none is left
pub live-none : (bs : List (Block ℕ)) → AreLive bs []
live-none bs = record { distinct = tt; there = All-nil (HasBlock bs) }
