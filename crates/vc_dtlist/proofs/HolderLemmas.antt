-- Lists of addresses: which hold one, and which hold none twice.
use Rattle.vc_base.proofs.Common.{◌≡◌, ℕ, ◌+◌, true, false, ◌≢◌, List, [], ◌∷◌, ◌++◌, length, sym, refl, ap, inl, inr, true≢false, arith, eq-eqb, ne_eqb, eqb_tells, AreDistinct, contains, first_in, first_of, last_in, some_address, without}
use Rattle.vc_base.specs.Holders.{inserted_after, inserted_before, last_of}
use Rattle.vc_base.proofs.Members.{apart-head, apart-tail, apart-cons, apart-front, apart-rest}

pub apart-append : (xs ys : List ℕ) (a : ℕ) → contains xs a ≡ false → contains ys a ≡ false → contains (xs ++ ys) a ≡ false
apart-append [] ys a h k = k
apart-append (x ∷ xs) ys a h k = apart-cons x (xs ++ ys) a (apart-head x xs a h) (apart-append xs ys a (apart-tail x xs a h) k)

-- with one address between them
pub distinct-insert : (xs ys : List ℕ) (a : ℕ) → AreDistinct (xs ++ ys) → contains (xs ++ ys) a ≡ false → AreDistinct (xs ++ a ∷ ys)
distinct-insert [] ys a d h = (h, d)
distinct-insert (x ∷ xs) ys a d h =
    let ne : x ≢ a = apart-head x (xs ++ ys) a h in
    let back : a ≢ x = λ e. ne (sym e) in (
      apart-append xs (a ∷ ys) x (apart-front xs ys x d.0) (apart-cons a ys x back (apart-rest xs ys x d.0)),
      distinct-insert xs ys a d.1 (apart-tail x (xs ++ ys) a h),
    )

pub distinct-front : (xs ys : List ℕ) → AreDistinct (xs ++ ys) → AreDistinct xs
distinct-front [] ys d = tt
distinct-front (x ∷ xs) ys d = (apart-front xs ys x d.0, distinct-front xs ys d.1)

pub distinct-rest : (xs ys : List ℕ) → AreDistinct (xs ++ ys) → AreDistinct ys
distinct-rest [] ys d = d
distinct-rest (x ∷ xs) ys d = distinct-rest xs ys d.1

-- without the one between them
pub distinct-remove : (xs ys : List ℕ) (a : ℕ) → AreDistinct (xs ++ a ∷ ys) → AreDistinct (xs ++ ys)
distinct-remove [] ys a d = d.1
distinct-remove (x ∷ xs) ys a d =
    (apart-append xs ys x (apart-front xs (a ∷ ys) x d.0) (apart-tail a ys x (apart-rest xs (a ∷ ys) x d.0)), distinct-remove xs ys a d.1)

-- the last of a list isn't in one behind it, and no address that is
pub last-apart : (x : ℕ) (xs ys : List ℕ) → AreDistinct (x ∷ xs ++ ys) → contains ys (last_of x xs) ≡ false
last-apart x [] ys d = d.0
last-apart x (y ∷ xs) ys d = last-apart y xs ys d.1

-- the last isn't before itself
pub last-differs : (x y : ℕ) (xs : List ℕ) → contains (y ∷ xs) x ≡ false → x ≢ last_of y xs
last-differs x y [] h e = apart-head y [] x h (sym e)
last-differs x y (z ∷ xs) h e = last-differs x z xs (apart-tail y (z ∷ xs) x h) e

-- the ends of two lists one after another
pub first_of-append : (xs ys : List ℕ) (other : ℕ) → first_of (xs ++ ys) other ≡ first_of xs (first_of ys other)
first_of-append [] ys other = refl
first_of-append (x ∷ xs) ys other = refl

pub last_of-append : (other : ℕ) (xs ys : List ℕ) → last_of other (xs ++ ys) ≡ last_of (last_of other xs) ys
last_of-append other [] ys = refl
last_of-append other (x ∷ xs) ys = last_of-append x xs ys

-- where an address is in a list: what stands before it, and behind it
pub record Split (xs : List ℕ) (at : ℕ) : Type 0 where
  pub front : List ℕ
  pub rest : List ℕ
  pub whole : xs ≡ front ++ at ∷ rest
  pub before : contains front at ≡ false

split_behind : (x : ℕ) (xs : List ℕ) (at : ℕ) → x ≢ at → Split xs at → Split (x ∷ xs) at
split_behind x xs at ne s = record {
  front = x ∷ s.front;
  rest = s.rest;
  whole = ap (λ z. x ∷ z) s.whole;
  before = apart-cons x s.front at ne s.before;
}

pub split : (xs : List ℕ) (at : ℕ) → contains xs at ≡ true → Split xs at
split [] at h = absurd (true≢false (sym h))
split (x ∷ xs) at h = elim (eqb_tells x at) as (λ _. Split (x ∷ xs) at) [
  | inl same ↦ record { front = []; rest = xs; whole = ap (λ z. z ∷ xs) same.1; before = refl }
  | inr apart ↦ split_behind x xs at apart.1 (split xs at (rw apart.0 at h))
]

-- what the changes of a list are there
pub inserted_before-split : (front : List ℕ) (mark : ℕ) (rest : List ℕ) (at : ℕ) → contains front mark ≡ false → inserted_before mark at (front ++ mark ∷ rest) ≡ front ++ at ∷ mark ∷ rest
inserted_before-split [] mark rest at h = rw (eq-eqb mark mark refl) refl
inserted_before-split (x ∷ xs) mark rest at h =
    rw (ne_eqb x mark (apart-head x xs mark h)) (ap (λ z. x ∷ z) (inserted_before-split xs mark rest at (apart-tail x xs mark h)))

pub inserted_after-split : (front : List ℕ) (mark : ℕ) (rest : List ℕ) (at : ℕ) → contains front mark ≡ false → inserted_after mark at (front ++ mark ∷ rest) ≡ front ++ mark ∷ at ∷ rest
inserted_after-split [] mark rest at h = rw (eq-eqb mark mark refl) refl
inserted_after-split (x ∷ xs) mark rest at h =
    rw (ne_eqb x mark (apart-head x xs mark h)) (ap (λ z. x ∷ z) (inserted_after-split xs mark rest at (apart-tail x xs mark h)))

-- an end of a list without 0 is none where there is none
pub some-first : (xs : List ℕ) → contains xs 0 ≡ false → some_address (first_of xs 0) ≡ first_in xs
some-first [] h = refl
some-first (x ∷ xs) h = rw (ne_eqb x 0 (apart-head x xs 0 h)) refl

pub some-last : (xs : List ℕ) → contains xs 0 ≡ false → some_address (last_of 0 xs) ≡ last_in xs
some-last [] h = refl
some-last (x ∷ xs) h = rw (ne_eqb (last_of x xs) 0 (λ e. last-differs 0 x xs h (sym e))) refl

-- without an address that is in a list it is one shorter, and holds no other than before
pub length-without : (xs : List ℕ) (at : ℕ) → contains xs at ≡ true → length (without at xs) + 1 ≡ length xs
length-without [] at h = absurd (true≢false (sym h))
length-without (x ∷ xs) at h = elim (eqb_tells x at) as (λ _. length (without at (x ∷ xs)) + 1 ≡ length (x ∷ xs)) [
  | inl same ↦ rw same.0 (omega arith)
  | inr apart ↦ let rest = length-without xs at (rw apart.0 at h) in rw apart.0 (omega arith)
]

pub apart-without : (xs : List ℕ) (at a : ℕ) → contains xs a ≡ false → contains (without at xs) a ≡ false
apart-without [] at a h = refl
apart-without (x ∷ xs) at a h = elim (eqb_tells x at) as (λ _. contains (without at (x ∷ xs)) a ≡ false) [
  | inl same ↦ rw same.0 (apart-tail x xs a h)
  | inr apart ↦ rw apart.0 (apart-cons x (without at xs) a (apart-head x xs a h) (apart-without xs at a (apart-tail x xs a h)))
]
