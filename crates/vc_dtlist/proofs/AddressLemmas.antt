-- What is known of the holders of a list, and of those that a hash or an ordered one stands for.
use Rattle.vc_base.proofs.Common.{◌≡◌, ℕ, ◌+◌, ◌^◌, ◌<◌, ◌≤◌, Bool, true, false, eqb, List, [], ◌∷◌, length, sym, refl, subst, inl, inr, true≢false, arith, eq-eqb, ne_eqb, eqb_tells, length-le_from_distinct_below, AllByRecursion, IsDistinct, list_any, Blocks, IsAddress, IsHolder, AreDistinct, contains}
use Rattle.vc_base.proofs.Members.{apart-head, apart-tail, within-tail}
use Rattle.vc_dtlist.specs.declared.dt_list.DtList.{DtList}
use Rattle.vc_dtlist.specs.Linked.{Chain, LinksFor}

-- each of them is a holder at an address, and no address stands twice
pub record AreHolders (blocks : Blocks) (holders : List ℕ) : Type 0 where
  pub addresses : (a : ℕ) → contains holders a ≡ true → IsAddress a
  pub there : (a : ℕ) → contains holders a ≡ true → IsHolder blocks a
  pub distinct : AreDistinct holders

-- so are those that are linked
in_chain : (b : Blocks) (before : ℕ) (xs : List ℕ) (behind a : ℕ) → Chain b before xs behind → contains xs a ≡ true → IsAddress a × IsHolder b a
in_chain b before [] behind a c h = absurd (true≢false (sym h))
in_chain b before (x ∷ xs) behind a c h = elim (eqb_tells x a) as (λ _. IsAddress a × IsHolder b a) [
  | inl same ↦ subst (λ z. IsAddress z × IsHolder b z) same.1 (c.0.address, c.0.holder)
  | inr apart ↦ in_chain b x xs behind a c.1 (rw apart.0 at h)
]

pub LinksFor-holders : (list : DtList) (b : Blocks) (xs : List ℕ) → LinksFor list b xs → AreHolders b xs
LinksFor-holders list b xs l = record {
  addresses = λ a h. (in_chain b 0 xs 0 a l.chain h).0;
  there = λ a h. (in_chain b 0 xs 0 a l.chain h).1;
  distinct = l.distinct;
}

-- none is at 0
none_by : (b : Blocks) (xs : List ℕ) (t : Bool) → AreHolders b xs → contains xs 0 ≡ t → contains xs 0 ≡ false
none_by b xs true s h = let w = s.addresses 0 h in absurd (omega (arith, w.some))
none_by b xs false s h = h

pub no-holder : (b : Blocks) (xs : List ℕ) → AreHolders b xs → contains xs 0 ≡ false
no-holder b xs s = none_by b xs (contains xs 0) s refl

-- there are fewer than 2^32: each has an address of its own, and none has 0
apart_all : (x : ℕ) (xs : List ℕ) → contains xs x ≡ false → AllByRecursion (λ y. eqb x y ≡ false) xs
apart_all x [] h = tt
apart_all x (y ∷ ys) h = (ne_eqb x y (λ e. apart-head y ys x h (sym e)), apart_all x ys (apart-tail y ys x h))

distinct_all : (xs : List ℕ) → AreDistinct xs → IsDistinct eqb xs
unfolding IsDistinct
distinct_all [] d = tt
distinct_all (x ∷ xs) d = (apart_all x xs d.0, distinct_all xs d.1)

found_there : (xs : List ℕ) (q : ℕ) → list_any (eqb q) xs ≡ true → contains xs q ≡ true
found_there [] q h = h
found_there (x ∷ xs) q h = elim (eqb_tells q x) as (λ _. contains (x ∷ xs) q ≡ true) [
  | inl same ↦ rw (eq-eqb x q (sym same.1)) refl
  | inr apart ↦ within-tail x xs q (found_there xs q (rw apart.0 at h))
]

below : (b : Blocks) (xs : List ℕ) (q : ℕ) → AreHolders b xs → list_any (eqb q) (0 ∷ xs) ≡ true → q < 2 ^ 32
below b xs q s h = elim (eqb_tells q 0) as (λ _. q < 2 ^ 32) [
  | inl same ↦ omega (arith, same.1)
  | inr apart ↦ (s.addresses q (found_there xs q (rw apart.0 at h))).fits
]

pub few-holders : (b : Blocks) (xs : List ℕ) → AreHolders b xs → length xs + 1 ≤ 2 ^ 32
few-holders b xs s =
    let d : AreDistinct (0 ∷ xs) = (no-holder b xs s, s.distinct) in
    let h : length (0 ∷ xs) ≤ 2 ^ 32 = length-le_from_distinct_below (0 ∷ xs) (2 ^ 32) (distinct_all (0 ∷ xs) d) (λ q. below b xs q s) in
    omega arith
