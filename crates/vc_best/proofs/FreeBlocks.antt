-- A block that is freed, and the free extents before and behind it.
use Rattle.vc_base.proofs.Common.{◌≡◌, ℕ, ◌+◌, ◌-◌, ◌%◌, ◌<◌, ◌≤◌, true, false, not, ◌&&◌, eqb, ◌⊎◌, List, [], ◌∷◌, Some, None, filter, Option, sym, refl, ap, ◌∙◌, subst, inl, inr, ⊎_elim, arith, le-ltb, lt-ltb, eq-eqb, ne_eqb, and_from, cases_Bool, address, place_of}
use Rattle.vc_best.proofs.Common.{Extent, IsFree, IsNamed, absorb, behind, behind_of, busy_in, change_extent, extent_in, extent_of, extents_of, first_of, free_extent, free_name, free_next, is_busy, is_free, is_merged, join, last_before, mark_free, next_of, no_links, previous_of}
use Rattle.vc_gaps.proofs.Joined.{first-cons}
use Rattle.vc_seg.proofs.Blocks.{place_of-address}
use Rattle.vc_best.proofs.Cuts.{behind-here, change_at-here, cut, extent_in-here}
use Rattle.vc_best.proofs.Known.{IsCut, now-none, now-same, off-of, then-behind, then-extent, then-steps}
use Rattle.vc_best.proofs.Nexts.{none-first}
use Rattle.vc_best.proofs.Lies.{Lies}

-- an extent stands before the one of an offset
pub record IsBefore (stop off : ℕ) (es : List Extent) (p : Extent) : Type 0 where
  pub lower : p.off < off
  pub multiple : p.off % 32 ≡ 0
  pub below : p.off ≤ stop
  pub some : 0 < p.span
  pub is : extent_in p.off es ≡ p
  pub behind : behind p.off es ≡ extent_in off es ∷ behind off es

before : (stop at off : ℕ) (es : List Extent) (p : Extent) (last : Option Extent) → Lies stop at es → at % 32 ≡ 16 → 0 < (extent_in off es).span → last_before last off es ≡ Some p →
    ((last ≡ Some p) × (es ≡ extent_in off es ∷ behind off es)) ⊎ IsBefore stop off es p
before stop at off [] p last h m named e = absurd (omega arith)
before stop at off (x ∷ xs) p last h m named e =
    let o = h.0.off in
    let legal = h.0.legal in
    let least = legal.least in
    let multiple = legal.multiple in
    let within = h.0.within in
    ⊎_elim
    (λ (t : eqb x.off off ≡ true). inl (rw t at e, rw t refl))
    (λ (t : eqb x.off off ≡ false).
    let named' : 0 < (extent_in off xs).span = rw t at named in
    let c = cut stop (at + x.span) off xs h.1 named' in
    let low = c.low in
    ⊎_elim
    (λ (u : (Some x ≡ Some p) × (xs ≡ extent_in off xs ∷ behind off xs)).
    let same : x ≡ p = let q = u.0 in cc in
    let own : IsBefore stop off (x ∷ xs) x = record {
      lower = omega arith;
      multiple = omega arith;
      below = omega arith;
      some = omega arith;
      is = rw (eq-eqb x.off x.off refl) refl;
      behind = rw (eq-eqb x.off x.off refl, t) u.1;
    } in
    inr (subst (λ (y : Extent). IsBefore stop off (x ∷ xs) y) same own))
    (λ (r : IsBefore stop off xs p).
    let some = r.some in
    let d = cut stop (at + x.span) p.off xs h.1 (rw r.is some) in
    let low' = d.low in
    let other : eqb x.off p.off ≡ false = ne_eqb x.off p.off (λ q. omega arith) in
    inr (record {
      lower = r.lower;
      multiple = r.multiple;
      below = r.below;
      some = r.some;
      is = rw other r.is;
      behind = rw (other, t) r.behind;
    }))
    (before stop (at + x.span) off xs p (Some x) h.1 (omega arith) named' (rw t at e)))
    (cases_Bool (eqb x.off off))

none-before : (off : ℕ) (es : List Extent) (x : Extent) → 0 < (extent_in off es).span → last_before (Some x) off es ≡ None → ⊥
none-before off [] x named e = omega arith
none-before off (y ∷ ys) x named e =
    ⊎_elim
    (λ (t : eqb y.off off ≡ true). let q : Some x ≡ None = rw t at e in cc)
    (λ (t : eqb y.off off ≡ false). none-before off ys y (rw t at named) (rw t at e))
    (cases_Bool (eqb y.off off))

pub first-is : (off : ℕ) (es : List Extent) → 0 < (extent_in off es).span → last_before None off es ≡ None → es ≡ extent_in off es ∷ behind off es
first-is off [] named e = absurd (omega arith)
first-is off (y ∷ ys) named e =
    ⊎_elim
    (λ (t : eqb y.off off ≡ true). rw t refl)
    (λ (t : eqb y.off off ≡ false). absurd (none-before off ys y (rw t at named) (rw t at e)))
    (cases_Bool (eqb y.off off))

-- what a free extent that absorbs the next is
pub record IsAbsorbed (e : Extent) (ys : List Extent) (zs : List Extent) : Type 0 where
  pub first : Extent
  pub off : first.off ≡ e.off
  pub rest : List Extent
  pub is : zs ≡ first ∷ rest
  pub free : first.size ≡ 0
  pub merged : is_merged true rest ≡ true
  pub busy : filter is_busy rest ≡ filter is_busy ys

pub busy-free : (e : Extent) → e.size ≡ 0 → is_busy e ≡ false
busy-free e h = le-ltb 0 e.size (omega arith)

busy-of_free : (e : Extent) → is_free e ≡ true → is_busy e ≡ false
busy-of_free e h = elim (is_busy e) as (λ v. not v ≡ true → v ≡ false) [ true ↦ λ q. sym q | false ↦ λ q. refl ] h

pub absorbed : (e : Extent) (ys : List Extent) → e.size ≡ 0 → is_merged false ys ≡ true → IsAbsorbed e ys (absorb e ys)
absorbed e [] free m = record { first = e; off = refl; rest = []; is = refl; free = free; merged = refl; busy = refl }
absorbed e (y ∷ ys) free m =
    ⊎_elim
    (λ (t : is_free y ≡ true).
    let tail : is_merged (is_free y) ys ≡ true = m in
    record {
      first = free_extent e.off (e.span + y.span) no_links;
      off = refl;
      rest = ys;
      is = rw t refl;
      free = refl;
      merged = rw t at tail;
      busy = rw (busy-of_free y t) refl;
    })
    (λ (t : is_free y ≡ false).
    record {
      first = e;
      off = refl;
      rest = y ∷ ys;
      is = rw t refl;
      free = free;
      merged = and_from (not (true && is_free y)) (is_merged (is_free y) ys) (ap not t) m;
      busy = refl;
    })
    (cases_Bool (is_free y))

-- the blocks stay
pub absorb-busy : (n : ℕ) (e : Extent) (ys : List Extent) → e.size ≡ 0 → busy_in (n, absorb e ys) ≡ busy_in (n, e ∷ ys)
absorb-busy n e [] free = refl
absorb-busy n e (y ∷ ys) free =
    ⊎_elim
    (λ (t : is_free y ≡ true). rw (t, busy-free e free, busy-of_free y t) refl)
    (λ (t : is_free y ≡ false). rw t refl)
    (cases_Bool (is_free y))

-- a block becomes free, and takes the next free extent
abbrev pub freed : Extent → List Extent → List Extent
freed e ys = absorb (free_extent e.off e.span no_links) ys

-- the name of what that is, where it is the first of these
pub absorbed-name : (n : ℕ) (e : Extent) (ys : List Extent) → e.size ≡ 0 → free_name n (first_of (absorb e ys)) ≡ address (n, e.off) ∷ []
absorbed-name n e [] free = rw (busy-free e free) refl
absorbed-name n e (y ∷ ys) free =
    ⊎_elim
    (λ (t : is_free y ≡ true). rw t refl)
    (λ (t : is_free y ≡ false). rw (t, busy-free e free) refl)
    (cases_Bool (is_free y))

module _ (t t1 t2 : List (ℕ × List Extent)) (a : ℕ) (c : IsCut t a) (is1 : t1 ≡ change_extent a mark_free t) where
  abbrev e : Extent
  e = extent_of t a

  abbrev ys : List Extent
  ys = behind_of t a

  -- what is behind it stays
  pub next-freed : free_next t1 a ≡ free_next t a
  next-freed =
      let same : behind_of t1 a ≡ behind_of t a = then-behind t t1 a a mark_free c is1 refl (omega arith) ∙ behind-here (place_of a).1 (free_extent e.off e.span no_links) (behind_of t a) (off-of t a c) in
      ap (λ (ys : List Extent). free_name (place_of a).0 (first_of ys)) same

  pub freed-extent : extent_of t1 a ≡ free_extent (extent_of t a).off (extent_of t a).span no_links
  freed-extent =
      then-extent t t1 a a mark_free c is1 refl (omega arith)
      ∙ extent_in-here (place_of a).1 (free_extent e.off e.span no_links) (behind_of t a) (off-of t a c)

  pub is-freed : IsNamed t a → IsFree t1 a
  is-freed named = record { named = rw (ap (λ (x : Extent). x.span) freed-extent) named; free = ap (λ (x : Extent). x.size) freed-extent }

  module _ (is2 : t2 ≡ change_extent a absorb t1) where
    pub both : t2 ≡ change_extent a freed t
    both =
        then-steps t t1 a a mark_free c is1 refl (omega arith) t2 absorb freed is2
        (change_at-here (place_of a).1 (free_extent e.off e.span no_links) (behind_of t a) (off-of t a c) absorb)

-- the extent before one, by its address
module _ (t : List (ℕ × List Extent)) (a : ℕ) (c : IsCut t a) (b : ℕ) (p : Extent) (prev : previous_of t a ≡ Some p) (named : IsNamed t a) (value : b ≡ address ((place_of a).0, p.off)) where
  is : IsBefore (c.size - 16) (place_of a).1 (extents_of (place_of a).0 t) p
  is =
      let none : Option Extent = None in
      ⊎_elim
      (λ u. absurd (let q = u.0 in cc))
      (λ u. u)
      (before (c.size - 16) 16 (place_of a).1 (extents_of (place_of a).0 t) p None c.lies refl named prev)

  pub place : place_of b ≡ ((place_of a).0, p.off)
  place =
      ap place_of value ∙ place_of-address (place_of a).0 p.off (omega (arith, is.below, c.legal.most)) is.multiple

  at : (place_of b).1 ≡ p.off
  at = ap (λ (q : ℕ × ℕ). q.1) place

  pub lower : (place_of b).1 < (place_of a).1
  lower = omega (arith, at, is.lower)

  pub lower-before : p.off < (place_of a).1
  lower-before = is.lower

  pub extent : extent_of t b ≡ p
  extent = ap (λ (q : ℕ × ℕ). extent_in q.1 (extents_of q.0 t)) place ∙ is.is

  pub rest : behind_of t b ≡ extent_of t a ∷ behind_of t a
  rest = ap (λ (q : ℕ × ℕ). behind q.1 (extents_of q.0 t)) place ∙ is.behind

-- what becomes of a free extent and the one behind it
module _ (t : List (ℕ × List Extent)) (a : ℕ) (c : IsCut t a) where
  pub absorb-none : next_of t a ≡ None → t ≡ change_extent a absorb t
  absorb-none none =
      let ys : behind_of t a ≡ [] = none-first (behind_of t a) none in
      sym (now-none t a c absorb (rw ys refl))

  module _ (y : Extent) (next : next_of t a ≡ Some y) where
    next-tail : (zs : List Extent) × (behind_of t a ≡ y ∷ zs)
    next-tail = first-cons (behind_of t a) y next

    pub absorb-busy_next : 0 < y.size → t ≡ change_extent a absorb t
    absorb-busy_next busy =
        let yes : is_busy y ≡ true = lt-ltb 0 y.size busy in
        sym (now-none t a c absorb (rw next-tail.1 (rw yes refl)))

    pub absorb-free_next : y.size ≡ 0 → change_extent a join t ≡ change_extent a absorb t
    absorb-free_next free =
        let no : is_busy y ≡ false = busy-free y free in
        now-same t a c join absorb (rw next-tail.1 (rw no refl))
