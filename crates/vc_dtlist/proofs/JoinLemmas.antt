-- One holder joins a chain between two neighbours, or leaves it.
use Rattle.vc_base.proofs.Common.{◌≡◌, ℕ, false, ◌≢◌, List, [], ◌∷◌, ◌++◌, is_some, if◌then◌else◌, IsSome, ◌==◌, Some, None, Option, sym, refl, ◌∙◌, subst, inl, inr, true≢false, arith, ne_eqb, eqb_tells, Blocks, WordWritten, AreDistinct, KeepsBut, contains, first_of}
use Rattle.vc_base.specs.Holders.{last_of}
use Rattle.vc_base.proofs.Members.{apart-head, apart-front, apart-rest, first-apart}
use Rattle.vc_dtlist.specs.Linked.{Chain, HasLinks}
use Rattle.vc_dtlist.proofs.HolderLemmas.{distinct-front, distinct-rest, last-apart, last-differs, last_of-append}
use Rattle.vc_dtlist.proofs.ChainLemmas.{HasLinks-other, Chain-other, Chain-next, Chain-previous, Chain-none}

-- an address that is no last one and not 0 differs from the last one or 0, and likewise from the first
pub not_last : (xs : List ℕ) (a : ℕ) → contains xs a ≡ false → a ≢ 0 → a ≢ last_of 0 xs
not_last [] a h ne = ne
not_last (x ∷ xs) a h ne = last-differs a x xs h

pub not_first : (xs : List ℕ) (a : ℕ) → contains xs a ≡ false → a ≢ 0 → a ≢ first_of xs 0
not_first [] a h ne = ne
not_first (x ∷ xs) a h ne = λ e. apart-head x xs a h (sym e)

-- the last of a front isn't in the rest, nor the first of the rest in the front
pub last-in_rest : (xs ys : List ℕ) → AreDistinct (xs ++ ys) → contains ys 0 ≡ false → contains ys (last_of 0 xs) ≡ false
last-in_rest [] ys d none = none
last-in_rest (x ∷ xs) ys d none = last-apart x xs ys d

pub first-in_front : (xs ys : List ℕ) → AreDistinct (xs ++ ys) → contains xs 0 ≡ false → contains xs (first_of ys 0) ≡ false
first-in_front xs [] d none = none
first-in_front xs (y ∷ ys) d none = first-apart xs y ys d

-- another behind the last of a front, where there is one, and before the first of a rest
front-next : (old new : Blocks) (xs : List ℕ) (n v : ℕ) → WordWritten old new (last_of 0 xs) 1 v → AreDistinct xs → Chain old 0 xs n → Chain new 0 xs v
front-next old new [] n v w d c = tt
front-next old new (x ∷ xs) n v w d c = Chain-next old new 0 x xs n v w d c

rest-previous : (old new : Blocks) (p : ℕ) (ys : List ℕ) (v : ℕ) → WordWritten old new (first_of ys 0) 0 v → AreDistinct ys → Chain old p ys 0 → Chain new v ys 0
rest-previous old new p [] v w d c = tt
rest-previous old new p (y ∷ ys) v w d c = Chain-previous old new p y ys 0 v w d c

-- the words of two neighbours were written: the front ends with the one and the rest begins with the other
pub neighbours : (old mid new : Blocks) (front rest : List ℕ) (q p to from : ℕ) → WordWritten old mid (last_of 0 front) 1 to → WordWritten mid new (first_of rest 0) 0 from → AreDistinct (front ++ rest) → Chain old 0 front q → Chain old p rest 0 → Chain new 0 front to × Chain new from rest 0
neighbours old mid new front rest q p to from w v d ls rs =
    let no_front = Chain-none old 0 front q ls in
    let no_rest = Chain-none old p rest 0 rs in
    let ls1 = front-next old mid front q to w (distinct-front front rest d) ls in
    let rs1 = Chain-other old mid (last_of 0 front) p rest 0 w.written (last-in_rest front rest d no_rest) rs in (
      Chain-other mid new (first_of rest 0) 0 front to v.written (first-in_front front rest d no_front) ls1,
      rest-previous mid new p rest from v (distinct-rest front rest d) rs1,
    )

-- the links of a holder that isn't one of them stay
pub links_stay : (old mid new : Blocks) (front rest : List ℕ) (at p n to from : ℕ) → WordWritten old mid (last_of 0 front) 1 to → WordWritten mid new (first_of rest 0) 0 from → contains (front ++ rest) at ≡ false → HasLinks old at p n → HasLinks new at p n
links_stay old mid new front rest at p n to from w v apart links =
    let some : at ≢ 0 = λ e. absurd (omega (arith, links.address.some, e)) in
    let one = HasLinks-other old mid (last_of 0 front) at p n w.written (not_last front at (apart-front front rest at apart) some) links in
    HasLinks-other mid new (first_of rest 0) at p n v.written (not_first rest at (apart-rest front rest at apart) some) one

-- nothing stands at no address, before or after
both_none : (o p : Option (List ℕ)) → (IsSome o → ⊥) → is_some p ≡ is_some o → p ≡ o
both_none None None h e = refl
both_none None (Some y) h e = absurd (true≢false e)
both_none (Some x) p h e = absurd (h refl)

-- blocks that are neither of them stay
pub neighbours_keep : (old mid new : Blocks) (front rest : List ℕ) (to from : ℕ) → WordWritten old mid (last_of 0 front) 1 to → WordWritten mid new (first_of rest 0) 0 from → (IsSome (old 0) → ⊥) → KeepsBut (front ++ rest) old new
neighbours_keep old mid new front rest to from w v none = record {
  there = λ a. v.written.there a ∙ w.written.there a;
  sizes = λ a. v.written.sizes a ∙ w.written.sizes a;
  bodies = λ a. v.written.bodies a ∙ w.written.bodies a;
  others = λ a apart. elim (eqb_tells a 0) as (λ _. new a ≡ old a) [
    | inl same ↦ subst (λ z. new z ≡ old z) (sym same.1) (both_none (old 0) (new 0) none (v.written.there 0 ∙ w.written.there 0))
    | inr some ↦ v.written.others a (not_first rest a (apart-rest front rest a apart) some.1) ∙ w.written.others a (not_last front a (apart-front front rest a apart) some.1)
  ];
}

-- the first of what joins a front and a rest, and the last
pub first-joined : (xs ys zs : List ℕ) → contains xs 0 ≡ false → (if last_of 0 xs == 0 then first_of zs 0 else first_of (xs ++ ys) 0) ≡ first_of (xs ++ zs) 0
first-joined [] ys zs none = refl
first-joined (x ∷ xs) ys zs none = rw (ne_eqb (last_of x xs) 0 (λ e. last-differs 0 x xs none (sym e))) refl

pub last-joined : (xs ys : List ℕ) (mid : ℕ) → contains ys 0 ≡ false → (if first_of ys 0 == 0 then mid else last_of 0 (xs ++ ys)) ≡ last_of mid ys
last-joined xs [] mid none = refl
last-joined xs (y ∷ ys) mid none = rw (ne_eqb y 0 (apart-head y ys 0 none)) (last_of-append 0 xs (y ∷ ys))

pub last-parted : (xs ys : List ℕ) (mid : ℕ) → contains ys 0 ≡ false → (if first_of ys 0 == 0 then last_of 0 xs else last_of 0 (xs ++ mid ∷ ys)) ≡ last_of 0 (xs ++ ys)
last-parted xs [] mid none = sym (last_of-append 0 xs [])
last-parted xs (y ∷ ys) mid none = rw (ne_eqb y 0 (apart-head y ys 0 none)) (last_of-append 0 xs (mid ∷ y ∷ ys) ∙ sym (last_of-append 0 xs (y ∷ ys)))
