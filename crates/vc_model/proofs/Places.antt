-- A block that is found in one way is the one at its address.
use Rattle.std.proofs.Common.{◌≡◌, ◌≢◌, ℕ, ◌≤◌, get_or, AllPairs, Bool, true, ◌⊎◌, cond, List, [], ◌∷◌, Some, None, filter, fold, eqb, ltb, refl, sym, ap, ◌∙◌, subst, inl, inr, ⊎_elim, arith}
use Rattle.std.specs.Prelude.{find, nat_lt}
use Rattle.std.specs.List.{AllByRecursion}
use Rattle.std.proofs.lemmas.Bool.{cases_Bool, and_from, and_parts, eq-eqb, eqb-true}
use Rattle.std.proofs.lemmas.Option.{same_Some, none-some}
use Rattle.vc_model.specs.Addr.{address, place_of}
use Rattle.vc_model.specs.Layout.{Block, Layout, address_of, footprint, is_at}
use Rattle.vc_model.specs.Order.{least_above, lesser_by}
use Rattle.vc_model.specs.Segments.{span}
use Rattle.vc_model.specs.Sound.{EndsBefore, HaveOwnPlaces, IsApart, IsSound, IsUsable}
use Rattle.vc_model.specs.Touch.{find_block}
use Rattle.vc_model.proofs.Pairs.{AllPairs-head, AllPairs-tail, all-recursion}

-- an item of a list
abbrev pub Among : {A : Type 0} → A → List A → Type 0
Among x [] = ⊥
Among x (y ∷ ys) = (y ≡ x) ⊎ Among x ys

pub among-all : {A : Type 0} (P : A → Type 0) (x : A) (ys : List A) → Among x ys → AllByRecursion P ys → P x
among-all P x [] m all = absurd m
among-all P x (y ∷ ys) m all = ⊎_elim (λ e. subst P e all.0) (λ rest. among-all P x ys rest all.1) m

-- what is found is an item
pub among-find : {A : Type 0} (test : A → Bool) (xs : List A) (x : A) → find test xs ≡ Some x → Among x xs
among-find test [] x e = absurd (none-some x e)
among-find test (y ∷ ys) x e =
    ⊎_elim
    (λ t. inl (same_Some y x (sym (ap (λ v. cond v (Some y) (find test ys)) t) ∙ e)))
    (λ t. inr (among-find test ys x (sym (ap (λ v. cond v (Some y) (find test ys)) t) ∙ e)))
    (cases_Bool (test y))

among-filter : {A : Type 0} (test : A → Bool) (xs : List A) (x : A) → Among x (filter test xs) → Among x xs
among-filter test [] x m = m
among-filter test (y ∷ ys) x m =
    ⊎_elim
    (λ t. ⊎_elim (λ e. inl e) (λ rest. inr (among-filter test ys x rest)) (subst (λ v. Among x (cond v (y ∷ filter test ys) (filter test ys))) t m))
    (λ t. inr (among-filter test ys x (subst (λ v. Among x (cond v (y ∷ filter test ys) (filter test ys))) t m)))
    (cases_Bool (test y))

among-fold : {A : Type 0} (key : A → ℕ) (s : A) (xs : List A) (x : A) → fold (lesser_by key) (Some s) xs ≡ Some x → Among x (s ∷ xs)
among-fold key s [] x e = inl (same_Some s x e)
among-fold key s (y ∷ ys) x e =
    ⊎_elim
    (λ t. inr (among-fold key y ys x (sym (ap (λ v. fold (lesser_by key) (cond v (Some y) (Some s)) ys) t) ∙ e)))
    (λ t.
    ⊎_elim (λ here. inl here) (λ rest. inr (inr rest))
    (among-fold key s ys x (sym (ap (λ v. fold (lesser_by key) (cond v (Some y) (Some s)) ys) t) ∙ e)))
    (cases_Bool (ltb (key y) (key s)))

among-least : {A : Type 0} (key : A → ℕ) (xs : List A) (x : A) → fold (lesser_by key) None xs ≡ Some x → Among x xs
among-least key [] x e = absurd (none-some x e)
among-least key (y ∷ ys) x e = among-fold key y ys x e

-- and so is the one with the least key above another
pub among-above : {A : Type 0} (key : A → ℕ) (after : ℕ) (xs : List A) (x : A) → least_above key after xs ≡ Some x → Among x xs
among-above key after xs x e = among-filter (λ y. nat_lt after (key y)) xs x (among-least key (filter (λ y. nat_lt after (key y)) xs) x e)

module _ {L : Type 0} where
  same-address : (b c : Block L) → is_at (b.seg, b.off) c ≡ true → address_of c ≡ address_of b
  same-address b c e =
      let both = and_parts (eqb c.seg b.seg) (eqb c.off b.off) e in
      ap (λ s. address (s, c.off)) (eqb-true c.seg b.seg both.0) ∙ ap (λ o. address (b.seg, o)) (eqb-true c.off b.off both.1)

  here : (b : Block L) → is_at (b.seg, b.off) b ≡ true
  here b = and_from (eqb b.seg b.seg) (eqb b.off b.off) (eq-eqb b.seg b.seg refl) (eq-eqb b.off b.off refl)

  at-place : (b : Block L) (cs : List (Block L)) → AllPairs (λ x y. address_of x ≢ address_of y) cs → Among b cs → find_block (b.seg, b.off) cs ≡ Some b
  at-place b [] pairs m = absurd m
  at-place b (c ∷ cs) pairs m =
      let R : Block L → Block L → Type 0 = λ x y. address_of x ≢ address_of y in
      ⊎_elim
      (λ e. subst (λ d. find_block (d.seg, d.off) (c ∷ cs) ≡ Some d) e (ap (λ v. cond v (Some c) (find_block (c.seg, c.off) cs)) (here c)))
      (λ rest.
      let other : address_of c ≢ address_of b = among-all (λ y. address_of c ≢ address_of y) b cs rest (all-recursion (R c) cs (AllPairs-head R c cs pairs)) in
      ⊎_elim
      (λ t. absurd (other (same-address b c t)))
      (λ t. ap (λ v. cond v (Some c) (find_block (b.seg, b.off) cs)) t ∙ at-place b cs (AllPairs-tail R c cs pairs) rest)
      (cases_Bool (is_at (b.seg, b.off) c)))
      m

  -- the address of a block tells its place
  pub place-of : (bs : List (Block L)) (b : Block L) → HaveOwnPlaces bs → Among b bs → place_of (address_of b) ≡ (b.seg, b.off)
  place-of bs b places m = among-all (λ c. place_of (address_of c) ≡ (c.seg, c.off)) b bs m (all-recursion (λ c. place_of (address_of c) ≡ (c.seg, c.off)) bs places.exact)

  -- and finds it
  pub found-there : (bs : List (Block L)) (b : Block L) (a : ℕ) → HaveOwnPlaces bs → Among b bs → address_of b ≡ a → find_block (place_of a) bs ≡ Some b
  found-there bs b a places m e =
      ap (λ n. find_block (place_of n) bs) (sym e)
      ∙ (ap (λ p. find_block p bs) (place-of bs b places m) ∙ at-place b bs places.distinct m)

-- a footprint has bytes
some-bytes : (size : ℕ) → 1 ≤ span size
some-bytes size = omega arith

module _ {L : Type 0} where
  apart-places : (b c : Block L) → b.seg ≡ c.seg → b.off ≡ c.off → EndsBefore (footprint b) (footprint c) → ⊥
  apart-places b c seg off before =
      let some = some-bytes b.size in
      ⊎_elim (λ u. omega (arith, u, seg)) (λ u. let le = u.1 in omega (arith, le, off, some)) before

  -- blocks that don't overlap stand at different addresses
  apart-addresses : (b c : Block L) → place_of (address_of b) ≡ (b.seg, b.off) → place_of (address_of c) ≡ (c.seg, c.off) → IsApart (footprint b) (footprint c) → address_of b ≢ address_of c
  apart-addresses b c p q apart e =
      let same : (b.seg, b.off) ≡ (c.seg, c.off) = sym p ∙ (ap place_of e ∙ q) in
      let seg : b.seg ≡ c.seg = ap (λ (x : ℕ × ℕ). x.0) same in
      let off : b.off ≡ c.off = ap (λ (x : ℕ × ℕ). x.1) same in
      ⊎_elim (apart-places b c seg off) (apart-places c b (sym seg) (sym off)) apart

  pub own-places : (r : Layout L) → IsSound r → HaveOwnPlaces r.blocks
  own-places r sound =
      record {
        distinct = λ i j d lt within. apart-addresses (get_or r.blocks i d) (get_or r.blocks j d) (sound.exact i d (omega (arith, lt, within))) (sound.exact j d within) (sound.apart i j d lt within);
        first = λ i d within. numbered (get_or r.blocks i d) (sound.usable i d within);
        exact = sound.exact;
      }
    where
      numbered : (b : Block L) → IsUsable r.segments (footprint b) → 1 ≤ b.seg
      numbered b usable =
          let first : 1 ≤ (get_or r.segments usable.0 usable.1).0 = sound.numbered.first usable.0 usable.1 usable.2 in
          let at : get_or r.segments usable.0 usable.1 ≡ usable.1 = usable.3 in
          let is : b.seg ≡ usable.1.0 = usable.4.0 in
          omega (arith, first, ap (λ (s : ℕ × ℕ). s.0) at, is)
