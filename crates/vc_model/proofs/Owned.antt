-- What one call does to blocks with places of their own.
use Rattle.std.proofs.Common.{◌≡◌, ◌≢◌, ℕ, zero, suc, ◌+◌, ◌<◌, ◌≤◌, List, [], ◌∷◌, true, false, cond, All, AllPairs, Some, get_or, length, option_map, refl, sym, ap, ◌∙◌, subst, inl, inr, ⊎_elim, eqb, arith}
use Rattle.std.specs.List.{HoldsAt, remove}
use Rattle.std.proofs.lemmas.Bool.{cases_Bool, and_from, and_parts, eq-eqb, eqb-true}
use Rattle.std.proofs.lemmas.Option.{same_Some, none-some}
use Rattle.std.proofs.lemmas.List.{length-map, get_or-map}
use Rattle.std.proofs.lemmas.List.Elements.{All-head, All-tail, All-nil, All-cons}
use Rattle.vc_model.specs.Addr.{address, place_of}
use Rattle.vc_model.specs.Best.{zeros}
use Rattle.vc_model.specs.Layout.{Block, address_of, is_at, lies_before, with_block, without_block}
use Rattle.vc_model.specs.Resize.{sized_block}
use Rattle.vc_model.specs.Sound.{HaveOwnPlaces}
use Rattle.vc_model.specs.Touch.{HasBlock, change_block, find_block, rewritten_block}
use Rattle.vc_model.proofs.Pairs.{AllPairs-head, AllPairs-tail}
use Rattle.vc_model.proofs.Places.{Among, among-all, found-there}
use Rattle.vc_model.proofs.Pairs.{all-recursion}

pub address-place_of : (a : ℕ) → address (place_of a) ≡ a
address-place_of a = omega arith

module _ {L : Type 0} where
  abbrev Differs : Block L → Block L → Type 0
  Differs b c = address_of b ≢ address_of c

  abbrev Elsewhere : ℕ → Block L → Type 0
  Elsewhere a b = address_of b ≢ a

  abbrev Exact : Block L → Type 0
  Exact b = place_of (address_of b) ≡ (b.seg, b.off)

  -- a block at a place has its address
  pub at-address : (a : ℕ) (b : Block L) → is_at (place_of a) b ≡ true → address_of b ≡ a
  at-address a b e =
      let both = and_parts (eqb b.seg (place_of a).0) (eqb b.off (place_of a).1) e in
      ap (λ s. address (s, b.off)) (eqb-true b.seg (place_of a).0 both.0)
      ∙ (ap (λ o. address ((place_of a).0, o)) (eqb-true b.off (place_of a).1 both.1) ∙ address-place_of a)

  -- and the other way round
  pub is-there : (a : ℕ) (b : Block L) → Exact b → address_of b ≡ a → is_at (place_of a) b ≡ true
  is-there a b exact e =
      let same : (b.seg, b.off) ≡ place_of a = sym exact ∙ ap place_of e in
      and_from (eqb b.seg (place_of a).0) (eqb b.off (place_of a).1) (eq-eqb b.seg (place_of a).0 (ap (λ (p : ℕ × ℕ). p.0) same)) (eq-eqb b.off (place_of a).1 (ap (λ (p : ℕ × ℕ). p.1) same))

  pub not-there : (a : ℕ) (b : Block L) → Elsewhere a b → is_at (place_of a) b ≡ false
  not-there a b other = ⊎_elim (λ t. absurd (other (at-address a b t))) (λ t. t) (cases_Bool (is_at (place_of a) b))

  -- no block stands at an address that none has
  pub none-has : (a : ℕ) (bs : List (Block L)) → All (Elsewhere a) bs → ¬ HasBlock bs a
  none-has a [] h has = let within : has.0 < 0 = has.1 in omega (arith, within)
  none-has a (b ∷ bs) h has =
      let within : has.0 < length (b ∷ bs) = omega (arith, has.1, length-map (b ∷ bs) address_of) in
      h has.0 b within (sym (get_or-map address_of (b ∷ bs) has.0 b a within) ∙ has.2)

  -- one block more
  among-with : (b : Block L) (bs : List (Block L)) → Among b (with_block b bs)
  among-with b [] = inl refl
  among-with b (c ∷ cs) =
      elim (lies_before b c) as (λ v. Among b (cond v (b ∷ c ∷ cs) (c ∷ with_block b cs)))
      [ true ↦ inl refl | false ↦ inr (among-with b cs) ]

  others-differ : (b : Block L) (bs : List (Block L)) → AllPairs Differs (with_block b bs) → All (Elsewhere (address_of b)) bs
  others-differ b [] h = All-nil (Elsewhere (address_of b))
  others-differ b (c ∷ cs) h =
      let P : Block L → Type 0 = Elsewhere (address_of b) in
      ⊎_elim
      (λ (t : lies_before b c ≡ true).
      let all : AllPairs Differs (b ∷ c ∷ cs) = rw t at h in
      λ k d lt e. AllPairs-head Differs b (c ∷ cs) all k d lt (sym e))
      (λ (t : lies_before b c ≡ false).
      let all : AllPairs Differs (c ∷ with_block b cs) = rw t at h in
      let first = all-recursion (Differs c) (with_block b cs) (AllPairs-head Differs c (with_block b cs) all) in
      All-cons P c cs (among-all (Differs c) b (with_block b cs) (among-with b cs) first) (others-differ b cs (AllPairs-tail Differs c (with_block b cs) all)))
      (cases_Bool (lies_before b c))

  without-with : (a : ℕ) (b : Block L) (bs : List (Block L)) → is_at (place_of a) b ≡ true → All (Elsewhere a) bs → without_block (place_of a) (with_block b bs) ≡ bs
  without-with a b [] own none = rw own refl
  without-with a b (c ∷ cs) own none =
      let here = not-there a c (All-head (Elsewhere a) c cs none) in
      ⊎_elim
      (λ (t : lies_before b c ≡ true). rw t (rw own refl))
      (λ (t : lies_before b c ≡ false). rw t (rw here (ap (λ ds. c ∷ ds) (without-with a b cs own (All-tail (Elsewhere a) c cs none)))))
      (cases_Bool (lies_before b c))

  -- a block was put at an address: it stands there, none did before, and the others stay
  module _ (a : ℕ) (label : L) (size : ℕ) (old new : List (Block L)) (put : new ≡ with_block (zeros label size (place_of a)) old) (places : HaveOwnPlaces new) where
    own : HaveOwnPlaces (with_block (zeros label size (place_of a)) old)
    own = subst HaveOwnPlaces put places

    others : All (Elsewhere a) old
    others = subst (λ n. All (Elsewhere n) old) (address-place_of a) (others-differ (zeros label size (place_of a)) old own.distinct)

    pub put-there : find_block (place_of a) new ≡ Some (zeros label size (place_of a))
    put-there =
        ap (find_block (place_of a)) put
        ∙ found-there (with_block (zeros label size (place_of a)) old) (zeros label size (place_of a)) a own (among-with (zeros label size (place_of a)) old) (address-place_of a)

    pub put-fresh : ¬ HasBlock old a
    put-fresh = none-has a old others

    pub put-others : without_block (place_of a) new ≡ old
    put-others =
        ap (without_block (place_of a)) put
        ∙ without-with a (zeros label size (place_of a)) old (and_from (eqb (place_of a).0 (place_of a).0) (eqb (place_of a).1 (place_of a).1) (eq-eqb (place_of a).0 (place_of a).0 refl) (eq-eqb (place_of a).1 (place_of a).1 refl)) others

  -- the block at an address goes
  gone-at : (a : ℕ) (bs : List (Block L)) → AllPairs Differs bs → All Exact bs → (i : ℕ) (d : Block L) → i < length bs → address_of (get_or bs i d) ≡ a → without_block (place_of a) bs ≡ remove bs i
  gone-at a [] distinct exact i d lt e = absurd (omega (arith, lt))
  gone-at a (b ∷ bs) distinct exact zero d lt e = rw (is-there a b (All-head Exact b bs exact) e) refl
  gone-at a (b ∷ bs) distinct exact (suc i) d lt e =
      let other : Elsewhere a b = λ q. AllPairs-head Differs b bs distinct i d (omega (arith, lt)) (q ∙ sym e) in
      rw (not-there a b other) (ap (λ cs. b ∷ cs) (gone-at a bs (AllPairs-tail Differs b bs distinct) (All-tail Exact b bs exact) i d (omega (arith, lt)) e))

  less-at : (a : ℕ) (bs : List (Block L)) → AllPairs Differs bs → All Exact bs → (i : ℕ) (d : Block L) → i < length bs → address_of (get_or bs i d) ≡ a → length (without_block (place_of a) bs) + 1 ≡ length bs
  less-at a [] distinct exact i d lt e = absurd (omega (arith, lt))
  less-at a (b ∷ bs) distinct exact zero d lt e = rw (is-there a b (All-head Exact b bs exact) e) (omega arith)
  less-at a (b ∷ bs) distinct exact (suc i) d lt e =
      let other : Elsewhere a b = λ q. AllPairs-head Differs b bs distinct i d (omega (arith, lt)) (q ∙ sym e) in
      let rest = less-at a bs (AllPairs-tail Differs b bs distinct) (All-tail Exact b bs exact) i d (omega (arith, lt)) e in
      rw (not-there a b other) (omega (arith, rest))

  pub left-elsewhere : (a : ℕ) (bs : List (Block L)) → AllPairs Differs bs → All Exact bs → All (Elsewhere a) (without_block (place_of a) bs)
  left-elsewhere a [] distinct exact = All-nil (Elsewhere a)
  left-elsewhere a (b ∷ bs) distinct exact =
      ⊎_elim
      (λ (t : is_at (place_of a) b ≡ true). rw t (λ k d lt e. AllPairs-head Differs b bs distinct k d lt (at-address a b t ∙ sym e)))
      (λ (t : is_at (place_of a) b ≡ false).
      let other : Elsewhere a b = λ q. let no : true ≡ false = sym (is-there a b (All-head Exact b bs exact) q) ∙ t in absurd (cc) in
      rw t (All-cons (Elsewhere a) b (without_block (place_of a) bs) other (left-elsewhere a bs (AllPairs-tail Differs b bs distinct) (All-tail Exact b bs exact))))
      (cases_Bool (is_at (place_of a) b))

  module _ (a : ℕ) (old new : List (Block L)) (gone : new ≡ without_block (place_of a) old) (places : HaveOwnPlaces old) where
    pub free-one_less : HasBlock old a → length new + 1 ≡ length old
    free-one_less has = ap (λ bs. length bs + 1) gone ∙ less old places has
      where
        less : (bs : List (Block L)) → HaveOwnPlaces bs → HasBlock bs a → length (without_block (place_of a) bs) + 1 ≡ length bs
        less [] owned has = let within : has.0 < 0 = has.1 in absurd (omega (arith, within))
        less (b ∷ bs) owned has =
            let within : has.0 < length (b ∷ bs) = omega (arith, has.1, length-map (b ∷ bs) address_of) in
            less-at a (b ∷ bs) owned.distinct owned.exact has.0 b within (sym (get_or-map address_of (b ∷ bs) has.0 b a within) ∙ has.2)

    pub free-freed : (i : ℕ) → i < length old → HoldsAt (λ b. address_of b ≡ a) old i → new ≡ remove old i
    free-freed i lt holds = gone ∙ removed old places i lt holds
      where
        removed : (bs : List (Block L)) → HaveOwnPlaces bs → (i : ℕ) → i < length bs → HoldsAt (λ b. address_of b ≡ a) bs i → without_block (place_of a) bs ≡ remove bs i
        removed [] owned i lt holds = absurd (omega (arith, lt))
        removed (b ∷ bs) owned i lt holds = gone-at a (b ∷ bs) owned.distinct owned.exact i b lt (holds b)

    pub free-none_left : ¬ HasBlock new a
    free-none_left = none-has a new (subst (All (Elsewhere a)) (sym gone) (left-elsewhere a old places.distinct places.exact))

  -- one block changes and stays where it is
  change-others : (change : Block L → Block L) → ((at : ℕ × ℕ) (b : Block L) → is_at at (change b) ≡ is_at at b) → (at : ℕ × ℕ) (bs : List (Block L)) → without_block at (change_block change at bs) ≡ without_block at bs
  change-others change same at [] = refl
  change-others change same at (b ∷ bs) =
      ⊎_elim
      (λ (t : is_at at b ≡ true). rw t (rw (same at b ∙ t) refl))
      (λ (t : is_at at b ≡ false). rw t (rw t (ap (λ cs. b ∷ cs) (change-others change same at bs))))
      (cases_Bool (is_at at b))

  pub write-others : (off : ℕ) (src : List ℕ) (at : ℕ × ℕ) (bs : List (Block L)) → without_block at (change_block (rewritten_block off src) at bs) ≡ without_block at bs
  write-others off src at bs = change-others (rewritten_block off src) (λ p b. refl) at bs

  pub sized-others : (size : ℕ) (at : ℕ × ℕ) (bs : List (Block L)) → without_block at (change_block (sized_block size) at bs) ≡ without_block at bs
  sized-others size at bs = change-others (sized_block size) (λ p b. refl) at bs

  pub sized-there : (size : ℕ) (at : ℕ × ℕ) (bs : List (Block L)) → option_map (λ b. b.label) (find_block at (change_block (sized_block size) at bs)) ≡ option_map (λ b. b.label) (find_block at bs)
  sized-there size at [] = refl
  sized-there size at (b ∷ bs) =
      ⊎_elim
      (λ (t : is_at at b ≡ true). rw t (rw t refl))
      (λ (t : is_at at b ≡ false). rw t (rw t (sized-there size at bs)))
      (cases_Bool (is_at at b))

  -- a block that is found: it is at that place, and what holds of all blocks holds of it
  pub found-is : (P : Block L → Type 0) (at : ℕ × ℕ) (bs : List (Block L)) (b : Block L) → find_block at bs ≡ Some b → All P bs → (is_at at b ≡ true) × P b
  found-is P at [] b e all = absurd (none-some b e)
  found-is P at (c ∷ cs) b e all =
      ⊎_elim
      (λ (t : is_at at c ≡ true).
      let same : c ≡ b = same_Some c b (sym (ap (λ v. cond v (Some c) (find_block at cs)) t) ∙ e) in
      (subst (λ (d : Block L). is_at at d ≡ true) same t, subst P same (All-head P c cs all)))
      (λ (t : is_at at c ≡ false). found-is P at cs b (sym (ap (λ v. cond v (Some c) (find_block at cs)) t) ∙ e) (All-tail P c cs all))
      (cases_Bool (is_at at c))

  -- and it stands at its address
  pub found-has : (a : ℕ) (bs : List (Block L)) (b : Block L) → find_block (place_of a) bs ≡ Some b → HasBlock bs a
  found-has a [] b e = absurd (none-some b e)
  found-has a (c ∷ cs) b e =
      ⊎_elim
      (λ (t : is_at (place_of a) c ≡ true). (0, omega arith, at-address a c t))
      (λ (t : is_at (place_of a) c ≡ false).
      let rest = found-has a cs b (sym (ap (λ v. cond v (Some c) (find_block (place_of a) cs)) t) ∙ e) in
      let within = rest.1 in
      (suc rest.0, omega (arith, within), rest.2))
      (cases_Bool (is_at (place_of a) c))

  -- its address is none before the first segment, and one that all addresses stay below
  pub found-first : (a : ℕ) (bs : List (Block L)) (b : Block L) → find_block (place_of a) bs ≡ Some b → All (λ c. 1 ≤ c.seg) bs → 1 ≤ a
  found-first a bs b e all =
      let h = found-is (λ c. 1 ≤ c.seg) (place_of a) bs b e all in
      let least = h.1 in
      omega (arith, least, at-address a b h.0)

  pub found-below : (a most : ℕ) (bs : List (Block L)) (b : Block L) → find_block (place_of a) bs ≡ Some b → All (λ c. address_of c < most) bs → a < most
  found-below a most bs b e all =
      let h = found-is (λ c. address_of c < most) (place_of a) bs b e all in
      subst (λ (n : ℕ). n < most) (at-address a b h.0) h.1
