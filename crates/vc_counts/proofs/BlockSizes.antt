-- The bytes of blocks as one of them comes or goes, and the size of the block at an address.
use Rattle.vc_base.proofs.Common.{◌≡◌, ℕ, ◌+◌, Bool, true, false, cond, ◌≢◌, List, [], ◌∷◌, Some, Option, option_map, sym, refl, ap, ◌∙◌, subst, ⊎_elim, true≢false, arith, cases_Bool, none-some, same_Some, AllByRecursion, place_of, Block, is_at, lies_before, with_block, without_block, find_block}
use Rattle.vc_model.proofs.Owned.{at-address}
use Rattle.vc_counts.proofs.CallOthers.{no_label, whole}
use Rattle.vc_counts.proofs.Others.{others, place-at}

module _ {L : Type 0} where
  abbrev pub bytes : List (Block L) → ℕ
  bytes bs = others no_label whole bs

  bytes-among : (v : Bool) (z c : Block L) (cs with : List (Block L)) → bytes with ≡ bytes cs + z.size → bytes (cond v (z ∷ c ∷ cs) (c ∷ with)) ≡ bytes (c ∷ cs) + z.size
  bytes-among true z c cs with rest = omega arith
  bytes-among false z c cs with rest = omega (arith, rest)

  -- one comes
  pub bytes-with : (z : Block L) (bs : List (Block L)) → bytes (with_block z bs) ≡ bytes bs + z.size
  bytes-with z [] = omega arith
  bytes-with z (c ∷ cs) = bytes-among (lies_before z c) z c cs (with_block z cs) (bytes-with z cs)

  abbrev pub size_found : Option (Block L) → Option ℕ
  size_found o = option_map (λ (b : Block L). b.size) o

  -- at that address stands a block of that size
  abbrev pub HasSized : List (Block L) → ℕ → ℕ → Type 0
  HasSized bs a size = size_found (find_block (place_of a) bs) ≡ Some size

  -- it goes
  pub bytes-without : (a n : ℕ) (bs : List (Block L)) → HasSized bs a n → bytes (without_block (place_of a) bs) + n ≡ bytes bs
  bytes-without a n [] has = absurd (none-some n has)
  bytes-without a n (c ∷ cs) has =
      let found : Bool → Option ℕ = λ v. size_found (cond v (Some c) (find_block (place_of a) cs)) in
      let left : Bool → List (Block L) = λ v. cond v cs (c ∷ without_block (place_of a) cs) in
      ⊎_elim
      (λ (t : is_at (place_of a) c ≡ true).
      let is : c.size ≡ n = same_Some c.size n (sym (ap found t) ∙ has) in
      let gone : bytes (without_block (place_of a) (c ∷ cs)) ≡ bytes cs = ap (λ v. bytes (left v)) t in
      omega (arith, is, gone))
      (λ (t : is_at (place_of a) c ≡ false).
      let rest = bytes-without a n cs (sym (ap found t) ∙ has) in
      let kept : bytes (without_block (place_of a) (c ∷ cs)) ≡ bytes (c ∷ without_block (place_of a) cs) = ap (λ v. bytes (left v)) t in
      omega (arith, rest, kept))
      (cases_Bool (is_at (place_of a) c))

  find-left : (a gone : ℕ) → a ≢ gone → (bs : List (Block L)) → find_block (place_of a) (without_block (place_of gone) bs) ≡ find_block (place_of a) bs
  find-left a gone other [] = refl
  find-left a gone other (c ∷ cs) =
      ⊎_elim
      (λ (t : is_at (place_of gone) c ≡ true).
      ⊎_elim
      (λ (u : is_at (place_of a) c ≡ true). absurd (other (sym (at-address a c u) ∙ at-address gone c t)))
      (λ (u : is_at (place_of a) c ≡ false). rw t (rw u refl))
      (cases_Bool (is_at (place_of a) c)))
      (λ (t : is_at (place_of gone) c ≡ false). rw t (ap (cond (is_at (place_of a) c) (Some c)) (find-left a gone other cs)))
      (cases_Bool (is_at (place_of gone) c))

  -- one of another address goes
  pub sized-left : (a n gone : ℕ) → a ≢ gone → (bs : List (Block L)) → HasSized bs a n → HasSized (without_block (place_of gone) bs) a n
  sized-left a n gone other bs has = ap size_found (find-left a gone other bs) ∙ has

  -- no block stands at a place
  abbrev pub IsClear : ℕ × ℕ → List (Block L) → Type 0
  IsClear at bs = AllByRecursion (λ b. is_at at b ≡ false) bs

  find-more : (at : ℕ × ℕ) (z : Block L) (bs : List (Block L)) → is_at at z ≡ false → find_block at (with_block z bs) ≡ find_block at bs
  find-more at z [] other = rw other refl
  find-more at z (c ∷ cs) other =
      ⊎_elim
      (λ (t : lies_before z c ≡ true). rw t (rw other refl))
      (λ (t : lies_before z c ≡ false). rw t (ap (cond (is_at at c) (Some c)) (find-more at z cs other)))
      (cases_Bool (lies_before z c))

  -- where a block stands at an address, none comes there
  elsewhere : (z : Block L) (bs : List (Block L)) → IsClear (z.seg, z.off) bs → (a n : ℕ) → HasSized bs a n → is_at (place_of a) z ≡ false
  elsewhere z [] clear a n has = absurd (none-some n has)
  elsewhere z (c ∷ cs) clear a n has =
      let found : Bool → Option ℕ = λ v. size_found (cond v (Some c) (find_block (place_of a) cs)) in
      ⊎_elim
      (λ (t : is_at (place_of a) c ≡ true).
      ⊎_elim
      (λ (u : is_at (place_of a) z ≡ true).
      let there : is_at (z.seg, z.off) c ≡ true = subst (λ p. is_at p c ≡ true) (sym (place-at (place_of a) z u)) t in
      absurd (true≢false (sym there ∙ clear.0)))
      (λ (u : is_at (place_of a) z ≡ false). u)
      (cases_Bool (is_at (place_of a) z)))
      (λ (t : is_at (place_of a) c ≡ false). elsewhere z cs clear.1 a n (sym (ap found t) ∙ has))
      (cases_Bool (is_at (place_of a) c))

  -- one comes at another place than those there
  pub sized-more : (z : Block L) (bs : List (Block L)) → IsClear (z.seg, z.off) bs → (a n : ℕ) → HasSized bs a n → HasSized (with_block z bs) a n
  sized-more z bs clear a n has = ap size_found (find-more (place_of a) z bs (elsewhere z bs clear a n has)) ∙ has
