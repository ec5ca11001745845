-- Which holders are still to be compared with one before them.
use Rattle.vc_base.proofs.Common.{◌≡◌, ℕ, zero, suc, ◌+◌, ◌%◌, ◌<◌, ◌≤◌, ◌^◌, true, false, ◌==◌, List, [], ◌∷◌, Option, Some, None, is_some, length, get_or, take, drop, contains, sym, refl, ap, ◌∙◌, subst, arith, inl, inr, ⊎_elim, true≢false, eq-eqb, ne_eqb, cases_eq, drop-cons, add-one, length-drop}
use Rattle.std.proofs.lemmas.List.{take-append-drop}
use Rattle.vc_base.specs.Cells.{Blocks, IsAddress, word_at}
use Rattle.vc_base.proofs.Members.{within-cases, within-head, within-rest, within-tail}
use Rattle.vc_dtdisc.specs.Finds.{find_key, has_key, object_at}
use Rattle.vc_dtdisc.specs.Rules.{AreLawful, Rules}
use Rattle.vc_dthash.specs.Chained.{Leads, chain_of, hash_at}
use Rattle.vc_dthash.proofs.ChainLemmas.{Leads-fits}
use Rattle.vc_dthash.proofs.FilterLemmas.{filter-passes, filter-shorter, filter-within}
use Rattle.vc_dthash.proofs.WalkLemmas.{found-in_chain}
use Rattle.vc_image_check.specs.Dicts.Alone.{AreAlone, AreHung, IsHung, chained_from}

-- the first holder of a chain, and those behind it
chained-step : (b : Blocks) (n at : ℕ) → (at ≡ 0 → ⊥) → chained_from b (suc n) at ≡ at ∷ chained_from b n (word_at b at 2)
chained-step b n at ne = rw (ne_eqb at 0 ne) refl

pub chained-end : (b : Blocks) (n at : ℕ) → at ≡ 0 → chained_from b n at ≡ []
chained-end b zero at e = refl
chained-end b (suc n) at e = rw (eq-eqb at 0 e) refl

-- a chain that leads through some holders has these
chained-is : (b : Blocks) (most at : ℕ) (zs : List ℕ) → Leads b at zs 0 → ((a : ℕ) → contains zs a ≡ true → IsAddress a) → length zs ≤ most → chained_from b most at ≡ zs
chained-is b most at [] l f few = chained-end b most at l
chained-is b zero at (z ∷ zs) l f few = absurd (omega (arith, few))
chained-is b (suc n) at (z ∷ zs) l f few =
    let some = (f z (within-head z zs)).some in
    let first = l.0 in
    chained-step b n at (λ e. omega (arith, e, first, some))
    ∙ rw l.0 (ap (λ ys. z ∷ ys) (chained-is b n (word_at b z 2) zs l.1 (λ a w. f a (within-tail z zs a w)) (omega (arith, few))))

module _ (rules : Rules) (b : Blocks) where
  abbrev hash : ℕ → ℕ
  hash a = hash_at rules b a

  chain-here : (slots x k : ℕ) (xs : List ℕ) → hash x % slots ≡ k → chain_of hash slots k (x ∷ xs) ≡ x ∷ chain_of hash slots k xs
  chain-here slots x k xs e = rw (eq-eqb (hash x % slots) k e) refl

  chain-there : (slots x k : ℕ) (xs : List ℕ) → (hash x % slots ≡ k → ⊥) → chain_of hash slots k (x ∷ xs) ≡ chain_of hash slots k xs
  chain-there slots x k xs ne = rw (ne_eqb (hash x % slots) k ne) refl

  -- behind one of its holders a chain leads through those of it that stand behind that one
  leads-behind : (slots k at : ℕ) (xs : List ℕ) (i : ℕ) → i < length xs → hash (get_or xs i 0) % slots ≡ k → Leads b at (chain_of hash slots k xs) 0
      → Leads b (word_at b (get_or xs i 0) 2) (chain_of hash slots k (drop (suc i) xs)) 0
  leads-behind slots k at [] i lt e l = absurd (omega (arith, lt))
  leads-behind slots k at (y ∷ ys) zero lt e l = (subst (λ z. Leads b at z 0) (chain-here slots y k ys e) l).1
  leads-behind slots k at (y ∷ ys) (suc i) lt e l = elim (cases_eq (hash y % slots) k) as (λ _. Leads b (word_at b (get_or ys i 0) 2) (chain_of hash slots k (drop (suc i) ys)) 0) [
    | inl same ↦ leads-behind slots k (word_at b y 2) ys i (omega (arith, lt)) e (subst (λ z. Leads b at z 0) (chain-here slots y k ys same) l).1
    | inr other ↦ leads-behind slots k at ys i (omega (arith, lt)) e (subst (λ z. Leads b at z 0) (chain-there slots y k ys other) l)
  ]

  -- what a holder of a chain tells of the one behind it may be an address
  fits-behind : (at a : ℕ) (zs : List ℕ) → Leads b at zs 0 → ((x : ℕ) → contains zs x ≡ true → IsAddress x) → contains zs a ≡ true → word_at b a 2 < 2 ^ 32
  fits-behind at a [] l f w = absurd (true≢false (sym w))
  fits-behind at a (z ∷ zs) l f w =
      ⊎_elim
      (λ (same : z ≡ a). subst (λ x. word_at b x 2 < 2 ^ 32) same (Leads-fits b (word_at b z 2) zs (λ x v. f x (within-tail z zs x v)) l.1))
      (λ (more : contains zs a ≡ true). fits-behind (word_at b z 2) a zs l.1 (λ x v. f x (within-tail z zs x v)) more)
      (within-cases z zs a w)

  module _ (xs : List ℕ) (h : AreHung rules b xs) where
    slot-low : (a : ℕ) → hash a % h.slots < h.slots
    slot-low a = let some = h.some in omega (arith, some)

    pub hung-each : (a : ℕ) → contains xs a ≡ true → IsHung rules b a
    hung-each a w =
        let k : ℕ = hash a % h.slots in
        record {
          holder = h.there a w;
          hashed = h.hashed a w;
          behind = fits-behind (word_at b h.table k) a (chain_of hash h.slots k xs) (h.chained k (slot-low a))
              (λ x v. h.addresses x (filter-within (λ at. hash at % h.slots == k) xs x v))
              (filter-passes (λ at. hash at % h.slots == k) xs a (eq-eqb k k refl) w);
        }

    within-drop : (n a : ℕ) → contains (drop n xs) a ≡ true → contains xs a ≡ true
    within-drop n a w = subst (λ z. contains z a ≡ true) (take-append-drop n xs) (within-rest (take n xs) (drop n xs) a w)

    module _ (most i : ℕ) (few : length xs ≤ most) (lt : i < length xs) where
      abbrev x : ℕ
      x = get_or xs i 0

      -- the holders behind one in its chain
      behind-is : chained_from b most (word_at b x 2) ≡ chain_of hash h.slots (hash x % h.slots) (drop (suc i) xs)
      behind-is =
          let k : ℕ = hash x % h.slots in
          let short = filter-shorter (λ at. hash at % h.slots == k) (drop (suc i) xs) in
          let left = length-drop (suc i) xs in
          chained-is b most (word_at b x 2) (chain_of hash h.slots k (drop (suc i) xs))
          (leads-behind h.slots k (word_at b h.table k) xs i lt refl (h.chained k (slot-low x)))
          (λ a w. h.addresses a (within-drop (suc i) a (filter-within (λ at. hash at % h.slots == k) (drop (suc i) xs) a w)))
          (omega (arith, short, left, few))

      pub behind-hung : (a : ℕ) → contains (chained_from b most (word_at b x 2)) a ≡ true → IsHung rules b a
      behind-hung a w =
          let k : ℕ = hash x % h.slots in
          hung-each a (within-drop (suc i) a (filter-within (λ at. hash at % h.slots == k) (drop (suc i) xs) a (subst (λ z. contains z a ≡ true) behind-is w)))

      -- one that matches it stands behind it exactly where one does in its chain
      pub behind-found : AreLawful rules → find_key rules b (rules.key (object_at b x)) (chained_from b most (word_at b x 2)) ≡ find_key rules b (rules.key (object_at b x)) (drop (suc i) xs)
      behind-found lawful = ap (find_key rules b (rules.key (object_at b x))) behind-is ∙ found-in_chain rules b h.slots (rules.key (object_at b x)) (drop (suc i) xs) lawful

  -- the whole is alone exactly where what is left is
  pub record Alone (xs : List ℕ) (i : ℕ) : Type 0 where
    pub to : AreAlone rules b xs → AreAlone rules b (drop i xs)
    pub from : AreAlone rules b (drop i xs) → AreAlone rules b xs

  at-place : (xs : List ℕ) (i : ℕ) → i < length xs → drop i xs ≡ get_or xs i 0 ∷ drop (suc i) xs
  at-place xs i lt = drop-cons xs i 0 lt

  none-left : (o : Option ℕ) → is_some o ≡ false → o ≡ None
  none-left None e = refl
  none-left (Some x) e = absurd (true≢false e)

  pub alone-next : (xs : List ℕ) (i : ℕ) → i < length xs → is_some (find_key rules b (rules.key (object_at b (get_or xs i 0))) (drop (suc i) xs)) ≡ false → Alone xs i → Alone xs (i + 1)
  alone-next xs i lt none a =
      let here : i + 1 ≡ suc i = add-one i in
      record {
        to = λ h. subst (λ k. AreAlone rules b (drop k xs)) (sym here) (subst (AreAlone rules b) (at-place xs i lt) (a.to h)).1;
        from = λ h. a.from (subst (AreAlone rules b) (sym (at-place xs i lt))
            (none-left (find_key rules b (rules.key (object_at b (get_or xs i 0))) (drop (suc i) xs)) none, subst (λ k. AreAlone rules b (drop k xs)) here h));
      }

  pub alone-not : (xs : List ℕ) (i : ℕ) → i < length xs → is_some (find_key rules b (rules.key (object_at b (get_or xs i 0))) (drop (suc i) xs)) ≡ true → Alone xs i → AreAlone rules b xs → ⊥
  alone-not xs i lt some a h = true≢false (sym some ∙ ap is_some (subst (AreAlone rules b) (at-place xs i lt) (a.to h)).0)

  -- a key is still to be found in what is left of a chain
  pub record Seeking (key : List ℕ) (most start left at : ℕ) : Type 0 where
    pub found : is_some (find_key rules b key (chained_from b most start)) ≡ is_some (find_key rules b key (chained_from b left at))
    pub hung : (a : ℕ) → contains (chained_from b left at) a ≡ true → IsHung rules b a

  module _ (key : List ℕ) (most start left at n : ℕ) (e : left ≡ suc n) (some : at ≡ 0 → ⊥) (s : Seeking key most start left at) where
    step : chained_from b left at ≡ at ∷ chained_from b n (word_at b at 2)
    step = ap (λ z. chained_from b z at) e ∙ chained-step b n at some

    pub seeking-here : IsHung rules b at
    seeking-here = s.hung at (subst (λ z. contains z at ≡ true) (sym step) (within-head at (chained_from b n (word_at b at 2))))

    pub seeking-found : has_key rules b key at ≡ true → is_some (find_key rules b key (chained_from b most start)) ≡ true
    seeking-found h = s.found ∙ ap (λ z. is_some (find_key rules b key z)) step ∙ rw h refl

    pub seeking-next : (next : ℕ) → next ≡ word_at b at 2 → has_key rules b key at ≡ false → Seeking key most start n next
    seeking-next next is h = record {
      found = s.found ∙ ap (λ z. is_some (find_key rules b key z)) step ∙ rw (h, is) refl;
      hung = λ a w. s.hung a (subst (λ z. contains z a ≡ true) (sym step) (within-tail at (chained_from b n (word_at b at 2)) a (subst (λ z. contains (chained_from b n z) a ≡ true) is w)));
    }

  pub seeking-end : (key : List ℕ) (most start left at : ℕ) → chained_from b left at ≡ [] → Seeking key most start left at → is_some (find_key rules b key (chained_from b most start)) ≡ false
  seeking-end key most start left at e s = s.found ∙ ap (λ z. is_some (find_key rules b key z)) e
