-- The sizes of blocks, but for some of them: those stay as one of these comes, goes or changes.
use Rattle.vc_base.proofs.Common.{◌≡◌, ℕ, ◌+◌, ◌-◌, ◌≤◌, Bool, true, false, cond, eqb, List, [], ◌∷◌, ◌++◌, map, Some, sym, refl, ap, ◌∙◌, ⊎_elim, arith, eq-eqb, eqb-true, and_from, and_parts, cases_Bool, none-some, same_Some, AllByRecursion, Block, is_at, lies_before, relabel_block, with_block, without_block, sized_block, change_block, find_block, rewritten_block}
use Rattle.vc_audit.specs.Debug.{guarded_place, user_block}

-- blocks of some labels, each by what its size counts
module _ {L : Type 0} (mine : L → Bool) (weigh : ℕ → ℕ) where
  -- the sizes of the others
  abbrev pub others : List (Block L) → ℕ
  others [] = 0
  others (b ∷ bs) = cond (mine b.label) 0 (weigh b.size) + others bs

  none-of : (b : Block L) → mine b.label ≡ true → (rest : ℕ) → cond (mine b.label) 0 (weigh b.size) + rest ≡ rest
  none-of b is rest = ap (λ v. cond v 0 (weigh b.size) + rest) is ∙ (let e : 0 + rest ≡ rest = omega arith in e)

  module _ (z : Block L) (is : mine z.label ≡ true) where
    others-among : (v : Bool) (c : Block L) (cs with : List (Block L)) → others with ≡ others cs → others (cond v (z ∷ c ∷ cs) (c ∷ with)) ≡ others (c ∷ cs)
    others-among true c cs with rest = none-of z is (others (c ∷ cs))
    others-among false c cs with rest = ap (λ n. cond (mine c.label) 0 (weigh c.size) + n) rest

    -- one of them comes
    pub others-with : (bs : List (Block L)) → others (with_block z bs) ≡ others bs
    others-with [] = none-of z is 0
    others-with (c ∷ cs) = others-among (lies_before z c) c cs (with_block z cs) (others-with cs)

    pub others-behind : (bs : List (Block L)) → others (bs ++ z ∷ []) ≡ others bs
    others-behind [] = none-of z is 0
    others-behind (c ∷ cs) = ap (λ n. cond (mine c.label) 0 (weigh c.size) + n) (others-behind cs)

  -- those at a place are among them
  abbrev pub AreMine : ℕ × ℕ → List (Block L) → Type 0
  AreMine at bs = AllByRecursion (λ b. is_at at b ≡ true → mine b.label ≡ true) bs

  module _ (at : ℕ × ℕ) where
    mine-among : (z : Block L) → mine z.label ≡ true → (v : Bool) (c : Block L) (cs with : List (Block L)) → AreMine at (c ∷ cs) → AreMine at with → AreMine at (cond v (z ∷ c ∷ cs) (c ∷ with))
    mine-among z is true c cs with all rest = (λ here. is, all)
    mine-among z is false c cs with all rest = (all.0, rest)

    pub mine-with : (z : Block L) → mine z.label ≡ true → (bs : List (Block L)) → AreMine at bs → AreMine at (with_block z bs)
    mine-with z is [] all = (λ here. is, tt)
    mine-with z is (c ∷ cs) all = mine-among z is (lies_before z c) c cs (with_block z cs) all (mine-with z is cs all.1)

    pub mine-behind : (z : Block L) → mine z.label ≡ true → (bs : List (Block L)) → AreMine at bs → AreMine at (bs ++ z ∷ [])
    mine-behind z is [] all = (λ here. is, tt)
    mine-behind z is (c ∷ cs) all = (all.0, mine-behind z is cs all.1)

    mine-if : (p : ℕ × ℕ) (off : ℕ) (src : List ℕ) (v : Bool) (c : Block L) (cs changed : List (Block L)) → AreMine at (c ∷ cs) → AreMine at changed → AreMine at (cond v (rewritten_block off src c ∷ cs) (c ∷ changed))
    mine-if p off src true c cs changed all rest = all
    mine-if p off src false c cs changed all rest = (all.0, rest)

    pub mine-written : (p : ℕ × ℕ) (off : ℕ) (src : List ℕ) (bs : List (Block L)) → AreMine at bs → AreMine at (change_block (rewritten_block off src) p bs)
    mine-written p off src [] all = tt
    mine-written p off src (c ∷ cs) all =
        mine-if p off src (is_at p c) c cs (change_block (rewritten_block off src) p cs) all (mine-written p off src cs all.1)

    -- what is found there, and the last one where it is there
    pub mine-found : (bs : List (Block L)) (b : Block L) → AreMine at bs → find_block at bs ≡ Some b → (is_at at b ≡ true) × (mine b.label ≡ true)
    mine-found [] b all found = absurd (none-some b found)
    mine-found (c ∷ cs) b all found =
        ⊎_elim
        (λ here.
        let same : c ≡ b = same_Some c b (sym (ap (λ v. cond v (Some c) (find_block at cs)) here) ∙ found) in
        (ap (is_at at) (sym same) ∙ here, ap (λ (d : Block L). mine d.label) (sym same) ∙ all.0 here))
        (λ away. mine-found cs b all.1 (sym (ap (λ v. cond v (Some c) (find_block at cs)) away) ∙ found))
        (cases_Bool (is_at at c))

    -- one of them goes
    pub others-without : (bs : List (Block L)) → AreMine at bs → others (without_block at bs) ≡ others bs
    others-without [] all = refl
    others-without (c ∷ cs) all =
        ⊎_elim
        (λ here. ap (λ v. others (cond v cs (c ∷ without_block at cs))) here ∙ sym (none-of c (all.0 here) (others cs)))
        (λ away.
        ap (λ v. others (cond v cs (c ∷ without_block at cs))) away
        ∙ ap (λ n. cond (mine c.label) 0 (weigh c.size) + n) (others-without cs all.1))
        (cases_Bool (is_at at c))

    -- one of them gets another size
    pub others-sized : (size : ℕ) (bs : List (Block L)) → AreMine at bs → others (change_block (sized_block size) at bs) ≡ others bs
    others-sized size [] all = refl
    others-sized size (c ∷ cs) all =
        ⊎_elim
        (λ here.
        ap (λ v. others (cond v (sized_block size c ∷ cs) (c ∷ change_block (sized_block size) at cs))) here
        ∙ (none-of (sized_block size c) (all.0 here) (others cs) ∙ sym (none-of c (all.0 here) (others cs))))
        (λ away.
        ap (λ v. others (cond v (sized_block size c ∷ cs) (c ∷ change_block (sized_block size) at cs))) away
        ∙ ap (λ n. cond (mine c.label) 0 (weigh c.size) + n) (others-sized size cs all.1))
        (cases_Bool (is_at at c))

  others-if : (off : ℕ) (src : List ℕ) (v : Bool) (c : Block L) (cs changed : List (Block L)) → others changed ≡ others cs → others (cond v (rewritten_block off src c ∷ cs) (c ∷ changed)) ≡ others (c ∷ cs)
  others-if off src true c cs changed rest = refl
  others-if off src false c cs changed rest = ap (λ n. cond (mine c.label) 0 (weigh c.size) + n) rest

  -- bytes of a block change no size
  pub others-written : (at : ℕ × ℕ) (off : ℕ) (src : List ℕ) (bs : List (Block L)) → others (change_block (rewritten_block off src) at bs) ≡ others bs
  others-written at off src [] = refl
  others-written at off src (c ∷ cs) = others-if off src (is_at at c) c cs (change_block (rewritten_block off src) at cs) (others-written at off src cs)

-- a block at a place has it
pub place-at : {L : Type 0} (at : ℕ × ℕ) (b : Block L) → is_at at b ≡ true → (b.seg, b.off) ≡ at
place-at at b here =
    let both = and_parts (eqb b.seg at.0) (eqb b.off at.1) here in
    ap (λ s. (s, b.off)) (eqb-true b.seg at.0 both.0) ∙ ap (λ o. (at.0, o)) (eqb-true b.off at.1 both.1)

-- blocks with guards count without these
abbrev pub user_weigh : ℕ → ℕ
user_weigh size = size - 48

pub others-user : {L : Type 0} (mine : L → Bool) (bs : List (Block L)) → others mine (λ n. n) (map user_block bs) ≡ others mine user_weigh bs
others-user mine [] = refl
others-user mine (b ∷ bs) = ap (λ n. cond (mine b.label) 0 (user_weigh b.size) + n) (others-user mine bs)

user-at : {L : Type 0} (at : ℕ × ℕ) (b : Block L) → 32 ≤ at.1 → is_at (guarded_place at) b ≡ true → is_at at (user_block b) ≡ true
user-at at b behind here =
    let both = and_parts (eqb b.seg at.0) (eqb b.off (at.1 - 32)) here in
    let off : b.off ≡ at.1 - 32 = eqb-true b.off (at.1 - 32) both.1 in
    and_from (eqb b.seg at.0) (eqb (b.off + 32) at.1) both.0 (eq-eqb (b.off + 32) at.1 (omega (arith, off, behind)))

pub mine-user : {L : Type 0} (mine : L → Bool) (at : ℕ × ℕ) → 32 ≤ at.1 → (bs : List (Block L)) → AreMine mine (λ n. n) at (map user_block bs) → AreMine mine user_weigh (guarded_place at) bs
mine-user mine at behind [] all = tt
mine-user mine at behind (b ∷ bs) all = (λ here. all.0 (user-at at b behind here), mine-user mine at behind bs all.1)

-- and blocks with sites by their names
module _ {L M : Type 0} (f : M → L) (mine : L → Bool) (weigh : ℕ → ℕ) where
  pub others-named : (bs : List (Block M)) → others mine weigh (map (relabel_block f) bs) ≡ others (λ l. mine (f l)) weigh bs
  others-named [] = refl
  others-named (b ∷ bs) = ap (λ n. cond (mine (f b.label)) 0 (weigh b.size) + n) (others-named bs)

  pub mine-named : (at : ℕ × ℕ) (bs : List (Block M)) → AreMine mine weigh at (map (relabel_block f) bs) → AreMine (λ l. mine (f l)) weigh at bs
  mine-named at [] all = tt
  mine-named at (b ∷ bs) all = (all.0, mine-named at bs all.1)
