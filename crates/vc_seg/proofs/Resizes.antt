-- What is common to the ways of resizing a block: runs that are usable, blocks that change where they stand, and a block that moves.
use Rattle.vc_base.proofs.Common.{◌≡◌, ℕ, suc, ◌+◌, true, false, ◌&&◌, eqb, leb, List, [], ◌∷◌, take, ◌==◌, Some, option_map, sym, refl, ap, ◌∙◌, ⊎_elim, arith, eqb-true, leb-true, and_parts, cases_Bool, or_cases, place_of, without_block_at, Run, Block, Layout, is_at, without_block, Done, Outcome, Put, Refused, is_usable, outcome_of_move, sized_block, IsUsable, change_block, find_block, rewritten_block, with_bytes_at}
use Rattle.vc_seg.specs.Answer.{IsPut}

-- a run that is usable by the test is so
pub usable-any : (f : Run) (segments : List (ℕ × ℕ)) → is_usable segments f ≡ true → IsUsable segments f
usable-any f [] e = absurd (cc)
usable-any f (s ∷ ss) e =
    ⊎_elim
    (λ u.
    let one = and_parts (eqb f.seg s.0) (leb 16 f.from && leb (f.to + 16) s.1) u in
    let two = and_parts (leb 16 f.from) (leb (f.to + 16) s.1) one.1 in
    (0, s, omega arith, refl, (eqb-true f.seg s.0 one.0, leb-true 16 f.from two.0, leb-true (f.to + 16) s.1 two.1)))
    (λ u. let rest = usable-any f ss u in let within = rest.2 in (suc rest.0, rest.1, omega (arith, within), rest.3, rest.4))
    (or_cases ((f.seg == s.0) && (leb 16 f.from && leb (f.to + 16) s.1)) (is_usable ss f) e)

-- a change of a block that keeps its place, and its label
module _ (f : Block ℕ → Block ℕ) (same : (at : ℕ × ℕ) (b : Block ℕ) → is_at at (f b) ≡ is_at at b) where
  changed-others : (at : ℕ × ℕ) (bs : List (Block ℕ)) → without_block at (change_block f at bs) ≡ without_block at bs
  changed-others at [] = refl
  changed-others at (b ∷ bs) =
      ⊎_elim
      (λ (e : is_at at b ≡ true). rw e (rw (same at b ∙ e) refl))
      (λ (e : is_at at b ≡ false). rw e (rw e (ap (λ cs. b ∷ cs) (changed-others at bs))))
      (cases_Bool (is_at at b))

  changed-label : ((b : Block ℕ) → (f b).label ≡ b.label) → (at : ℕ × ℕ) (bs : List (Block ℕ)) → option_map (λ b. b.label) (find_block at (change_block f at bs)) ≡ option_map (λ b. b.label) (find_block at bs)
  changed-label label at [] = refl
  changed-label label at (b ∷ bs) =
      ⊎_elim
      (λ (e : is_at at b ≡ true). rw e (rw (same at b ∙ e) (ap Some (label b))))
      (λ (e : is_at at b ≡ false). rw e (rw e (changed-label label at bs)))
      (cases_Bool (is_at at b))

pub others-written : (off : ℕ) (src : List ℕ) (at : ℕ × ℕ) (bs : List (Block ℕ)) → without_block at (change_block (rewritten_block off src) at bs) ≡ without_block at bs
others-written off src at bs = changed-others (rewritten_block off src) (λ p b. refl) at bs

pub others-sized : (size : ℕ) (at : ℕ × ℕ) (bs : List (Block ℕ)) → without_block at (change_block (sized_block size) at bs) ≡ without_block at bs
others-sized size at bs = changed-others (sized_block size) (λ p b. refl) at bs

pub there-sized : (size : ℕ) (at : ℕ × ℕ) (bs : List (Block ℕ)) → option_map (λ b. b.label) (find_block at (change_block (sized_block size) at bs)) ≡ option_map (λ b. b.label) (find_block at bs)
there-sized size at bs = changed-label (sized_block size) (λ p b. refl) (λ b. refl) at bs

-- a block that was put where it moves to, with its bytes, and taken from where it was
pub moved-put : (size to : ℕ) (b : Block ℕ) (x : Outcome (Put (Layout ℕ))) (mid new : Layout ℕ) → IsPut x to mid → new ≡ without_block_at (with_bytes_at mid (place_of to) 0 (take size b.bytes)) (b.seg, b.off) → IsPut (outcome_of_move size b x) to new
moved-put size to b (Done p) mid new h e =
    (h.0, h.1, e ∙ (ap (λ (at : ℕ × ℕ). without_block_at (with_bytes_at mid at 0 (take size b.bytes)) (b.seg, b.off)) (sym h.1) ∙ ap (λ (q : Layout ℕ). without_block_at (with_bytes_at q p.at 0 (take size b.bytes)) (b.seg, b.off)) h.2))
moved-put size to b (Refused why) mid new h e = absurd h
