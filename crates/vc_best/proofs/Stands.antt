-- Of blocks that don't overlap, one alone stands at each place.
use Rattle.vc_base.proofs.Common.{◌≡◌, ℕ, zero, suc, ◌+◌, ◌<◌, true, false, eqb, List, [], ◌∷◌, length, get_or, All, HoldsAt, remove, sym, refl, ap, ◌∙◌, subst, ⊎_elim, arith, eqb-true, and_parts, cases_Bool, All-cons, All-head, All-nil, All-tail, get_or-map, get_or_default, length-map, place_of, Block, Layout, address_of, is_at, lies_before, with_block, without_block, HasBlock}
use Rattle.std.proofs.lemmas.List.Edits.{length-remove}
use Rattle.vc_model.proofs.Pairs.{AllPairs-head, AllPairs-tail}
use Rattle.vc_base.proofs.Places.{at-itself, span-least}
use Rattle.vc_seg.proofs.Blocks.{All-without, place_of-address}
use Rattle.vc_best.proofs.HaveHeads.{AreApart, HasHead, HaveHeads}
use Rattle.vc_best.proofs.Apart.{Before}

-- two blocks that don't overlap are at two places
not_at : (b c : Block ℕ) (at : ℕ × ℕ) → Before b c → is_at at b ≡ true → is_at at c ≡ true → ⊥
not_at b c at before e u =
    let one = and_parts (eqb b.seg at.0) (eqb b.off at.1) e in
    let two = and_parts (eqb c.seg at.0) (eqb c.off at.1) u in
    let seg : b.seg ≡ c.seg = eqb-true b.seg at.0 one.0 ∙ sym (eqb-true c.seg at.0 two.0) in
    let off : b.off ≡ c.off = eqb-true b.off at.1 one.1 ∙ sym (eqb-true c.off at.1 two.1) in
    let some = span-least b.size in
    ⊎_elim (λ v. omega (arith, v, seg)) (λ v. let le = v.1 in omega (arith, le, off, some)) before

-- of blocks that don't overlap, the one at a place is the one that goes
without_block-remove : (bs : List (Block ℕ)) (i : ℕ) (d : Block ℕ) → AreApart bs → i < length bs → without_block ((get_or bs i d).seg, (get_or bs i d).off) bs ≡ remove bs i
without_block-remove [] i d h lt = absurd (omega (arith, lt))
without_block-remove (b ∷ bs) zero d h lt = rw (at-itself b) refl
without_block-remove (b ∷ bs) (suc i) d h lt =
    let c : Block ℕ = get_or bs i d in
    let within : i < length bs = omega (arith, lt) in
    ⊎_elim
    (λ e. absurd (not_at b c (c.seg, c.off) (AllPairs-head Before b bs h i d within) e (at-itself c)))
    (λ e. rw e (ap (λ cs. b ∷ cs) (without_block-remove bs i d (AllPairs-tail Before b bs h) within)))
    (cases_Bool (is_at (c.seg, c.off) b))

-- then none is left there
none-left : (at : ℕ × ℕ) (bs : List (Block ℕ)) → AreApart bs → All (λ c. is_at at c ≡ false) (without_block at bs)
none-left at [] h = λ k d lt. absurd (omega (arith, lt))
none-left at (b ∷ bs) h =
    let P : Block ℕ → Type 0 = λ c. is_at at c ≡ false in
    ⊎_elim
    (λ e.
    rw e (λ k d lt.
    let c : Block ℕ = get_or bs k d in
    ⊎_elim (λ u. absurd (not_at b c at (AllPairs-head Before b bs h k d lt) e u)) (λ u. u) (cases_Bool (is_at at c))))
    (λ e. rw e (All-cons P b (without_block at bs) e (none-left at bs (AllPairs-tail Before b bs h))))
    (cases_Bool (is_at at b))

-- where a block is one more among blocks that don't overlap, no other is at its place
with-own : (P : Block ℕ → Type 0) (b : Block ℕ) (bs : List (Block ℕ)) → All P (with_block b bs) → P b
with-own P b [] h = All-head P b [] h
with-own P b (c ∷ cs) h =
    ⊎_elim
    (λ (t : lies_before b c ≡ true). All-head P b (c ∷ cs) (rw t at h))
    (λ (t : lies_before b c ≡ false). with-own P b cs (All-tail P c (with_block b cs) (rw t at h)))
    (cases_Bool (lies_before b c))

pub alone : (b : Block ℕ) (bs : List (Block ℕ)) → AreApart (with_block b bs) → All (λ c. is_at (b.seg, b.off) c ≡ false) bs
alone b [] h = All-nil (λ (c : Block ℕ). is_at (b.seg, b.off) c ≡ false)
alone b (c ∷ cs) h =
    ⊎_elim
    (λ (t : lies_before b c ≡ true).
    let apart : AreApart (b ∷ c ∷ cs) = rw t at h in
    λ k d lt.
    let e : Block ℕ = get_or (c ∷ cs) k d in
    ⊎_elim (λ u. absurd (not_at b e (b.seg, b.off) (AllPairs-head Before b (c ∷ cs) apart k d lt) (at-itself b) u)) (λ u. u) (cases_Bool (is_at (b.seg, b.off) e)))
    (λ (t : lies_before b c ≡ false).
    let apart : AreApart (c ∷ with_block b cs) = rw t at h in
    let before : Before c b = with-own (Before c) b cs (AllPairs-head Before c (with_block b cs) apart) in
    All-cons (λ (d : Block ℕ). is_at (b.seg, b.off) d ≡ false) c cs
    (⊎_elim (λ u. absurd (not_at c b (b.seg, b.off) before u (at-itself b))) (λ u. u) (cases_Bool (is_at (b.seg, b.off) c)))
    (alone b cs (AllPairs-tail Before c (with_block b cs) apart)))
    (cases_Bool (lies_before b c))

-- the block at an address, which tells its place
pub record Stands (segments : List (ℕ × ℕ)) (bs : List (Block ℕ)) (a : ℕ) : Type 0 where
  pub index : ℕ
  pub block : Block ℕ
  pub within : index < length bs
  pub at : get_or bs index block ≡ block
  pub place : (block.seg, block.off) ≡ place_of a
  pub head : HasHead segments block

pub stands : (segments : List (ℕ × ℕ)) (bs : List (Block ℕ)) (a : ℕ) → All (HasHead segments) bs → HasBlock bs a → Stands segments bs a
stands segments bs a h live =
    let none : Block ℕ = record { label = 0; seg = 0; off = 0; size = 0; bytes = [] } in
    let k : ℕ = live.0 in
    let within : k < length bs = omega (arith, live.1, length-map bs address_of) in
    let b : Block ℕ = get_or bs k none in
    let head : HasHead segments b = h k none within in
    let own : address_of b ≡ a = sym (get_or-map address_of bs k none a within) ∙ live.2 in
    record {
      index = k;
      block = b;
      within = within;
      at = get_or_default bs k b none within;
      place = sym (place_of-address b.seg b.off head.slot.last head.slot.multiple) ∙ ap place_of own;
      head = head;
    }

at-none : (segments : List (ℕ × ℕ)) (bs : List (Block ℕ)) (a : ℕ) → All (HasHead segments) bs → All (λ b. is_at (place_of a) b ≡ false) bs → ¬ HasBlock bs a
at-none segments bs a h none live =
    let s = stands segments bs a h live in
    let other : is_at (place_of a) s.block ≡ false = subst (λ (b : Block ℕ). is_at (place_of a) b ≡ false) s.at (none s.index s.block s.within) in
    let own : is_at (place_of a) s.block ≡ true = subst (λ (p : ℕ × ℕ). is_at p s.block ≡ true) s.place (at-itself s.block) in
    let no : true ≡ false = sym own ∙ other in
    cc

module _ (r : Layout ℕ) (a : ℕ) (h : HaveHeads r) where
  -- the one that goes with its place
  pub stands-removed : (i : ℕ) → i < length r.blocks → HoldsAt (λ b. address_of b ≡ a) r.blocks i → without_block (place_of a) r.blocks ≡ remove r.blocks i
  stands-removed i lt at =
      let none : Block ℕ = record { label = 0; seg = 0; off = 0; size = 0; bytes = [] } in
      let b : Block ℕ = get_or r.blocks i none in
      let head = (h.blocks i none lt).slot in
      let place : place_of a ≡ (b.seg, b.off) = ap place_of (sym (at none)) ∙ place_of-address b.seg b.off head.last head.multiple in
      ap (λ (p : ℕ × ℕ). without_block p r.blocks) place ∙ without_block-remove r.blocks i none h.apart lt

  pub one-less : HasBlock r.blocks a → length (without_block (place_of a) r.blocks) + 1 ≡ length r.blocks
  one-less live =
      let within : live.0 < length r.blocks = omega (arith, live.1, length-map r.blocks address_of) in
      ap (λ (bs : List (Block ℕ)). length bs + 1) (stands-removed live.0 within (λ d. sym (get_or-map address_of r.blocks live.0 d a within) ∙ live.2))
      ∙ length-remove r.blocks live.0 within

  -- no block is at an address at whose place none is
  pub none-at : All (λ b. is_at (place_of a) b ≡ false) r.blocks → ¬ HasBlock r.blocks a
  none-at none live = at-none r.segments r.blocks a h.blocks none live

  pub none-there : ¬ HasBlock (without_block (place_of a) r.blocks) a
  none-there live =
      at-none r.segments (without_block (place_of a) r.blocks) a (All-without (HasHead r.segments) (place_of a) r.blocks h.blocks) (none-left (place_of a) r.blocks h.apart) live
