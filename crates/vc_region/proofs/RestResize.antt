-- Giving a labelled block another size commutes with the zeros that the unlabelled blocks show.
use Rattle.vc_base.proofs.Common.{◌≡◌, ℕ, Bool, true, false, cond, eqb, ◌≢◌, ◌⊎◌, List, [], ◌∷◌, take, Some, None, Option, option_map, sym, refl, ap, ◌∙◌, subst, inl, inr, ⊎_elim, true≢false, eq-eqb, eqb-true, and_from, and_parts, cases_Bool, same_Some, best_alloc, best_need, place_in, put_in_new, put_or_ask, zeros, Terms, last_resize, Block, Layout, is_at, lies_before, with_block, with_grant, without_block, Done, Fixed, Outcome, Put, Refused, outcome_as, pool_resize, best_resize, can_stay, outcome_of_move, resize_found, stays, Asked, Grant, Granted, NotLent, TooMany, ask, change_block, find_block, rewritten_block}
use Rattle.vc_model.specs.Best.{put}
use Rattle.vc_model.specs.Outcome.{put_as}
use Rattle.vc_model.specs.Resize.{resize_block}
use Rattle.vc_model.proofs.Owned.{found-is}
use Rattle.vc_base.proofs.Places.{at-itself}
use Rattle.vc_audit.specs.Debug.{debug_resize}
use Rattle.vc_audit.specs.Profile.{profile_resize}
use Rattle.vc_best.specs.Cells.{zeroed_layout}
use Rattle.vc_region.specs.Cells.{rest_of}
use Rattle.vc_region.specs.Region.{OfBest, OfPool, OfLast, OfDebug, OfProfile, Region, blocks_of, region_resize}
use Rattle.vc_best.proofs.CellCalls.{find-written}
use Rattle.vc_region.proofs.Rest.{as_best, as_same}
use Rattle.vc_best.proofs.RestBlocks.{change-labelled, change_block-zeroed, found-labelled, plain, without_block-zeroed}
use Rattle.vc_best.proofs.RestLayout.{best_alloc-zeroed, can_stay-zeroed, layout, stays-zeroed}
use Rattle.vc_region.proofs.Writing.{label_at}

-- the blocks where one was put among them
abbrev Adds : List (Block ℕ) → ℕ → ℕ → Outcome (Put (Layout ℕ)) → Type 0
Adds bs label size (Done p) = p.region.blocks ≡ with_block (zeros label size p.at) bs
Adds bs label size (Refused why) = Unit {0}

adds-put : (r : Layout ℕ) (label size : ℕ) (granted : Option Grant) (at : Option (ℕ × ℕ)) → Adds r.blocks label size (put r label size granted at)
adds-put r label size granted None = tt
adds-put r label size granted (Some at) = refl

adds-new : (r : Layout ℕ) (label size align : ℕ) (asked : Asked) → Adds r.blocks label size (put_in_new r label size align asked)
adds-new r label size align (Granted grant) = adds-put (with_grant r grant) label size (Some grant) (place_in (with_grant r grant) size align)
adds-new r label size align TooMany = tt
adds-new r label size align NotLent = tt

adds-place : (terms : Terms) (r : Layout ℕ) (label size align : ℕ) (refused : Bool) (at : Option (ℕ × ℕ)) → Adds r.blocks label size (put_or_ask terms r label size align refused at)
adds-place terms r label size align refused (Some at) = refl
adds-place terms r label size align refused None = adds-new r label size align (ask terms (best_need terms size align) r.segments refused)

-- a block tells the place that it is at
at-is : (at : ℕ × ℕ) (b : Block ℕ) → is_at at b ≡ true → at ≡ (b.seg, b.off)
at-is at b e =
    let both = and_parts (eqb b.seg at.0) (eqb b.off at.1) e in
    let first : ℕ → ℕ × ℕ = λ s. (s, at.1) in
    let second : ℕ → ℕ × ℕ = λ o. (b.seg, o) in
    ap first (sym (eqb-true b.seg at.0 both.0)) ∙ ap second (sym (eqb-true b.off at.1 both.1))

-- the first of some blocks is at a place, or else it is looked for among the others
find-first : (x : ℕ × ℕ) (b : Block ℕ) (bs : List (Block ℕ)) (v : Bool) → is_at x b ≡ v → find_block x (b ∷ bs) ≡ cond v (Some b) (find_block x bs)
find-first x b bs v t = ap (λ u. cond u (Some b) (find_block x bs)) t

find-either : (x : ℕ × ℕ) (z : Block ℕ) (bs : List (Block ℕ)) (c : Block ℕ) → find_block x (z ∷ bs) ≡ Some c → (c ≡ z) ⊎ (find_block x bs ≡ Some c)
find-either x z bs c e =
    ⊎_elim
    (λ (t : is_at x z ≡ true). inl (sym (same_Some z c (sym (find-first x z bs true t) ∙ e))))
    (λ (t : is_at x z ≡ false). inr (sym (find-first x z bs false t) ∙ e))
    (cases_Bool (is_at x z))

-- the block at a place is the one that was put there, or one that stood there
find-with : (x : ℕ × ℕ) (z : Block ℕ) (bs : List (Block ℕ)) (c : Block ℕ) → find_block x (with_block z bs) ≡ Some c → (c ≡ z) ⊎ (find_block x bs ≡ Some c)
find-with x z [] c e = find-either x z [] c e
find-with x z (d ∷ ds) c e =
    ⊎_elim
    (λ (t : lies_before z d ≡ true).
    let h : find_block x (z ∷ d ∷ ds) ≡ Some c = rw t at e in
    find-either x z (d ∷ ds) c h)
    (λ (t : lies_before z d ≡ false).
    let h : find_block x (d ∷ with_block z ds) ≡ Some c = rw t at e in
    ⊎_elim
    (λ (u : is_at x d ≡ true). inr (find-first x d ds true u ∙ (sym (find-first x d (with_block z ds) true u) ∙ h)))
    (λ (u : is_at x d ≡ false).
    ⊎_elim (λ s. inl s) (λ s. inr (find-first x d ds false u ∙ s)) (find-with x z ds c (sym (find-first x d (with_block z ds) false u) ∙ h)))
    (cases_Bool (is_at x d)))
    (cases_Bool (lies_before z d))

-- a block goes that is at another place
find-gone : (x at : ℕ × ℕ) → x ≢ at → (bs : List (Block ℕ)) → find_block x (without_block at bs) ≡ find_block x bs
find-gone x at ne [] = refl
find-gone x at ne (c ∷ cs) =
    ⊎_elim
    (λ (t : is_at at c ≡ true).
    ⊎_elim
    (λ (u : is_at x c ≡ true). absurd (ne (at-is x c u ∙ sym (at-is at c t))))
    (λ (u : is_at x c ≡ false). rw t (rw u refl))
    (cases_Bool (is_at x c)))
    (λ (t : is_at at c ≡ false). rw t (ap (cond (is_at x c) (Some c)) (find-gone x at ne cs)))
    (cases_Bool (is_at at c))

-- a block moves that is found in its new place with its label: what stands there before its bytes come has that label
module _ (size : ℕ) (b : Block ℕ) (bs : List (Block ℕ)) (found : find_block (b.seg, b.off) bs ≡ Some b) where
  there-before : (p : Put (Layout ℕ)) → p.region.blocks ≡ with_block (zeros b.label size p.at) bs → label_at p.at (without_block (b.seg, b.off) (change_block (rewritten_block 0 (take size b.bytes)) p.at p.region.blocks)) ≡ Some b.label → (c : Block ℕ) → find_block p.at p.region.blocks ≡ Some c → c.label ≡ b.label
  there-before p adds there c e =
      let src = take size b.bytes in
      let label : Option (Block ℕ) → Option ℕ = option_map (λ d. d.label) in
      ⊎_elim
      (λ (t : is_at p.at b ≡ true).
      ⊎_elim
      (λ z. ap (λ (d : Block ℕ). d.label) z)
      (λ h. ap (λ (d : Block ℕ). d.label) (same_Some c b (sym h ∙ (ap (λ q. find_block q bs) (at-is p.at b t) ∙ found))))
      (find-with p.at (zeros b.label size p.at) bs c (sym (ap (find_block p.at) adds) ∙ e)))
      (λ (t : is_at p.at b ≡ false).
      let ne : p.at ≢ (b.seg, b.off) = λ s. true≢false (sym (subst (λ q. is_at q b ≡ true) (sym s) (at-itself b)) ∙ t) in
      let after = change_block (rewritten_block 0 src) p.at p.region.blocks in
      same_Some c.label b.label
      (sym (ap label (find-gone p.at (b.seg, b.off) ne after) ∙ ap label (find-written 0 src p.at p.region.blocks ∙ ap (option_map (rewritten_block 0 src)) e)) ∙ there))
      (cases_Bool (is_at p.at b))

  moved-zeroed : b.label ≢ 0 → (to : Outcome (Put (Layout ℕ))) → Adds bs b.label size to → ((p : Put (Layout ℕ)) → outcome_of_move size b to ≡ Done p → label_at p.at p.region.blocks ≡ Some b.label) → outcome_of_move size b (outcome_as zeroed_layout to) ≡ outcome_as zeroed_layout (outcome_of_move size b to)
  moved-zeroed labelled (Done p) adds there =
      let change = rewritten_block 0 (take size b.bytes) in
      let after = change_block change p.at p.region.blocks in
      let put : Put (Layout ℕ) = record { at = p.at; region = layout p.region.segments (without_block (b.seg, b.off) after); granted = p.granted } in
      let same = change_block-zeroed change change p.at p.region.blocks
      (λ c e. change-labelled change (λ d. refl) c (ap (λ n. eqb n 0) (there-before p adds (there put refl) c e) ∙ plain b labelled)) in
      ap (λ cs. Done (record { at = p.at; region = layout p.region.segments cs; granted = p.granted }))
      (ap (without_block (b.seg, b.off)) (sym same) ∙ sym (without_block-zeroed (b.seg, b.off) after))
  moved-zeroed labelled (Refused why) adds there = refl

-- staying, moving or neither
by-choice : (v m : Bool) (there there' off off' : Outcome (Put (Layout ℕ))) (P : Put (Layout ℕ) → Type 0) → there ≡ outcome_as zeroed_layout there' → (((p : Put (Layout ℕ)) → off' ≡ Done p → P p) → off ≡ outcome_as zeroed_layout off') →
    ((p : Put (Layout ℕ)) → cond v there' (cond m off' (Refused Fixed)) ≡ Done p → P p) → cond v there (cond m off (Refused Fixed)) ≡ outcome_as zeroed_layout (cond v there' (cond m off' (Refused Fixed)))
by-choice true m there there' off off' P stay move h = stay
by-choice false true there there' off off' P stay move h = move h
by-choice false false there there' off off' P stay move h = refl

module _ (terms : Terms) (r : Layout ℕ) (size : ℕ) (may_move refused : Bool) (b : Block ℕ) (labelled : b.label ≢ 0) where
  resize_block-zeroed : find_block (b.seg, b.off) r.blocks ≡ Some b → ((p : Put (Layout ℕ)) → resize_block terms r size may_move refused b ≡ Done p → label_at p.at p.region.blocks ≡ Some b.label) → resize_block terms (zeroed_layout r) size may_move refused b ≡ outcome_as zeroed_layout (resize_block terms r size may_move refused b)
  resize_block-zeroed found there =
      let stay = stays (zeroed_layout r) size b in
      let off = outcome_of_move size b (best_alloc terms (zeroed_layout r) b.label size 32 refused) in
      let to = best_alloc terms r b.label size 32 refused in
      ap (λ v. cond v stay (cond may_move off (Refused Fixed))) (can_stay-zeroed r size b)
      ∙ by-choice (can_stay r size b) may_move stay (stays r size b) off (outcome_of_move size b to) (λ p. label_at p.at p.region.blocks ≡ Some b.label)
      (stays-zeroed r size b found labelled)
      (λ h. ap (outcome_of_move size b) (best_alloc-zeroed terms r b.label size 32 refused) ∙ moved-zeroed size b r.blocks found labelled to (adds-place terms r b.label size 32 refused (place_in r size 32)) h)
      there

  best_resize-zeroed : (at : ℕ × ℕ) → find_block at r.blocks ≡ Some b → ((p : Put (Layout ℕ)) → best_resize terms r at size may_move refused ≡ Done p → label_at p.at p.region.blocks ≡ Some b.label) → best_resize terms (zeroed_layout r) at size may_move refused ≡ outcome_as zeroed_layout (best_resize terms r at size may_move refused)
  best_resize-zeroed at found there =
      let is : is_at at b ≡ true = (found-is (λ c. Unit {0}) at r.blocks b found (λ k d lt. tt)).0 in
      let own : find_block (b.seg, b.off) r.blocks ≡ Some b = ap (λ q. find_block q r.blocks) (sym (at-is at b is)) ∙ found in
      let as_found = ap (resize_found terms r size may_move refused) found in
      ap (resize_found terms (zeroed_layout r) size may_move refused) (found-labelled at r.blocks b found labelled)
      ∙ (resize_block-zeroed own (λ p e. there p (as_found ∙ e)) ∙ ap (outcome_as zeroed_layout) (sym as_found))

-- a labelled block gets another size, and is found with its label where it is then
pub rest-resize : (terms : Terms) (r : Region ℕ) (at : ℕ × ℕ) (size : ℕ) (may_move refused : Bool) (b : Block ℕ) → find_block at (blocks_of r) ≡ Some b → b.label ≢ 0 → ((p : Put (Region ℕ)) → region_resize terms r at size may_move refused ≡ Done p → label_at p.at (blocks_of p.region) ≡ Some b.label) → region_resize terms (rest_of r) at size may_move refused ≡ outcome_as rest_of (region_resize terms r at size may_move refused)
rest-resize terms (OfBest l) at size may_move refused b found labelled there =
    ap (outcome_as OfBest) (best_resize-zeroed terms l size may_move refused b labelled at found (λ p e. there (put_as OfBest p) (ap (outcome_as OfBest) e)))
    ∙ as_best (best_resize terms l at size may_move refused)
rest-resize terms (OfPool p) at size may_move refused b found labelled there = as_same OfPool (λ x. refl) (pool_resize p at size)
rest-resize terms (OfLast l) at size may_move refused b found labelled there = as_same OfLast (λ x. refl) (last_resize terms l at size may_move refused)
rest-resize terms (OfDebug d) at size may_move refused b found labelled there = as_same OfDebug (λ x. refl) (debug_resize terms d at size may_move refused)
rest-resize terms (OfProfile p) at size may_move refused b found labelled there = as_same OfProfile (λ x. refl) (profile_resize terms p at size may_move refused)
