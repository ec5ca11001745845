-- Every call of a layout commutes with a change of its labels.
use Rattle.std.proofs.Common.{◌≡◌, ℕ, ◌-◌, Bool, true, false, ◌&&◌, ◌||◌, cond, List, [], ◌∷◌, Option, Some, None, length, map, filter, option_map, refl, sym, ap, ◌∙◌, take, eqb}
use Rattle.std.specs.Prelude.{not, find, nat_lt}
use Rattle.std.specs.List.{AllByRecursion, list_all}
use Rattle.vc_model.specs.Best.{best_alloc, best_need, put, put_at, put_in_new, put_or_ask, place_in, zeros}
use Rattle.vc_model.specs.Compact.{compact_count, compacted_layout, is_occupied}
use Rattle.vc_model.specs.Discipline.{Terms}
use Rattle.vc_model.specs.Layout.{Block, Layout, address_of, footprint, footprints, is_at, lies_before, relabel_block, relabel_layout, with_block, with_grant, without_block}
use Rattle.vc_model.specs.Order.{put_by}
use Rattle.vc_model.specs.Outcome.{Outcome, Done, Refused, Put, Fixed, outcome_as}
use Rattle.vc_model.specs.Gap.{gaps}
use Rattle.vc_model.specs.Numbers.{block_sizes, gaps_of}
use Rattle.vc_model.specs.Place.{place}
use Rattle.vc_model.specs.Resize.{best_resize, can_stay, is_usable, meets, outcome_of_move, resize_block, resize_found, sized_block, stays}
use Rattle.vc_model.specs.Segments.{Asked, Grant, Granted, TooMany, NotLent, ask}
use Rattle.vc_model.specs.Touch.{change_block, find_block, rewritten_block}
use Rattle.vc_model.specs.Walk.{block_at, by_address, holds_byte}

module _ {L M : Type 0} (f : L → M) where
  abbrev layout : List (ℕ × ℕ) → List (Block M) → Layout M
  layout segments blocks = record { segments = segments; blocks = blocks }

  -- an outcome with other labels
  abbrev pub relabel_outcome : Outcome (Put (Layout L)) → Outcome (Put (Layout M))
  relabel_outcome o = outcome_as (relabel_layout f) o

  pub footprints-relabel : (bs : List (Block L)) → footprints (map (relabel_block f) bs) ≡ footprints bs
  footprints-relabel [] = refl
  footprints-relabel (b ∷ bs) = ap (λ rs. footprint b ∷ rs) (footprints-relabel bs)

  pub with_block-relabel : (b : Block L) (cs : List (Block L)) → map (relabel_block f) (with_block b cs) ≡ with_block (relabel_block f b) (map (relabel_block f) cs)
  with_block-relabel b [] = refl
  with_block-relabel b (c ∷ cs) =
      elim (lies_before b c) as (λ v. map (relabel_block f) (cond v (b ∷ c ∷ cs) (c ∷ with_block b cs)) ≡ cond v (relabel_block f b ∷ relabel_block f c ∷ map (relabel_block f) cs) (relabel_block f c ∷ with_block (relabel_block f b) (map (relabel_block f) cs)))
      [ true ↦ refl | false ↦ ap (λ ds. relabel_block f c ∷ ds) (with_block-relabel b cs) ]

  pub without_block-relabel : (at : ℕ × ℕ) (bs : List (Block L)) → map (relabel_block f) (without_block at bs) ≡ without_block at (map (relabel_block f) bs)
  without_block-relabel at [] = refl
  without_block-relabel at (b ∷ bs) =
      elim (is_at at b) as (λ v. map (relabel_block f) (cond v bs (b ∷ without_block at bs)) ≡ cond v (map (relabel_block f) bs) (relabel_block f b ∷ without_block at (map (relabel_block f) bs)))
      [ true ↦ refl | false ↦ ap (λ cs. relabel_block f b ∷ cs) (without_block-relabel at bs) ]

  -- a find whose test looks at no label
  pub find-relabel : (test : Block L → Bool) (test' : Block M → Bool) (same : (b : Block L) → test' (relabel_block f b) ≡ test b) (bs : List (Block L)) → find test' (map (relabel_block f) bs) ≡ option_map (relabel_block f) (find test bs)
  find-relabel test test' same [] = refl
  find-relabel test test' same (b ∷ bs) =
      ap (λ v. cond v (Some (relabel_block f b)) (find test' (map (relabel_block f) bs))) (same b)
      ∙ elim (test b) as (λ v. cond v (Some (relabel_block f b)) (find test' (map (relabel_block f) bs)) ≡ option_map (relabel_block f) (cond v (Some b) (find test bs)))
      [ true ↦ refl | false ↦ find-relabel test test' same bs ]

  pub find_block-relabel : (at : ℕ × ℕ) (bs : List (Block L)) → find_block at (map (relabel_block f) bs) ≡ option_map (relabel_block f) (find_block at bs)
  find_block-relabel at bs = find-relabel (is_at at) (is_at at) (λ b. refl) bs

  -- a change that says the same of the label changes the blocks alike
  pub change_block-relabel : (change : Block L → Block L) (change' : Block M → Block M) (same : (b : Block L) → relabel_block f (change b) ≡ change' (relabel_block f b)) (at : ℕ × ℕ) (bs : List (Block L)) → map (relabel_block f) (change_block change at bs) ≡ change_block change' at (map (relabel_block f) bs)
  change_block-relabel change change' same at [] = refl
  change_block-relabel change change' same at (b ∷ bs) =
      elim (is_at at b) as (λ v. map (relabel_block f) (cond v (change b ∷ bs) (b ∷ change_block change at bs)) ≡ cond v (change' (relabel_block f b) ∷ map (relabel_block f) bs) (relabel_block f b ∷ change_block change' at (map (relabel_block f) bs)))
      [ true ↦ ap (λ c. c ∷ map (relabel_block f) bs) (same b) | false ↦ ap (λ cs. relabel_block f b ∷ cs) (change_block-relabel change change' same at bs) ]

  put_at-relabel : (r : Layout L) (label : L) (size : ℕ) (granted : Option Grant) (at : ℕ × ℕ) → put_at (relabel_layout f r) (f label) size granted at ≡ relabel_outcome (put_at r label size granted at)
  put_at-relabel r label size granted at =
      ap (λ bs. Done (record { at = at; region = layout r.segments bs; granted = granted })) (sym (with_block-relabel (zeros label size at) r.blocks))

  place_in-relabel : (r : Layout L) (size align : ℕ) → place_in (relabel_layout f r) size align ≡ place_in r size align
  place_in-relabel r size align = ap (λ fs. place r.segments fs size align) (footprints-relabel r.blocks)

  put-relabel : (r : Layout L) (label : L) (size : ℕ) (granted : Option Grant) (at : Option (ℕ × ℕ)) → put (relabel_layout f r) (f label) size granted at ≡ relabel_outcome (put r label size granted at)
  put-relabel r label size granted None = refl
  put-relabel r label size granted (Some at) = put_at-relabel r label size granted at

  put_in_new-relabel : (r : Layout L) (label : L) (size align : ℕ) (asked : Asked) → put_in_new (relabel_layout f r) (f label) size align asked ≡ relabel_outcome (put_in_new r label size align asked)
  put_in_new-relabel r label size align (Granted g) =
      ap (put (with_grant (relabel_layout f r) g) (f label) size (Some g)) (place_in-relabel (with_grant r g) size align)
      ∙ put-relabel (with_grant r g) label size (Some g) (place_in (with_grant r g) size align)
  put_in_new-relabel r label size align TooMany = refl
  put_in_new-relabel r label size align NotLent = refl

  put_or_ask-relabel : (terms : Terms) (r : Layout L) (label : L) (size align : ℕ) (refused : Bool) (at : Option (ℕ × ℕ)) → put_or_ask terms (relabel_layout f r) (f label) size align refused at ≡ relabel_outcome (put_or_ask terms r label size align refused at)
  put_or_ask-relabel terms r label size align refused (Some at) = put_at-relabel r label size None at
  put_or_ask-relabel terms r label size align refused None = put_in_new-relabel r label size align (ask terms (best_need terms size align) r.segments refused)

  pub best_alloc-relabel : (terms : Terms) (r : Layout L) (label : L) (size align : ℕ) (refused : Bool) → best_alloc terms (relabel_layout f r) (f label) size align refused ≡ relabel_outcome (best_alloc terms r label size align refused)
  best_alloc-relabel terms r label size align refused =
      ap (put_or_ask terms (relabel_layout f r) (f label) size align refused) (place_in-relabel r size align)
      ∙ put_or_ask-relabel terms r label size align refused (place_in r size align)

  is_clear-relabel : (size : ℕ) (b : Block L) (cs : List (Block L)) →
      list_all (λ (c : Block M). is_at (b.seg, b.off) c || not (meets (footprint (sized_block size b)) (footprint c))) (map (relabel_block f) cs)
      ≡ list_all (λ (c : Block L). is_at (b.seg, b.off) c || not (meets (footprint (sized_block size b)) (footprint c))) cs
  is_clear-relabel size b [] = refl
  is_clear-relabel size b (c ∷ cs) = ap (λ v. (is_at (b.seg, b.off) c || not (meets (footprint (sized_block size b)) (footprint c))) && v) (is_clear-relabel size b cs)

  pub can_stay-relabel : (r : Layout L) (size : ℕ) (b : Block L) → can_stay (relabel_layout f r) size (relabel_block f b) ≡ can_stay r size b
  can_stay-relabel r size b = ap (λ v. is_usable r.segments (footprint (sized_block size b)) && v) (is_clear-relabel size b r.blocks)

  pub stays-relabel : (r : Layout L) (size : ℕ) (b : Block L) → stays (relabel_layout f r) size (relabel_block f b) ≡ relabel_outcome (stays r size b)
  stays-relabel r size b =
      ap (λ bs. Done (record { at = (b.seg, b.off); region = layout r.segments bs; granted = None })) (sym (change_block-relabel (sized_block size) (sized_block size) (λ c. refl) (b.seg, b.off) r.blocks))

  pub moved-relabel : (size : ℕ) (b : Block L) (to : Outcome (Put (Layout L))) → outcome_of_move size (relabel_block f b) (relabel_outcome to) ≡ relabel_outcome (outcome_of_move size b to)
  moved-relabel size b (Done p) =
      let src = take size b.bytes in
      ap (λ bs. Done (record { at = p.at; region = layout p.region.segments bs; granted = p.granted }))
      (ap (without_block (b.seg, b.off)) (sym (change_block-relabel (rewritten_block 0 src) (rewritten_block 0 src) (λ c. refl) p.at p.region.blocks))
      ∙ sym (without_block-relabel (b.seg, b.off) (change_block (rewritten_block 0 src) p.at p.region.blocks)))
  moved-relabel size b (Refused why) = refl

  resize_block-relabel : (terms : Terms) (r : Layout L) (size : ℕ) (may_move refused : Bool) (b : Block L) → resize_block terms (relabel_layout f r) size may_move refused (relabel_block f b) ≡ relabel_outcome (resize_block terms r size may_move refused b)
  resize_block-relabel terms r size may_move refused b =
      let there = stays (relabel_layout f r) size (relabel_block f b) in
      let off = outcome_of_move size (relabel_block f b) (best_alloc terms (relabel_layout f r) (f b.label) size 32 refused) in
      let to = ap (outcome_of_move size (relabel_block f b)) (best_alloc-relabel terms r b.label size 32 refused) ∙ moved-relabel size b (best_alloc terms r b.label size 32 refused) in
      ap (λ v. cond v there (cond may_move off (Refused Fixed))) (can_stay-relabel r size b)
      ∙ (elim (can_stay r size b) as (λ v. cond v there (cond may_move off (Refused Fixed)) ≡ relabel_outcome (cond v (stays r size b) (cond may_move (outcome_of_move size b (best_alloc terms r b.label size 32 refused)) (Refused Fixed)))) [
        | true ↦ stays-relabel r size b
        | false ↦
            elim may_move as (λ w. cond w off (Refused Fixed) ≡ relabel_outcome (cond w (outcome_of_move size b (best_alloc terms r b.label size 32 refused)) (Refused Fixed)))
            [ true ↦ to | false ↦ refl ]
      ])

  resize_found-relabel : (terms : Terms) (r : Layout L) (size : ℕ) (may_move refused : Bool) (b : Option (Block L)) → resize_found terms (relabel_layout f r) size may_move refused (option_map (relabel_block f) b) ≡ relabel_outcome (resize_found terms r size may_move refused b)
  resize_found-relabel terms r size may_move refused None = refl
  resize_found-relabel terms r size may_move refused (Some b) = resize_block-relabel terms r size may_move refused b

  pub best_resize-relabel : (terms : Terms) (r : Layout L) (at : ℕ × ℕ) (size : ℕ) (may_move refused : Bool) → best_resize terms (relabel_layout f r) at size may_move refused ≡ relabel_outcome (best_resize terms r at size may_move refused)
  best_resize-relabel terms r at size may_move refused =
      ap (resize_found terms (relabel_layout f r) size may_move refused) (find_block-relabel at r.blocks)
      ∙ resize_found-relabel terms r size may_move refused (find_block at r.blocks)

  pub is_occupied-relabel : (number : ℕ) (bs : List (Block L)) → is_occupied (map (relabel_block f) bs) number ≡ is_occupied bs number
  is_occupied-relabel number [] = refl
  is_occupied-relabel number (b ∷ bs) = ap (λ v. eqb b.seg number || v) (is_occupied-relabel number bs)

  pub occupied-relabel : (bs : List (Block L)) (ss : List (ℕ × ℕ)) → filter (λ s. is_occupied (map (relabel_block f) bs) s.0) ss ≡ filter (λ s. is_occupied bs s.0) ss
  occupied-relabel bs [] = refl
  occupied-relabel bs (s ∷ ss) =
      let rest = filter (λ (t : ℕ × ℕ). is_occupied (map (relabel_block f) bs) t.0) ss in
      ap (λ v. cond v (s ∷ rest) rest) (is_occupied-relabel s.0 bs)
      ∙ ap (λ ts. cond (is_occupied bs s.0) (s ∷ ts) ts) (occupied-relabel bs ss)

  pub compacted-relabel : (r : Layout L) → compacted_layout (relabel_layout f r) ≡ relabel_layout f (compacted_layout r)
  compacted-relabel r = ap (λ ss. layout ss (map (relabel_block f) r.blocks)) (occupied-relabel r.blocks r.segments)

  pub compact_count-relabel : (r : Layout L) → compact_count (relabel_layout f r) ≡ compact_count r
  compact_count-relabel r = ap (λ ss. length r.segments - length ss) (occupied-relabel r.blocks r.segments)

  put_by-relabel : (b : Block L) (cs : List (Block L)) → map (relabel_block f) (put_by address_of b cs) ≡ put_by address_of (relabel_block f b) (map (relabel_block f) cs)
  put_by-relabel b [] = refl
  put_by-relabel b (c ∷ cs) =
      elim (nat_lt (address_of b) (address_of c)) as (λ v. map (relabel_block f) (cond v (b ∷ c ∷ cs) (c ∷ put_by address_of b cs)) ≡ cond v (relabel_block f b ∷ relabel_block f c ∷ map (relabel_block f) cs) (relabel_block f c ∷ put_by address_of (relabel_block f b) (map (relabel_block f) cs)))
      [ true ↦ refl | false ↦ ap (λ ds. relabel_block f c ∷ ds) (put_by-relabel b cs) ]

  pub by_address-relabel : (bs : List (Block L)) → by_address (map (relabel_block f) bs) ≡ map (relabel_block f) (by_address bs)
  by_address-relabel [] = refl
  by_address-relabel (b ∷ bs) = ap (put_by address_of (relabel_block f b)) (by_address-relabel bs) ∙ sym (put_by-relabel b (by_address bs))

  pub block_at-relabel : (at : ℕ × ℕ) (bs : List (Block L)) → block_at at (map (relabel_block f) bs) ≡ option_map {U = Block M × ℕ} (λ g. (relabel_block f g.0, g.1)) (block_at at bs)
  block_at-relabel at bs =
      ap (option_map {U = Block M × ℕ} (λ b. (b, at.1 - b.off))) (find-relabel (holds_byte at) (holds_byte at) (λ b. refl) bs)
      ∙ holds (find (holds_byte at) bs)
    where
      holds : (o : Option (Block L)) → option_map {U = Block M × ℕ} (λ b. (b, at.1 - b.off)) (option_map (relabel_block f) o) ≡ option_map {U = Block M × ℕ} (λ g. (relabel_block f g.0, g.1)) (option_map {U = Block L × ℕ} (λ b. (b, at.1 - b.off)) o)
      holds None = refl
      holds (Some b) = refl

-- labels that are the same on the blocks
pub relabel-alike : {L M : Type 0} (f g : L → M) (bs : List (Block L)) → AllByRecursion (λ b. f b.label ≡ g b.label) bs → map (relabel_block f) bs ≡ map (relabel_block g) bs
relabel-alike {L = L} {M = M} f g [] same = refl
relabel-alike {L = L} {M = M} f g (b ∷ bs) same =
    ap (λ n. (let c : Block M = record { label = n; seg = b.seg; off = b.off; size = b.size; bytes = b.bytes } in c) ∷ map (relabel_block f) bs) same.0
    ∙ ap (λ cs. relabel_block g b ∷ cs) (relabel-alike f g bs same.1)

-- the sizes and the gaps of blocks say nothing of their labels
pub block_sizes-relabel : {L M : Type 0} (f : L → M) (r : Layout L) → block_sizes (relabel_layout f r) ≡ block_sizes r
block_sizes-relabel {L = L} f r = sizes r.blocks
  where
    sizes : (bs : List (Block L)) → map (λ b. b.size) (map (relabel_block f) bs) ≡ map (λ b. b.size) bs
    sizes [] = refl
    sizes (b ∷ bs) = ap (λ ns. b.size ∷ ns) (sizes bs)

pub gaps_of-relabel : {L M : Type 0} (f : L → M) (r : Layout L) → gaps_of (relabel_layout f r) ≡ gaps_of r
gaps_of-relabel f r = ap (gaps r.segments) (footprints-relabel f r.blocks)
