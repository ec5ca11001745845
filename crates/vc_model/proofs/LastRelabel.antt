-- Every call of a last region commutes with a change of its labels.
use Rattle.std.proofs.Common.{◌≡◌, ℕ, ◌+◌, Bool, true, false, cond, List, [], ◌∷◌, ◌++◌, Option, Some, None, filter, fold, map, max, option_map, refl, sym, ap, ◌∙◌, eqb}
use Rattle.std.specs.List.{last_or}
use Rattle.vc_model.specs.Best.{without_block_at, zeros}
use Rattle.vc_model.specs.Discipline.{Terms}
use Rattle.vc_model.specs.Last.{can_end, if_latest, last_alloc, last_free, last_need, last_place, last_resize, latest, newest, next_offset, place_behind_latest, put_behind_latest, put_in_newest, put_latest, put_or_lend, resize_latest}
use Rattle.vc_model.specs.Layout.{Block, Layout, is_at, relabel_block, relabel_layout, with_grant}
use Rattle.vc_model.specs.Outcome.{Outcome, Done, Refused, Fixed, NotLast}
use Rattle.vc_model.specs.Resize.{outcome_of_move, stays}
use Rattle.vc_model.specs.Segments.{Asked, Grant, Granted, TooMany, NotLent, ask, span}
use Rattle.vc_model.proofs.Relabel.{moved-relabel, relabel_outcome, stays-relabel, without_block-relabel}

module _ {L M : Type 0} (f : L → M) where
  abbrev layout : List (ℕ × ℕ) → List (Block M) → Layout M
  layout segments blocks = record { segments = segments; blocks = blocks }

  last_or-relabel : (o : Option (Block L)) (bs : List (Block L)) → last_or (option_map (relabel_block f) o) (map (relabel_block f) bs) ≡ option_map (relabel_block f) (last_or o bs)
  last_or-relabel o [] = refl
  last_or-relabel o (b ∷ bs) = last_or-relabel (Some b) bs

  latest-relabel : (r : Layout L) → latest (relabel_layout f r) ≡ option_map (relabel_block f) (latest r)
  latest-relabel r = last_or-relabel None r.blocks

  -- where the blocks of a segment end
  ends-relabel : (number : ℕ) (bs : List (Block L)) →
      map (λ b. b.off + span b.size) (filter (λ b. eqb b.seg number) (map (relabel_block f) bs)) ≡ map (λ b. b.off + span b.size) (filter (λ b. eqb b.seg number) bs)
  ends-relabel number [] = refl
  ends-relabel number (b ∷ bs) =
      elim (eqb b.seg number) as (λ v. map (λ (c : Block M). c.off + span c.size) (cond v (relabel_block f b ∷ filter (λ c. eqb c.seg number) (map (relabel_block f) bs)) (filter (λ c. eqb c.seg number) (map (relabel_block f) bs))) ≡ map (λ (c : Block L). c.off + span c.size) (cond v (b ∷ filter (λ c. eqb c.seg number) bs) (filter (λ c. eqb c.seg number) bs)))
      [ true ↦ ap (λ ns. (b.off + span b.size) ∷ ns) (ends-relabel number bs) | false ↦ ends-relabel number bs ]

  next_offset-relabel : (number : ℕ) (bs : List (Block L)) → next_offset number (map (relabel_block f) bs) ≡ next_offset number bs
  next_offset-relabel number bs = ap (fold max 32) (ends-relabel number bs)

  place_behind-relabel : (bs : List (Block L)) (size : ℕ) (s : Option (ℕ × ℕ)) → place_behind_latest (map (relabel_block f) bs) size s ≡ place_behind_latest bs size s
  place_behind-relabel bs size None = refl
  place_behind-relabel bs size (Some s) = rw (next_offset-relabel s.0 bs) refl

  put_latest-relabel : (r : Layout L) (label : L) (size : ℕ) (granted : Option Grant) (at : ℕ × ℕ) → put_latest (relabel_layout f r) (f label) size granted at ≡ relabel_outcome f (put_latest r label size granted at)
  put_latest-relabel r label size granted at =
      ap (λ bs. Done (record { at = at; region = layout r.segments bs; granted = granted })) (behind r.blocks)
    where
      behind : (bs : List (Block L)) → map (relabel_block f) bs ++ zeros (f label) size at ∷ [] ≡ map (relabel_block f) (bs ++ zeros label size at ∷ [])
      behind [] = refl
      behind (b ∷ bs) = ap (λ cs. relabel_block f b ∷ cs) (behind bs)

  put_behind-relabel : (r : Layout L) (label : L) (size : ℕ) (granted : Option Grant) (at : Option (ℕ × ℕ)) → put_behind_latest (relabel_layout f r) (f label) size granted at ≡ relabel_outcome f (put_behind_latest r label size granted at)
  put_behind-relabel r label size granted None = refl
  put_behind-relabel r label size granted (Some at) = put_latest-relabel r label size granted at

  last_place-relabel : (r : Layout L) (size : ℕ) → last_place (relabel_layout f r) size ≡ last_place r size
  last_place-relabel r size = place_behind-relabel r.blocks size (newest r)

  put_in_newest-relabel : (r : Layout L) (label : L) (size : ℕ) (asked : Asked) → put_in_newest (relabel_layout f r) (f label) size asked ≡ relabel_outcome f (put_in_newest r label size asked)
  put_in_newest-relabel r label size (Granted g) =
      ap (put_behind_latest (with_grant (relabel_layout f r) g) (f label) size (Some g)) (last_place-relabel (with_grant r g) size)
      ∙ put_behind-relabel (with_grant r g) label size (Some g) (last_place (with_grant r g) size)
  put_in_newest-relabel r label size TooMany = refl
  put_in_newest-relabel r label size NotLent = refl

  put_or_lend-relabel : (terms : Terms) (r : Layout L) (label : L) (size : ℕ) (refused : Bool) (at : Option (ℕ × ℕ)) → put_or_lend terms (relabel_layout f r) (f label) size refused at ≡ relabel_outcome f (put_or_lend terms r label size refused at)
  put_or_lend-relabel terms r label size refused (Some at) = put_latest-relabel r label size None at
  put_or_lend-relabel terms r label size refused None = put_in_newest-relabel r label size (ask terms (last_need terms size) r.segments refused)

  pub last_alloc-relabel : (terms : Terms) (r : Layout L) (label : L) (size : ℕ) (refused : Bool) → last_alloc terms (relabel_layout f r) (f label) size refused ≡ relabel_outcome f (last_alloc terms r label size refused)
  last_alloc-relabel terms r label size refused =
      ap (put_or_lend terms (relabel_layout f r) (f label) size refused) (last_place-relabel r size)
      ∙ put_or_lend-relabel terms r label size refused (last_place r size)

  -- whether the latest block can end where it would with a size says nothing of its label
  pub can_end-relabel : (r : Layout L) (size : ℕ) (b : Block L) → can_end (relabel_layout f r) size (relabel_block f b) ≡ can_end r size b
  can_end-relabel r size b = refl

  resize_latest-relabel : (terms : Terms) (r : Layout L) (size : ℕ) (may_move refused : Bool) (b : Block L) →
      resize_latest terms (relabel_layout f r) size may_move refused (relabel_block f b) ≡ relabel_outcome f (resize_latest terms r size may_move refused b)
  resize_latest-relabel terms r size may_move refused b =
      let there = stays (relabel_layout f r) size (relabel_block f b) in
      let off = outcome_of_move size (relabel_block f b) (last_alloc terms (relabel_layout f r) (f b.label) size refused) in
      let to = ap (outcome_of_move size (relabel_block f b)) (last_alloc-relabel terms r b.label size refused) ∙ moved-relabel f size b (last_alloc terms r b.label size refused) in
      elim (can_end r size b) as (λ v. cond v there (cond may_move off (Refused Fixed)) ≡ relabel_outcome f (cond v (stays r size b) (cond may_move (outcome_of_move size b (last_alloc terms r b.label size refused)) (Refused Fixed)))) [
        | true ↦ stays-relabel f r size b
        | false ↦
            elim may_move as (λ w. cond w off (Refused Fixed) ≡ relabel_outcome f (cond w (outcome_of_move size b (last_alloc terms r b.label size refused)) (Refused Fixed)))
            [ true ↦ to | false ↦ refl ]
      ]

  pub last_resize-relabel : (terms : Terms) (r : Layout L) (at : ℕ × ℕ) (size : ℕ) (may_move refused : Bool) → last_resize terms (relabel_layout f r) at size may_move refused ≡ relabel_outcome f (last_resize terms r at size may_move refused)
  last_resize-relabel terms r at size may_move refused =
      ap (if_latest at (resize_latest terms (relabel_layout f r) size may_move refused)) (latest-relabel r)
      ∙ found (latest r)
    where
      found : (o : Option (Block L)) → if_latest at (resize_latest terms (relabel_layout f r) size may_move refused) (option_map (relabel_block f) o) ≡ relabel_outcome f (if_latest at (resize_latest terms r size may_move refused) o)
      found None = refl
      found (Some b) =
          elim (is_at at b) as (λ v. cond v (resize_latest terms (relabel_layout f r) size may_move refused (relabel_block f b)) (Refused NotLast) ≡ relabel_outcome f (cond v (resize_latest terms r size may_move refused b) (Refused NotLast)))
          [ true ↦ resize_latest-relabel terms r size may_move refused b | false ↦ refl ]

  -- what freeing the latest block gives, with other labels
  abbrev pub relabel_rest : Outcome (Layout L) → Outcome (Layout M)
  relabel_rest (Done r) = Done (relabel_layout f r)
  relabel_rest (Refused why) = Refused why

  pub last_free-relabel : (r : Layout L) (at : ℕ × ℕ) → last_free (relabel_layout f r) at ≡ relabel_rest (last_free r at)
  last_free-relabel r at =
      ap (if_latest at (λ b. Done (without_block_at (relabel_layout f r) at))) (latest-relabel r)
      ∙ found (latest r)
    where
      gone : Outcome (Layout M)
      gone = Done (without_block_at (relabel_layout f r) at)

      without : gone ≡ Done (relabel_layout f (without_block_at r at))
      without = ap (λ bs. Done (layout r.segments bs)) (sym (without_block-relabel f at r.blocks))

      found : (o : Option (Block L)) → if_latest at (λ (b : Block M). gone) (option_map (relabel_block f) o) ≡ relabel_rest (if_latest at (λ (b : Block L). Done (without_block_at r at)) o)
      found None = refl
      found (Some b) =
          elim (is_at at b) as (λ v. cond v gone (Refused NotLast) ≡ relabel_rest (cond v (Done (without_block_at r at)) (Refused NotLast)))
          [ true ↦ without | false ↦ refl ]
