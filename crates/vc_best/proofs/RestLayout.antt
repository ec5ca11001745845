-- Every call of a layout commutes with the zeros that its unlabelled blocks show.
use Rattle.vc_base.proofs.Common.{◌≡◌, ℕ, ◌-◌, Bool, cond, not, ◌&&◌, ◌||◌, eqb, ◌≢◌, List, [], ◌∷◌, map, length, Some, None, sum, filter, Option, sym, refl, ap, ◌∙◌, length-map, list_all, best_alloc, best_need, place_in, put_at, put_in_new, put_or_ask, zeros, compact_count, compacted_layout, is_occupied, Terms, Run, bytes_of, gaps, Block, Layout, footprint, is_at, with_block, with_grant, gaps_of, greatest, segment_bytes, segment_count, Done, outcome_as, can_stay, is_usable, sized_block, stays, Asked, Grant, Granted, NotLent, TooMany, ask, find_block}
use Rattle.vc_best.proofs.Common.{block_shown, zeroed_layout}
use Rattle.vc_model.specs.Best.{put}
use Rattle.vc_model.specs.Place.{place}
use Rattle.vc_model.specs.Resize.{meets}
use Rattle.vc_seg.specs.Stat.{layout_stat}
use Rattle.vc_seg.specs.declared.stat.Stat.{Stat}
use Rattle.vc_best.proofs.RestBlocks.{change_block-labelled, footprints-zeroed, sizes-zeroed, with_block-zeroed, zeroed-zeros}

abbrev pub layout : List (ℕ × ℕ) → List (Block ℕ) → Layout ℕ
layout segments blocks = record { segments = segments; blocks = blocks }

put_at-zeroed : (r : Layout ℕ) (label size : ℕ) (granted : Option Grant) (at : ℕ × ℕ) → put_at (zeroed_layout r) label size granted at ≡ outcome_as zeroed_layout (put_at r label size granted at)
put_at-zeroed r label size granted at =
    ap (λ bs. Done (record { at = at; region = layout r.segments bs; granted = granted }))
    (ap (λ b. with_block b (map block_shown r.blocks)) (sym (zeroed-zeros label size at)) ∙ sym (with_block-zeroed (zeros label size at) r.blocks))

place_in-zeroed : (r : Layout ℕ) (size align : ℕ) → place_in (zeroed_layout r) size align ≡ place_in r size align
place_in-zeroed r size align = ap (λ fs. place r.segments fs size align) (footprints-zeroed r.blocks)

put-zeroed : (r : Layout ℕ) (label size : ℕ) (granted : Option Grant) (at : Option (ℕ × ℕ)) → put (zeroed_layout r) label size granted at ≡ outcome_as zeroed_layout (put r label size granted at)
put-zeroed r label size granted None = refl
put-zeroed r label size granted (Some at) = put_at-zeroed r label size granted at

put_in_new-zeroed : (r : Layout ℕ) (label size align : ℕ) (asked : Asked) → put_in_new (zeroed_layout r) label size align asked ≡ outcome_as zeroed_layout (put_in_new r label size align asked)
put_in_new-zeroed r label size align (Granted g) =
    ap (put (with_grant (zeroed_layout r) g) label size (Some g)) (place_in-zeroed (with_grant r g) size align)
    ∙ put-zeroed (with_grant r g) label size (Some g) (place_in (with_grant r g) size align)
put_in_new-zeroed r label size align TooMany = refl
put_in_new-zeroed r label size align NotLent = refl

put_or_ask-zeroed : (terms : Terms) (r : Layout ℕ) (label size align : ℕ) (refused : Bool) (at : Option (ℕ × ℕ)) → put_or_ask terms (zeroed_layout r) label size align refused at ≡ outcome_as zeroed_layout (put_or_ask terms r label size align refused at)
put_or_ask-zeroed terms r label size align refused (Some at) = put_at-zeroed r label size None at
put_or_ask-zeroed terms r label size align refused None = put_in_new-zeroed r label size align (ask terms (best_need terms size align) r.segments refused)

pub best_alloc-zeroed : (terms : Terms) (r : Layout ℕ) (label size align : ℕ) (refused : Bool) → best_alloc terms (zeroed_layout r) label size align refused ≡ outcome_as zeroed_layout (best_alloc terms r label size align refused)
best_alloc-zeroed terms r label size align refused =
    ap (put_or_ask terms (zeroed_layout r) label size align refused) (place_in-zeroed r size align)
    ∙ put_or_ask-zeroed terms r label size align refused (place_in r size align)

is_clear-zeroed : (size : ℕ) (b : Block ℕ) (cs : List (Block ℕ)) →
    list_all (λ (c : Block ℕ). is_at (b.seg, b.off) c || not (meets (footprint (sized_block size b)) (footprint c))) (map block_shown cs)
    ≡ list_all (λ (c : Block ℕ). is_at (b.seg, b.off) c || not (meets (footprint (sized_block size b)) (footprint c))) cs
is_clear-zeroed size b [] = refl
is_clear-zeroed size b (c ∷ cs) = ap (λ v. (is_at (b.seg, b.off) c || not (meets (footprint (sized_block size b)) (footprint c))) && v) (is_clear-zeroed size b cs)

pub can_stay-zeroed : (r : Layout ℕ) (size : ℕ) (b : Block ℕ) → can_stay (zeroed_layout r) size b ≡ can_stay r size b
can_stay-zeroed r size b = ap (λ v. is_usable r.segments (footprint (sized_block size b)) && v) (is_clear-zeroed size b r.blocks)

pub stays-zeroed : (r : Layout ℕ) (size : ℕ) (b : Block ℕ) → find_block (b.seg, b.off) r.blocks ≡ Some b → b.label ≢ 0 → stays (zeroed_layout r) size b ≡ outcome_as zeroed_layout (stays r size b)
stays-zeroed r size b found labelled =
    ap (λ bs. Done (record { at = (b.seg, b.off); region = layout r.segments bs; granted = None }))
    (sym (change_block-labelled (sized_block size) (λ c. refl) (b.seg, b.off) r.blocks b found labelled))

is_occupied-zeroed : (number : ℕ) (bs : List (Block ℕ)) → is_occupied (map block_shown bs) number ≡ is_occupied bs number
is_occupied-zeroed number [] = refl
is_occupied-zeroed number (b ∷ bs) = ap (λ v. eqb b.seg number || v) (is_occupied-zeroed number bs)

occupied-zeroed : (bs : List (Block ℕ)) (ss : List (ℕ × ℕ)) → filter (λ s. is_occupied (map block_shown bs) s.0) ss ≡ filter (λ s. is_occupied bs s.0) ss
occupied-zeroed bs [] = refl
occupied-zeroed bs (s ∷ ss) =
    let rest = filter (λ (t : ℕ × ℕ). is_occupied (map block_shown bs) t.0) ss in
    ap (λ v. cond v (s ∷ rest) rest) (is_occupied-zeroed s.0 bs)
    ∙ ap (λ ts. cond (is_occupied bs s.0) (s ∷ ts) ts) (occupied-zeroed bs ss)

pub compacted-zeroed : (r : Layout ℕ) → compacted_layout (zeroed_layout r) ≡ zeroed_layout (compacted_layout r)
compacted-zeroed r = ap (λ ss. layout ss (map block_shown r.blocks)) (occupied-zeroed r.blocks r.segments)

pub compact_count-zeroed : (r : Layout ℕ) → compact_count (zeroed_layout r) ≡ compact_count r
compact_count-zeroed r = ap (λ ss. length r.segments - length ss) (occupied-zeroed r.blocks r.segments)

-- the numbers by those of the segments, the number of blocks, their sizes and the gaps
unfoldable numbers : ℕ → ℕ → ℕ → List ℕ → List Run → Stat
numbers segs extent busy sizes gaps =
    record {
      busy = busy;
      free = length gaps;
      sbusy = sum sizes;
      sfree = sum (map bytes_of gaps);
      mbusy = greatest sizes;
      mfree = greatest (map bytes_of gaps);
      segs = segs;
      extent = extent;
    }

pub layout_stat-zeroed : (r : Layout ℕ) → layout_stat (zeroed_layout r) ≡ layout_stat r
unfolding numbers
layout_stat-zeroed r =
    let with = numbers (segment_count r) (segment_bytes r) in
    let sizes : List (Block ℕ) → List ℕ = λ bs. map (λ b. b.size) bs in
    ap (λ n. with n (sizes (map block_shown r.blocks)) (gaps_of (zeroed_layout r))) (length-map r.blocks block_shown)
    ∙ (ap (λ ns. with (length r.blocks) ns (gaps_of (zeroed_layout r))) (sizes-zeroed r.blocks)
    ∙ ap (λ fs. with (length r.blocks) (sizes r.blocks) (gaps r.segments fs)) (footprints-zeroed r.blocks))
